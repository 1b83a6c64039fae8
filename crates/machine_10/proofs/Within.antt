-- A performative of a session that neither begins nor ends it leaves the connection as it is.
use Rattle.std.proofs.Common.{◌≡◌, ◌∙◌, ℕ, ◌==◌, ◌&&◌, not, Bool, true, false, if◌then◌else◌, List}
use Rattle.std.proofs.Common.{Option, None, Some, refl, sym, ap}
use Rattle.types_10.specs.Tree.{Tree}
use Rattle.frames_10.specs.declared.frame.Kind10.{Kind10}
use Rattle.performatives_10.specs.declared.condition.Condition.{Condition}
use Rattle.performatives_10.specs.declared.condition.Condition.TheVariants.{FramingError}
use Rattle.machine_10.specs.Laws.{is_inside, is_within}
use Rattle.machine_10.specs.Parts.{Parts}
use Rattle.machine_10.specs.Reading.{Body, Empty, Faulty, Whole, act_of, body_in, closes, field}
use Rattle.machine_10.specs.Reading.{number_at, number_in, offers, stated_in}
use Rattle.machine_10.specs.Refusals.{body_ruling}
use Rattle.machine_10.specs.State.{session_at, session_of}
use Rattle.machine_10.specs.Transitions.{AmqpHeader, Init, Meaning, Nothing, Refused, Step}
use Rattle.machine_10.specs.Transitions.{Violation, awaits_header, begin_effect, begun_effect}
use Rattle.machine_10.specs.Transitions.{body_effect, end_effect, ended_effect, late_step}
use Rattle.machine_10.specs.Transitions.{login_effect, mechanisms_effect, offer_effect, open_effect}
use Rattle.machine_10.specs.Transitions.{ordered_step, outcome_effect, perf_effect, refused_step}
use Rattle.machine_10.specs.Transitions.{ruled_step, running_effect, step_in, unit_step}
use Rattle.machine_10.specs.Transitions.{within_effect}
use Rattle.machine_10.specs.declared.state.Phase10.{Phase10}
use Rattle.machine_10.specs.declared.state.Phase10.TheVariants as phase
use Rattle.machine_10.specs.declared.state.Session.{Session}
use Rattle.machine_10.specs.declared.state.Session.TheVariants as session
use Rattle.machine_10.specs.declared.state.Upstream.{Upstream}
use Rattle.machine_10.specs.declared.unit.Act10.{Act10}
use Rattle.machine_10.specs.declared.unit.Act10.TheVariants as act
use Rattle.machine_10.specs.declared.unit.Ruling10.{Ruling10}
use Rattle.machine_10.specs.declared.unit.Ruling10.TheVariants as ruling
use Rattle.machine_10.specs.declared.unit.Unit10.{Unit10}
use Rattle.machine_10.specs.declared.unit.Unit10.TheVariants as unit

-- a begin and an end
changes : Act10 → Bool
changes (act.Open stated) = false
changes (act.Begin remote) = true
changes act.Within = false
changes (act.Settle low high) = false
changes act.End = true
changes act.Close = false
changes act.Offer = false
changes (act.Outcome n) = false
changes act.Challenge = false
changes act.ClientLogin = false

inside_by : (ts : List Tree) (a b c d e f g h i j k l : Bool) → (not b && not h) ≡ true
    → changes (if a then act.Open (stated_in ts) else if b then act.Begin (number_in (field ts 0))
    else if c then act.Within else if d then act.Within else if e then act.Within
    else if f then act.Settle (number_at ts 1) (number_in (field ts 2)) else if g then act.Within
    else if h then act.End else if i then act.Close else if j then act.Offer
    else if k then act.Challenge else if l then act.Outcome (number_at ts 0) else act.ClientLogin) ≡ false
unfolding changes
inside_by ts true b c d e f g h i j k l x = refl
inside_by ts false true c d e f g h i j k l x = absurd cc
inside_by ts false false true d e f g h i j k l x = refl
inside_by ts false false false true e f g h i j k l x = refl
inside_by ts false false false false true f g h i j k l x = refl
inside_by ts false false false false false true g h i j k l x = refl
inside_by ts false false false false false false true h i j k l x = refl
inside_by ts false false false false false false false true i j k l x = absurd cc
inside_by ts false false false false false false false false true j k l x = refl
inside_by ts false false false false false false false false false true k l x = refl
inside_by ts false false false false false false false false false false true l x = refl
inside_by ts false false false false false false false false false false false true x = refl
inside_by ts false false false false false false false false false false false false x = refl

inside : (code : ℕ) (ts : List Tree) → is_inside (code, ts) ≡ true → changes (act_of (code, ts)) ≡ false
unfolding act_of
inside code ts e =
    inside_by ts (code == 16) (code == 17) (code == 18) (code == 19) (code == 20) (code == 21) (code == 22) (code == 23) (code == 24) (code == 64) (code == 66) (code == 68) e

clash : {A : Type 0} (p : Parts) (a : Act10) → act_of p ≡ a → changes a ≡ true → is_inside p ≡ true → A
clash (code, ts) a e f h = let wrong : true ≡ false = sym (ap changes e ∙ f) ∙ inside code ts h in absurd cc

-- ---- each step

abbrev Stays : Upstream → Step → Type 0
Stays c x = is_within x.1 ≡ true → x.0 ≡ c

either : (b : Bool) (c : Upstream) (x y : Step) → Stays c x → Stays c y → Stays c (if b then x else y)
either true c x y p q = p
either false c x y p q = q

other : (c d : Upstream) (m : Meaning) → is_within m ≡ false → Stays c (d, m)
other c d m f e = absurd cc

offer_stays : (c : Upstream) (t : Tree) → Stays c (offer_effect c t)
offer_stays c t = either (offers c.mechanism t) c _ _ (other c _ Init refl) (other c _ Refused refl)

outcome_stays : (c : Upstream) (n : ℕ) → Stays c (outcome_effect c n)
outcome_stays c n = either (n == 0) c _ _ (other c _ AmqpHeader refl) (other c _ Refused refl)

mechanisms_stay : (c : Upstream) (t : Tree) (a : Act10) → Stays c (mechanisms_effect c t a)
mechanisms_stay c t (act.Open stated) e = refl
mechanisms_stay c t (act.Begin remote) e = refl
mechanisms_stay c t act.Within e = refl
mechanisms_stay c t (act.Settle low high) e = refl
mechanisms_stay c t act.End e = refl
mechanisms_stay c t act.Close e = refl
mechanisms_stay c t act.Offer e = offer_stays c t e
mechanisms_stay c t (act.Outcome n) e = outcome_stays c n e
mechanisms_stay c t act.Challenge e = refl
mechanisms_stay c t act.ClientLogin e = refl

login_stays : (c : Upstream) (a : Act10) → Stays c (login_effect c a)
login_stays c (act.Open stated) e = refl
login_stays c (act.Begin remote) e = refl
login_stays c act.Within e = refl
login_stays c (act.Settle low high) e = refl
login_stays c act.End e = refl
login_stays c act.Close e = refl
login_stays c act.Offer e = refl
login_stays c (act.Outcome n) e = outcome_stays c n e
login_stays c act.Challenge e = refl
login_stays c act.ClientLogin e = refl

open_stays : (c : Upstream) (a : Act10) → Stays c (open_effect c a)
open_stays c (act.Open stated) e = absurd cc
open_stays c (act.Begin remote) e = refl
open_stays c act.Within e = refl
open_stays c (act.Settle low high) e = refl
open_stays c act.End e = refl
open_stays c act.Close e = refl
open_stays c act.Offer e = refl
open_stays c (act.Outcome n) e = refl
open_stays c act.Challenge e = refl
open_stays c act.ClientLogin e = refl

within_stays : (c : Upstream) (o : Option ℕ) (p : Parts) (payload : List ℕ) → Stays c (within_effect c o p payload)
within_stays c None p payload e = refl
within_stays c (Some g) p payload e = refl

begun_stays : (s : Session) (c : Upstream) (n g : ℕ) (p : Parts) (payload : List ℕ) → (is_inside p ≡ true → ⊥) → Stays c (begun_effect s c n g p payload)
begun_stays session.Free c n g p payload alters e = refl
begun_stays session.Asked c n g p payload alters e = absurd (alters e)
begun_stays session.Left c n g p payload alters e = absurd cc
begun_stays (session.Open m) c n g p payload alters e = refl
begun_stays (session.Leaving m) c n g p payload alters e = refl
begun_stays (session.Ended m) c n g p payload alters e = refl

begin_stays : (c : Upstream) (n : ℕ) (o : Option ℕ) (p : Parts) (payload : List ℕ) → (is_inside p ≡ true → ⊥) → Stays c (begin_effect c n o p payload)
begin_stays c n None p payload alters e = refl
begin_stays c n (Some g) p payload alters e = begun_stays (session_at c g) c n g p payload alters e

ended_stays : (s : Session) (c : Upstream) (g : ℕ) (p : Parts) (payload : List ℕ) → (is_inside p ≡ true → ⊥) → Stays c (ended_effect s c g p payload)
ended_stays session.Free c g p payload alters e = refl
ended_stays session.Asked c g p payload alters e = refl
ended_stays session.Left c g p payload alters e = refl
ended_stays (session.Open m) c g p payload alters e = absurd (alters e)
ended_stays (session.Leaving m) c g p payload alters e = absurd (alters e)
ended_stays (session.Ended m) c g p payload alters e = refl

end_stays : (c : Upstream) (o : Option ℕ) (p : Parts) (payload : List ℕ) → (is_inside p ≡ true → ⊥) → Stays c (end_effect c o p payload)
end_stays c None p payload alters e = refl
end_stays c (Some g) p payload alters e = ended_stays (session_at c g) c g p payload alters e

running_stays : (c : Upstream) (n : ℕ) (a : Act10) (p : Parts) (payload : List ℕ) → act_of p ≡ a → Stays c (running_effect c n a p payload)
unfolding changes
running_stays c n (act.Open stated) p payload f e = refl
running_stays c n (act.Begin remote) p payload f e = begin_stays c n remote p payload (clash p (act.Begin remote) f refl) e
running_stays c n act.Within p payload f e = within_stays c (session_of c n) p payload e
running_stays c n (act.Settle low high) p payload f e = within_stays c (session_of c n) p payload e
running_stays c n act.End p payload f e = end_stays c (session_of c n) p payload (clash p act.End f refl) e
running_stays c n act.Close p payload f e = absurd cc
running_stays c n act.Offer p payload f e = refl
running_stays c n (act.Outcome m) p payload f e = refl
running_stays c n act.Challenge p payload f e = refl
running_stays c n act.ClientLogin p payload f e = refl

perf_stays : (q : Phase10) (c : Upstream) (n : ℕ) (p : Parts) (payload : List ℕ) → Stays c (perf_effect q c n p payload)
perf_stays phase.SaslHeader c n p payload e = refl
perf_stays phase.Mechanisms c n p payload e = mechanisms_stay c (field p.1 0) (act_of p) e
perf_stays phase.Outcome c n p payload e = login_stays c (act_of p) e
perf_stays phase.AmqpHeader c n p payload e = refl
perf_stays phase.Open c n p payload e = open_stays c (act_of p) e
perf_stays phase.Running c n p payload e = running_stays c n (act_of p) p payload refl e
perf_stays phase.Closing c n p payload e = refl
perf_stays phase.Closed c n p payload e = refl

body_stays : (q : Phase10) (c : Upstream) (n : ℕ) (b : Body) → Stays c (body_effect q c n b)
body_stays q c n Empty e = refl
body_stays q c n (Faulty f) e = refl
body_stays q c n (Whole p payload) e = perf_stays q c n p payload e

refused_stays : (c : Upstream) (why : Condition) (b : Bool) → Stays c (refused_step c why b)
refused_stays c why false e = absurd cc
refused_stays c why true e = absurd cc

ruled_stays : (c : Upstream) (k : Kind10) (n : ℕ) (b : Body) (r : Option Ruling10) → Stays c (ruled_step c k n b r)
ruled_stays c k n b None e = body_stays c.phase c n b e
ruled_stays c k n b (Some ruling.PassedOver) e = refl
ruled_stays c k n b (Some (ruling.Violated why)) e = refused_stays c why (closes k b) e

ordered_stays : (c : Upstream) (u : Unit10) → Stays c (ordered_step c u)
ordered_stays c (unit.Header k) e = either (awaits_header k c.phase) c _ _ (other c _ Nothing refl) (other c _ (Violation FramingError) refl) e
ordered_stays c (unit.Bad why) e = absurd cc
ordered_stays c (unit.Frame f) e =
    ruled_stays c f.kind f.channel (body_in f.kind f.body) (body_ruling c.phase c f.kind f.channel (body_in f.kind f.body)) e

late_stays : (c : Upstream) (n : ℕ) (b : Body) (r : Option Ruling10) → Stays c (late_step c n b r)
late_stays c n b None e = body_stays phase.Running c n b e
late_stays c n b (Some r) e = refl

step_stays : (q : Phase10) (c : Upstream) (u : Unit10) → Stays c (step_in q c u)
step_stays phase.SaslHeader c u e = ordered_stays c u e
step_stays phase.Mechanisms c u e = ordered_stays c u e
step_stays phase.Outcome c u e = ordered_stays c u e
step_stays phase.AmqpHeader c u e = ordered_stays c u e
step_stays phase.Open c u e = ordered_stays c u e
step_stays phase.Running c u e = ordered_stays c u e
step_stays phase.Closing c (unit.Header k) e = absurd cc
step_stays phase.Closing c (unit.Bad why) e = absurd cc
step_stays phase.Closing c (unit.Frame f) e =
    late_stays c f.channel (body_in f.kind f.body) (body_ruling phase.Running c f.kind f.channel (body_in f.kind f.body)) e
step_stays phase.Closed c u e = absurd cc

pub within_stays_all : (c : Upstream) (u : Unit10) → is_within (unit_step c u).1 ≡ true → (unit_step c u).0 ≡ c
within_stays_all c u e = step_stays c.phase c u e
