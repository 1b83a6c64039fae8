-- What a unit of the container makes of a session: a transfer counts between both begins and the first end, and an end closes it.
use Rattle.std.proofs.Common.{◌≡◌, ℕ, zero, suc, ◌+◌, ◌==◌, ◌<◌, ◌⊎◌, inl, inr, nat_lt, not, cond, Bool, true}
use Rattle.std.proofs.Common.{false, if◌then◌else◌, List, [], ◌∷◌, length, Option, None, Some, refl, sym, ap, ◌∙◌}
use Rattle.std.proofs.Common.{subst, arith}
use Rattle.std.proofs.lemmas.Bool.Decides.{nat_tests}
use Rattle.std.specs.List.{position_or_len}
use Rattle.std.specs.Prelude.{slice_get, slice_set}
use Rattle.frames_10.specs.declared.frame.Kind10.{Kind10}
use Rattle.frames_10.specs.declared.frame.Kind10.TheVariants as kind
use Rattle.types_10.specs.Tree.{Tree}
use Rattle.performatives_10.specs.declared.condition.Condition.{Condition}
use Rattle.performatives_10.specs.declared.condition.Condition.TheVariants as condition
use Rattle.machine_10.specs.Parts.{Parts}
use Rattle.machine_10.specs.Reading.{Body, Empty, Faulty, Whole, act_of, body_in, closes, field}
use Rattle.machine_10.specs.Reading.{number_at, number_in, offers, stated_in}
use Rattle.machine_10.specs.Refusals.{body_ruling, first, kind_order, layer_of, order_in}
use Rattle.machine_10.specs.Refusals.{passed_in, range_place, within_passed}
use Rattle.machine_10.specs.State.{carries, or_free, session_at, session_of, with_session}
use Rattle.machine_10.specs.Transitions.{Meaning, Nothing, OfSession, awaits_header, begin_effect}
use Rattle.machine_10.specs.Transitions.{begun_effect, body_effect, closing_step}
use Rattle.machine_10.specs.Transitions.{end_effect, ended_effect, header_step, late_step}
use Rattle.machine_10.specs.Transitions.{login_effect, mechanisms_effect, offer_effect, open_effect}
use Rattle.machine_10.specs.Transitions.{ordered_step, outcome_effect, phase_after}
use Rattle.machine_10.specs.Transitions.{refused_step, ruled_step, running_effect, spoiled, step_in}
use Rattle.machine_10.specs.Transitions.{unit_step, violated, within_effect}
use Rattle.machine_10.specs.Transitions as ten
use Rattle.machine_10.specs.declared.state.Phase10.{Phase10}
use Rattle.machine_10.specs.declared.state.Phase10.TheVariants as phase
use Rattle.machine_10.specs.declared.state.Session.{Session}
use Rattle.machine_10.specs.declared.state.Session.TheVariants as session
use Rattle.machine_10.specs.declared.state.Stream10.TheVariants as stream
use Rattle.machine_10.specs.declared.state.Upstream.{Upstream}
use Rattle.machine_10.specs.declared.unit.Act10.{Act10}
use Rattle.machine_10.specs.declared.unit.Act10.TheVariants as act
use Rattle.machine_10.specs.declared.unit.Ruling10.{Ruling10}
use Rattle.machine_10.specs.declared.unit.Ruling10.TheVariants as ruling
use Rattle.machine_10.specs.declared.unit.Unit10.{Unit10}
use Rattle.machine_10.specs.declared.unit.Unit10.TheVariants as unit

-- ---- sessions by their numbers

abbrev pub is_ended : Session → Bool
is_ended session.Free = false
is_ended session.Asked = false
is_ended session.Left = false
is_ended (session.Open m) = false
is_ended (session.Leaving m) = false
is_ended (session.Ended m) = true

abbrev pub is_asked : Session → Bool
is_asked session.Free = false
is_asked session.Asked = true
is_asked session.Left = false
is_asked (session.Open m) = false
is_asked (session.Leaving m) = false
is_asked (session.Ended m) = false

-- both begins came, and no end
abbrev pub is_live : Session → Bool
is_live session.Free = false
is_live session.Asked = false
is_live session.Left = false
is_live (session.Open m) = true
is_live (session.Leaving m) = false
is_live (session.Ended m) = false

-- a session is the one that is set, or what it was
pub set_either : (xs : List Session) (g n : ℕ) (s : Session)
    → ((g ≡ n) × (or_free (slice_get (slice_set xs g s) n) ≡ s)) ⊎ (or_free (slice_get (slice_set xs g s) n) ≡ or_free (slice_get xs n))
set_either [] g n s = inr refl
set_either (x ∷ xs) zero zero s = inl (refl, refl)
set_either (x ∷ xs) zero (suc n) s = inr refl
set_either (x ∷ xs) (suc g) zero s = inr refl
set_either (x ∷ xs) (suc g) (suc n) s = by (set_either xs g n s)
  where
    by : ((g ≡ n) × (or_free (slice_get (slice_set xs g s) n) ≡ s)) ⊎ (or_free (slice_get (slice_set xs g s) n) ≡ or_free (slice_get xs n))
        → ((suc g ≡ suc n) × (or_free (slice_get (slice_set xs g s) n) ≡ s)) ⊎ (or_free (slice_get (slice_set xs g s) n) ≡ or_free (slice_get xs n))
    by (inl f) = inl (ap suc f.0, f.1)
    by (inr f) = inr f

-- the session that a channel carries
found : (n : ℕ) (xs : List Session) → position_or_len (carries n) xs < length xs → carries n (or_free (slice_get xs (position_or_len (carries n) xs))) ≡ true
found n [] less = absurd (omega (arith, less))
found n (x ∷ xs) less = by (carries n x) refl less (found n xs)
  where
    by : (b : Bool) → carries n x ≡ b → cond (not b) (1 + position_or_len (carries n) xs) 0 < suc (length xs)
        → (position_or_len (carries n) xs < length xs → carries n (or_free (slice_get xs (position_or_len (carries n) xs))) ≡ true)
        → carries n (or_free (slice_get (x ∷ xs) (cond (not b) (1 + position_or_len (carries n) xs) 0))) ≡ true
    by true e less rest = e
    by false e less rest =
        let next : suc (position_or_len (carries n) xs) ≡ 1 + position_or_len (carries n) xs = omega arith in
        subst (λ (k : ℕ). carries n (or_free (slice_get (x ∷ xs) k)) ≡ true) next (rest (omega (arith, less)))

carried_there : (c : Upstream) (m g : ℕ) → session_of c m ≡ Some g → carries m (session_at c g) ≡ true
carried_there c m g e = by (nat_lt (position_or_len (carries m) c.sessions) (length c.sessions)) refl e
  where
    by : (b : Bool) → nat_lt (position_or_len (carries m) c.sessions) (length c.sessions) ≡ b
        → cond {A = Option ℕ} b (Some (position_or_len (carries m) c.sessions)) None ≡ Some g → carries m (session_at c g) ≡ true
    by true f same =
        let here : position_or_len (carries m) c.sessions ≡ g = cc in
        subst (λ (k : ℕ). carries m (session_at c k) ≡ true) here (found m c.sessions (grind (arith, nat_tests, f)))
    by false f same = absurd cc

-- ---- codes

transfer_is : (p : Parts) → (p.0 == 20) ≡ true → act_of p ≡ act.Within
unfolding act_of
transfer_is (code, ts) e =
    let is : code ≡ 20 = grind (arith, nat_tests, e) in
    subst (λ (k : ℕ). act_of (k, ts) ≡ act.Within) (sym is) refl

end_is : (p : Parts) → act_of p ≡ act.End → (p.0 == 23) ≡ true
unfolding act_of
end_is (code, ts) e =
    by (code == 16) (code == 17) (code == 18) (code == 19) (code == 20) (code == 21) (code == 22) (code == 23)
    (code == 24) (code == 64) (code == 66) (code == 68) e
  where
    by : (a b d f g h i j k l m o : Bool)
        → (if a then act.Open (stated_in ts) else if b then act.Begin (number_in (field ts 0)) else if d then act.Within else if f then act.Within else if g then act.Within
        else if h then act.Settle (number_at ts 1) (number_in (field ts 2)) else if i then act.Within else if j then act.End else if k then act.Close
        else if l then act.Offer else if m then act.Challenge else if o then act.Outcome (number_at ts 0) else act.ClientLogin)
        ≡ act.End → j ≡ true
    by a b d f g h i true k l m o same = refl
    by true b d f g h i false k l m o same = absurd cc
    by false true d f g h i false k l m o same = absurd cc
    by false false true f g h i false k l m o same = absurd cc
    by false false false true g h i false k l m o same = absurd cc
    by false false false false true h i false k l m o same = absurd cc
    by false false false false false true i false k l m o same = absurd cc
    by false false false false false false true false k l m o same = absurd cc
    by false false false false false false false false true l m o same = absurd cc
    by false false false false false false false false false true m o same = absurd cc
    by false false false false false false false false false false true o same = absurd cc
    by false false false false false false false false false false false true same = absurd cc
    by false false false false false false false false false false false false same = absurd cc

-- ---- what a unit makes of session n

pub record EndCame (n : ℕ) (x : ten.Step) : Type 0 where
  pub parts : Parts
  pub payload : List ℕ
  pub is : x.1 ≡ OfSession n parts payload
  pub code : (parts.0 == 23) ≡ true

pub record Keeps (n : ℕ) (c : Upstream) (x : ten.Step) : Type 0 where
  -- a transfer counts on a live session
  pub live : (p : Parts) (payload : List ℕ) → x.1 ≡ OfSession n p payload → (p.0 == 20) ≡ true → is_live (session_at c n) ≡ true
  -- it ends by an end, and by nothing else is no longer live
  pub ended : is_ended (session_at x.0 n) ≡ true → (is_ended (session_at c n) ≡ true) ⊎ EndCame n x
  pub left : is_live (session_at x.0 n) ≡ false → is_live (session_at c n) ≡ true → is_ended (session_at x.0 n) ≡ true
  -- no unit asks for it
  pub asked : is_asked (session_at x.0 n) ≡ true → is_asked (session_at c n) ≡ true

clash : {A : Type 0} (b : Bool) → b ≡ true → b ≡ false → A
clash b e f = absurd cc

-- what is of no session, and leaves all
abbrev tells_none : Meaning → Bool
tells_none (OfSession g p payload) = false
tells_none m = true

quiet : (n : ℕ) (c d : Upstream) (m : Meaning) → d.sessions ≡ c.sessions → tells_none m ≡ true → Keeps n c (d, m)
quiet n c d m same none = record {
  live = λ p payload is code. let wrong : true ≡ false = sym none ∙ ap tells_none is in absurd cc;
  ended = λ e. inl (ap is_ended (sym at) ∙ e);
  left = λ e f. clash _ f (ap is_live (sym at) ∙ e);
  asked = λ e. ap is_asked (sym at) ∙ e;
}
  where
    at : session_at d n ≡ session_at c n
    at = ap (λ (xs : List Session). or_free (slice_get xs n)) same

-- what is of a session, and no transfer on one that isn't live
within_live : (s : Session) (m : ℕ) → carries m s ≡ true → within_passed s ≡ None → is_live s ≡ true
within_live session.Free m e f = absurd cc
within_live session.Asked m e f = absurd cc
within_live session.Left m e f = absurd cc
within_live (session.Open k) m e f = refl
within_live (session.Leaving k) m e f = absurd cc
within_live (session.Ended k) m e f = absurd cc

no_transfer : {A : Type 0} (a : Act10) (p : Parts) → act_of p ≡ a → (act.Within ≡ a → ⊥) → (p.0 == 20) ≡ true → A
no_transfer a p is not e = absurd (not (sym (transfer_is p e) ∙ is))

within_keeps : (n : ℕ) (c : Upstream) (m : ℕ) (o : Option ℕ) (p : Parts) (payload : List ℕ) → session_of c m ≡ o
    → ((g : ℕ) → o ≡ Some g → within_passed (session_at c g) ≡ None) → Keeps n c (within_effect c o p payload)
within_keeps n c m None p payload is passed = quiet n c c Nothing refl refl
within_keeps n c m (Some g) p payload is passed = record {
  live = λ q bytes same code.
      let here : g ≡ n = cc in
      subst (λ (k : ℕ). is_live (session_at c k) ≡ true) here (within_live (session_at c g) m (carried_there c m g is) (passed g refl));
  ended = λ e. inl e;
  left = λ e f. clash _ f e;
  asked = λ e. e;
}

-- a session that is set
sets : (n : ℕ) (c : Upstream) (g : ℕ) (s : Session) (m : Meaning)
    → ((p : Parts) (payload : List ℕ) → m ≡ OfSession n p payload → (p.0 == 20) ≡ true → ⊥)
    → (g ≡ n → is_ended s ≡ true → EndCame n (with_session c g s, m))
    → (is_live s ≡ false → is_live (session_at c g) ≡ true → is_ended s ≡ true)
    → is_asked s ≡ false
    → Keeps n c (with_session c g s, m)
sets n c g s m none ends leaves not_asked = by (set_either c.sessions g n s)
  where
    now : Session
    now = session_at (with_session c g s) n

    by : ((g ≡ n) × (now ≡ s)) ⊎ (now ≡ session_at c n) → Keeps n c (with_session c g s, m)
    by (inl f) = record {
      live = λ p payload is code. absurd (none p payload is code);
      ended = λ e. inr (ends f.0 (ap is_ended (sym f.1) ∙ e));
      left = λ e k. ap is_ended f.1 ∙ leaves (ap is_live (sym f.1) ∙ e) (subst (λ (i : ℕ). is_live (session_at c i) ≡ true) (sym f.0) k);
      asked = λ e. clash _ (ap is_asked (sym f.1) ∙ e) not_asked;
    }
    by (inr f) = record {
      live = λ p payload is code. absurd (none p payload is code);
      ended = λ e. inl (ap is_ended (sym f) ∙ e);
      left = λ e k. clash _ k (ap is_live (sym f) ∙ e);
      asked = λ e. ap is_asked (sym f) ∙ e;
    }

same_parts : {g n : ℕ} {p q : Parts} {payload bytes : List ℕ} → OfSession g p payload ≡ OfSession n q bytes → p ≡ q
same_parts e = cc

begin_keeps : (n : ℕ) (c : Upstream) (m : ℕ) (o : Option ℕ) (p : Parts) (payload : List ℕ) → ((p.0 == 20) ≡ true → ⊥) → Keeps n c (begin_effect c m o p payload)
begin_keeps n c m None p payload not = quiet n c c Nothing refl refl
begin_keeps n c m (Some g) p payload not = by (session_at c g) refl
  where
    by : (s : Session) → session_at c g ≡ s → Keeps n c (begun_effect s c m g p payload)
    by session.Free e = quiet n c c Nothing refl refl
    by session.Asked e =
        sets n c g (session.Open m) (OfSession g p payload)
        (λ q bytes is code. not (ap (λ (r : Parts). r.0 == 20) (same_parts is) ∙ code))
        (λ f x. absurd cc) (λ x y. absurd cc) refl
    by session.Left e =
        sets n c g (session.Leaving m) Nothing (λ q bytes is code. absurd cc) (λ f x. absurd cc)
        (λ x y. clash _ y (ap is_live e)) refl
    by (session.Open k) e = quiet n c c Nothing refl refl
    by (session.Leaving k) e = quiet n c c Nothing refl refl
    by (session.Ended k) e = quiet n c c Nothing refl refl

end_keeps : (n : ℕ) (c : Upstream) (o : Option ℕ) (p : Parts) (payload : List ℕ) → act_of p ≡ act.End → Keeps n c (end_effect c o p payload)
end_keeps n c None p payload is = quiet n c c Nothing refl refl
end_keeps n c (Some g) p payload is = by (session_at c g) refl
  where
    none : (q : Parts) (bytes : List ℕ) → OfSession g p payload ≡ OfSession n q bytes → (q.0 == 20) ≡ true → ⊥
    none q bytes same code = no_transfer act.End p is (λ x. absurd cc) (ap (λ (r : Parts). r.0 == 20) (same_parts same) ∙ code)

    by : (s : Session) → session_at c g ≡ s → Keeps n c (ended_effect s c g p payload)
    by session.Free e = quiet n c c Nothing refl refl
    by session.Asked e = quiet n c c Nothing refl refl
    by session.Left e = quiet n c c Nothing refl refl
    by (session.Open k) e =
        sets n c g (session.Ended k) (OfSession g p payload) none
        (λ f x. record { parts = p; payload = payload; is = ap (λ (i : ℕ). OfSession i p payload) f; code = end_is p is })
        (λ x y. refl) refl
    by (session.Leaving k) e =
        sets n c g session.Free (OfSession g p payload) none (λ f x. absurd cc) (λ x y. clash _ y (ap is_live e)) refl
    by (session.Ended k) e = quiet n c c Nothing refl refl

-- a performative on a connection that runs
running_keeps : (n : ℕ) (c : Upstream) (m : ℕ) (p : Parts) (payload : List ℕ) → passed_in c (session_of c m) (act_of p) ≡ None
    → Keeps n c (running_effect c m (act_of p) p payload)
running_keeps n c m p payload none = by (act_of p) refl none
  where
    passed : (o : Option ℕ) (a : Act10) → ((g : ℕ) → passed_in c (Some g) a ≡ within_passed (session_at c g)) → passed_in c o a ≡ None
        → (g : ℕ) → o ≡ Some g → within_passed (session_at c g) ≡ None
    passed o a is e g same = sym (is g) ∙ ap (λ (x : Option ℕ). passed_in c x a) (sym same) ∙ e

    by : (a : Act10) → act_of p ≡ a → passed_in c (session_of c m) a ≡ None → Keeps n c (running_effect c m a p payload)
    by (act.Open stated) e k = quiet n c c Nothing refl refl
    by (act.Begin remote) e k = begin_keeps n c m remote p payload (λ f. no_transfer (act.Begin remote) p e (λ x. absurd cc) f)
    by act.Within e k = within_keeps n c m (session_of c m) p payload refl (passed (session_of c m) act.Within (λ g. refl) k)
    by (act.Settle low high) e k = within_keeps n c m (session_of c m) p payload refl (passed (session_of c m) (act.Settle low high) (λ g. refl) k)
    by act.End e k = end_keeps n c (session_of c m) p payload e
    by act.Close e k = quiet n c _ _ refl refl
    by act.Offer e k = quiet n c c Nothing refl refl
    by (act.Outcome j) e k = quiet n c c Nothing refl refl
    by act.Challenge e k = quiet n c c Nothing refl refl
    by act.ClientLogin e k = quiet n c c Nothing refl refl

rest_none : (p : Option Ruling10) (ps : List (Option Ruling10)) → first (p ∷ ps) ≡ None → first ps ≡ None
rest_none None ps e = e
rest_none (Some r) ps e = absurd cc

first_none : (p : Option Ruling10) (ps : List (Option Ruling10)) → first (p ∷ ps) ≡ None → p ≡ None
first_none None ps e = refl
first_none (Some r) ps e = absurd cc

counts_keeps : (n : ℕ) (c : Upstream) (k : Kind10) (m : ℕ) (b : Body) → body_ruling phase.Running c k m b ≡ None → Keeps n c (body_effect phase.Running c m b)
counts_keeps n c k m Empty none = quiet n c c Nothing refl refl
counts_keeps n c k m (Faulty e) none = quiet n c c Nothing refl refl
counts_keeps n c k m (Whole p payload) none =
    running_keeps n c m p payload
    (first_none _ _ (rest_none (order_in phase.Running c m (act_of p)) _ (rest_none (range_place (act_of p)) _
    (rest_none (kind_order phase.Running (layer_of (act_of p))) _ (rest_none (kind_order phase.Running k) _ none)))))

-- ---- before the connection runs

outcome_keeps : (n : ℕ) (c : Upstream) (k : ℕ) → Keeps n c (outcome_effect c k)
outcome_keeps n c k = by (k == 0)
  where
    by : (b : Bool) → Keeps n c (cond {A = ten.Step} b (record c { phase = phase.AmqpHeader; stream = stream.Header kind.Amqp }, ten.AmqpHeader) (record c { phase = phase.Closed }, ten.Refused))
    by true = quiet n c _ _ refl refl
    by false = quiet n c _ _ refl refl

offer_keeps : (n : ℕ) (c : Upstream) (t : Tree) → Keeps n c (offer_effect c t)
offer_keeps n c t = by (offers c.mechanism t)
  where
    by : (b : Bool) → Keeps n c (cond {A = ten.Step} b (record c { phase = phase.Outcome }, ten.Init) (record c { phase = phase.Closed }, ten.Refused))
    by true = quiet n c _ _ refl refl
    by false = quiet n c _ _ refl refl

login_keeps : (n : ℕ) (c : Upstream) (a : Act10) → Keeps n c (login_effect c a)
login_keeps n c (act.Outcome k) = outcome_keeps n c k
login_keeps n c (act.Open stated) = quiet n c c Nothing refl refl
login_keeps n c (act.Begin remote) = quiet n c c Nothing refl refl
login_keeps n c act.Within = quiet n c c Nothing refl refl
login_keeps n c (act.Settle low high) = quiet n c c Nothing refl refl
login_keeps n c act.End = quiet n c c Nothing refl refl
login_keeps n c act.Close = quiet n c c Nothing refl refl
login_keeps n c act.Offer = quiet n c c Nothing refl refl
login_keeps n c act.Challenge = quiet n c c Nothing refl refl
login_keeps n c act.ClientLogin = quiet n c c Nothing refl refl

mechanisms_keeps : (n : ℕ) (c : Upstream) (t : Tree) (a : Act10) → Keeps n c (mechanisms_effect c t a)
mechanisms_keeps n c t act.Offer = offer_keeps n c t
mechanisms_keeps n c t (act.Outcome k) = outcome_keeps n c k
mechanisms_keeps n c t (act.Open stated) = quiet n c c Nothing refl refl
mechanisms_keeps n c t (act.Begin remote) = quiet n c c Nothing refl refl
mechanisms_keeps n c t act.Within = quiet n c c Nothing refl refl
mechanisms_keeps n c t (act.Settle low high) = quiet n c c Nothing refl refl
mechanisms_keeps n c t act.End = quiet n c c Nothing refl refl
mechanisms_keeps n c t act.Close = quiet n c c Nothing refl refl
mechanisms_keeps n c t act.Challenge = quiet n c c Nothing refl refl
mechanisms_keeps n c t act.ClientLogin = quiet n c c Nothing refl refl

open_keeps : (n : ℕ) (c : Upstream) (a : Act10) → Keeps n c (open_effect c a)
open_keeps n c (act.Open stated) = quiet n c _ _ refl refl
open_keeps n c (act.Begin remote) = quiet n c c Nothing refl refl
open_keeps n c act.Within = quiet n c c Nothing refl refl
open_keeps n c (act.Settle low high) = quiet n c c Nothing refl refl
open_keeps n c act.End = quiet n c c Nothing refl refl
open_keeps n c act.Close = quiet n c c Nothing refl refl
open_keeps n c act.Offer = quiet n c c Nothing refl refl
open_keeps n c (act.Outcome k) = quiet n c c Nothing refl refl
open_keeps n c act.Challenge = quiet n c c Nothing refl refl
open_keeps n c act.ClientLogin = quiet n c c Nothing refl refl

body_keeps : (n : ℕ) (c : Upstream) (k : Kind10) (m : ℕ) (q : Phase10) (b : Body) → body_ruling q c k m b ≡ None → Keeps n c (body_effect q c m b)
body_keeps n c k m q Empty none = quiet n c c Nothing refl refl
body_keeps n c k m q (Faulty e) none = quiet n c c Nothing refl refl
body_keeps n c k m phase.Running (Whole p payload) none = counts_keeps n c k m (Whole p payload) none
body_keeps n c k m phase.SaslHeader (Whole p payload) none = quiet n c c Nothing refl refl
body_keeps n c k m phase.Mechanisms (Whole p payload) none = mechanisms_keeps n c (field p.1 0) (act_of p)
body_keeps n c k m phase.Outcome (Whole p payload) none = login_keeps n c (act_of p)
body_keeps n c k m phase.AmqpHeader (Whole p payload) none = quiet n c c Nothing refl refl
body_keeps n c k m phase.Open (Whole p payload) none = open_keeps n c (act_of p)
body_keeps n c k m phase.Closing (Whole p payload) none = quiet n c c Nothing refl refl
body_keeps n c k m phase.Closed (Whole p payload) none = quiet n c c Nothing refl refl

-- ---- any unit

refused_keeps : (n : ℕ) (c : Upstream) (why : Condition) (b : Bool) → Keeps n c (refused_step c why b)
refused_keeps n c why true = quiet n c _ _ refl refl
refused_keeps n c why false = quiet n c _ _ refl refl

header_keeps : (n : ℕ) (c : Upstream) (k : Kind10) → Keeps n c (header_step c k)
header_keeps n c k = by (awaits_header k c.phase)
  where
    by : (b : Bool) → Keeps n c (cond {A = ten.Step} b (record c { phase = phase_after k; stream = stream.Frames }, Nothing) (violated c condition.FramingError (spoiled c.stream)))
    by true = quiet n c _ _ refl refl
    by false = quiet n c _ _ refl refl

ordered_keeps : (n : ℕ) (c : Upstream) (u : Unit10) → Keeps n c (ordered_step c u)
ordered_keeps n c (unit.Header k) = header_keeps n c k
ordered_keeps n c (unit.Bad why) = quiet n c _ _ refl refl
ordered_keeps n c (unit.Frame f) = by (body_ruling c.phase c f.kind f.channel body) refl
  where
    body : Body
    body = body_in f.kind f.body

    by : (r : Option Ruling10) → body_ruling c.phase c f.kind f.channel body ≡ r → Keeps n c (ruled_step c f.kind f.channel body r)
    by None e = body_keeps n c f.kind f.channel c.phase body e
    by (Some ruling.PassedOver) e = quiet n c c Nothing refl refl
    by (Some (ruling.Violated why)) e = refused_keeps n c why (closes f.kind body)

closing_keeps : (n : ℕ) (c : Upstream) (u : Unit10) → Keeps n c (closing_step c u)
closing_keeps n c (unit.Header k) = quiet n c _ _ refl refl
closing_keeps n c (unit.Bad why) = quiet n c _ _ refl refl
closing_keeps n c (unit.Frame f) = by (body_ruling phase.Running c f.kind f.channel body) refl
  where
    body : Body
    body = body_in f.kind f.body

    by : (r : Option Ruling10) → body_ruling phase.Running c f.kind f.channel body ≡ r → Keeps n c (late_step c f.channel body r)
    by None e = counts_keeps n c f.kind f.channel body e
    by (Some r) e = quiet n c c Nothing refl refl

pub unit_keeps : (n : ℕ) (c : Upstream) (u : Unit10) → Keeps n c (unit_step c u)
unit_keeps n c u = by c.phase
  where
    by : (q : Phase10) → Keeps n c (step_in q c u)
    by phase.SaslHeader = ordered_keeps n c u
    by phase.Mechanisms = ordered_keeps n c u
    by phase.Outcome = ordered_keeps n c u
    by phase.AmqpHeader = ordered_keeps n c u
    by phase.Open = ordered_keeps n c u
    by phase.Running = ordered_keeps n c u
    by phase.Closing = closing_keeps n c u
    by phase.Closed = quiet n c _ _ refl refl
