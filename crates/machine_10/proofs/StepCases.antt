-- The rows of the table of transitions: what holds of each row holds of each step.
use Rattle.std.proofs.Common.{◌≡◌, ℕ, Bool, true, false, cond, eqb, nat_lt, List, ◌∷◌, Option, None}
use Rattle.std.proofs.Common.{Some, refl, ap}
use Rattle.frames_10.specs.declared.frame.Kind10.{Kind10}
use Rattle.frames_10.specs.declared.frame.Kind10.TheVariants as kind
use Rattle.types_10.specs.Tree.{Tree}
use Rattle.performatives_10.specs.declared.condition.Condition.{Condition}
use Rattle.performatives_10.specs.declared.condition.Condition.TheVariants as condition
use Rattle.machine_10.specs.Parts.{Parts}
use Rattle.machine_10.specs.Reading.{Body, Empty, Faulty, Whole, body_in, field, offers, act_of}
use Rattle.machine_10.specs.Reading.{is_out_of_range, closes}
use Rattle.machine_10.specs.Refusals.{first, refused, kind_order, layer_of, range_place, order_in}
use Rattle.machine_10.specs.Refusals.{begin_order, is_login_phase, perf_places, body_ruling}
use Rattle.machine_10.specs.State.{is_running, is_closing, session_at, session_of, with_session}
use Rattle.machine_10.specs.Transitions.{Step, Meaning, Nothing, Init, AmqpHeader, Opened, Refused}
use Rattle.machine_10.specs.Transitions.{Violation}
use Rattle.machine_10.specs.Transitions.{spoiled, stream_after, violated, awaits_header}
use Rattle.machine_10.specs.Transitions.{phase_after, header_step}
use Rattle.machine_10.specs.Transitions.{offer_effect, outcome_effect, login_effect}
use Rattle.machine_10.specs.Transitions.{mechanisms_effect, open_effect}
use Rattle.machine_10.specs.Transitions.{begun_effect, begin_effect, within_effect, ended_effect}
use Rattle.machine_10.specs.Transitions.{end_effect}
use Rattle.machine_10.specs.Transitions.{close_effect, running_effect, perf_effect, body_effect}
use Rattle.machine_10.specs.Transitions.{refused_step}
use Rattle.machine_10.specs.Transitions.{ruled_step, body_step, ordered_step, closed_step}
use Rattle.machine_10.specs.Transitions.{late_step, late_body_step}
use Rattle.machine_10.specs.Transitions.{closing_step, step_in, unit_step}
use Rattle.machine_10.specs.Transitions as meaning
use Rattle.machine_10.specs.declared.limits.Stated10.{Stated10}
use Rattle.machine_10.specs.declared.limits.TheConstants.{FRAME_MIN_SIZE}
use Rattle.machine_10.specs.declared.state.Phase10.{Phase10}
use Rattle.machine_10.specs.declared.state.Phase10.TheVariants as phase
use Rattle.machine_10.specs.declared.state.Session.{Session}
use Rattle.machine_10.specs.declared.state.Session.TheVariants as session
use Rattle.machine_10.specs.declared.state.Stream10.{Stream10}
use Rattle.machine_10.specs.declared.state.Stream10.TheVariants as stream
use Rattle.machine_10.specs.declared.state.Upstream.{Upstream}
use Rattle.machine_10.specs.declared.unit.Act10.{Act10}
use Rattle.machine_10.specs.declared.unit.Act10.TheVariants as act
use Rattle.machine_10.specs.declared.unit.Ruling10.{Ruling10}
use Rattle.machine_10.specs.declared.unit.Ruling10.TheVariants as ruling
use Rattle.machine_10.specs.declared.unit.Unit10.{Unit10}
use Rattle.machine_10.specs.declared.unit.Unit10.TheVariants as unit

-- the phases in which sessions count: a running connection, or one that is closing
abbrev pub HasBegun : Upstream → Type 0
HasBegun c = is_running c.phase ≡ false → is_closing c.phase ≡ true

-- a predicate of steps holds of each row of the table
pub record HoldsByRow (P : Step → Type 0) (c : Upstream) : Type 0 where
  pub nothing : P (c, Nothing)
  pub violated : (why : Condition) (s : Stream10) → is_closing c.phase ≡ false → P (violated c why s)
  pub greeted : (k : Kind10) → is_closing c.phase ≡ false → is_running c.phase ≡ false → awaits_header k c.phase ≡ true
      → P (record c { phase = phase_after k; stream = stream.Frames }, Nothing)
  pub offered : c.phase ≡ phase.Mechanisms → P (record c { phase = phase.Outcome }, Init)
  pub refused : is_login_phase c.phase ≡ true → P (record c { phase = phase.Closed }, Refused)
  pub came_out : is_login_phase c.phase ≡ true
      → P (record c { phase = phase.AmqpHeader; stream = stream.Header kind.Amqp }, AmqpHeader)
  pub opened : (stated : Stated10) → c.phase ≡ phase.Open → nat_lt stated.max_frame FRAME_MIN_SIZE ≡ false
      → P (record c { phase = phase.Running; stated = stated }, Opened)
  pub answered : (g n : ℕ) (p : Parts) (payload : List ℕ) → HasBegun c → session_of c n ≡ None
      → session_at c g ≡ session.Asked → P (with_session c g (session.Open n), meaning.OfSession g p payload)
  pub crossed : (g n : ℕ) → HasBegun c → session_of c n ≡ None → session_at c g ≡ session.Left
      → P (with_session c g (session.Leaving n), Nothing)
  pub within : (g : ℕ) (p : Parts) (payload : List ℕ) → HasBegun c → P (c, meaning.OfSession g p payload)
  pub ended : (g m : ℕ) (p : Parts) (payload : List ℕ) → HasBegun c → session_at c g ≡ session.Open m
      → P (with_session c g (session.Ended m), meaning.OfSession g p payload)
  pub freed : (g m : ℕ) (p : Parts) (payload : List ℕ) → HasBegun c → session_at c g ≡ session.Leaving m
      → P (with_session c g session.Free, meaning.OfSession g p payload)
  pub closed : (e : Tree) → P (close_effect c e)
  pub shut : (why : Condition) → is_closing c.phase ≡ false
      → P (record c { phase = phase.Closed; stream = stream.Closed }, Violation why)
  pub passed : (s : Stream10) → is_closing c.phase ≡ true → P (record c { stream = s }, Nothing)

-- ---- places that don't apply

rest_none : (p : Option Ruling10) (ps : List (Option Ruling10)) → first (p ∷ ps) ≡ None → first ps ≡ None
rest_none None ps e = e
rest_none (Some r) ps e = absurd cc

first_none : (p : Option Ruling10) (ps : List (Option Ruling10)) → first (p ∷ ps) ≡ None → p ≡ None
first_none None ps e = refl
first_none (Some r) ps e = absurd cc

-- the places of a performative that counts don't apply
perf_none : (q : Phase10) (c : Upstream) (n : ℕ) (a : Act10) → first (perf_places q c n a) ≡ None
    → (range_place a ≡ None) × (order_in q c n a ≡ None)
perf_none q c n a e =
    let after : first (range_place a ∷ order_in q c n a ∷ _) ≡ None = rest_none (kind_order q (layer_of a)) _ e in
    (first_none _ _ after, first_none _ _ (rest_none (range_place a) _ after))

in_range : (b : Bool) → cond {A = Option Ruling10} b (refused condition.InvalidField) None ≡ None → b ≡ false
in_range false e = refl
in_range true e = absurd cc

-- ---- the rows

outcome_rows : (P : Step → Type 0) (c : Upstream) (n : ℕ) → HoldsByRow P c → is_login_phase c.phase ≡ true → P (outcome_effect c n)
outcome_rows P c n rows e = by (eqb n 0)
  where
    by : (b : Bool) → P (cond {A = Step} b (record c { phase = phase.AmqpHeader; stream = stream.Header kind.Amqp }, AmqpHeader) (record c { phase = phase.Closed }, Refused))
    by true = rows.came_out e
    by false = rows.refused e

offer_rows : (P : Step → Type 0) (c : Upstream) (t : Tree) → HoldsByRow P c → c.phase ≡ phase.Mechanisms → P (offer_effect c t)
offer_rows P c t rows e = by (offers c.mechanism t)
  where
    by : (b : Bool) → P (cond {A = Step} b (record c { phase = phase.Outcome }, Init) (record c { phase = phase.Closed }, Refused))
    by true = rows.offered e
    by false = rows.refused (ap is_login_phase e)

login_rows : (P : Step → Type 0) (c : Upstream) (a : Act10) → HoldsByRow P c → is_login_phase c.phase ≡ true → P (login_effect c a)
login_rows P c (act.Open stated) rows e = rows.nothing
login_rows P c (act.Begin remote) rows e = rows.nothing
login_rows P c act.Within rows e = rows.nothing
login_rows P c (act.Settle low high) rows e = rows.nothing
login_rows P c act.End rows e = rows.nothing
login_rows P c act.Close rows e = rows.nothing
login_rows P c act.Offer rows e = rows.nothing
login_rows P c (act.Outcome n) rows e = outcome_rows P c n rows e
login_rows P c act.Challenge rows e = rows.nothing
login_rows P c act.ClientLogin rows e = rows.nothing

mechanisms_rows : (P : Step → Type 0) (c : Upstream) (t : Tree) (a : Act10) → HoldsByRow P c → c.phase ≡ phase.Mechanisms
    → P (mechanisms_effect c t a)
mechanisms_rows P c t (act.Open stated) rows e = rows.nothing
mechanisms_rows P c t (act.Begin remote) rows e = rows.nothing
mechanisms_rows P c t act.Within rows e = rows.nothing
mechanisms_rows P c t (act.Settle low high) rows e = rows.nothing
mechanisms_rows P c t act.End rows e = rows.nothing
mechanisms_rows P c t act.Close rows e = rows.nothing
mechanisms_rows P c t act.Offer rows e = offer_rows P c t rows e
mechanisms_rows P c t (act.Outcome n) rows e = outcome_rows P c n rows (ap is_login_phase e)
mechanisms_rows P c t act.Challenge rows e = rows.nothing
mechanisms_rows P c t act.ClientLogin rows e = rows.nothing

open_rows : (P : Step → Type 0) (c : Upstream) (a : Act10) → HoldsByRow P c → c.phase ≡ phase.Open → is_out_of_range a ≡ false
    → P (open_effect c a)
open_rows P c (act.Open stated) rows e range = rows.opened stated e range
open_rows P c (act.Begin remote) rows e range = rows.nothing
open_rows P c (act.Settle low high) rows e range = rows.nothing
open_rows P c act.Within rows e range = rows.nothing
open_rows P c act.End rows e range = rows.nothing
open_rows P c act.Close rows e range = rows.nothing
open_rows P c act.Offer rows e range = rows.nothing
open_rows P c (act.Outcome n) rows e range = rows.nothing
open_rows P c act.Challenge rows e range = rows.nothing
open_rows P c act.ClientLogin rows e range = rows.nothing

begin_rows : (P : Step → Type 0) (c : Upstream) (n : ℕ) (remote : Option ℕ) (p : Parts) (payload : List ℕ) → HoldsByRow P c
    → HasBegun c → begin_order c (session_of c n) remote ≡ None → P (begin_effect c n remote p payload)
begin_rows P c n None p payload rows runs none = rows.nothing
begin_rows P c n (Some g) p payload rows runs none = by (session_of c n) (session_at c g) refl refl none
  where
    by : (o : Option ℕ) (s : Session) → session_of c n ≡ o → session_at c g ≡ s → begin_order c o (Some g) ≡ None
        → P (begun_effect s c n g p payload)
    by o session.Free e f none = rows.nothing
    by None session.Asked e f none = rows.answered g n p payload runs e f
    by (Some h) session.Asked e f none = absurd cc
    by None session.Left e f none = rows.crossed g n runs e f
    by (Some h) session.Left e f none = absurd cc
    by o (session.Open m) e f none = rows.nothing
    by o (session.Leaving m) e f none = rows.nothing
    by o (session.Ended m) e f none = rows.nothing

end_rows : (P : Step → Type 0) (c : Upstream) (o : Option ℕ) (p : Parts) (payload : List ℕ) → HoldsByRow P c
    → HasBegun c → P (end_effect c o p payload)
end_rows P c None p payload rows runs = rows.nothing
end_rows P c (Some g) p payload rows runs = by (session_at c g) refl
  where
    by : (s : Session) → session_at c g ≡ s → P (ended_effect s c g p payload)
    by session.Free e = rows.nothing
    by session.Asked e = rows.nothing
    by session.Left e = rows.nothing
    by (session.Open m) e = rows.ended g m p payload runs e
    by (session.Leaving m) e = rows.freed g m p payload runs e
    by (session.Ended m) e = rows.nothing

within_rows : (P : Step → Type 0) (c : Upstream) (o : Option ℕ) (p : Parts) (payload : List ℕ) → HoldsByRow P c
    → HasBegun c → P (within_effect c o p payload)
within_rows P c None p payload rows runs = rows.nothing
within_rows P c (Some g) p payload rows runs = rows.within g p payload runs

running_rows : (P : Step → Type 0) (c : Upstream) (n : ℕ) (a : Act10) (p : Parts) (payload : List ℕ) → HoldsByRow P c
    → HasBegun c → order_in phase.Running c n a ≡ None → P (running_effect c n a p payload)
running_rows P c n (act.Open stated) p payload rows e none = rows.nothing
running_rows P c n (act.Begin remote) p payload rows e none = begin_rows P c n remote p payload rows e none
running_rows P c n act.Within p payload rows e none = within_rows P c (session_of c n) p payload rows e
running_rows P c n (act.Settle low high) p payload rows e none = within_rows P c (session_of c n) p payload rows e
running_rows P c n act.End p payload rows e none = end_rows P c (session_of c n) p payload rows e
running_rows P c n act.Close p payload rows e none = rows.closed (field p.1 0)
running_rows P c n act.Offer p payload rows e none = rows.nothing
running_rows P c n (act.Outcome m) p payload rows e none = rows.nothing
running_rows P c n act.Challenge p payload rows e none = rows.nothing
running_rows P c n act.ClientLogin p payload rows e none = rows.nothing

-- ---- a frame

perf_rows : (P : Step → Type 0) (c : Upstream) (n : ℕ) (p : Parts) (payload : List ℕ) → HoldsByRow P c
    → is_out_of_range (act_of p) ≡ false → order_in c.phase c n (act_of p) ≡ None → P (perf_effect c.phase c n p payload)
perf_rows P c n p payload rows range none = by c.phase refl none
  where
    by : (q : Phase10) → c.phase ≡ q → order_in q c n (act_of p) ≡ None → P (perf_effect q c n p payload)
    by phase.SaslHeader e none = rows.nothing
    by phase.Mechanisms e none = mechanisms_rows P c (field p.1 0) (act_of p) rows e
    by phase.Outcome e none = login_rows P c (act_of p) rows (ap is_login_phase e)
    by phase.AmqpHeader e none = rows.nothing
    by phase.Open e none = open_rows P c (act_of p) rows e range
    by phase.Running e none =
        running_rows P c n (act_of p) p payload rows (λ r. let runs : is_running c.phase ≡ true = ap is_running e in absurd cc) none
    by phase.Closing e none = rows.nothing
    by phase.Closed e none = rows.nothing

effect_rows : (P : Step → Type 0) (c : Upstream) (k : Kind10) (n : ℕ) (b : Body) → HoldsByRow P c
    → body_ruling c.phase c k n b ≡ None → P (body_effect c.phase c n b)
effect_rows P c k n Empty rows none = rows.nothing
effect_rows P c k n (Faulty e) rows none = rows.nothing
effect_rows P c k n (Whole p payload) rows none =
    let both : (range_place (act_of p) ≡ None) × (order_in c.phase c n (act_of p) ≡ None) =
    perf_none c.phase c n (act_of p) (rest_none (kind_order c.phase k) _ none) in
    perf_rows P c n p payload rows (in_range (is_out_of_range (act_of p)) both.0) both.1

refused_rows : (P : Step → Type 0) (c : Upstream) (why : Condition) (b : Bool) → HoldsByRow P c → is_closing c.phase ≡ false
    → P (refused_step c why b)
refused_rows P c why false rows early = rows.violated why c.stream early
refused_rows P c why true rows early = rows.shut why early

body_rows : (P : Step → Type 0) (c : Upstream) (k : Kind10) (n : ℕ) (b : Body) → HoldsByRow P c → is_closing c.phase ≡ false
    → P (body_step c k n b)
body_rows P c k n b rows early = by (body_ruling c.phase c k n b) refl
  where
    by : (r : Option Ruling10) → body_ruling c.phase c k n b ≡ r → P (ruled_step c k n b r)
    by None e = effect_rows P c k n b rows e
    by (Some ruling.PassedOver) e = rows.nothing
    by (Some (ruling.Violated why)) e = refused_rows P c why (closes k b) rows early

-- a frame after a violation
late_rows : (P : Step → Type 0) (c : Upstream) (k : Kind10) (n : ℕ) (b : Body) → HoldsByRow P c → is_closing c.phase ≡ true
    → P (late_body_step c k n b)
late_rows P c k n b rows late = by (body_ruling phase.Running c k n b) refl
  where
    counts : (b : Body) → body_ruling phase.Running c k n b ≡ None → P (body_effect phase.Running c n b)
    counts Empty none = rows.nothing
    counts (Faulty e) none = rows.nothing
    counts (Whole p payload) none =
        let both : (range_place (act_of p) ≡ None) × (order_in phase.Running c n (act_of p) ≡ None) =
        perf_none phase.Running c n (act_of p) (rest_none (kind_order phase.Running k) _ none) in
        running_rows P c n (act_of p) p payload rows (λ r. late) both.1

    by : (r : Option Ruling10) → body_ruling phase.Running c k n b ≡ r → P (late_step c n b r)
    by None e = counts b e
    by (Some r) e = rows.nothing

-- ---- units

awaits_early : (k : Kind10) (q : Phase10) → awaits_header k q ≡ true → is_running q ≡ false
awaits_early k phase.SaslHeader e = refl
awaits_early k phase.Mechanisms e = refl
awaits_early k phase.Outcome e = refl
awaits_early k phase.AmqpHeader e = refl
awaits_early k phase.Open e = refl
awaits_early kind.Sasl phase.Running e = absurd cc
awaits_early kind.Amqp phase.Running e = absurd cc
awaits_early k phase.Closing e = refl
awaits_early k phase.Closed e = refl

header_rows : (P : Step → Type 0) (c : Upstream) (k : Kind10) → HoldsByRow P c → is_closing c.phase ≡ false → P (header_step c k)
header_rows P c k rows early = by (awaits_header k c.phase) refl
  where
    by : (b : Bool) → awaits_header k c.phase ≡ b
        → P (cond {A = Step} b (record c { phase = phase_after k; stream = stream.Frames }, Nothing) (violated c condition.FramingError (spoiled c.stream)))
    by true e = rows.greeted k early (awaits_early k c.phase e) e
    by false e = rows.violated condition.FramingError (spoiled c.stream) early

ordered_rows : (P : Step → Type 0) (c : Upstream) (u : Unit10) → HoldsByRow P c → is_closing c.phase ≡ false → P (ordered_step c u)
ordered_rows P c (unit.Header k) rows early = header_rows P c k rows early
ordered_rows P c (unit.Bad why) rows early = rows.violated why (spoiled c.stream) early
ordered_rows P c (unit.Frame f) rows early = body_rows P c f.kind f.channel (body_in f.kind f.body) rows early

closing_rows : (P : Step → Type 0) (c : Upstream) (u : Unit10) → HoldsByRow P c → is_closing c.phase ≡ true → P (closing_step c u)
closing_rows P c (unit.Header k) rows late = rows.passed (spoiled c.stream) late
closing_rows P c (unit.Bad why) rows late = rows.passed (spoiled c.stream) late
closing_rows P c (unit.Frame f) rows late = late_rows P c f.kind f.channel (body_in f.kind f.body) rows late

-- what holds of each row holds of the step; a connection that is closed only passes units over
pub step_rows : (P : Step → Type 0) (c : Upstream) (u : Unit10) → HoldsByRow P c → P (unit_step c u)
step_rows P c u rows = by c.phase refl
  where
    by : (q : Phase10) → c.phase ≡ q → P (step_in q c u)
    by phase.SaslHeader e = ordered_rows P c u rows (ap is_closing e)
    by phase.Mechanisms e = ordered_rows P c u rows (ap is_closing e)
    by phase.Outcome e = ordered_rows P c u rows (ap is_closing e)
    by phase.AmqpHeader e = ordered_rows P c u rows (ap is_closing e)
    by phase.Open e = ordered_rows P c u rows (ap is_closing e)
    by phase.Running e = ordered_rows P c u rows (ap is_closing e)
    by phase.Closing e = closing_rows P c u rows (ap is_closing e)
    by phase.Closed e = rows.passed (stream_after u c.stream) (ap is_closing e)
