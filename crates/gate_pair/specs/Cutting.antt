-- How the bytes of a read are cut into the units of an end (AMQP 0-9-1 4.2.2 and 4.2.3; AMQP 1.0
-- 2.2 and 2.3).
use Rattle.std.specs.Prelude.{ℕ, zero, suc, ◌≤◌, List, [], ◌∷◌, length}
use Rattle.std.specs.Prelude.{drop, Option, None, Some}
use Rattle.close_translate.specs.declared.codes.TheConstants.{FRAME_ERROR}
use Rattle.frames_091.specs.FrameScan.{scan_of}
use Rattle.frames_091.specs.Headers.{header_scan}
use Rattle.frames_10.specs.FrameScan as frames_10
use Rattle.frames_10.specs.Headers as headers_10
use Rattle.gate_outside.specs.declared.ports.End.{End}
use Rattle.gate_outside.specs.declared.ports.End.TheVariants.{Client, Up}
use Rattle.machine_091.specs.State.{awaits}
use Rattle.machine_091.specs.declared.limits.TheConstants.{FRAME_MIN_SIZE}
use Rattle.machine_091.specs.declared.state.Awaited91.{Awaited91}
use Rattle.machine_091.specs.declared.state.Awaited91.TheVariants as awaited
use Rattle.machine_091.specs.declared.unit.Unit91.{Unit91}
use Rattle.machine_091.specs.declared.unit.Unit91.TheVariants as unit
use Rattle.machine_10.specs.declared.limits.TheConstants.{FRAME_MAX}
use Rattle.machine_10.specs.declared.state.Awaited10.{Awaited10}
use Rattle.machine_10.specs.declared.state.Awaited10.TheVariants as awaited_10
use Rattle.machine_10.specs.declared.unit.Unit10.{Unit10}
use Rattle.machine_10.specs.declared.unit.Unit10.TheVariants as unit_10
use Rattle.performatives_10.specs.declared.condition.Condition.{Condition}
use Rattle.performatives_10.specs.declared.condition.Condition.TheVariants.{FramingError}
use Rattle.wire_base.specs.declared.scan.Scan.{Scan}
use Rattle.wire_base.specs.declared.scan.Scan.TheVariants.{Whole, More, Bad}
use Rattle.gate_model.specs.State.{State, Step, Queued, Came, Heard, next_unit, step}
use Rattle.gate_model.specs.Upstream.{awaited_of}

-- ---- units

-- what a scan finds, as a unit, or what is told of bytes with which none begins
abbrev pub as_unit : {A F U C : Type 0} → (A → U) → C → Scan A F → Scan U C
as_unit make code (Whole x n) = Whole (make x) n
as_unit make code More = More
as_unit make code (Bad fault) = Bad code

-- the client's unit with which bytes begin, as one is awaited, or a reply code; bytes of no
-- protocol header have none, and where nothing is awaited nothing is found
abbrev pub unit_scan : Awaited91 → List ℕ → Scan Unit91 ℕ
unit_scan awaited.Header bytes = as_unit (λ header. unit.Protocol) 0 (header_scan bytes)
unit_scan (awaited.Frame size) bytes = as_unit unit.Frame FRAME_ERROR (scan_of size bytes)
unit_scan awaited.Nothing bytes = More

-- the same of the container's, with a condition
abbrev pub up_scan : Awaited10 → List ℕ → Scan Unit10 Condition
up_scan (awaited_10.Header k) bytes =
    as_unit (λ header. unit_10.Header k) FramingError (headers_10.header_scan k bytes)
up_scan awaited_10.Frame bytes =
    as_unit unit_10.Frame FramingError (frames_10.scan_of FRAME_MAX bytes)
up_scan awaited_10.Nothing bytes = More

-- the size of a frame that is awaited isn't below the least
abbrev pub IsLongEnough : Awaited91 → Type 0
IsLongEnough awaited.Header = Unit {0}
IsLongEnough (awaited.Frame size) = FRAME_MIN_SIZE ≤ size
IsLongEnough awaited.Nothing = Unit {0}

-- a unit that is found takes some bytes, and no more than there are
abbrev pub IsWithin : {U C : Type 0} → List ℕ → Scan U C → Type 0
IsWithin bytes (Whole u n) = (1 ≤ n) × (n ≤ length bytes)
IsWithin bytes More = Unit {0}
IsWithin bytes (Bad code) = Unit {0}

-- ---- steps

-- steps from a state on, the newest first
abbrev pub after : List Step → State → State
after [] w = w
after (s ∷ g) w = step (after g w) s

-- a unit as the step that it makes
abbrev pub as_step : {U C : Type 0} → (U → Step) → (C → U) → Scan U C → Scan Step Step
as_step make bad (Whole u n) = Whole (make u) n
as_step make bad More = More
as_step make bad (Bad code) = Bad (make (bad code))

-- the step that the bytes of an end begin with: a unit of the client waits to be taken up
abbrev pub step_scan : End → State → List ℕ → Scan Step Step
step_scan Client w bytes = as_step Queued unit.Bad (unit_scan (awaits w.conn) bytes)
step_scan Up w bytes = as_step Heard unit_10.Bad (up_scan (awaited_of w.up.container) bytes)

-- ---- taking up

abbrev pub on_next : Option Unit91 → List Step → (Unit91 → List Step) → List Step
on_next None none some = none
on_next (Some u) none some = some u

-- units of the client are taken up as long as one can be; g are the steps since the state w
abbrev pub settled : State → ℕ → List Step → List Step
settled w zero g = g
settled w (suc f) g = on_next (next_unit (after g w)) g (λ u. settled w f (Came u ∷ g))

abbrev pub settle : State → List Step → List Step
settle w g = settled w (length (after g w).queue) g

-- so it is behind each unit of the client
abbrev pub behind : End → State → List Step → List Step
behind Client w g = settle w g
behind Up w g = g

-- ---- reads

-- the steps of a read, and the bytes that are no unit yet
pub record Cut : Type 0 where
  pub fresh : List Step
  pub unread : List ℕ

abbrev pub cut_of : List Step → List ℕ → Cut
cut_of g bytes = record { fresh = g; unread = bytes }

abbrev pub on_scan : Scan Step Step → Cut → (Step → Cut) → (Step → ℕ → Cut) → Cut
on_scan More more bad whole = more
on_scan (Bad s) more bad whole = bad s
on_scan (Whole s n) more bad whole = whole s n

-- what can be taken up is, before the next unit is cut, as it is awaited then; there are no more
-- units than bytes. Bytes with which no unit begins end the stream
abbrev pub read_end : End → State → ℕ → List Step → List ℕ → Cut
read_end end w zero g bytes = cut_of g bytes
read_end end w (suc f) g bytes =
    on_scan (step_scan end (after g w) bytes) (cut_of g bytes) (λ s. cut_of (behind end w
    (s ∷ g)) [])
    (λ s n. read_end end w f (behind end w (s ∷ g)) (drop n bytes))

abbrev pub cut_all : End → State → List ℕ → Cut
cut_all end w bytes = read_end end w (length bytes) (behind end w []) bytes
