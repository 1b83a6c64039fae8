-- The lists of steps that a pair makes: what goes out is the pick, moments don't fall, what comes
-- in is what is awaited, and the pair runs out of memory once.
use Rattle.std.specs.Prelude.{◌≡◌, ◌≤◌, false, true, List, [], ◌∷◌, Some, is_some}
use Rattle.std.specs.List.{list_any}
use Rattle.close_translate.specs.declared.codes.TheConstants.{FRAME_ERROR}
use Rattle.machine_091.specs.State.{awaits}
use Rattle.machine_091.specs.declared.state.Awaited91.{Awaited91}
use Rattle.machine_091.specs.declared.state.Awaited91.TheVariants as awaited
use Rattle.machine_091.specs.declared.unit.Unit91.{Unit91}
use Rattle.machine_091.specs.declared.unit.Unit91.TheVariants as unit
use Rattle.gate_outside.specs.declared.ports.End.TheVariants.{Client, Up}
use Rattle.machine_10.specs.declared.state.Awaited10.{Awaited10}
use Rattle.machine_10.specs.declared.state.Awaited10.TheVariants as awaited_10
use Rattle.machine_10.specs.declared.unit.Unit10.{Unit10}
use Rattle.machine_10.specs.declared.unit.Unit10.TheVariants as unit_10
use Rattle.performatives_10.specs.declared.condition.Condition.TheVariants.{FramingError}
use Rattle.gate_model.specs.declared.outgoing.Outgoing.TheVariants.{ToClient, ToUp}
use Rattle.gate_model.specs.Queue.{is_bad_unit}
use Rattle.gate_model.specs.State.{State, Step, Began, Moment, Fed, Silent, Queued, Came, TakenUp}
use Rattle.gate_model.specs.State.{Heard, Joined}
use Rattle.gate_model.specs.State.{LinesTold, Lost, Gave, Whole, OutOfMemory, before, next_unit}
use Rattle.gate_model.specs.State.{place}
use Rattle.gate_model.specs.Due.{can_leave, carries_back, carries_up, is_busy, is_connect_due}
use Rattle.gate_model.specs.Due.{is_silent, pick}
use Rattle.gate_model.specs.Folds.{container, moment_in, ran_out_in}
use Rattle.gate_model.specs.Upstream.{awaited_of}

-- the protocol header or frames, as they are awaited, or bytes with which none begins
abbrev pub MayComeAs : Awaited91 → Unit91 → Type 0
MayComeAs awaited.Header unit.Protocol = Unit {0}
MayComeAs awaited.Header (unit.Frame f) = ⊥
MayComeAs awaited.Header (unit.Bad code) = code ≡ 0
MayComeAs (awaited.Frame size) unit.Protocol = ⊥
MayComeAs (awaited.Frame size) (unit.Frame f) = Unit {0}
MayComeAs (awaited.Frame size) (unit.Bad code) = code ≡ FRAME_ERROR
MayComeAs awaited.Nothing u = ⊥

-- a header of the kind that is awaited or of the other one, frames, or bytes with which no unit
-- begins
abbrev pub MayBeHeard : Awaited10 → Unit10 → Type 0
MayBeHeard (awaited_10.Header k) (unit_10.Header kind) = Unit {0}
MayBeHeard (awaited_10.Header k) (unit_10.Frame f) = ⊥
MayBeHeard (awaited_10.Header k) (unit_10.Bad why) = why ≡ FramingError
MayBeHeard awaited_10.Frame (unit_10.Header kind) = ⊥
MayBeHeard awaited_10.Frame (unit_10.Frame f) = Unit {0}
MayBeHeard awaited_10.Frame (unit_10.Bad why) = why ≡ FramingError
MayBeHeard awaited_10.Nothing u = ⊥

-- a further unit comes once none before it can be taken up, and none behind bytes with which no
-- unit begins
pub record MayQueue (w : State) : Type 0 where
  pub taken : is_some (place w) ≡ false
  pub good : list_any is_bad_unit w.queue ≡ false

-- what a step wants of those before it
abbrev pub MayStep : List Step → Step → Type 0
MayStep h (Began site n ms) = h ≡ []
MayStep h (Moment ms) = moment_in h ≤ ms
MayStep h (Fed end) = Unit {0}
MayStep h (Silent end) = is_silent (before h) end ≡ true
MayStep h (Queued u) = MayComeAs (awaits (before h).conn) u × MayQueue (before h)
MayStep h (Came u) = next_unit (before h) ≡ Some u
MayStep h TakenUp = can_leave (before h) ≡ true
MayStep h (Heard u) = MayBeHeard (awaited_of (container h)) u
MayStep h (Joined answer) = is_connect_due (before h) ≡ true
MayStep h (Lost end how) = Unit {0}
MayStep h (Gave (ToClient u) text) =
    (is_busy (before h) Client ≡ false) × (pick (before h) Client ≡ Some (ToClient u))
    × (text ≡ carries_back (before h) u)
MayStep h (Gave (ToUp u) text) =
    (is_busy (before h) Up ≡ false) × (pick (before h) Up ≡ Some (ToUp u))
    × (text ≡ carries_up (before h) u)
MayStep h (Whole end) = is_busy (before h) end ≡ true
MayStep h LinesTold = Unit {0}
MayStep h OutOfMemory = ran_out_in h ≡ false

abbrev pub ArePicks : List Step → Type 0
ArePicks [] = Unit {0}
ArePicks (s ∷ h) = MayStep h s × ArePicks h
