-- Of whom calls are asked.
use Rattle.std.specs.Prelude.{◌≡◌, true, [], ◌∷◌}
use Rattle.gate_outside.specs.declared.ports.End.TheVariants.{Up}
use Rattle.gate_outside.specs.declared.log.LogEntry.{LogEntry}
use Rattle.gate_outside.specs.declared.log.LogEntry.TheVariants.{Accept, Connect, Read, Write, Shut}
use Rattle.gate_outside.specs.declared.log.LogEntry.TheVariants.{Idle, Now}
use Rattle.gate_relay.specs.Sides.{sides, side_of, is_readable, is_writable, is_open_side}
use Rattle.gate_relay.specs.Sides.{is_absent}
use Rattle.gate_runs.specs.Marks.{History, Call, Refuse, TakeUp, RunOut, Finish}
use Rattle.gate_runs.specs.Journal.{journal}
use Rattle.gate_turn_laws.specs.Pairs.{is_live}

-- of which pairs and ends a call may be asked, after m
abbrev pub AskedOfLive : History → LogEntry → Type 0
AskedOfLive m (Accept answer) = Unit {0}
AskedOfLive m (Connect p answer) =
    (is_live p m ≡ true) × (is_absent (side_of Up (sides (journal p m))) ≡ true)
AskedOfLive m (Read p end room answer bytes) =
    (is_live p m ≡ true) × (is_readable (side_of end (sides (journal p m))) ≡ true)
AskedOfLive m (Write p end bytes answer) =
    (is_live p m ≡ true) × (is_writable (side_of end (sides (journal p m))) ≡ true)
AskedOfLive m (Shut p end) =
    (is_live p m ≡ true) × (is_open_side (side_of end (sides (journal p m))) ≡ true)
AskedOfLive m (Idle answer) = Unit {0}
AskedOfLive m (Now ms) = Unit {0}

-- pairs that live alone are read, connected, written to and shut: an end is read and written to
-- while it is open for that, shut while it is open, and the connection upstream is asked for once
abbrev pub AsksLive : History → Type 0
AsksLive [] = Unit {0}
AsksLive (Call entry ∷ m) = AskedOfLive m entry × AsksLive m
AsksLive (Refuse p ∷ m) = (is_live p m ≡ true) × AsksLive m
AsksLive (TakeUp p ∷ m) = (is_live p m ≡ true) × AsksLive m
AsksLive (RunOut p s cut ∷ m) = (is_live p m ≡ true) × AsksLive m
AsksLive (Finish how ∷ m) = AsksLive m
