-- A log that is told until an entry finds no room.
use Rattle.std.specs.Prelude.{ℕ, true, false, ◌&&◌, if◌then◌else◌, List, length, reverse, Option}
use Rattle.std.specs.Prelude.{None, Some}
use Rattle.gate_outside.specs.declared.log.LogEntry.{LogEntry}
use Rattle.gate_outside.specs.declared.log.Call.{Call}
use Rattle.gate_outside.specs.declared.telling.Telling.{Telling}
use Rattle.gate_outside.specs.LogState.{finds_room, added}

-- the entries, the newest first, while they are told
abbrev pub told_log : Telling → Option (List LogEntry)
told_log telling = if telling.tells then Some (reverse telling.log.entries) else None

-- an entry that finds no room ends the telling for good
abbrev pub told : Call → List ℕ → Telling → Telling
told call bytes telling =
    if telling.tells && finds_room (length bytes) telling.log
    then record { log = added call bytes telling.log; tells = true }
    else record telling { tells = false }
