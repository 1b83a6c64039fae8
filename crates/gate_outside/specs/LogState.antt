-- What a log holds, and the room that it has left.
use Rattle.std.specs.Prelude.{ℕ, ◌-◌, Bool, ◌&&◌, nat_lt, nat_le, List, [], ◌∷◌, ◌++◌, length}
use Rattle.gate_outside.specs.declared.log.LogEntry.{LogEntry}
use Rattle.gate_outside.specs.declared.log.LogEntry.TheVariants as entry
use Rattle.gate_outside.specs.declared.log.Call.{Call}
use Rattle.gate_outside.specs.declared.log.Call.TheVariants as call

-- the entries in the order of the calls, and how many entries and bytes still find room
pub record LogState : Type 0 where
  pub entries : List LogEntry
  pub entry_room : ℕ
  pub byte_room : ℕ

-- the entry of a call, with the bytes that came or were offered
abbrev pub entry_of : Call → List ℕ → LogEntry
entry_of (call.Accept answer) bytes = entry.Accept answer
entry_of (call.Connect pair answer) bytes = entry.Connect pair answer
entry_of (call.Read pair end room answer) bytes = entry.Read pair end room answer bytes
entry_of (call.Write pair end answer) bytes = entry.Write pair end bytes answer
entry_of (call.Shut pair end) bytes = entry.Shut pair end
entry_of (call.Idle answer) bytes = entry.Idle answer
entry_of (call.Now ms) bytes = entry.Now ms

-- an entry with so many bytes finds room
abbrev pub finds_room : ℕ → LogState → Bool
finds_room count log = nat_lt 0 log.entry_room && nat_le count log.byte_room

-- the log with an entry more at its end
abbrev pub added : Call → List ℕ → LogState → LogState
added call bytes log = record {
  entries = log.entries ++ entry_of call bytes ∷ [];
  entry_room = log.entry_room - 1;
  byte_room = log.byte_room - length bytes;
}
