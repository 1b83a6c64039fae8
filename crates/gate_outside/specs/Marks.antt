-- The marks of a log over its byte string.
use Rattle.std.specs.Prelude.{ℕ, ◌+◌, ◌≤◌, List, [], ◌∷◌, length, take, drop, map, vec_len}
use Rattle.std.specs.Prelude.{vec_capacity}
use Rattle.gate_outside.specs.declared.log.LogEntry.{LogEntry}
use Rattle.gate_outside.specs.declared.log.Mark.{Mark}
use Rattle.gate_outside.specs.declared.log.Log.TheInside.{Inside}
use Rattle.gate_outside.specs.LogState.{LogState, entry_of}

-- the entry of a mark
abbrev pub entry_at : List ℕ → Mark → LogEntry
entry_at bytes mark = entry_of mark.call (take mark.len (drop mark.start bytes))

-- each mark stays within a byte string of this length
abbrev pub AreWithin : ℕ → List Mark → Type 0
AreWithin count [] = Unit {0}
AreWithin count (mark ∷ marks) = (mark.start + mark.len ≤ count) × AreWithin count marks

abbrev pub log_state : Inside → LogState
log_state a = record {
  entries = map (entry_at a.bytes.items) a.marks.items;
  entry_room = a.entry_room;
  byte_room = a.byte_room;
}

-- the marks are within the bytes, and what finds room was reserved
pub record HasReserved (a : Inside) : Type 0 where
  pub within : AreWithin (length a.bytes.items) a.marks.items
  pub entries : vec_len a.marks + a.entry_room ≤ vec_capacity a.marks
  pub bytes : vec_len a.bytes + a.byte_room ≤ vec_capacity a.bytes
