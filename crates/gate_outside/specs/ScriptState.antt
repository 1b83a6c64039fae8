-- Scripted ports: how each call is answered, and what is left of the script after it.
use Rattle.std.specs.Prelude.{ℕ, ◌-◌, ◌≤◌, ◌==◌, if◌then◌else◌, true, List, [], length}
use Rattle.std.specs.List.{find}
use Rattle.gate_outside.specs.declared.ports.End.{End}
use Rattle.gate_outside.specs.declared.ports.Accepted.{Accepted}
use Rattle.gate_outside.specs.declared.ports.Accepted.TheVariants as accepted
use Rattle.gate_outside.specs.declared.ports.Linked.{Linked}
use Rattle.gate_outside.specs.declared.ports.Linked.TheVariants as linked
use Rattle.gate_outside.specs.declared.ports.Got.{Got}
use Rattle.gate_outside.specs.declared.ports.Got.TheVariants as got
use Rattle.gate_outside.specs.declared.ports.Put.{Put}
use Rattle.gate_outside.specs.declared.ports.Put.TheVariants as put
use Rattle.gate_outside.specs.declared.ports.Next.{Next}
use Rattle.gate_outside.specs.declared.ports.Next.TheVariants as next
use Rattle.gate_outside.specs.declared.log.Call.{Call}
use Rattle.gate_outside.specs.declared.calls.Calls.{Calls}
use Rattle.gate_outside.specs.declared.pieces.Piece.{Piece}
use Rattle.gate_outside.specs.declared.rooms.Room.{Room}
use Rattle.gate_outside.specs.declared.telling.Telling.{Telling}
use Rattle.gate_outside.specs.declared.script.Script.{Script}
use Rattle.gate_outside.specs.CallCounts.{is_to_fail, counted, tried}
use Rattle.gate_outside.specs.Ends.{ends_linked, closed}
use Rattle.gate_outside.specs.Script.{PairsState, ClockState, pair_answer, pairs_accepted, taken_at}
use Rattle.gate_outside.specs.Script.{more_taken, current_piece, pieces_answer, pieces_after}
use Rattle.gate_outside.specs.Script.{is_room_of, room_answer, rooms_after, clock_after}
use Rattle.gate_outside.specs.Telling.{told}

-- what is left of a script, the calls and pairs so far, and the log
pub record ScriptState : Type 0 where
  pub calls : Calls
  pub pairs : PairsState
  pub pieces : List Piece
  pub rooms : List Room
  pub idles : ℕ
  pub clock : ClockState
  pub telling : Telling

-- before the first call
abbrev pub fresh : Script → ℕ → ℕ → ScriptState
fresh script entries bytes = record {
  calls = record { fails = script.fails; call = 0; faults = 0 };
  pairs = record { most = script.pairs; taken = []; ends = [] };
  pieces = script.pieces;
  rooms = script.rooms;
  idles = script.idles;
  clock = record { next = 0; step = script.step; last = 0 };
  telling = record { log = record { entries = []; entry_room = entries; byte_room = bytes }; tells = true };
}

-- each call adds its entry while it finds room
abbrev pub logged : Call → List ℕ → ScriptState → ScriptState
logged call bytes script = record script { telling = told call bytes script.telling }

-- each call fails where its number says so; else accept gives the next pair
abbrev pub accept_answer : ScriptState → Accepted
accept_answer script = if is_to_fail script.calls then accepted.Failed else pair_answer script.pairs

-- a failed accept uses no pair
abbrev pub after_accept : Accepted → ScriptState → ScriptState
after_accept answer script =
    record script { calls = tried script.calls; pairs = pairs_accepted answer script.pairs }

-- a connect that does not fail opens the upstream end
abbrev pub connect_answer : ScriptState → Linked
connect_answer script = if is_to_fail script.calls then linked.Failed else linked.Ok

-- the pair's upstream end is open where the answer is Ok
abbrev pub after_connect : ℕ → Linked → ScriptState → ScriptState
after_connect pair answer script = record script {
  calls = tried script.calls;
  pairs = record script.pairs { ends = ends_linked answer pair script.pairs.ends };
}

-- a read gives from the first piece of its end that is not used up, once that piece is readable
abbrev pub read_answer : ℕ → End → ℕ → ScriptState → Got
read_answer pair end room script =
    if is_to_fail script.calls then got.Failed
    else pieces_answer room (taken_at pair end script.pairs) (current_piece pair end script.pieces)

-- a read uses what came of its piece
abbrev pub after_read : ℕ → End → Got → ScriptState → ScriptState
after_read pair end answer script =
    record script { calls = tried script.calls; pieces = pieces_after pair end answer script.pieces }

-- the bytes that came are in the buffer
abbrev pub HasCome : Got → List ℕ → Type 0
HasCome (got.Bytes n) buffer = n ≤ length buffer
HasCome got.NotYet buffer = Unit {0}
HasCome got.Ended buffer = Unit {0}
HasCome got.Failed buffer = Unit {0}

-- a write takes what the first room of its end says
abbrev pub write_answer : ℕ → End → ℕ → ScriptState → Put
write_answer pair end offered script =
    if is_to_fail script.calls then put.Failed else room_answer offered (find
    (is_room_of pair end) script.rooms)

-- a write that failed uses no room
abbrev pub rooms_written : ℕ → End → Put → List Room → List Room
rooms_written pair end (put.Took n) rooms = rooms_after pair end rooms
rooms_written pair end put.NotYet rooms = rooms_after pair end rooms
rooms_written pair end put.Failed rooms = rooms

-- the bytes that were taken are counted
abbrev pub pairs_written : ℕ → End → Put → PairsState → PairsState
pairs_written pair end (put.Took n) pairs = more_taken pair end n pairs
pairs_written pair end put.NotYet pairs = pairs
pairs_written pair end put.Failed pairs = pairs

-- a write uses one room
abbrev pub after_write : ℕ → End → Put → ScriptState → ScriptState
after_write pair end answer script = record script {
  calls = tried script.calls;
  rooms = rooms_written pair end answer script.rooms;
  pairs = pairs_written pair end answer script.pairs;
}

-- a shut closes its end
abbrev pub after_shut : ℕ → End → ScriptState → ScriptState
after_shut pair end script = record script {
  calls = counted script.calls;
  pairs = record script.pairs { ends = closed pair end script.pairs.ends };
}

-- Go as often as the script says, and then Stop
abbrev pub idle_answer : ScriptState → Next
idle_answer script = if script.idles == 0 then next.Stop else next.Go

-- one Go less is left
abbrev pub after_idle : ScriptState → ScriptState
after_idle script = record script { calls = counted script.calls; idles = script.idles - 1 }

-- the moment was given
abbrev pub after_now : ScriptState → ScriptState
after_now script = record script { calls = counted script.calls; clock = clock_after script.clock }
