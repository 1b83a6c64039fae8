-- How a log is spelled in a capture, version 1: an entry for each call, in the order of the calls.
-- Numbers are big-endian.
use Rattle.std.specs.Prelude.{◌≡◌, ℕ, ◌<◌, ◌≤◌, ◌^◌, List, [], ◌∷◌, ◌++◌, length}
use Rattle.std.specs.Int.{w32, w64, to_be_bytes}
use Rattle.gate_outside.specs.declared.ports.End.{End}
use Rattle.gate_outside.specs.declared.ports.Accepted.{Accepted}
use Rattle.gate_outside.specs.declared.ports.Accepted.TheVariants as accepted
use Rattle.gate_outside.specs.declared.ports.Linked.{Linked}
use Rattle.gate_outside.specs.declared.ports.Linked.TheVariants as linked
use Rattle.gate_outside.specs.declared.ports.Got.{Got}
use Rattle.gate_outside.specs.declared.ports.Got.TheVariants as got
use Rattle.gate_outside.specs.declared.ports.Put.{Put}
use Rattle.gate_outside.specs.declared.ports.Put.TheVariants as put
use Rattle.gate_outside.specs.declared.log.LogEntry.{LogEntry}
use Rattle.gate_outside.specs.declared.log.LogEntry.TheVariants as entry
use Rattle.gate_outside.specs.Ends.{TakesSome}
use Rattle.gate_capture.specs.Kinds.{end_byte, next_byte}

-- the pair in four bytes, and its end
abbrev pub end_text : ℕ → End → List ℕ
end_text pair end = to_be_bytes w32 pair ++ end_byte end ∷ []

abbrev pub accepted_text : Accepted → List ℕ
accepted_text accepted.NotYet = 0 ∷ []
accepted_text (accepted.Pair pair) = 1 ∷ to_be_bytes w32 pair
accepted_text accepted.Failed = 2 ∷ []

abbrev pub linked_text : Linked → List ℕ
linked_text linked.Ok = 1 ∷ []
linked_text linked.Failed = 2 ∷ []

-- the bytes that came stand behind their length
abbrev pub got_text : Got → List ℕ → List ℕ
got_text got.NotYet bytes = 0 ∷ []
got_text (got.Bytes n) bytes = 1 ∷ to_be_bytes w32 n ++ bytes
got_text got.Failed bytes = 2 ∷ []
got_text got.Ended bytes = 3 ∷ []

abbrev pub put_text : Put → List ℕ
put_text put.NotYet = 0 ∷ []
put_text (put.Took n) = 1 ∷ to_be_bytes w32 n
put_text put.Failed = 2 ∷ []

-- the kind of the call, its arguments and its answer
abbrev pub spelling_of : LogEntry → List ℕ
spelling_of (entry.Accept answer) = 1 ∷ accepted_text answer
spelling_of (entry.Connect pair answer) = 2 ∷ to_be_bytes w32 pair ++ linked_text answer
spelling_of (entry.Read pair end room answer bytes) =
    3 ∷ end_text pair end ++ to_be_bytes w32 room ++ got_text answer bytes
spelling_of (entry.Write pair end bytes answer) =
    4 ∷ end_text pair end ++ to_be_bytes w32 (length bytes) ++ bytes ++ put_text answer
spelling_of (entry.Shut pair end) = 5 ∷ end_text pair end
spelling_of (entry.Idle answer) = 6 ∷ next_byte answer ∷ []
spelling_of (entry.Now ms) = 7 ∷ to_be_bytes w64 ms

-- what a read says that came: as many bytes as its answer says, at least one and no more than there
-- was room for
abbrev pub HasCome : Got → ℕ → List ℕ → Type 0
HasCome (got.Bytes n) room bytes = (n ≡ length bytes) × (1 ≤ n) × (n ≤ room)
HasCome got.NotYet room bytes = bytes ≡ []
HasCome got.Ended room bytes = bytes ≡ []
HasCome got.Failed room bytes = bytes ≡ []

-- what a write offered: at least one byte, fewer than 2^32, and no fewer than were taken
pub record IsOffer (bytes : List ℕ) (answer : Put) : Type 0 where
  pub some : 1 ≤ length bytes
  pub small : length bytes < 2 ^ 32
  pub taken : TakesSome answer (length bytes)

-- the entries that have a spelling
abbrev pub HasSpelling : LogEntry → Type 0
HasSpelling (entry.Accept answer) = Unit {0}
HasSpelling (entry.Connect pair answer) = Unit {0}
HasSpelling (entry.Read pair end room answer bytes) = HasCome answer room bytes
HasSpelling (entry.Write pair end bytes answer) = IsOffer bytes answer
HasSpelling (entry.Shut pair end) = Unit {0}
HasSpelling (entry.Idle answer) = Unit {0}
HasSpelling (entry.Now ms) = Unit {0}
