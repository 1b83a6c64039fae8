-- The words of a ferry, from its entries alone. All lists of entries are newest first.
use Rattle.std.specs.Prelude.{ℕ, nat_lt, nat_le, nat_eq, Bool, true, false, not, ◌&&◌, ◌||◌}
use Rattle.std.specs.Prelude.{List, [], ◌∷◌, ◌++◌, length, take, drop, slice_get, codes}
use Rattle.std.specs.Prelude.{Option, None, Some, is_some, unwrap_or, if◌then◌else◌}
use Rattle.gate_outside.specs.declared.ports.End.{End}
use Rattle.gate_outside.specs.declared.ports.End.TheVariants.{Client, Up}
use Rattle.gate_outside.specs.declared.ports.Linked.TheVariants as linked
use Rattle.gate_relay.specs.declared.loss.Loss.TheVariants as loss
use Rattle.gate_relay.specs.declared.sides.Side.{Side}
use Rattle.gate_relay.specs.declared.sides.Side.TheVariants as side
use Rattle.gate_relay.specs.declared.sides.Sides.{Sides}
use Rattle.gate_relay.specs.Entries.{Entry, Began, Moment, Came, Settled, Joined, Took, Lost}
use Rattle.gate_relay.specs.Entries.{OutOfMemory, is_out_of_memory}
use Rattle.gate_relay.specs.RelayWords.{RelayWords}
use Rattle.gate_relay.specs.Sides.{sides, side_of}
use Rattle.tests_gate.specs.declared.gate.note.Note.{Note}
use Rattle.tests_gate.specs.declared.gate.note.Note.TheVariants as note

-- ---- what its entries say

abbrev pub greeting : List ℕ
greeting = codes "hi"

-- what upstream is offered once the pair ran out of memory
abbrev pub farewell : List ℕ
farewell = codes "!"

-- the bytes for the client: the greeting and what came from upstream, as far as they weren't taken
abbrev pub for_client : List Entry → List ℕ
for_client [] = []
for_client (Began p ms ∷ h) = greeting
for_client (Came Up bytes ∷ h) = for_client h ++ bytes
for_client (Took Client bytes n ∷ h) = drop n (for_client h)
for_client (OutOfMemory cut ∷ h) = []
for_client (x ∷ h) = for_client h

-- the bytes for upstream: what came from the client, as far as it wasn't taken
abbrev pub for_up : List Entry → List ℕ
for_up [] = []
for_up (Came Client bytes ∷ h) = for_up h ++ bytes
for_up (Took Up bytes n ∷ h) = drop n (for_up h)
for_up (OutOfMemory cut ∷ h) = farewell
for_up (x ∷ h) = for_up h

-- what came from the client was taken up
abbrev pub is_settled : List Entry → Bool
is_settled [] = true
is_settled (Came Client bytes ∷ h) = false
is_settled (Settled ∷ h) = true
is_settled (OutOfMemory cut ∷ h) = true
is_settled (x ∷ h) = is_settled h

-- the first byte of the last read that gave bytes is an order
abbrev pub order : List Entry → ℕ
order [] = 0
order (Came end bytes ∷ h) = unwrap_or (slice_get bytes 0) (order h)
order (x ∷ h) = order h

-- what is told of the newest entry
abbrev pub note_of : List Entry → Note
note_of [] = note.Nothing
note_of (Moment ms ∷ h) = if nat_le 1000 ms then note.Late else note.Nothing
note_of (Came Client bytes ∷ h) = note.FromClient
note_of (Came Up bytes ∷ h) = note.FromUpstream
note_of (Settled ∷ h) = note.TakenUp
note_of (Joined linked.Ok ∷ h) = note.Joined
note_of (Joined linked.Failed ∷ h) = note.Refused
note_of (Lost end loss.Ended ∷ h) = note.Ended
note_of (Lost end loss.Failed ∷ h) = note.Failed
note_of (Lost end loss.Shut ∷ h) = note.Shut
note_of (OutOfMemory cut ∷ h) = note.Parting
note_of (x ∷ h) = note.Nothing

abbrev pub text_of : Note → List ℕ
text_of note.Nothing = []
text_of note.Late = codes "late\n"
text_of note.FromClient = codes "from client\n"
text_of note.FromUpstream = codes "from upstream\n"
text_of note.TakenUp = codes "taken up\n"
text_of note.Joined = codes "joined\n"
text_of note.Refused = codes "refused\n"
text_of note.Ended = codes "ended\n"
text_of note.Failed = codes "failed\n"
text_of note.Shut = codes "shut\n"
text_of note.Parting = codes "parting\n"

-- ---- its words

-- at most eight bytes are offered at once
abbrev pub front : List ℕ → Option (List ℕ)
front bytes = if nat_lt 0 (length bytes) then Some (take 8 bytes) else None

-- what is offered to an end, from what waits for each, and whether what came was taken up
abbrev pub offered : List ℕ → List ℕ → Bool → End → Option (List ℕ)
offered client up settled Client = front client
offered client up settled Up = if settled then front up else None

abbrev pub offer : End → List Entry → Option (List ℕ)
offer end h = offered (for_client h) (for_up h) (is_settled h) end

-- the client is read while nothing of it waits
abbrev pub awaits : End → List Entry → Bool
awaits Client h = nat_eq (length (for_up h)) 0
awaits Up h = true

-- the orders `C` and `U`: what is offered next to this end runs out of memory
abbrev pub memory_order : End → ℕ
memory_order Client = 67
memory_order Up = 85

-- the order `Q`: both ends are to be shut; the order `P`: the end upstream
abbrev pub is_shut_order : End → ℕ → Bool
is_shut_order Client o = nat_eq o 81
is_shut_order Up o = nat_eq o 81 || nat_eq o 80

abbrev pub is_failed : Side → Bool
is_failed side.Failed = true
is_failed s = false

abbrev pub is_ended : Side → Bool
is_ended side.Ended = true
is_ended s = false

abbrev pub is_gone : Side → Bool
is_gone side.Gone = true
is_gone s = false

-- an end that ended, and that upstream if the client is gone, is shut once nothing is offered to it
abbrev pub leaves : End → Sides → Bool
leaves Client s = is_ended s.client
leaves Up s = is_ended s.up || is_gone s.client

abbrev pub shut_due : End → List Entry → Bool
shut_due end h = is_failed (side_of end (sides h)) || (is_shut_order end (order h)
    || (not (is_some (offer end h)) && (leaves end (sides h) || is_out_of_memory h)))

-- the connection is asked for once bytes for upstream wait and none for the client
abbrev pub connects : List Entry → Bool
connects h = is_settled h && (nat_lt 0 (length (for_up h)) && nat_eq (length (for_client h)) 0)

unfoldable pub ferry_words : RelayWords
ferry_words = record {
  awaits = awaits;
  takes_up = λ h. not (is_settled h);
  connects = connects;
  offer = offer;
  takes_memory = λ end h. nat_eq (order h) (memory_order end);
  shut_due = shut_due;
  lines = λ h. text_of (note_of h);
}
