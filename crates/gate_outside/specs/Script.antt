-- How scripted ports answer, and what each answer does to what is left of their script.
use Rattle.std.specs.Prelude.{ℕ, ◌+◌, ◌==◌, Bool, true, false, not, ◌&&◌, if◌then◌else◌, nat_lt}
use Rattle.std.specs.Prelude.{List, [], ◌∷◌, ◌++◌, length, drop, min, remove, Option, None, Some}
use Rattle.std.specs.Prelude.{slice_index_or, slice_set}
use Rattle.std.specs.List.{find, position_or_len}
use Rattle.gate_outside.specs.declared.ports.End.{End}
use Rattle.gate_outside.specs.declared.ports.End.TheVariants.{Client, Up}
use Rattle.gate_outside.specs.declared.ports.Accepted.{Accepted}
use Rattle.gate_outside.specs.declared.ports.Accepted.TheVariants as accepted
use Rattle.gate_outside.specs.declared.ports.Got.{Got}
use Rattle.gate_outside.specs.declared.ports.Got.TheVariants as got
use Rattle.gate_outside.specs.declared.ports.Put.{Put}
use Rattle.gate_outside.specs.declared.ports.Put.TheVariants as put
use Rattle.gate_outside.specs.declared.pieces.Piece.{Piece}
use Rattle.gate_outside.specs.declared.rooms.Room.{Room}
use Rattle.gate_outside.specs.declared.pairs.Taken.{Taken}
use Rattle.gate_outside.specs.CallCounts.{capped}
use Rattle.gate_outside.specs.Ends.{is_end, ends_accepted}

-- Pairs: how many are accepted in all, the bytes taken at the ends of those accepted, and the open
-- ends.
pub record PairsState : Type 0 where
  pub most : ℕ
  pub taken : List Taken
  pub ends : List (ℕ × End)

-- the next pair, while there is one
abbrev pub pair_answer : PairsState → Accepted
pair_answer pairs =
    if nat_lt (length pairs.taken) pairs.most then accepted.Pair (length pairs.taken)
    else accepted.NotYet

-- no byte was taken at either end
abbrev pub nothing_taken : Taken
nothing_taken = record { client = 0; up = 0 }

-- an accepted pair is counted
abbrev pub taken_after : Accepted → List Taken → List Taken
taken_after (accepted.Pair p) taken = taken ++ nothing_taken ∷ []
taken_after accepted.NotYet taken = taken
taken_after accepted.Failed taken = taken

-- an accepted pair has its client's end open, and nothing was taken at its ends
abbrev pub pairs_accepted : Accepted → PairsState → PairsState
pairs_accepted answer pairs =
    record pairs { taken = taken_after answer pairs.taken; ends = ends_accepted answer pairs.ends }

-- the bytes taken at one end of a pair
abbrev pub taken_at_end : End → Taken → ℕ
taken_at_end Client taken = taken.client
taken_at_end Up taken = taken.up

-- the bytes taken so far at an end, by the number of its pair
abbrev pub taken_at : ℕ → End → PairsState → ℕ
taken_at pair end pairs = taken_at_end end (slice_index_or pairs.taken pair nothing_taken)

-- so many bytes more were taken at one end of a pair
abbrev pub more_at_end : End → ℕ → Taken → Taken
more_at_end Client n taken = record taken { client = capped (taken.client + n) }
more_at_end Up n taken = record taken { up = capped (taken.up + n) }

-- so many bytes more were taken at an end
abbrev pub more_taken : ℕ → End → ℕ → PairsState → PairsState
more_taken pair end n pairs =
    record pairs {
      taken = slice_set pairs.taken pair (more_at_end end n
          (slice_index_or pairs.taken pair nothing_taken));
    }

-- Pieces: what reads give.
-- no byte is left
abbrev pub is_nothing : List ℕ → Bool
is_nothing [] = true
is_nothing (x ∷ xs) = false

-- a piece is used up where no byte of it is left, and no end to tell
abbrev pub is_used_up : Piece → Bool
is_used_up piece = is_nothing piece.bytes && not piece.ends

-- a piece of an end that is not used up
abbrev pub is_left : ℕ → End → Piece → Bool
is_left pair end piece = is_end pair end (piece.pair, piece.end) && not (is_used_up piece)

-- the first of them
abbrev pub current_piece : ℕ → End → List Piece → Option Piece
current_piece pair end pieces = find (is_left pair end) pieces

-- as many of the bytes as fit, or the end where none is left
abbrev pub bytes_or_end : ℕ → List ℕ → Got
bytes_or_end room [] = got.Ended
bytes_or_end room (x ∷ xs) = got.Bytes (min room (length (x ∷ xs)))

-- a piece is readable once so many bytes were taken at its end
abbrev pub piece_answer : ℕ → ℕ → Piece → Got
piece_answer room taken piece =
    if nat_lt taken piece.after then got.NotYet else bytes_or_end room piece.bytes

-- where each piece of an end is used up, nothing comes
abbrev pub pieces_answer : ℕ → ℕ → Option Piece → Got
pieces_answer room taken None = got.NotYet
pieces_answer room taken (Some piece) = piece_answer room taken piece

-- the bytes that came are no longer left
abbrev pub without_front : ℕ → Piece → Piece
without_front n piece = record piece { bytes = drop n piece.bytes }

-- an end that was told is not told again
abbrev pub without_end : Piece → Piece
without_end piece = record piece { ends = false }

-- a piece after the answer of a read
abbrev pub piece_after : Got → Piece → Piece
piece_after (got.Bytes n) piece = without_front n piece
piece_after got.Ended piece = without_end piece
piece_after got.NotYet piece = piece
piece_after got.Failed piece = piece

-- the bytes of a piece, if there is one
abbrev pub bytes_of : Option Piece → List ℕ
bytes_of None = []
bytes_of (Some piece) = piece.bytes

-- the first item that passes a test is changed
abbrev pub first_changed : {X : Type 0} → (X → Bool) → (X → X) → List X → List X
first_changed test change [] = []
first_changed test change (x ∷ xs) =
    if test x then change x ∷ xs else x ∷ first_changed test change xs

-- a read uses the current piece of its end, and none where it gives nothing
abbrev pub pieces_after : ℕ → End → Got → List Piece → List Piece
pieces_after pair end (got.Bytes n) pieces =
    first_changed (is_left pair end) (without_front n) pieces
pieces_after pair end got.Ended pieces = first_changed (is_left pair end) without_end pieces
pieces_after pair end got.NotYet pieces = pieces
pieces_after pair end got.Failed pieces = pieces

-- Rooms: what writes take.
-- a room of an end
abbrev pub is_room_of : ℕ → End → Room → Bool
is_room_of pair end room = is_end pair end (room.pair, room.end)

-- a write takes all where no room is left for its end
abbrev pub room_answer : ℕ → Option Room → Put
room_answer offered None = put.Took offered
room_answer offered (Some room) =
    if room.most == 0 then put.NotYet else put.Took (min offered room.most)

-- a write uses the first room of its end
abbrev pub rooms_after : ℕ → End → List Room → List Room
rooms_after pair end rooms = remove rooms (position_or_len (is_room_of pair end) rooms)

-- The clock: the moment that is given next, how far it steps, and the moment that was given last.
pub record ClockState : Type 0 where
  pub next : ℕ
  pub step : ℕ
  pub last : ℕ

-- a step later
abbrev pub clock_after : ClockState → ClockState
clock_after clock = record clock { next = capped (clock.next + clock.step); last = clock.next }
