-- The parts of an entry's spelling: those of fixed length, before and behind the bytes that came or
-- were offered.
use Rattle.std.specs.Prelude.{ℕ, ◌<◌, ◌^◌, List, [], ◌∷◌, ◌++◌}
use Rattle.std.specs.Int.{w32, w64, to_be_bytes}
use Rattle.gate_outside.specs.declared.ports.Got.{Got}
use Rattle.gate_outside.specs.declared.ports.Got.TheVariants as got
use Rattle.gate_outside.specs.declared.ports.Put.{Put}
use Rattle.gate_outside.specs.declared.ports.Put.TheVariants as put
use Rattle.gate_outside.specs.declared.log.Call.{Call}
use Rattle.gate_outside.specs.declared.log.Call.TheVariants as call
use Rattle.gate_capture.specs.Spelling.{end_text, accepted_text, linked_text, got_text, put_text}
use Rattle.gate_capture.specs.Kinds.{next_byte}

-- what stands before the bytes, of which so many were offered
abbrev pub head_text : Call → ℕ → List ℕ
head_text (call.Accept answer) offered = 1 ∷ accepted_text answer
head_text (call.Connect pair answer) offered = 2 ∷ to_be_bytes w32 pair ++ linked_text answer
head_text (call.Read pair end room answer) offered =
    3 ∷ end_text pair end ++ to_be_bytes w32 room ++ got_text answer []
head_text (call.Write pair end answer) offered = 4 ∷ end_text pair end ++ to_be_bytes w32 offered
head_text (call.Shut pair end) offered = 5 ∷ end_text pair end
head_text (call.Idle answer) offered = 6 ∷ next_byte answer ∷ []
head_text (call.Now ms) offered = 7 ∷ to_be_bytes w64 ms

-- the bytes that a spelling has: those that came, or were offered
abbrev pub came_text : Got → List ℕ → List ℕ
came_text (got.Bytes n) bytes = bytes
came_text got.NotYet bytes = []
came_text got.Ended bytes = []
came_text got.Failed bytes = []

abbrev pub body_text : Call → List ℕ → List ℕ
body_text (call.Accept answer) bytes = []
body_text (call.Connect pair answer) bytes = []
body_text (call.Read pair end room answer) bytes = came_text answer bytes
body_text (call.Write pair end answer) bytes = bytes
body_text (call.Shut pair end) bytes = []
body_text (call.Idle answer) bytes = []
body_text (call.Now ms) bytes = []

-- what stands behind the bytes
abbrev pub tail_text : Call → List ℕ
tail_text (call.Accept answer) = []
tail_text (call.Connect pair answer) = []
tail_text (call.Read pair end room answer) = []
tail_text (call.Write pair end answer) = put_text answer
tail_text (call.Shut pair end) = []
tail_text (call.Idle answer) = []
tail_text (call.Now ms) = []

-- a count of bytes fits four bytes
abbrev pub GotFits : Got → Type 0
GotFits (got.Bytes n) = n < 2 ^ 32
GotFits got.NotYet = Unit {0}
GotFits got.Ended = Unit {0}
GotFits got.Failed = Unit {0}

abbrev pub PutFits : Put → Type 0
PutFits (put.Took n) = n < 2 ^ 32
PutFits put.NotYet = Unit {0}
PutFits put.Failed = Unit {0}

abbrev pub CallFits : Call → Type 0
CallFits (call.Accept answer) = Unit {0}
CallFits (call.Connect pair answer) = Unit {0}
CallFits (call.Read pair end room answer) = GotFits answer
CallFits (call.Write pair end answer) = PutFits answer
CallFits (call.Shut pair end) = Unit {0}
CallFits (call.Idle answer) = Unit {0}
CallFits (call.Now ms) = Unit {0}
