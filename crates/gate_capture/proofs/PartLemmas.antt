-- The parts of an entry's spelling together.
use Rattle.std.proofs.Common.{◌≡◌, ℕ, List, [], ◌∷◌, ◌++◌, Option, length, append_assoc, append-nil}
use Rattle.std.proofs.Common.{◌∙◌, subst, refl}
use Rattle.std.specs.Int.{w32, to_be_bytes}
use Rattle.gate_outside.specs.declared.ports.Got.{Got}
use Rattle.gate_outside.specs.declared.ports.Got.TheVariants as got
use Rattle.gate_outside.specs.declared.log.Call.{Call}
use Rattle.gate_outside.specs.declared.log.Call.TheVariants as call
use Rattle.gate_outside.specs.LogState.{entry_of}
use Rattle.gate_outside.specs.Streams.{AppendsFront}
use Rattle.gate_capture.specs.Spelling.{spelling_of, got_text, end_text}
use Rattle.gate_capture.specs.Parts.{head_text, body_text, tail_text, came_text}

nothing_behind : (s : List ℕ) → s ++ [] ++ [] ≡ s
nothing_behind s = append-nil (s ++ []) ∙ append-nil s

came_is : (front : List ℕ) (answer : Got) (bytes : List ℕ) → front ++ got_text answer [] ++ came_text answer bytes ++ [] ≡ front ++ got_text answer bytes
came_is front (got.Bytes n) bytes = simp (append_assoc, append-nil)
came_is front got.NotYet bytes = nothing_behind (front ++ got_text got.NotYet [])
came_is front got.Ended bytes = nothing_behind (front ++ got_text got.Ended [])
came_is front got.Failed bytes = nothing_behind (front ++ got_text got.Failed [])

-- what stands before the bytes, the bytes, and what stands behind them are the spelling
pub spelling_is : (call : Call) (bytes : List ℕ) → head_text call (length (body_text call bytes)) ++ body_text call bytes ++ tail_text call ≡ spelling_of (entry_of call bytes)
spelling_is (call.Accept answer) bytes = nothing_behind (spelling_of (entry_of (call.Accept answer) bytes))
spelling_is (call.Connect pair answer) bytes = nothing_behind (spelling_of (entry_of (call.Connect pair answer) bytes))
spelling_is (call.Read pair end room answer) bytes = came_is (3 ∷ end_text pair end ++ to_be_bytes w32 room) answer bytes
spelling_is (call.Write pair end answer) bytes = refl
spelling_is (call.Shut pair end) bytes = nothing_behind (spelling_of (entry_of (call.Shut pair end) bytes))
spelling_is (call.Idle answer) bytes = nothing_behind (spelling_of (entry_of (call.Idle answer) bytes))
spelling_is (call.Now ms) bytes = nothing_behind (spelling_of (entry_of (call.Now ms) bytes))

-- the three parts, wherever they stand, are the spelling
parts_are : (call : Call) (bytes front middle back : List ℕ) → middle ≡ body_text call bytes → front ≡ head_text call (length middle) → back ≡ tail_text call
    → front ++ middle ++ back ≡ spelling_of (entry_of call bytes)
parts_are call bytes front middle back m f t = rw (f, m, t) (spelling_is call bytes)

-- a front part of the parts is a front part of the spelling
pub entry_front : (call : Call) (bytes front middle back : List ℕ) {a b : Option (List ℕ)} → middle ≡ body_text call bytes → front ≡ head_text call (length middle) → back ≡ tail_text call
    → AppendsFront a b (front ++ middle ++ back) → AppendsFront a b (spelling_of (entry_of call bytes))
entry_front call bytes front middle back {a} {b} m f t h = subst (λ (s : List ℕ). AppendsFront a b s) (parts_are call bytes front middle back m f t) h
