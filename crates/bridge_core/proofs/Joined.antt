-- A frame whose size counts what is put behind its body.
use Rattle.std.proofs.Common.{◌≡◌, ℕ, ◌+◌, ◌∙◌, ◌++◌, List, ◌∷◌, length, arith, drop, ap, w32, w16, length-append}
use Rattle.std.specs.Int.{to_be_bytes}
use Rattle.frames_10.specs.Frames.{text_behind}
use Rattle.gate_model.specs.Spelling.{frame_on}

pub joined : (n size : ℕ) (body payload : List ℕ) → size ≡ 8 + length body + length payload
    → to_be_bytes w32 size ++ drop 4 (frame_on n body ++ payload) ≡ frame_on n (body ++ payload)
unfolding text_behind
joined n size body payload e =
    ap (λ (k : ℕ). to_be_bytes w32 k ++ (2 ∷ 0 ∷ to_be_bytes w16 n ++ body ++ payload)) (e ∙ omega (arith, length-append body payload))

pub behind_len : (n : ℕ) (body payload : List ℕ) → length (frame_on n body ++ payload) ≡ 8 + length body + length payload
unfolding text_behind
behind_len n body payload = omega (arith, length-append body payload)
