-- Parts and continuations of lists of bytes.
use Rattle.std.proofs.Common.{◌≡◌, ℕ, ◌+◌, ◌<◌, ◌≤◌, zero, suc, List, [], ◌∷◌, ◌++◌, get_or, take}
use Rattle.std.proofs.Common.{drop, replicate, refl, arith}
use Rattle.std.proofs.lemmas.List.{get_or-drop}
use Rattle.wire_base.specs.Bytes.{IsBytes}

pub IsBytes-drop : (n : ℕ) (text : List ℕ) → IsBytes text → IsBytes (drop n text)
IsBytes-drop n text h i = rw get_or-drop (h (n + i))

pub IsBytes-take : (n : ℕ) (text : List ℕ) → IsBytes text → IsBytes (take n text)
IsBytes-take zero text h i = omega arith
IsBytes-take (suc n) [] h i = omega arith
IsBytes-take (suc n) (b ∷ text) h zero = h 0
IsBytes-take (suc n) (b ∷ text) h (suc i) = IsBytes-take n text (λ k. h (suc k)) i

pub IsBytes-append : (text more : List ℕ) → IsBytes text → IsBytes more → IsBytes (text ++ more)
IsBytes-append [] more h k i = k i
IsBytes-append (b ∷ text) more h k zero = h 0
IsBytes-append (b ∷ text) more h k (suc i) = IsBytes-append text more (λ j. h (suc j)) k i

-- what follows only adds to a place that may be past the end
pub get_or-append-le : (text more : List ℕ) (i : ℕ) → get_or text i 0 ≤ get_or (text ++ more) i 0
get_or-append-le [] more i = omega arith
get_or-append-le (b ∷ text) more zero = omega arith
get_or-append-le (b ∷ text) more (suc i) = get_or-append-le text more i

-- zeros behind a text are what stands past its end
pub zeros_keep : (text : List ℕ) (n i : ℕ) → get_or (text ++ replicate n 0) i 0 ≡ get_or text i 0
zeros_keep [] zero i = refl
zeros_keep [] (suc n) zero = refl
zeros_keep [] (suc n) (suc i) = zeros_keep [] n i
zeros_keep (b ∷ text) n zero = refl
zeros_keep (b ∷ text) n (suc i) = zeros_keep text n i

pub IsBytes-replicate : (n : ℕ) → IsBytes (replicate n 0)
IsBytes-replicate n i = omega (arith, zeros_keep [] n i)

pub IsBytes-one : (b : ℕ) → b < 256 → IsBytes (b ∷ [])
IsBytes-one b h zero = h
IsBytes-one b h (suc i) = omega arith
