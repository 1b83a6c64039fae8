-- The numbers that pass a test.
use Rattle.std.specs.Prelude.{ℕ, zero, suc, ◌+◌, Bool, cond, List, [], ◌∷◌, length, Option, Some}
use Rattle.std.specs.Prelude.{None, true, false}

-- of the m numbers above low
abbrev pub passing_above : (ℕ → Bool) → ℕ → ℕ → List ℕ
passing_above passes low zero = []
passing_above passes low (suc m) =
    cond (passes (low + 1)) ((low + 1) ∷ passing_above passes (low + 1) m) (passing_above passes
    (low + 1) m)

-- of the numbers from 1 to n
abbrev pub passing : (ℕ → Bool) → ℕ → List ℕ
passing passes n = passing_above passes 0 n

abbrev pub first : {A : Type 0} → List A → Option A
first [] = None
first (x ∷ xs) = Some x

abbrev pub has_any : {A : Type 0} → List A → Bool
has_any [] = false
has_any (x ∷ xs) = true

-- the least of the numbers from 1 to n that passes
abbrev pub least : (ℕ → Bool) → ℕ → Option ℕ
least passes n = first (passing passes n)

-- how many of the numbers from 1 to n pass
abbrev pub how_many : (ℕ → Bool) → ℕ → ℕ
how_many passes n = length (passing passes n)
