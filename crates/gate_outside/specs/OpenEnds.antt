-- Lists of open ends in which each end stands once.
use Rattle.std.specs.Prelude.{◌≡◌, ℕ, ◌<◌, false, List, [], ◌∷◌}
use Rattle.gate_outside.specs.declared.ports.End.{End}
use Rattle.gate_outside.specs.Ends.{is_open}

-- each end is of a pair below this number
abbrev pub AreBelow : ℕ → List (ℕ × End) → Type 0
AreBelow pairs [] = Unit {0}
AreBelow pairs (x ∷ xs) = (x.0 < pairs) × AreBelow pairs xs

-- no end stands twice
abbrev pub AreDistinct : List (ℕ × End) → Type 0
AreDistinct [] = Unit {0}
AreDistinct (x ∷ xs) = (is_open x.0 x.1 xs ≡ false) × AreDistinct xs
