-- The clients among the open ends, and that each fact of the ends below has one proof.
use Rattle.std.specs.Prelude.{ℕ, ◌<◌, Bool, false, not, ◌||◌, List, [], ◌∷◌, count_by, length}
use Rattle.std.specs.Coded.{×_prop, Unit-prop, le_prop}
use Rattle.std.proofs.Math.Bool.{Bool-set}
use Rattle.gate_outside.specs.declared.ports.End.{End}
use Rattle.gate_outside.specs.declared.ports.End.TheVariants.{Client}
use Rattle.gate_outside.specs.Ends.{same_end, is_open}
use Rattle.gate_outside.specs.OpenEnds.{AreBelow, AreDistinct}
use Rattle.gate_ends.specs.declared.open_ends.TheConstants.{PAIRS, ENDS}

-- how many clients' ends are open
abbrev pub clients_of : List (ℕ × End) → ℕ
clients_of ends = count_by (λ x. same_end x.1 Client) ends

-- a client's end stands for its pair, and one upstream where that isn't open
abbrev pub stands_for_pair : List (ℕ × End) → ℕ × End → Bool
stands_for_pair ends x = same_end x.1 Client || not (is_open x.0 Client ends)

-- how many pairs have an open end
abbrev pub pairs_of : List (ℕ × End) → ℕ
pairs_of ends = count_by (stands_for_pair ends) ends

-- there is room for one client more and for the upstream end of its pair: both ends fit, and each
-- has a buffer
abbrev pub HasRoom : ℕ → List (ℕ × End) → Type 0
HasRoom spare ends = (clients_of ends < PAIRS) × (length ends < ENDS) × (1 < spare)

pub AreBelow-prop : (pairs : ℕ) (ends : List (ℕ × End)) → IsProp (AreBelow pairs ends)
AreBelow-prop pairs [] = Unit-prop
AreBelow-prop pairs (x ∷ xs) = ×_prop le_prop (AreBelow-prop pairs xs)

pub AreDistinct-prop : (ends : List (ℕ × End)) → IsProp (AreDistinct ends)
AreDistinct-prop [] = Unit-prop
AreDistinct-prop (x ∷ xs) = ×_prop (Bool-set (is_open x.0 x.1 xs) false) (AreDistinct-prop xs)
