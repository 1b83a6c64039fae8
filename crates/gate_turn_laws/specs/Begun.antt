-- How a journal begins.
use Rattle.std.specs.Prelude.{◌≡◌, ℕ, List, [], ◌∷◌}
use Rattle.gate_relay.specs.Entries.{Entry, Began}

-- no entry but the accept of p stands at the beginning
abbrev pub IsOfPair : ℕ → List Entry → Type 0
IsOfPair p [] = Unit {0}
IsOfPair p (e ∷ []) = (ms : ℕ) × (e ≡ Began p ms)
IsOfPair p (e ∷ x ∷ h) = IsOfPair p (x ∷ h)
