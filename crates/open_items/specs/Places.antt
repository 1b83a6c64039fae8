-- Places in a list.
use Rattle.std.specs.Prelude.{◌≡◌, ℕ, ◌+◌, ◌≤◌, Bool, List, length, drop, filter}
use Rattle.std.specs.Prelude.{Option, None, Some}
use Rattle.std.specs.List.{position}

-- all that pass stand from this place on
pub record AllFrom {A : Type 0} (passes : A → Bool) (place : ℕ) (items : List A) : Type 0 where
  pub within : place ≤ length items
  pub behind : filter passes (drop place items) ≡ filter passes items

abbrev pub place_at : ℕ → ℕ → Option ℕ → ℕ
place_at from end None = end
place_at from end (Some ahead) = from + ahead

-- the place of the first that passes, from a place on; else the end
abbrev pub place_from : {A : Type 0} → (A → Bool) → ℕ → List A → ℕ
place_from passes from items = place_at from (length items) (position passes (drop from items))
