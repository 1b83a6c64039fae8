-- What the reading of an input to its end gives, where the input tells what it has left.
use Rattle.std.specs.Prelude.{◌≡◌, ℕ, ◌<◌, ◌≤◌, List, [], ◌++◌, length, Option, None, Some}
use Rattle.gate_outside.specs.declared.streams.Drawn.{Drawn}
use Rattle.gate_outside.specs.declared.streams.Drawn.TheVariants as drawn
use Rattle.gate_command.specs.declared.input.Input.{Input}
use Rattle.gate_command.specs.declared.input.Input.TheVariants.{Whole, TooLong, Failed}

-- these bytes were read of what was left
abbrev pub Reads : Option (List ℕ) → Option (List ℕ) → List ℕ → Type 0
Reads left None bytes = Unit {0}
Reads None (Some left') bytes = ⊥
Reads (Some left) (Some left') bytes = left ≡ bytes ++ left'

-- nothing is left
abbrev pub IsOver : Option (List ℕ) → Type 0
IsOver None = Unit {0}
IsOver (Some left) = left ≡ []

-- one read more: what came was added, or nothing is left
abbrev pub AddsDrawn : Drawn → Option (List ℕ) → Option (List ℕ) → List ℕ → List ℕ → Type 0
AddsDrawn (drawn.Bytes n) left left' bytes bytes' =
    (piece : List ℕ) × (1 ≤ length piece) × Reads left left' piece × (bytes' ≡ bytes ++ piece)
AddsDrawn drawn.Ended left left' bytes bytes' =
    IsOver left' × Reads left left' [] × (bytes' ≡ bytes)
AddsDrawn drawn.Failed left left' bytes bytes' = bytes' ≡ bytes

-- an input was read to its end, and these are its bytes
pub record IsWhole (left left' : Option (List ℕ)) (bytes : List ℕ) : Type 0 where
  pub read : Reads left left' bytes
  pub over : IsOver left'
  pub short : length bytes < 268435456

-- an input has 268,435,456 bytes or more
pub record IsTooLong (left left' : Option (List ℕ)) : Type 0 where
  pub bytes : List ℕ
  pub read : Reads left left' bytes
  pub long : 268435456 ≤ length bytes

abbrev pub IsInput : Option (List ℕ) → Option (List ℕ) → Input → Type 0
IsInput left left' (Whole bytes) = IsWhole left left' bytes
IsInput left left' TooLong = IsTooLong left left'
IsInput left left' Failed = Unit {0}
