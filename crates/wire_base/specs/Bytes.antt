-- Facts about lists of numbers that are bytes.
use Rattle.std.specs.Prelude.{ℕ, ◌<◌, List, slice_index}

-- each number of the list is a byte
abbrev pub IsBytes : List ℕ → Type 0
IsBytes text = (i : ℕ) → slice_index text i < 256
