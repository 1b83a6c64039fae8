-- What a source has left and a sink holds, where they tell it.
use Rattle.std.specs.Prelude.{◌≡◌, ℕ, ◌≤◌, List, [], ◌++◌, length, take, drop, Option, None, Some}
use Rattle.gate_outside.specs.declared.streams.Drawn.{Drawn}
use Rattle.gate_outside.specs.declared.streams.Drawn.TheVariants as drawn
use Rattle.gate_outside.specs.declared.streams.Sunk.{Sunk}
use Rattle.gate_outside.specs.declared.streams.Sunk.TheVariants as sunk

-- these bytes were added, where what is held is told
abbrev pub Appends : Option (List ℕ) → Option (List ℕ) → List ℕ → Type 0
Appends old None bytes = Unit {0}
Appends None (Some new) bytes = ⊥
Appends (Some old) (Some new) bytes = new ≡ old ++ bytes

-- a front part of these bytes was added
pub record AppendsFront (old new : Option (List ℕ)) (bytes : List ℕ) : Type 0 where
  pub front : List ℕ
  pub back : List ℕ
  pub parts : bytes ≡ front ++ back
  pub added : Appends old new front

-- a sink takes at least one byte and no more than it was offered
abbrev pub SinksSome : Sunk → ℕ → Type 0
SinksSome (sunk.Took n) offered = (1 ≤ n) × (n ≤ offered)
SinksSome sunk.Failed offered = Unit {0}

-- the bytes that a sink took
abbrev pub sunk_bytes : Sunk → List ℕ → List ℕ
sunk_bytes (sunk.Took n) bytes = take n bytes
sunk_bytes sunk.Failed bytes = []

-- the first n bytes of the buffer came, and the rest of it stays; another answer leaves it as it
-- was
abbrev pub DrawsInto : Drawn → List ℕ → List ℕ → Type 0
DrawsInto (drawn.Bytes n) old new = (1 ≤ n) × (n ≤ length old) × (drop n new ≡ drop n old)
DrawsInto drawn.Ended old new = new ≡ old
DrawsInto drawn.Failed old new = new ≡ old

-- what came was the front of what is left, and the end comes only where nothing is left
abbrev pub Draws : Drawn → List ℕ → Option (List ℕ) → Option (List ℕ) → Type 0
Draws answer buffer old None = Unit {0}
Draws answer buffer None (Some new) = ⊥
Draws (drawn.Bytes n) buffer (Some old) (Some new) = old ≡ take n buffer ++ new
Draws drawn.Ended buffer (Some old) (Some new) = (old ≡ []) × (new ≡ [])
Draws drawn.Failed buffer (Some old) (Some new) = new ≡ old
