-- What is true of each field inside another, and that the numbers of fields are those of their
-- types (AMQP 0-9-1 4.2.5.5).
use Rattle.std.specs.Prelude.{ℕ, ◌<◌, ◌^◌, List}
use Rattle.std.specs.Int.{w8, w16, w32, w64}
use Rattle.std.specs.Int.RustNames.{FitsSigned}
use Rattle.tables_091.specs.Tree.{Scalar, boolean, int8, uint8, int16, uint16, int32, uint32, int64}
use Rattle.tables_091.specs.Tree.{float32, float64, decimal, longstr, timestamp, void, blob, Tree}
use Rattle.tables_091.specs.Tree.{scalar, array, table, Trees, no_trees, tree, Members, no_members}
use Rattle.tables_091.specs.Tree.{member, trees_of, members_of}

-- such is each field inside that holds no other, and such each name inside
abbrev mutual
  pub EachInside : (Scalar → Type 0) → (List ℕ → Type 0) → Tree → Type 0
  EachInside P Q (scalar s) = P s
  EachInside P Q (array ts) = EachInTrees P Q ts
  EachInside P Q (table ms) = EachInMembers P Q ms

  pub EachInTrees : (Scalar → Type 0) → (List ℕ → Type 0) → Trees → Type 0
  EachInTrees P Q no_trees = Unit {0}
  EachInTrees P Q (tree t ts) = EachInside P Q t × EachInTrees P Q ts

  pub EachInMembers : (Scalar → Type 0) → (List ℕ → Type 0) → Members → Type 0
  EachInMembers P Q no_members = Unit {0}
  EachInMembers P Q (member name t ms) = Q name × EachInside P Q t × EachInMembers P Q ms

-- a number is one of its type
abbrev pub IsInRange : Scalar → Type 0
IsInRange (boolean b) = Unit {0}
IsInRange (int8 z) = FitsSigned w8 z
IsInRange (uint8 n) = n < 2 ^ 8
IsInRange (int16 z) = FitsSigned w16 z
IsInRange (uint16 n) = n < 2 ^ 16
IsInRange (int32 z) = FitsSigned w32 z
IsInRange (uint32 n) = n < 2 ^ 32
IsInRange (int64 z) = FitsSigned w64 z
IsInRange (float32 n) = n < 2 ^ 32
IsInRange (float64 n) = n < 2 ^ 64
IsInRange (decimal scale n) = (scale < 2 ^ 8) × (n < 2 ^ 32)
IsInRange (longstr s) = Unit {0}
IsInRange (timestamp n) = n < 2 ^ 64
IsInRange void = Unit {0}
IsInRange (blob s) = Unit {0}

-- the numbers inside are of their types
abbrev pub IsRanged : Tree → Type 0
IsRanged = EachInside IsInRange (λ name. Unit {0})

-- those inside the fields of a list, and inside the entries of a table
abbrev pub FieldsAreRanged : List Tree → Type 0
FieldsAreRanged ts = EachInTrees IsInRange (λ name. Unit {0}) (trees_of ts)

abbrev pub AreRanged : List (List ℕ × Tree) → Type 0
AreRanged ms = EachInMembers IsInRange (λ name. Unit {0}) (members_of ms)
