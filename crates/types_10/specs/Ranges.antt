-- What is true of each value inside another, and that the numbers of values are those of their
-- types (AMQP 1.0 1.6).
use Rattle.std.specs.Prelude.{◌≡◌, ◌<◌, ◌^◌, List, length}
use Rattle.std.specs.Int.{w8, w16, w32, w64}
use Rattle.std.specs.Int.RustNames.{FitsSigned}
use Rattle.types_10.specs.Tree.{Scalar, null, boolean, ubyte, byte, ushort, short, uint, int, ulong}
use Rattle.types_10.specs.Tree.{long, float, double, decimal32, decimal64, decimal128, char}
use Rattle.types_10.specs.Tree.{timestamp, uuid, binary, string, symbol, Tree, scalar, list}
use Rattle.types_10.specs.Tree.{mapping, array, described, Trees, no_trees, tree, Pairs, no_pairs}
use Rattle.types_10.specs.Tree.{pair, trees_of, pairs_of}

-- such is each value inside that holds no other
abbrev mutual
  pub EachInside : (Scalar → Type 0) → Tree → Type 0
  EachInside P (scalar s) = P s
  EachInside P (list ts) = EachInTrees P ts
  EachInside P (mapping ps) = EachInPairs P ps
  EachInside P (array ts) = EachInTrees P ts
  EachInside P (described d t) = EachInside P d × EachInside P t

  pub EachInTrees : (Scalar → Type 0) → Trees → Type 0
  EachInTrees P no_trees = Unit {0}
  EachInTrees P (tree t ts) = EachInside P t × EachInTrees P ts

  pub EachInPairs : (Scalar → Type 0) → Pairs → Type 0
  EachInPairs P no_pairs = Unit {0}
  EachInPairs P (pair k t ps) = EachInside P k × EachInside P t × EachInPairs P ps

-- a number is one of its type, and so are sixteen bytes
abbrev pub IsInRange : Scalar → Type 0
IsInRange null = Unit {0}
IsInRange (boolean b) = Unit {0}
IsInRange (ubyte n) = n < 2 ^ 8
IsInRange (byte z) = FitsSigned w8 z
IsInRange (ushort n) = n < 2 ^ 16
IsInRange (short z) = FitsSigned w16 z
IsInRange (uint n) = n < 2 ^ 32
IsInRange (int z) = FitsSigned w32 z
IsInRange (ulong n) = n < 2 ^ 64
IsInRange (long z) = FitsSigned w64 z
IsInRange (float n) = n < 2 ^ 32
IsInRange (double n) = n < 2 ^ 64
IsInRange (decimal32 n) = n < 2 ^ 32
IsInRange (decimal64 n) = n < 2 ^ 64
IsInRange (decimal128 s) = length s ≡ 16
IsInRange (char n) = n < 2 ^ 32
IsInRange (timestamp z) = FitsSigned w64 z
IsInRange (uuid s) = length s ≡ 16
IsInRange (binary s) = Unit {0}
IsInRange (string s) = Unit {0}
IsInRange (symbol s) = Unit {0}

-- the numbers inside are of their types
abbrev pub IsRanged : Tree → Type 0
IsRanged = EachInside IsInRange

-- those inside the values of a list, and inside the pairs of a map
abbrev pub ListIsRanged : List Tree → Type 0
ListIsRanged ts = EachInTrees IsInRange (trees_of ts)

abbrev pub PairsAreRanged : List (Tree × Tree) → Type 0
PairsAreRanged ps = EachInPairs IsInRange (pairs_of ps)
