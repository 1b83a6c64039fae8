-- Values without where they lie in memory (AMQP 1.0 1.6), and how deep they are.
-- A type of the sources is seen as one of these; nothing here names a type of the sources.
use Rattle.std.specs.Prelude.{ℕ, ◌+◌, max, Bool, List, [], ◌∷◌, ℤ}

-- a value that holds no other; the floating ones are the patterns of their bits
pub data Scalar : Type 0 where
  null : Scalar
  boolean : Bool → Scalar
  ubyte : ℕ → Scalar
  byte : ℤ → Scalar
  ushort : ℕ → Scalar
  short : ℤ → Scalar
  uint : ℕ → Scalar
  int : ℤ → Scalar
  ulong : ℕ → Scalar
  long : ℤ → Scalar
  float : ℕ → Scalar
  double : ℕ → Scalar
  decimal32 : ℕ → Scalar
  decimal64 : ℕ → Scalar
  decimal128 : List ℕ → Scalar
  char : ℕ → Scalar
  timestamp : ℤ → Scalar
  uuid : List ℕ → Scalar
  binary : List ℕ → Scalar
  string : List ℕ → Scalar
  symbol : List ℕ → Scalar

-- a value; a list and an array hold values, a map pairs of them, and a described value a descriptor
-- and a value
mutual
  pub data Tree : Type 0 where
    scalar : Scalar → Tree
    list : Trees → Tree
    mapping : Pairs → Tree
    array : Trees → Tree
    described : Tree → Tree → Tree

  pub data Trees : Type 0 where
    no_trees : Trees
    tree : Tree → Trees → Trees

  pub data Pairs : Type 0 where
    no_pairs : Pairs
    pair : Tree → Tree → Pairs → Pairs

-- the values of a list, as a value holds them
abbrev pub trees_of : List Tree → Trees
trees_of [] = no_trees
trees_of (t ∷ ts) = tree t (trees_of ts)

-- the pairs of a list, as a map holds them
abbrev pub pairs_of : List (Tree × Tree) → Pairs
pairs_of [] = no_pairs
pairs_of (p ∷ ps) = pair p.0 p.1 (pairs_of ps)

-- how deep a value is: one that holds no other has depth 0, another one more than the greatest
-- depth inside it
abbrev mutual
  pub depth : Tree → ℕ
  depth (scalar s) = 0
  depth (list ts) = trees_depth ts + 1
  depth (mapping ps) = pairs_depth ps + 1
  depth (array ts) = trees_depth ts + 1
  depth (described d t) = max (depth d) (depth t) + 1

  pub trees_depth : Trees → ℕ
  trees_depth no_trees = 0
  trees_depth (tree t ts) = max (depth t) (trees_depth ts)

  pub pairs_depth : Pairs → ℕ
  pairs_depth no_pairs = 0
  pairs_depth (pair k t ps) = max (max (depth k) (depth t)) (pairs_depth ps)

-- the greatest depth in a list of values
abbrev pub list_depth : List Tree → ℕ
list_depth ts = trees_depth (trees_of ts)

-- the greatest depth in a list of pairs
abbrev pub pairs_depth_of : List (Tree × Tree) → ℕ
pairs_depth_of ps = pairs_depth (pairs_of ps)
