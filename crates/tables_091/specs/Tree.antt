-- Fields of tables as values, without where they lie in memory (AMQP 0-9-1 4.2.5.5), and how deep
-- they are. A type of the sources is seen as one of these; nothing here names a type of the
-- sources.
use Rattle.std.specs.Prelude.{ℕ, ◌+◌, max, Bool, List, [], ◌∷◌, ℤ}

-- a field that holds no other
pub data Scalar : Type 0 where
  boolean : Bool → Scalar
  int8 : ℤ → Scalar
  uint8 : ℕ → Scalar
  int16 : ℤ → Scalar
  uint16 : ℕ → Scalar
  int32 : ℤ → Scalar
  uint32 : ℕ → Scalar
  int64 : ℤ → Scalar
  float32 : ℕ → Scalar
  float64 : ℕ → Scalar
  decimal : ℕ → ℕ → Scalar
  longstr : List ℕ → Scalar
  timestamp : ℕ → Scalar
  void : Scalar
  blob : List ℕ → Scalar

-- a field; an array holds fields, a table holds fields with names
mutual
  pub data Tree : Type 0 where
    scalar : Scalar → Tree
    array : Trees → Tree
    table : Members → Tree

  pub data Trees : Type 0 where
    no_trees : Trees
    tree : Tree → Trees → Trees

  pub data Members : Type 0 where
    no_members : Members
    member : List ℕ → Tree → Members → Members

-- the fields of a list, as an array holds them
abbrev pub trees_of : List Tree → Trees
trees_of [] = no_trees
trees_of (t ∷ ts) = tree t (trees_of ts)

-- the entries of a list, as a table holds them
abbrev pub members_of : List (List ℕ × Tree) → Members
members_of [] = no_members
members_of (m ∷ ms) = member m.0 m.1 (members_of ms)

-- how deep a field is: one that holds no other has depth 0, another one more than the greatest
-- depth inside it
abbrev mutual
  pub depth : Tree → ℕ
  depth (scalar s) = 0
  depth (array ts) = trees_depth ts + 1
  depth (table ms) = members_depth ms + 1

  pub trees_depth : Trees → ℕ
  trees_depth no_trees = 0
  trees_depth (tree t ts) = max (depth t) (trees_depth ts)

  pub members_depth : Members → ℕ
  members_depth no_members = 0
  members_depth (member name t ms) = max (depth t) (members_depth ms)

-- the greatest depth in a list of fields
abbrev pub list_depth : List Tree → ℕ
list_depth ts = trees_depth (trees_of ts)

-- the greatest depth in a list of entries
abbrev pub entries_depth : List (List ℕ × Tree) → ℕ
entries_depth ms = members_depth (members_of ms)
