-- What the elements of an array take besides their bytes (AMQP 1.0 1.6.24): an element has a copy
-- of each descriptor of the constructor, which takes as many as values stand in it, and one more
-- for each 64 bytes of a text; an element without bytes and descriptors takes one.
use Rattle.std.specs.Prelude.{ℕ, ◌+◌, ◌/◌, max, List, length, if◌then◌else◌}
use Rattle.types_10.specs.Tree.{Scalar, binary, string, symbol, Tree, scalar, list, mapping, array}
use Rattle.types_10.specs.Tree.{described, Trees, no_trees, tree, trees_of, Pairs, no_pairs, pair}
use Rattle.types_10.specs.Kinds.{is_bare}
use Rattle.types_10.specs.declared.kind.Kind.{Kind}

-- what a copy of a value takes
abbrev pub scalar_weight : Scalar → ℕ
scalar_weight (binary s) = length s / 64 + 1
scalar_weight (string s) = length s / 64 + 1
scalar_weight (symbol s) = length s / 64 + 1
scalar_weight s = 1

abbrev mutual
  pub weight : Tree → ℕ
  weight (scalar s) = scalar_weight s
  weight (list ts) = weights ts + 1
  weight (mapping ps) = pairs_weight ps + 1
  weight (array ts) = weights ts + 1
  weight (described d t) = weight d + weight t + 1

  pub weights : Trees → ℕ
  weights no_trees = 0
  weights (tree t ts) = weight t + weights ts

  pub pairs_weight : Pairs → ℕ
  pairs_weight no_pairs = 0
  pairs_weight (pair k t ps) = weight k + weight t + pairs_weight ps

-- what copies of descriptors take
abbrev pub copies : List Tree → ℕ
copies ts = weights (trees_of ts)

-- what an element of this constructor takes besides its bytes
abbrev pub element_load : List Tree × Kind → ℕ
element_load c = max (copies c.0) (if is_bare c.1 then 1 else 0)
