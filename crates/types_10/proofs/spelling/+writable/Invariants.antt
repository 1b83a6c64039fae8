use Rattle.std.proofs.Common.{◌↔◌, ◌+◌, ◌*◌, map, drop}
use Rattle.types_10.specs.Tree.{trees_of, pairs_of}
use Rattle.types_10.specs.View.{value_tree, pair_trees}
use Rattle.types_10.specs.Writing.{EachIsWritable, PairsAreWritable}
use Rattle.types_10.proofs.spelling.+writable.Given as goal

-- the rest decides
abbrev pub invariant-each_is_writable-loop-value : goal.invariant-each_is_writable-loop-value
invariant-each_is_writable-loop-value l =
    EachIsWritable (trees_of (map value_tree (drop l.value-index l.values))) ↔ EachIsWritable (trees_of (map value_tree l.values))

abbrev pub invariant-pairs_are_writable-loop-pair : goal.invariant-pairs_are_writable-loop-pair
invariant-pairs_are_writable-loop-pair l =
    PairsAreWritable (pairs_of (map pair_trees (drop l.pair-index l.pairs))) ↔ PairsAreWritable (pairs_of (map pair_trees l.pairs))

abbrev pub decreases-is_writable : goal.decreases-is_writable
decreases-is_writable l = 4 * goal.size-is_writable l

abbrev pub decreases-each_is_writable : goal.decreases-each_is_writable
decreases-each_is_writable l = 4 * goal.size-each_is_writable l + 1

abbrev pub decreases-pairs_are_writable : goal.decreases-pairs_are_writable
decreases-pairs_are_writable l = 4 * goal.size-pairs_are_writable l + 2

abbrev pub decreases-pair_is_writable : goal.decreases-pair_is_writable
decreases-pair_is_writable l = 4 * goal.size-pair_is_writable l + 1
