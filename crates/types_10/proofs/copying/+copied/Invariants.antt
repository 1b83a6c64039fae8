use Rattle.std.proofs.Common.{◌≡◌, ◌+◌, ◌*◌, map, take}
use Rattle.types_10.specs.View.{value_tree, pair_trees}
use Rattle.types_10.proofs.copying.+copied.Given as goal

abbrev pub invariant-copy_values-loop-value : goal.invariant-copy_values-loop-value
invariant-copy_values-loop-value l = l.list ≡ map value_tree (take l.value-index l.values)

abbrev pub invariant-copy_pairs-loop-pair : goal.invariant-copy_pairs-loop-pair
invariant-copy_pairs-loop-pair l = l.list ≡ map pair_trees (take l.pair-index l.pairs)

abbrev pub decreases-copy_value : goal.decreases-copy_value
decreases-copy_value l = 3 * goal.size-copy_value l

abbrev pub decreases-copy_values : goal.decreases-copy_values
decreases-copy_values l = 3 * goal.size-copy_values l + 1

abbrev pub decreases-copy_pairs : goal.decreases-copy_pairs
decreases-copy_pairs l = 3 * goal.size-copy_pairs l + 2

abbrev pub decreases-copy_pair : goal.decreases-copy_pair
decreases-copy_pair l = 3 * goal.size-copy_pair l + 1
