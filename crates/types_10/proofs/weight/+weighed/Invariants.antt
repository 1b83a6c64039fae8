use Rattle.std.proofs.Common.{◌≡◌, ◌+◌, ◌*◌, ◌≤◌, length, map, drop}
use Rattle.types_10.specs.Tree.{trees_of, pairs_of}
use Rattle.types_10.specs.View.{value_tree, pair_trees}
use Rattle.types_10.specs.Loads.{weights, pairs_weight}
use Rattle.types_10.specs.Measures.{capped}
use Rattle.types_10.proofs.weight.+weighed.Given as goal

-- the sum of what is behind the value that is weighed next
abbrev pub invariant-weights_of-loop-left : goal.invariant-weights_of-loop-left
invariant-weights_of-loop-left l = (l.left ≤ length l.values) × (l.sum ≡ capped (weights (trees_of (map value_tree (drop l.left l.values)))))

abbrev pub decreases-weights_of-loop-left : goal.decreases-weights_of-loop-left
decreases-weights_of-loop-left l = l.left

abbrev pub invariant-pairs_weight_of-loop-left : goal.invariant-pairs_weight_of-loop-left
invariant-pairs_weight_of-loop-left l = (l.left ≤ length l.pairs) × (l.sum ≡ capped (pairs_weight (pairs_of (map pair_trees (drop l.left l.pairs)))))

abbrev pub decreases-pairs_weight_of-loop-left : goal.decreases-pairs_weight_of-loop-left
decreases-pairs_weight_of-loop-left l = l.left

abbrev pub decreases-weight_of : goal.decreases-weight_of
decreases-weight_of l = 4 * goal.size-weight_of l

abbrev pub decreases-pair_weight_of : goal.decreases-pair_weight_of
decreases-pair_weight_of l = 4 * goal.size-pair_weight_of l + 1

abbrev pub decreases-weights_of : goal.decreases-weights_of
decreases-weights_of l = 4 * goal.size-weights_of l + 1

abbrev pub decreases-pairs_weight_of : goal.decreases-pairs_weight_of
decreases-pairs_weight_of l = 4 * goal.size-pairs_weight_of l + 2
