use Rattle.std.proofs.Common.{◌≡◌, ◌+◌, ◌*◌, map, drop}
use Rattle.std.specs.Prelude.{nat_le}
use Rattle.types_10.specs.Tree.{list_depth, pairs_depth_of}
use Rattle.types_10.specs.View.{value_tree, pair_trees}
use Rattle.types_10.proofs.depth.+within.Given as goal

abbrev pub decreases-is_within : goal.decreases-is_within
decreases-is_within l = 2 * l.most

abbrev pub decreases-values_are_within : goal.decreases-values_are_within
decreases-values_are_within l = 2 * l.most + 1

abbrev pub decreases-pairs_are_within : goal.decreases-pairs_are_within
decreases-pairs_are_within l = 2 * l.most + 1

-- the rest decides
abbrev pub invariant-values_are_within-loop-value : goal.invariant-values_are_within-loop-value
invariant-values_are_within-loop-value l =
    nat_le (list_depth (map value_tree (drop l.value-index l.values))) l.most ≡ nat_le (list_depth (map value_tree l.values)) l.most

abbrev pub invariant-pairs_are_within-loop-key : goal.invariant-pairs_are_within-loop-key
invariant-pairs_are_within-loop-key l =
    nat_le (pairs_depth_of (map pair_trees (drop l.key-index l.pairs))) l.most ≡ nat_le (pairs_depth_of (map pair_trees l.pairs)) l.most
