use Rattle.std.proofs.Common.{◌≡◌, ◌↔◌, ◌+◌, ◌-◌, ◌*◌, length, map, drop}
use Rattle.types_10.specs.View.{value_tree, pair_trees}
use Rattle.types_10.proofs.spelling.+same.Given as goal

-- the rest decides
abbrev pub invariant-are_same-loop-at : goal.invariant-are_same-loop-at
invariant-are_same-loop-at l =
    (map value_tree (drop l.at l.ones) ≡ map value_tree (drop l.at l.others)) ↔ (map value_tree l.ones ≡ map value_tree l.others)

abbrev pub decreases-are_same-loop-at : goal.decreases-are_same-loop-at
decreases-are_same-loop-at l = length l.ones - l.at

abbrev pub invariant-pairs_are_same-loop-at : goal.invariant-pairs_are_same-loop-at
invariant-pairs_are_same-loop-at l =
    (map pair_trees (drop l.at l.ones) ≡ map pair_trees (drop l.at l.others)) ↔ (map pair_trees l.ones ≡ map pair_trees l.others)

abbrev pub decreases-pairs_are_same-loop-at : goal.decreases-pairs_are_same-loop-at
decreases-pairs_are_same-loop-at l = length l.ones - l.at

abbrev pub decreases-is_same : goal.decreases-is_same
decreases-is_same l = 4 * goal.size-is_same l

abbrev pub decreases-are_same : goal.decreases-are_same
decreases-are_same l = 4 * goal.size-are_same l + 1

abbrev pub decreases-pairs_are_same : goal.decreases-pairs_are_same
decreases-pairs_are_same l = 4 * goal.size-pairs_are_same l + 2

abbrev pub decreases-pair_is_same : goal.decreases-pair_is_same
decreases-pair_is_same l = 4 * goal.size-pair_is_same l + 1
