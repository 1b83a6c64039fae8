use Rattle.std.proofs.Common.{◌≡◌, ◌+◌, ◌*◌, ◌≤◌, length, map, drop}
use Rattle.types_10.specs.Tree.{trees_of, pairs_of}
use Rattle.types_10.specs.View.{value_tree, pair_trees}
use Rattle.types_10.specs.Measures.{capped, IsEachLoad}
use Rattle.types_10.specs.Writing.{pairs_load}
use Rattle.types_10.proofs.load.+loaded.Given as goal

-- what is behind the value that is counted next
abbrev pub invariant-loads_of-loop-left : goal.invariant-loads_of-loop-left
invariant-loads_of-loop-left l = (l.left ≤ length l.values) × IsEachLoad l.each (trees_of (map value_tree (drop l.left l.values)))

abbrev pub decreases-loads_of-loop-left : goal.decreases-loads_of-loop-left
decreases-loads_of-loop-left l = l.left

abbrev pub invariant-pairs_load_of-loop-left : goal.invariant-pairs_load_of-loop-left
invariant-pairs_load_of-loop-left l = (l.left ≤ length l.pairs) × (l.sum ≡ capped (pairs_load (pairs_of (map pair_trees (drop l.left l.pairs)))))

abbrev pub decreases-pairs_load_of-loop-left : goal.decreases-pairs_load_of-loop-left
decreases-pairs_load_of-loop-left l = l.left

abbrev pub decreases-load_of : goal.decreases-load_of
decreases-load_of l = 4 * goal.size-load_of l

abbrev pub decreases-pair_load_of : goal.decreases-pair_load_of
decreases-pair_load_of l = 4 * goal.size-pair_load_of l + 1

abbrev pub decreases-loads_of : goal.decreases-loads_of
decreases-loads_of l = 4 * goal.size-loads_of l + 1

abbrev pub decreases-pairs_load_of : goal.decreases-pairs_load_of
decreases-pairs_load_of l = 4 * goal.size-pairs_load_of l + 2

abbrev pub decreases-array_load : goal.decreases-array_load
decreases-array_load l = 4 * goal.size-array_load l + 2
