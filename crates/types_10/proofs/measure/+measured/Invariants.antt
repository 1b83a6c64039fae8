use Rattle.std.proofs.Common.{◌≡◌, ◌+◌, ◌*◌, ◌≤◌, length, map, take, drop}
use Rattle.std.specs.List.{flat_map}
use Rattle.types_10.specs.Tree.{trees_of}
use Rattle.types_10.specs.View.{value_tree}
use Rattle.types_10.specs.Measures.{capped, pair_text, IsEachMeasure}
use Rattle.types_10.proofs.measure.+measured.Given as goal

-- what is behind the value that is measured next
abbrev pub invariant-measure_each-loop-left : goal.invariant-measure_each-loop-left
invariant-measure_each-loop-left l = (l.left ≤ length l.values) × IsEachMeasure l.each (trees_of (map value_tree (drop l.left l.values)))

abbrev pub decreases-measure_each-loop-left : goal.decreases-measure_each-loop-left
decreases-measure_each-loop-left l = l.left

abbrev pub invariant-measure_pairs-loop-pair : goal.invariant-measure_pairs-loop-pair
invariant-measure_pairs-loop-pair l = l.body ≡ capped (length (flat_map pair_text (take l.pair-index l.pairs)))

abbrev pub decreases-measure_value : goal.decreases-measure_value
decreases-measure_value l = 4 * goal.size-measure_value l

abbrev pub decreases-measure_pair : goal.decreases-measure_pair
decreases-measure_pair l = 4 * goal.size-measure_pair l + 1

abbrev pub decreases-measure_each : goal.decreases-measure_each
decreases-measure_each l = 4 * goal.size-measure_each l + 1

abbrev pub decreases-measure_pairs : goal.decreases-measure_pairs
decreases-measure_pairs l = 4 * goal.size-measure_pairs l + 2

abbrev pub decreases-measure_list : goal.decreases-measure_list
decreases-measure_list l = 4 * goal.size-measure_list l + 2

abbrev pub decreases-measure_array : goal.decreases-measure_array
decreases-measure_array l = 4 * goal.size-measure_array l + 2

abbrev pub decreases-measure_map : goal.decreases-measure_map
decreases-measure_map l = 4 * goal.size-measure_map l + 3
