use Rattle.std.proofs.Common.{◌≡◌, ◌+◌, ◌*◌, ◌-◌, [], length, drop}
use Rattle.tables_091.specs.Tree.{depth, list_depth, entries_depth, trees_of, members_of}
use Rattle.tables_091.specs.View.{field_tree}
use Rattle.types_10.specs.Tree as value
use Rattle.property_map.specs.Names.{Holds}
use Rattle.property_map.specs.Steps.{behind}
use Rattle.property_map.specs.Values.{values_in, pairs_in}
use Rattle.property_map.proofs.Loops.{all_values, a_pair, pairs_from, names_before}
use Rattle.property_map.proofs.values.+value.Given as goal

abbrev pub decreases-value_of : goal.decreases-value_of
decreases-value_of l = 2 * depth (field_tree l.field.now)

abbrev pub decreases-values_of : goal.decreases-values_of
decreases-values_of l = 2 * list_depth l.list.now + 1

abbrev pub decreases-pairs_of : goal.decreases-pairs_of
decreases-pairs_of l = 2 * entries_depth l.table.now + 1

-- what was made, and what is still made
abbrev pub invariant-values_of-loop-k : goal.invariant-values_of-loop-k
invariant-values_of-loop-k l = behind value.tree l.values (all_values (drop l.k l.list)) ≡ values_in (trees_of l.list)

abbrev pub decreases-values_of-loop-k : goal.decreases-values_of-loop-k
decreases-values_of-loop-k l = length l.list - l.k

abbrev pub invariant-pairs_of-loop-k : goal.invariant-pairs_of-loop-k
invariant-pairs_of-loop-k l = record { made : behind a_pair l.pairs (pairs_from l.table l.k) ≡ pairs_in [] (members_of l.table); names : Holds l.names (names_before l.table l.k) }

abbrev pub decreases-pairs_of-loop-k : goal.decreases-pairs_of-loop-k
decreases-pairs_of-loop-k l = length l.table - l.k
