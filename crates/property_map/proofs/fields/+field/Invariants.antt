use Rattle.std.proofs.Common.{◌≡◌, ◌+◌, ◌*◌, ◌-◌, length, drop}
use Rattle.tables_091.specs.Tree as field
use Rattle.types_10.specs.Tree.{depth, list_depth, pairs_depth_of, trees_of, pairs_of}
use Rattle.types_10.specs.View.{value_tree}
use Rattle.property_map.specs.Steps.{behind}
use Rattle.property_map.specs.Fields.{fields_in, kept_of, names_of}
use Rattle.property_map.proofs.FieldLoops.{all_fields, pairs_from, made, Made}
use Rattle.property_map.proofs.fields.+field.Given as goal

abbrev pub decreases-field_of : goal.decreases-field_of
decreases-field_of l = 3 * depth (value_tree l.value.now)

abbrev pub decreases-fields_of : goal.decreases-fields_of
decreases-fields_of l = 3 * list_depth l.list.now + 1

abbrev pub decreases-table_of : goal.decreases-table_of
decreases-table_of l = 3 * pairs_depth_of l.pairs.now + 2

abbrev pub decreases-with_pairs : goal.decreases-with_pairs
decreases-with_pairs l = 3 * pairs_depth_of l.pairs.now + 1

-- what was made, and what is still made
abbrev pub invariant-fields_of-loop-k : goal.invariant-fields_of-loop-k
invariant-fields_of-loop-k l = behind field.tree l.fields (all_fields (drop l.k l.list)) ≡ fields_in (trees_of l.list)

abbrev pub decreases-fields_of-loop-k : goal.decreases-fields_of-loop-k
decreases-fields_of-loop-k l = length l.list - l.k

abbrev pub invariant-with_pairs-loop-k : goal.invariant-with_pairs-loop-k
invariant-with_pairs-loop-k l = Made l.names l.table l.skips (pairs_from l.pairs l.k) (made l.initial.table (names_of l.initial.table) (kept_of l.skips (pairs_of l.pairs)))

abbrev pub decreases-with_pairs-loop-k : goal.decreases-with_pairs-loop-k
decreases-with_pairs-loop-k l = length l.pairs - l.k
