use Rattle.std.proofs.Common.{◌≡◌, ◌+◌, ◌*◌, ◌-◌, length}
use Rattle.tables_091.specs.Tree.{depth, list_depth, entries_depth, trees_of, members_of}
use Rattle.tables_091.specs.View.{field_tree}
use Rattle.property_map.specs.Room.{trees_len, members_len, left_of}
use Rattle.property_map.proofs.Rooms.{list_left, table_left}
use Rattle.property_map.proofs.room.+room.Given as goal

abbrev pub decreases-left_of_field : goal.decreases-left_of_field
decreases-left_of_field l = 2 * depth (field_tree l.field.now)

abbrev pub decreases-left_of_list : goal.decreases-left_of_list
decreases-left_of_list l = 2 * list_depth l.list.now + 1

abbrev pub decreases-left_of_entries : goal.decreases-left_of_entries
decreases-left_of_entries l = 2 * entries_depth l.table.now + 1

-- what is left behind the fields before a place decides
abbrev pub invariant-left_of_list-loop-k : goal.invariant-left_of_list-loop-k
invariant-left_of_list-loop-k l = left_of l.left (list_left l.list l.k) ≡ left_of l.fn.room (5 + trees_len (trees_of l.list))

abbrev pub decreases-left_of_list-loop-k : goal.decreases-left_of_list-loop-k
decreases-left_of_list-loop-k l = length l.list - l.k

abbrev pub invariant-left_of_entries-loop-k : goal.invariant-left_of_entries-loop-k
invariant-left_of_entries-loop-k l = left_of l.left (table_left l.table l.k) ≡ left_of l.fn.room (l.fn.front + members_len (members_of l.table))

abbrev pub decreases-left_of_entries-loop-k : goal.decreases-left_of_entries-loop-k
decreases-left_of_entries-loop-k l = length l.table - l.k
