use Rattle.std.proofs.Common.{◌≡◌, ◌+◌, ◌*◌, length}
use Rattle.wire_base.specs.Bytes.{IsBytes}
use Rattle.wire_base.specs.Reading.{all_items, offset}
use Rattle.wire_base.proofs.Items.{with_front}
use Rattle.tables_091.specs.Reading.{field_in, member_in}
use Rattle.tables_091.proofs.reading.+nested.Given as goal

abbrev pub decreases-field_of : goal.decreases-field_of
decreases-field_of l = 5 * l.depth

abbrev pub decreases-entry_of : goal.decreases-entry_of
decreases-entry_of l = 5 * l.depth + 1

abbrev pub decreases-fields_of : goal.decreases-fields_of
decreases-fields_of l = 5 * l.depth + 1

abbrev pub decreases-entries_of : goal.decreases-entries_of
decreases-entries_of l = 5 * l.depth + 2

abbrev pub decreases-list_of : goal.decreases-list_of
decreases-list_of l = 5 * l.depth + 2

abbrev pub decreases-table_of : goal.decreases-table_of
decreases-table_of l = 5 * l.depth + 3

abbrev pub decreases-deep_of : goal.decreases-deep_of
decreases-deep_of l = 5 * l.depth + 4

abbrev pub invariant-fields_of-loop-rest : goal.invariant-fields_of-loop-rest
invariant-fields_of-loop-rest l =
    IsBytes l.rest × (with_front l.list (all_items offset (field_in l.depth) l.end l.rest) ≡ all_items offset (field_in l.depth) l.end l.body)

abbrev pub decreases-fields_of-loop-rest : goal.decreases-fields_of-loop-rest
decreases-fields_of-loop-rest l = length l.rest

abbrev pub invariant-entries_of-loop-rest : goal.invariant-entries_of-loop-rest
invariant-entries_of-loop-rest l =
    IsBytes l.rest × (with_front l.table (all_items offset (member_in (field_in l.depth)) l.end l.rest) ≡ all_items offset (member_in (field_in l.depth)) l.end l.body)

abbrev pub decreases-entries_of-loop-rest : goal.decreases-entries_of-loop-rest
decreases-entries_of-loop-rest l = length l.rest
