use Rattle.std.proofs.Common.{◌≡◌, ◌+◌, ◌*◌, ◌++◌, take}
use Rattle.std.specs.List.{flat_map}
use Rattle.tables_091.specs.Writing.{field_text, entry_text}
use Rattle.tables_091.proofs.writing.+nested.Given as goal

abbrev pub invariant-put_fields-loop-field : goal.invariant-put_fields-loop-field
invariant-put_fields-loop-field l = l.out ≡ l.fn.out ++ flat_map field_text (take l.field-index l.fields)

abbrev pub invariant-put_entries-loop-entry : goal.invariant-put_entries-loop-entry
invariant-put_entries-loop-entry l = l.out ≡ l.fn.out ++ flat_map entry_text (take l.entry-index l.entries)

abbrev pub decreases-put_field : goal.decreases-put_field
decreases-put_field l = 4 * goal.size-put_field l

abbrev pub decreases-put_entry : goal.decreases-put_entry
decreases-put_entry l = 4 * goal.size-put_entry l + 1

abbrev pub decreases-put_fields : goal.decreases-put_fields
decreases-put_fields l = 4 * goal.size-put_fields l + 1

abbrev pub decreases-put_entries : goal.decreases-put_entries
decreases-put_entries l = 4 * goal.size-put_entries l + 2

abbrev pub decreases-put_list : goal.decreases-put_list
decreases-put_list l = 4 * goal.size-put_list l + 2

abbrev pub decreases-put_body : goal.decreases-put_body
decreases-put_body l = 4 * goal.size-put_body l + 3
