use Rattle.std.proofs.Common.{◌≡◌, ℕ, ◌+◌, ◌-◌, ◌*◌, ◌≤◌}
use Rattle.types_10.specs.Reading.{row_in, two_in, value_in, constructor_in, shape_in, element_in}
use Rattle.types_10.specs.Shapes.{shape_data}
use Rattle.types_10.proofs.Constructors.{behind_descriptors}
use Rattle.types_10.proofs.Rows.{behind_row}
use Rattle.types_10.proofs.reading.+nested.Given as goal

abbrev pub decreases-content_of : goal.decreases-content_of
decreases-content_of l = 8 * l.depth

abbrev pub decreases-value_of : goal.decreases-value_of
decreases-value_of l = 8 * l.depth + 1

abbrev pub decreases-element_of : goal.decreases-element_of
decreases-element_of l = 8 * l.depth + 1

abbrev pub decreases-shape_of : goal.decreases-shape_of
decreases-shape_of l = 8 * l.depth + 2

abbrev pub decreases-pair_of : goal.decreases-pair_of
decreases-pair_of l = 8 * l.depth + 2

abbrev pub decreases-values_of : goal.decreases-values_of
decreases-values_of l = 8 * l.depth + 2

abbrev pub decreases-elements_of : goal.decreases-elements_of
decreases-elements_of l = 8 * l.depth + 3

abbrev pub decreases-shaped_of : goal.decreases-shaped_of
decreases-shaped_of l = 8 * l.depth + 2

abbrev pub decreases-pairs_of : goal.decreases-pairs_of
decreases-pairs_of l = 8 * l.depth + 3

abbrev pub decreases-list_of : goal.decreases-list_of
decreases-list_of l = 8 * l.depth + 4

abbrev pub decreases-map_of : goal.decreases-map_of
decreases-map_of l = 8 * l.depth + 4

abbrev pub decreases-array_of : goal.decreases-array_of
decreases-array_of l = 8 * l.depth + 4

abbrev pub decreases-deep_of : goal.decreases-deep_of
decreases-deep_of l = 8 * l.depth + 5

abbrev pub invariant-values_of-loop-done : goal.invariant-values_of-loop-done
invariant-values_of-loop-done l =
    let read = λ (room : ℕ). value_in l.depth room l.bounds.cut in
    (l.done ≤ l.count) × (behind_row l.list (row_in read (l.count - l.done) l.spare l.bounds.end l.rest) ≡ row_in read l.count l.room l.bounds.end l.bytes)

abbrev pub invariant-pairs_of-loop-done : goal.invariant-pairs_of-loop-done
invariant-pairs_of-loop-done l =
    let read = two_in (λ room. value_in l.depth room l.bounds.cut) in
    (l.done ≤ l.count) × (behind_row l.list (row_in read (l.count - l.done) l.spare l.bounds.end l.rest) ≡ row_in read l.count l.room l.bounds.end l.bytes)

abbrev pub invariant-shape_of-loop-most : goal.invariant-shape_of-loop-most
invariant-shape_of-loop-most l =
    behind_descriptors l.descriptors (constructor_in (value_in l.depth) l.most l.spare l.bounds.cut l.bounds.end l.rest) ≡ shape_in l.depth l.room l.bounds.cut l.bounds.end l.bytes

abbrev pub invariant-elements_of-loop-done : goal.invariant-elements_of-loop-done
invariant-elements_of-loop-done l =
    let read = λ (room : ℕ). element_in l.depth room (shape_data l.shape) l.at l.bounds.cut in
    (l.done ≤ l.count) × (behind_row l.list (row_in read (l.count - l.done) l.spare l.bounds.end l.rest) ≡ row_in read l.count l.room l.bounds.end l.bytes)

abbrev pub decreases-values_of-loop-done : goal.decreases-values_of-loop-done
decreases-values_of-loop-done l = l.count - l.done

abbrev pub decreases-pairs_of-loop-done : goal.decreases-pairs_of-loop-done
decreases-pairs_of-loop-done l = l.count - l.done

abbrev pub decreases-elements_of-loop-done : goal.decreases-elements_of-loop-done
decreases-elements_of-loop-done l = l.count - l.done

abbrev pub decreases-shape_of-loop-most : goal.decreases-shape_of-loop-most
decreases-shape_of-loop-most l = l.most
