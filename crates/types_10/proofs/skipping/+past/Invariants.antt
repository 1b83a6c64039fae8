use Rattle.std.proofs.Common.{◌≡◌, ℕ, ◌+◌, ◌-◌, ◌*◌, ◌≤◌}
use Rattle.types_10.specs.Reading.{Shape, row_in, value_in, shape_in, element_in}
use Rattle.types_10.specs.Skipping.{outline}
use Rattle.types_10.proofs.Pasts.{IsSoFar, IsFrontSoFar}
use Rattle.types_10.proofs.skipping.+past.Given as goal

abbrev pub decreases-content_past : goal.decreases-content_past
decreases-content_past l = 8 * l.depth

abbrev pub decreases-value_past : goal.decreases-value_past
decreases-value_past l = 8 * l.depth + 1

abbrev pub decreases-element_past : goal.decreases-element_past
decreases-element_past l = 8 * l.depth + 1

abbrev pub decreases-shape_past : goal.decreases-shape_past
decreases-shape_past l = 8 * l.depth + 2

abbrev pub decreases-values_past : goal.decreases-values_past
decreases-values_past l = 8 * l.depth + 2

abbrev pub decreases-elements_past : goal.decreases-elements_past
decreases-elements_past l = 8 * l.depth + 3

abbrev pub decreases-alike_past : goal.decreases-alike_past
decreases-alike_past l = 8 * l.depth + 2

abbrev pub decreases-list_past : goal.decreases-list_past
decreases-list_past l = 8 * l.depth + 3

abbrev pub decreases-map_past : goal.decreases-map_past
decreases-map_past l = 8 * l.depth + 3

abbrev pub decreases-array_past : goal.decreases-array_past
decreases-array_past l = 8 * l.depth + 4

abbrev pub decreases-deep_past : goal.decreases-deep_past
decreases-deep_past l = 8 * l.depth + 5

abbrev pub invariant-values_past-loop-done : goal.invariant-values_past-loop-done
invariant-values_past-loop-done l =
    let read = λ (room : ℕ). value_in l.depth room l.bounds.cut in
    (l.done ≤ l.count) × IsSoFar read (row_in read l.count l.room l.bounds.end l.bytes) l.all (l.count - l.done) l.spare l.bounds.end l.rest

abbrev pub invariant-elements_past-loop-done : goal.invariant-elements_past-loop-done
invariant-elements_past-loop-done l =
    (l.done ≤ l.count) × ((c : Shape) → l.shape ≡ outline c → let read = λ (room : ℕ). element_in l.depth room c l.at l.bounds.cut in
    IsSoFar read (row_in read l.count l.room l.bounds.end l.bytes) l.all (l.count - l.done) l.spare l.bounds.end l.rest)

abbrev pub invariant-shape_past-loop-most : goal.invariant-shape_past-loop-most
invariant-shape_past-loop-most l =
    IsFrontSoFar (value_in l.depth) (shape_in l.depth l.room l.bounds.cut l.bounds.end l.bytes) l.front l.most l.spare l.bounds.cut l.bounds.end l.rest

abbrev pub decreases-values_past-loop-done : goal.decreases-values_past-loop-done
decreases-values_past-loop-done l = l.count - l.done

abbrev pub decreases-elements_past-loop-done : goal.decreases-elements_past-loop-done
decreases-elements_past-loop-done l = l.count - l.done

abbrev pub decreases-shape_past-loop-most : goal.decreases-shape_past-loop-most
decreases-shape_past-loop-most l = l.most
