use Rattle.std.proofs.Common.{◌≡◌, ℕ, ◌-◌, ◌≤◌, slice_get}
use Rattle.types_10.specs.Reading.{row_in, value_in}
use Rattle.types_10.specs.Spelled.{told_row, IsRead}
use Rattle.types_10.proofs.spelled.nth_of.Given as goal

-- the value is among those that are left
abbrev pub invariant-loop-before : goal.invariant-loop-before
invariant-loop-before l =
    let read = λ (room : ℕ). value_in l.depth room l.bounds.cut in
    let left = row_in read (l.count - (l.place - l.before)) l.spare l.bounds.end l.rest in
    (l.before ≤ l.place) × IsRead left × (slice_get (told_row (row_in read l.count l.room l.bounds.end l.text)) l.place ≡ slice_get (told_row left) l.before)

abbrev pub decreases-loop-before : goal.decreases-loop-before
decreases-loop-before l = l.before
