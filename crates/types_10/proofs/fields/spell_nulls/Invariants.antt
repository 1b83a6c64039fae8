use Rattle.std.proofs.Common.{◌≡◌, ◌++◌}
use Rattle.types_10.specs.Fields.{nulls}
use Rattle.types_10.proofs.fields.spell_nulls.Given as goal

-- the nulls that are left make the list whole
abbrev pub invariant-loop-left : goal.invariant-loop-left
invariant-loop-left l = l.list ++ nulls l.left ≡ l.fn.list ++ nulls l.fn.left

abbrev pub decreases-loop-left : goal.decreases-loop-left
decreases-loop-left l = l.left
