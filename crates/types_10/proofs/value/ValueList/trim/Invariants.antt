use Rattle.std.proofs.Common.{◌≡◌, map, length}
use Rattle.types_10.specs.Fields.{trim}
use Rattle.types_10.specs.Ranges.{ListIsRanged}
use Rattle.types_10.specs.View.{value_tree}
use Rattle.types_10.proofs.value.ValueList.trim.Given as goal

-- what was dropped were nulls at the end
abbrev pub invariant-loop-self : goal.invariant-loop-self
invariant-loop-self l =
    (trim (map value_tree l.self-inside.items.items) ≡ trim l.fn.self) × ListIsRanged (map value_tree l.self-inside.items.items)

abbrev pub decreases-loop-self : goal.decreases-loop-self
decreases-loop-self l = length l.self-inside.items.items
