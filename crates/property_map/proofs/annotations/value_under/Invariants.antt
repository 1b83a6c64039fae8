use Rattle.std.proofs.Common.{◌≡◌, ◌-◌, length}
use Rattle.types_10.specs.Tree.{pairs_of}
use Rattle.property_map.specs.Rows091.{value_under}
use Rattle.property_map.proofs.FieldLoops.{pairs_from}
use Rattle.property_map.proofs.annotations.value_under.Given as goal

-- what is found is found from here on
abbrev pub invariant-loop-k : goal.invariant-loop-k
invariant-loop-k l = value_under l.name (pairs_from l.pairs l.k) ≡ value_under l.name (pairs_of l.pairs)

abbrev pub decreases-loop-k : goal.decreases-loop-k
decreases-loop-k l = length l.pairs - l.k
