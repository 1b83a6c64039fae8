use Rattle.std.proofs.Common.{take}
use Rattle.std.specs.List.{AllByRecursion}
use Rattle.consume_path.specs.Kept.{IsUpTo}
use Rattle.consume_path.proofs.searches.top_id.Given as goal

abbrev pub invariant-loop-d : goal.invariant-loop-d
invariant-loop-d l = AllByRecursion (IsUpTo l.top) (take l.d-index l.items)
