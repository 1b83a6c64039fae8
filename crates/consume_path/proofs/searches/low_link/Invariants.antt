use Rattle.std.proofs.Common.{take}
use Rattle.std.specs.List.{AllByRecursion}
use Rattle.consume_path.specs.Kept.{IsLinkFrom}
use Rattle.consume_path.proofs.searches.low_link.Given as goal

abbrev pub invariant-loop-d : goal.invariant-loop-d
invariant-loop-d l = AllByRecursion (IsLinkFrom l.low) (take l.d-index l.items)
