use Rattle.std.proofs.Common.{◌≡◌, ◌++◌, map, take, drop}
use Rattle.consume_path.specs.Kept.{taken_counted}
use Rattle.consume_path.proofs.link_changes.take_on.Given as goal

abbrev pub invariant-loop-l : goal.invariant-loop-l
invariant-loop-l l = l.l-items ≡ map (taken_counted l.link l.image) (take l.l-index l.fn.links.items) ++ drop l.l-index l.fn.links.items
