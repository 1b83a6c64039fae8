use Rattle.std.proofs.Common.{◌≡◌, ◌++◌, map, take, drop}
use Rattle.consume_path.specs.Kept.{tallied}
use Rattle.consume_path.proofs.tallies.tally_links.Given as goal

abbrev pub invariant-loop-l : goal.invariant-loop-l
invariant-loop-l l = l.l-items ≡ map (tallied l.before l.after) (take l.l-index l.fn.links.items) ++ drop l.l-index l.fn.links.items
