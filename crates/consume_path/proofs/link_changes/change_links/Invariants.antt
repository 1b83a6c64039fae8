use Rattle.std.proofs.Common.{◌≡◌, ◌++◌, map, take, drop}
use Rattle.consume_path.specs.Links.{link_changed}
use Rattle.consume_path.proofs.link_changes.change_links.Given as goal

abbrev pub invariant-loop-l : goal.invariant-loop-l
invariant-loop-l l = l.l-items ≡ map (link_changed l.link l.change) (take l.l-index l.fn.links.items) ++ drop l.l-index l.fn.links.items
