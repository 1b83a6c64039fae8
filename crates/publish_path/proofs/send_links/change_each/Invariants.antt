use Rattle.std.proofs.Common.{◌≡◌, ◌++◌, map, take, drop}
use Rattle.publish_path.specs.Links.{link_changed}
use Rattle.publish_path.proofs.send_links.change_each.Given as goal

abbrev pub invariant-loop-this : goal.invariant-loop-this
invariant-loop-this l =
    l.this-items ≡ map (link_changed l.link l.change) (take l.this-index l.fn.links.items) ++ drop l.this-index l.fn.links.items
