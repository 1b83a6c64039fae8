use Rattle.std.proofs.Common.{◌≡◌, ◌++◌, map, take, drop}
use Rattle.session_path.specs.Links.{put_for}
use Rattle.session_path.proofs.links.put_link.Given as goal

abbrev pub invariant-loop-this : goal.invariant-loop-this
invariant-loop-this l =
    l.this-items ≡ map (put_for l.link) (take l.this-index l.fn.links.items) ++ drop l.this-index l.fn.links.items
