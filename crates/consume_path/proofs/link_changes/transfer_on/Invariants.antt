use Rattle.std.proofs.Common.{◌≡◌, ◌++◌, take, drop}
use Rattle.consume_path.specs.Links.{has_number, change_first}
use Rattle.consume_path.specs.Kept.{came_counted}
use Rattle.consume_path.proofs.link_changes.transfer_on.Given as goal

abbrev pub invariant-loop-k : goal.invariant-loop-k
invariant-loop-k l = record {
  same : l.links.items ≡ l.fn.links.items;
  first : change_first (has_number l.link) (came_counted l.part l.fn.payload) l.fn.links.items ≡ take l.k l.fn.links.items ++ change_first (has_number l.link) (came_counted l.part l.fn.payload) (drop l.k l.fn.links.items);
}
