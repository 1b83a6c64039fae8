use Rattle.std.proofs.Common.{◌≡◌, ◌++◌, map, take, drop}
use Rattle.consume_path.specs.Items.{changed}
use Rattle.consume_path.specs.Links.{recount}
use Rattle.consume_path.specs.Kept.{counts_of}
use Rattle.consume_path.proofs.visits.change_between.Given as goal

abbrev pub invariant-loop-place : goal.invariant-loop-place
invariant-loop-place l = record {
  items : l.items.items ≡ map (changed l.change) (take l.place l.fn.items.items) ++ drop l.place l.fn.items.items;
  links : l.links.items ≡ map (recount l.items.items) l.fn.links.items;
  counts : l.counts ≡ counts_of l.items.items;
}
