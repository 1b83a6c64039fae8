use Rattle.std.proofs.Common.{◌≡◌, ◌++◌, map, take, drop}
use Rattle.publish_path.specs.Publishes.{changed}
use Rattle.publish_path.specs.Kept.{counts_of}
use Rattle.publish_path.proofs.visits.change_between.Given as goal

abbrev pub invariant-loop-place : goal.invariant-loop-place
invariant-loop-place l = record {
  items : l.items.items ≡ map (changed l.change) (take l.place l.fn.items.items) ++ drop l.place l.fn.items.items;
  counted : l.counts ≡ counts_of l.items.items;
}
