use Rattle.std.proofs.Common.{◌≡◌, drop}
use Rattle.std.specs.Prelude.{filter}
use Rattle.publish_path.specs.Offers.{is_unanswered}
use Rattle.publish_path.specs.Searches.{found_confirm}
use Rattle.publish_path.proofs.Steps.{rest_confirm, rest_due}
use Rattle.publish_path.proofs.searches.first_confirm.Given as goal

abbrev pub invariant-loop-p : goal.invariant-loop-p
invariant-loop-p l = record {
  run : rest_confirm l.run (filter is_unanswered (drop l.p-index l.items)) ≡ found_confirm (filter is_unanswered l.items);
  due : rest_due l.run (drop l.p-index l.items) l.items;
}
