use Rattle.std.proofs.Common.{arith}
use Rattle.open_items.proofs.Filtered.{changed_more}
use Rattle.consume_path.specs.Kept.{taken_counted}
use Rattle.consume_path.proofs.link_changes.take_on.Goals as goal

pub loop-l-preserved : goal.loop-l-preserved
loop-l-preserved c =
    changed_more (taken_counted c.args.link c.args.image) _ _ _ _ _ (omega arith) c.loop-l.invariant c.take_one.ensures
