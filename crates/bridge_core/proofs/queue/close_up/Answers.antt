use Rattle.std.proofs.Common.{arith}
use Rattle.open_items.proofs.Filtered.{changed_more}
use Rattle.bridge_core.specs.Held.{moved_up}
use Rattle.bridge_core.proofs.queue.close_up.Goals as goal

pub loop-first-preserved : goal.loop-first-preserved
loop-first-preserved c =
    changed_more (moved_up c.args.at) _ _ _ _ _ (omega arith) c.loop-first.invariant c.moved_up.ensures
