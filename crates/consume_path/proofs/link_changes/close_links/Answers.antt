use Rattle.std.proofs.Common.{arith}
use Rattle.open_items.proofs.Filtered.{changed_more}
use Rattle.consume_path.specs.Links.{link_closed}
use Rattle.consume_path.proofs.link_changes.close_links.Goals as goal

pub loop-l-preserved : goal.loop-l-preserved
loop-l-preserved c =
    changed_more (link_closed) _ _ _ _ _ (omega arith) c.loop-l.invariant c.close_one.ensures
