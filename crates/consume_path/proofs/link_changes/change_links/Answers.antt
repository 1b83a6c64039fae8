use Rattle.std.proofs.Common.{arith}
use Rattle.open_items.proofs.Filtered.{changed_more}
use Rattle.consume_path.specs.Links.{link_changed}
use Rattle.consume_path.proofs.link_changes.change_links.Goals as goal

pub loop-l-preserved : goal.loop-l-preserved
loop-l-preserved c =
    changed_more (link_changed c.args.link c.args.change) _ _ _ _ _ (omega arith) c.loop-l.invariant c.change_link.ensures
