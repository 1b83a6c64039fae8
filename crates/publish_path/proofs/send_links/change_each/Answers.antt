use Rattle.std.proofs.Common.{arith}
use Rattle.open_items.proofs.Filtered.{changed_more}
use Rattle.publish_path.specs.Links.{link_changed}
use Rattle.publish_path.proofs.send_links.change_each.Goals as goal

pub loop-this-preserved : goal.loop-this-preserved
loop-this-preserved c =
    changed_more (link_changed c.args.link c.args.change) _ _ _ _ _ (omega arith) c.loop-this.invariant c.change_one.ensures
