use Rattle.std.proofs.Common.{arith}
use Rattle.open_items.proofs.Filtered.{changed_more}
use Rattle.session_path.specs.Links.{put_for}
use Rattle.session_path.proofs.links.put_link.Goals as goal

pub loop-this-preserved : goal.loop-this-preserved
loop-this-preserved c =
    changed_more (put_for c.args.link) _ _ _ _ _ (omega arith) c.loop-this.invariant c.put_one.ensures
