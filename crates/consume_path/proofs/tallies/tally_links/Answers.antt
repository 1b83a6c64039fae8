use Rattle.std.proofs.Common.{arith}
use Rattle.open_items.proofs.Filtered.{changed_more}
use Rattle.consume_path.specs.Kept.{tallied}
use Rattle.consume_path.proofs.tallies.tally_links.Goals as goal

pub loop-l-preserved : goal.loop-l-preserved
loop-l-preserved c =
    changed_more (tallied c.args.before c.args.after) _ _ _ _ _ (omega arith) c.loop-l.invariant c.tally_one.ensures
