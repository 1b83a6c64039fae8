use Rattle.std.proofs.Common.{arith}
use Rattle.bridge_core.proofs.OwedLines.{publishes_from}
use Rattle.bridge_core.proofs.Writings.{telling_more, telling_stops}
use Rattle.bridge_core.proofs.report.tell_publishes.Goals as goal

pub returns-then-not-tell_publish : goal.returns-then-not-tell_publish
returns-then-not-tell_publish g c =
    telling_stops _ _ _ _ _ _ _ _ _ _ _
    (publishes_from c.args.pair c.args.life c.args.publishes.now c.loop-publish.publish-index c.publish-item.result (omega arith) c.publish-item.is)
    c.if-not-tell_publish.true c.loop-publish.invariant c.tell_publish.ensures

pub loop-publish-preserved : goal.loop-publish-preserved
loop-publish-preserved g c =
    telling_more _ _ _ _ _ _ _ _ _ _ _
    (publishes_from c.args.pair c.args.life c.args.publishes.now c.loop-publish.publish-index c.publish-item.result (omega arith) c.publish-item.is)
    c.if-not-tell_publish.false c.loop-publish.invariant c.tell_publish.ensures
