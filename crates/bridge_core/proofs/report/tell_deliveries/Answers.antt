use Rattle.std.proofs.Common.{arith}
use Rattle.bridge_core.proofs.OwedLines.{deliveries_from}
use Rattle.bridge_core.proofs.Writings.{telling_more, telling_stops}
use Rattle.bridge_core.proofs.report.tell_deliveries.Goals as goal

pub returns-then-not-tell_delivery : goal.returns-then-not-tell_delivery
returns-then-not-tell_delivery g c =
    telling_stops _ _ _ _ _ _ _ _ _ _ _
    (deliveries_from c.args.pair c.args.life c.args.deliveries.now c.loop-delivery.delivery-index c.delivery-item.result (omega arith) c.delivery-item.is)
    c.if-not-tell_delivery.true c.loop-delivery.invariant c.tell_delivery.ensures

pub loop-delivery-preserved : goal.loop-delivery-preserved
loop-delivery-preserved g c =
    telling_more _ _ _ _ _ _ _ _ _ _ _
    (deliveries_from c.args.pair c.args.life c.args.deliveries.now c.loop-delivery.delivery-index c.delivery-item.result (omega arith) c.delivery-item.is)
    c.if-not-tell_delivery.false c.loop-delivery.invariant c.tell_delivery.ensures
