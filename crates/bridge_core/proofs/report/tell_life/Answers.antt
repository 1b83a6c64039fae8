use Rattle.std.proofs.Common.{arith}
use Rattle.bridge_core.proofs.OwedLines.{slots_from}
use Rattle.bridge_core.proofs.Writings.{telling_more, telling_stops}
use Rattle.bridge_core.proofs.report.tell_life.Goals as goal

pub returns-then-not-tell_slot : goal.returns-then-not-tell_slot
returns-then-not-tell_slot g c =
    telling_stops _ _ _ _ _ _ _ _ _ _ _
    (slots_from c.args.pair c.args.life c.args.slots.now c.loop-slot.slot-index c.slot-item.result (omega arith) c.slot-item.is)
    c.if-not-tell_slot.true c.loop-slot.invariant c.tell_slot.ensures

pub loop-slot-preserved : goal.loop-slot-preserved
loop-slot-preserved g c =
    telling_more _ _ _ _ _ _ _ _ _ _ _
    (slots_from c.args.pair c.args.life c.args.slots.now c.loop-slot.slot-index c.slot-item.result (omega arith) c.slot-item.is)
    c.if-not-tell_slot.false c.loop-slot.invariant c.tell_slot.ensures
