use Rattle.std.proofs.Common.{◌∙◌, ap, arith}
use Rattle.bridge_core.specs.Reports.{owing_on, sooner}
use Rattle.bridge_core.proofs.NextOwing.{next_more}
use Rattle.bridge_core.proofs.paths.next_owing.Goals as goal

pub loop-slot-preserved : goal.loop-slot-preserved
loop-slot-preserved c =
    let l = c.loop-slot in
    next_more c.args.above c.args.last c.args.slots.now l.slot-index c.slot-item.result l.next c.sooner-next.result (omega arith) l.invariant
    (c.sooner-next.ensures ∙ ap (sooner c.args.above c.args.last l.next) (c.owing.ensures ∙ ap owing_on c.slot-item.is))
