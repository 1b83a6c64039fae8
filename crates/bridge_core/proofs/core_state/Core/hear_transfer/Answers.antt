use Rattle.std.proofs.Common.{◌∙◌, sym}
use Rattle.machine_10.specs.Parts.{parts_of}
use Rattle.performatives_10.specs.declared.performative.Perf.TheVariants as perf
use Rattle.gate_model.specs.Paths.{transferred, with_path}
use Rattle.gate_model.specs.State.{State}
use Rattle.bridge_core.proofs.LinkFaults.{last_heard, more_made, paths_made, retold}
use Rattle.bridge_core.proofs.core_state.Core.hear_transfer.Goals as goal

pub returns-then-part-clause-ok : goal.returns-then-part-clause-ok
returns-then-part-clause-ok c =
    let t = c.args.transfer.now in
    let n = c.args.channel in
    paths_made c.transfer.result _ _ c.transfer.new.self (λ (w : State). with_path n (transferred w.conn.limits.frame_max n (parts_of (perf.Transfer t)).1 c.args.payload.now) w.paths)
    (more_made c.transfer.result c.self.inside.conn.limits.frame_max n t c.part_of-part.result c.args.payload.now c.self.inside.paths c.transfer.new.self
    c.part_of-part.ensures (sym c.in_default.is ∙ c.transfer_fault-fault.ensures) c.transfer.ensures.ok)
    c.self.view_is

pub returns-clause-ok : goal.returns-clause-ok
returns-clause-ok c =
    let t = c.args.transfer.now in
    let n = c.args.channel in
    paths_made c.arrive.result _ _ c.arrive.new.self (λ (w : State). with_path n (transferred w.conn.limits.frame_max n (parts_of (perf.Transfer t)).1 c.args.payload.now) w.paths)
    (retold c.arrive.result c.arrive.new.self _ _ (c.arrive.ensures.ok c.args.payload.now)
    (last_heard c.frame_max-limit.result c.self.inside.conn.limits.frame_max n t c.part_of-part.result c.args.payload.now c.queue-queue.result.now c.partial-before.result.now
    c.in_ok-image.image c.in_ok-image.again c.self.inside.paths c.frame_max-limit.ensures.value c.part_of-part.ensures
    (sym c.in_default.is ∙ c.transfer_fault-fault.ensures) c.queue-queue.ensures c.partial-before.ensures c.in_ok-image.ensures.image c.in_ok-image.ensures.again))
    c.self.view_is
