use Rattle.std.proofs.Common.{[], true, refl}
use Rattle.gate_model.specs.State.{LinesTold}
use Rattle.gate_pair.proofs.Saids.{half, settled_failed, settled_said}
use Rattle.gate_pair.proofs.Sounds.{moved_stays}
use Rattle.gate_pair.proofs.pair.Pair.take_up.Goals as goal

pub invariant_of-self : goal.invariant_of-self
invariant_of-self c =
    c.leave.ensures.sound c.self.inside.client_sent c.self.inside.up_sent (c.settle_all.ensures.sound c.self.inside.client_sent c.self.inside.up_sent
    (moved_stays LinesTold c.self.inside.bridge c.lines_told.new.self c.lines_told.ensures.step c.lines_told.ensures.kept c.self.inside.client_sent c.self.inside.up_sent c.self.invariant))

pub invariant_of-self-in-Err : goal.invariant_of-self-in-Err
invariant_of-self-in-Err c =
    c.settle_all.ensures.sound c.self.inside.client_sent c.self.inside.up_sent
    (moved_stays LinesTold c.self.inside.bridge c.lines_told.new.self c.lines_told.ensures.step c.lines_told.ensures.kept c.self.inside.client_sent c.self.inside.up_sent c.self.invariant)

pub returns-in-Ok-clause-ok : goal.returns-in-Ok-clause-ok
returns-in-Ok-clause-ok c =
    settled_said c.self.inside.bridge c.lines_told.new.self c.settle_all.new.bridge c.leave.new.bridge (half c.self.inside.client c.self.inside.client_sent) (half c.self.inside.up c.self.inside.up_sent) c.self.inside.telling true c.args.self.now
    c.self.view_is c.lines_told.ensures.step c.lines_told.ensures.kept c.in-Ok.ensures.ok c.settle_all.ensures.kept c.leave.ensures.step c.leave.ensures.kept

pub returns-in-Err-clause-err : goal.returns-in-Err-clause-err
returns-in-Err-clause-err c =
    settled_failed c.self.inside.bridge c.lines_told.new.self c.settle_all.new.bridge (half c.self.inside.client c.self.inside.client_sent) (half c.self.inside.up c.self.inside.up_sent) c.self.inside.telling true c.args.self.now c.forget.new.self
    c.self.view_is c.lines_told.ensures.step c.lines_told.ensures.kept c.forget.ensures (c.in-Err.ensures.err c.lines_told.new.self.state [] refl) c.settle_all.ensures.kept
