use Rattle.std.proofs.Common.{ap}
use Rattle.gate_model.specs.State.{Queued}
use Rattle.bridge_core.specs.Offers.{BridgeState}
use Rattle.gate_pair.proofs.Cuts.{cut_at_once, cut_later}
use Rattle.gate_pair.proofs.Sounds.{moved_stays, sound_more}
use Rattle.gate_pair.proofs.cutting.queue_unit.Goals as goal

pub returns-in-Ok-settle_all-clause-sound : goal.returns-in-Ok-settle_all-clause-sound
returns-in-Ok-settle_all-clause-sound c =
    sound_more c.args.bridge.now c.client_unit.new.self c.settle_all.new.bridge
    (moved_stays (Queued c.args.unit) c.args.bridge.now c.client_unit.new.self c.in-Ok.ensures.ok c.client_unit.ensures.kept) c.settle_all.ensures.sound

pub returns-in-Err-settle_all-clause-err : goal.returns-in-Err-settle_all-clause-err
returns-in-Err-settle_all-clause-err c =
    cut_later c.args.bridge.now.state c.client_unit.new.self.state c.settle_all.new.bridge.state (Queued c.args.unit) (ap (λ (b : BridgeState). b.state) c.in-Ok.ensures.ok) c.in-Err-settle_all.ensures.err

pub returns-in-Err-settle_all-clause-sound : goal.returns-in-Err-settle_all-clause-sound
returns-in-Err-settle_all-clause-sound c =
    sound_more c.args.bridge.now c.client_unit.new.self c.settle_all.new.bridge
    (moved_stays (Queued c.args.unit) c.args.bridge.now c.client_unit.new.self c.in-Ok.ensures.ok c.client_unit.ensures.kept) c.settle_all.ensures.sound

pub returns-in-Err-clause-err : goal.returns-in-Err-clause-err
returns-in-Err-clause-err c =
    cut_at_once c.args.bridge.now.state c.client_unit.new.self.state (Queued c.args.unit) (ap (λ (b : BridgeState). b.state) c.in-Err.ensures.err)
