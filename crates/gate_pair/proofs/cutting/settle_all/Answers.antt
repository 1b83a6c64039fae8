use Rattle.std.proofs.Common.{◌∙◌, ap, sym}
use Rattle.gate_model.specs.State.{OutOfMemory}
use Rattle.bridge_core.specs.Offers.{BridgeState}
use Rattle.gate_pair.proofs.Saids.{keeps_more}
use Rattle.gate_pair.proofs.Settlings.{at_cut, at_done, at_more}
use Rattle.gate_pair.proofs.Sounds.{advanced_stays, moved_stays, sound_more}
use Rattle.gate_pair.proofs.cutting.settle_all.Goals as goal

pub returns-then-not-more-clause-ok : goal.returns-then-not-more-clause-ok
returns-then-not-more-clause-ok c =
    at_done c.args.bridge.now.state c.loop-i.bridge.state c.take_next.new.self.state c.queued-count.result c.loop-i.i c.loop-i-test.true c.queued-count.ensures c.loop-i.invariant.runs
    (sym c.in-Ok.ensures.some ∙ c.if-not-more.true) (ap (λ (b : BridgeState). b.state) c.in-Ok.ensures.ok)

pub returns-then-not-more-clause-sound : goal.returns-then-not-more-clause-sound
returns-then-not-more-clause-sound c =
    sound_more c.args.bridge.now c.loop-i.bridge c.take_next.new.self c.loop-i.invariant.sound (advanced_stays c.loop-i.bridge c.take_next.new.self c.in-Ok.ensures.ok c.take_next.ensures.kept)

pub returns-in-Err-clause-err : goal.returns-in-Err-clause-err
returns-in-Err-clause-err c =
    at_cut c.args.bridge.now.state c.loop-i.bridge.state c.take_next.new.self.state c.queued-count.result c.loop-i.i c.queued-count.ensures c.loop-i.invariant.runs
    (ap (λ (b : BridgeState). b.state) c.in-Err.ensures.err)

pub returns-in-Err-clause-sound : goal.returns-in-Err-clause-sound
returns-in-Err-clause-sound c =
    sound_more c.args.bridge.now c.loop-i.bridge c.take_next.new.self c.loop-i.invariant.sound
    (moved_stays OutOfMemory c.loop-i.bridge c.take_next.new.self c.in-Err.ensures.err c.take_next.ensures.kept)

pub loop-i-preserved : goal.loop-i-preserved
loop-i-preserved c = record {
  runs = at_more c.args.bridge.now.state c.loop-i.bridge.state c.take_next.new.self.state c.queued-count.result c.loop-i.i c.loop-i-test.true c.loop-i.invariant.runs
      (sym c.in-Ok.ensures.some ∙ c.if-not-more.false) (ap (λ (b : BridgeState). b.state) c.in-Ok.ensures.ok);
  calm = c.in-Ok.ensures.calm;
  kept = keeps_more c.args.bridge.now c.loop-i.bridge c.take_next.new.self c.loop-i.invariant.kept c.take_next.ensures.kept;
  sound = sound_more c.args.bridge.now c.loop-i.bridge c.take_next.new.self c.loop-i.invariant.sound (advanced_stays c.loop-i.bridge c.take_next.new.self c.in-Ok.ensures.ok c.take_next.ensures.kept);
}
