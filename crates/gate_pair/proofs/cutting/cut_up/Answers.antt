use Rattle.std.proofs.Common.{arith, ◌∙◌, ◌+◌, ap, sym, drop}
use Rattle.std.proofs.Math.Seq.{drop-length}
use Rattle.gate_outside.specs.declared.ports.End.TheVariants.{Up}
use Rattle.machine_10.specs.declared.unit.Unit10.TheVariants as unit_10
use Rattle.wire_base.specs.declared.scan.Scan.TheVariants.{Whole, More, Bad}
use Rattle.gate_model.specs.State.{Heard, OutOfMemory}
use Rattle.bridge_core.specs.Offers.{BridgeState}
use Rattle.gate_pair.proofs.Cuts.{bad_at, drop_list, found_cut_at, is_found, more_at, scan_hears}
use Rattle.gate_pair.proofs.Cuts.{whole_at}
use Rattle.gate_pair.proofs.Cuts.{whole_found}
use Rattle.gate_pair.proofs.Saids.{keeps_more}
use Rattle.gate_pair.proofs.Sounds.{moved_stays, sound_more}
use Rattle.gate_pair.proofs.cutting.cut_up.Goals as goal

pub returns-in-Ok-More-clause-ok : goal.returns-in-Ok-More-clause-ok
returns-in-Ok-More-clause-ok c =
    more_at Up c.args.bridge.now.state c.loop-i.bridge.state c.args.bytes.now (drop c.loop-i.at c.args.bytes.now) c.loop-i.i c.loop-i-test.true c.loop-i.invariant.runs
    (scan_hears c.loop-i.bridge.state c.awaits_up.result (drop c.loop-i.at c.args.bytes.now) c.split_at.result.1.now More c.awaits_up.ensures c.split_at.ensures.back
    (sym c.in-Ok-More.field-0-is ∙ c.in-Ok-More.ensures.exact))

pub returns-in-Ok-clause-ok : goal.returns-in-Ok-clause-ok
returns-in-Ok-clause-ok c =
    bad_at Up c.args.bridge.now.state c.loop-i.bridge.state c.up_unit-answer.new.self.state c.args.bytes.now (drop c.loop-i.at c.args.bytes.now) _ c.loop-i.i (Heard (unit_10.Bad c.in-Ok-Bad.why)) c.loop-i-test.true c.loop-i.invariant.runs
    (scan_hears c.loop-i.bridge.state c.awaits_up.result (drop c.loop-i.at c.args.bytes.now) c.split_at.result.1.now (Bad c.in-Ok-Bad.why) c.awaits_up.ensures c.split_at.ensures.back
    (sym c.in-Ok-Bad.field-0-is ∙ c.in-Ok-Bad.ensures.exact))
    (ap (λ (b : BridgeState). b.state) c.in-Ok.ensures.ok) (drop-length c.args.bytes.now)

pub returns-in-Ok-clause-sound : goal.returns-in-Ok-clause-sound
returns-in-Ok-clause-sound c =
    sound_more c.args.bridge.now c.loop-i.bridge c.up_unit-answer.new.self c.loop-i.invariant.sound
    (moved_stays (Heard (unit_10.Bad c.in-Ok-Bad.why)) c.loop-i.bridge c.up_unit-answer.new.self c.in-Ok.ensures.ok c.up_unit-answer.ensures.kept)

pub returns-in-Err-answer-clause-err : goal.returns-in-Err-answer-clause-err
returns-in-Err-answer-clause-err c =
    found_cut_at c.args.bridge.now.state c.loop-i.bridge.state c.up_unit-answer.new.self.state c.args.bytes.now (drop c.loop-i.at c.args.bytes.now) c.loop-i.i c.loop-i-test.true c.loop-i.invariant.runs
    (ap is_found (scan_hears c.loop-i.bridge.state c.awaits_up.result (drop c.loop-i.at c.args.bytes.now) c.split_at.result.1.now (Bad c.in-Ok-Bad.why) c.awaits_up.ensures c.split_at.ensures.back
    (sym c.in-Ok-Bad.field-0-is ∙ c.in-Ok-Bad.ensures.exact)))
    (ap (λ (b : BridgeState). b.state) c.in-Err-answer.ensures.err)

pub returns-in-Err-answer-clause-sound : goal.returns-in-Err-answer-clause-sound
returns-in-Err-answer-clause-sound c =
    sound_more c.args.bridge.now c.loop-i.bridge c.up_unit-answer.new.self c.loop-i.invariant.sound
    (moved_stays OutOfMemory c.loop-i.bridge c.up_unit-answer.new.self c.in-Err-answer.ensures.err c.up_unit-answer.ensures.kept)

pub returns-in-Err-up_unit-clause-err : goal.returns-in-Err-up_unit-clause-err
returns-in-Err-up_unit-clause-err c =
    found_cut_at c.args.bridge.now.state c.loop-i.bridge.state c.up_unit.new.self.state c.args.bytes.now (drop c.loop-i.at c.args.bytes.now) c.loop-i.i c.loop-i-test.true c.loop-i.invariant.runs
    (ap is_found (scan_hears c.loop-i.bridge.state c.awaits_up.result (drop c.loop-i.at c.args.bytes.now) c.split_at.result.1.now (Whole c.in-Ok-Whole.unit c.in-Ok-Whole.n) c.awaits_up.ensures c.split_at.ensures.back
    (sym c.in-Ok-Whole.field-0-is ∙ c.in-Ok-Whole.ensures.exact)))
    (ap (λ (b : BridgeState). b.state) c.in-Err-up_unit.ensures.err)

pub returns-in-Err-up_unit-clause-sound : goal.returns-in-Err-up_unit-clause-sound
returns-in-Err-up_unit-clause-sound c =
    sound_more c.args.bridge.now c.loop-i.bridge c.up_unit.new.self c.loop-i.invariant.sound
    (moved_stays OutOfMemory c.loop-i.bridge c.up_unit.new.self c.in-Err-up_unit.ensures.err c.up_unit.ensures.kept)

pub returns-in-Err-clause-err : goal.returns-in-Err-clause-err
returns-in-Err-clause-err c =
    found_cut_at c.args.bridge.now.state c.loop-i.bridge.state c.run_out.new.self.state c.args.bytes.now (drop c.loop-i.at c.args.bytes.now) c.loop-i.i c.loop-i-test.true c.loop-i.invariant.runs
    (whole_found c.loop-i.bridge.state c.awaits_up.result (drop c.loop-i.at c.args.bytes.now) c.split_at.result.1.now c.awaits_up.ensures c.split_at.ensures.back c.in-Err.ensures.memory)
    (ap (λ (b : BridgeState). b.state) c.run_out.ensures.step)

pub returns-in-Err-clause-sound : goal.returns-in-Err-clause-sound
returns-in-Err-clause-sound c =
    sound_more c.args.bridge.now c.loop-i.bridge c.run_out.new.self c.loop-i.invariant.sound
    (moved_stays OutOfMemory c.loop-i.bridge c.run_out.new.self c.run_out.ensures.step c.run_out.ensures.kept)

pub loop-i-preserved : goal.loop-i-preserved
loop-i-preserved c =
    let found = rw c.in-Ok-Whole.field-0-is at c.in-Ok-Whole.ensures.within in
    record {
      within = omega (arith, found.1, c.split_at.ensures.back_len);
      runs = whole_at Up c.args.bridge.now.state c.loop-i.bridge.state c.up_unit.new.self.state c.args.bytes.now (drop c.loop-i.at c.args.bytes.now) (drop (c.loop-i.at + c.in-Ok-Whole.n) c.args.bytes.now) c.loop-i.i c.in-Ok-Whole.n (Heard c.in-Ok-Whole.unit) c.loop-i-test.true c.loop-i.invariant.runs
          (scan_hears c.loop-i.bridge.state c.awaits_up.result (drop c.loop-i.at c.args.bytes.now) c.split_at.result.1.now (Whole c.in-Ok-Whole.unit c.in-Ok-Whole.n) c.awaits_up.ensures c.split_at.ensures.back
          (sym c.in-Ok-Whole.field-0-is ∙ c.in-Ok-Whole.ensures.exact))
          (ap (λ (b : BridgeState). b.state) c.in-Ok-up_unit.ensures.ok) (sym (drop_list c.in-Ok-Whole.n c.loop-i.at c.args.bytes.now));
      calm = c.in-Ok-up_unit.ensures.calm;
      kept = keeps_more c.args.bridge.now c.loop-i.bridge c.up_unit.new.self c.loop-i.invariant.kept c.up_unit.ensures.kept;
      sound = sound_more c.args.bridge.now c.loop-i.bridge c.up_unit.new.self c.loop-i.invariant.sound
          (moved_stays (Heard c.in-Ok-Whole.unit) c.loop-i.bridge c.up_unit.new.self c.in-Ok-up_unit.ensures.ok c.up_unit.ensures.kept);
    }
