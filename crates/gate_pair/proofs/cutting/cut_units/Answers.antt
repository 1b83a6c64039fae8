use Rattle.std.proofs.Common.{ℕ, List, [], ◌≡◌, ◌+◌, ◌-◌, ◌++◌, arith, ◌∙◌, ap, sym, subst, drop, length}
use Rattle.std.proofs.lemmas.List.{length-append}
use Rattle.std.proofs.Math.Seq.{drop-length}
use Rattle.gate_outside.specs.declared.ports.End.TheVariants.{Client}
use Rattle.machine_091.specs.declared.unit.Unit91.{Unit91}
use Rattle.machine_091.specs.declared.unit.Unit91.TheVariants as unit
use Rattle.wire_base.specs.declared.scan.Scan.{Scan}
use Rattle.wire_base.specs.declared.scan.Scan.TheVariants.{Whole, More, Bad}
use Rattle.frames_091.specs.Unread.{left_by}
use Rattle.gate_model.specs.State.{OutOfMemory, Queued}
use Rattle.bridge_core.specs.Offers.{BridgeState}
use Rattle.gate_pair.specs.Cutting.{cut_all}
use Rattle.gate_pair.specs.PairStates.{IsRead}
use Rattle.gate_pair.proofs.Cuts.{Reading, all_at, bad_at, bad_cut_at, cut_at, drop_kept, more_at}
use Rattle.gate_pair.proofs.Cuts.{read_start, scan_goes, start_cut_at, whole_at, whole_cut_at}
use Rattle.gate_pair.proofs.Saids.{keeps_more}
use Rattle.gate_pair.proofs.Sounds.{moved_stays, sound_more}
use Rattle.gate_pair.proofs.cutting.cut_units.Goals as goal

pub returns-in-Err-clause-err : goal.returns-in-Err-clause-err
returns-in-Err-clause-err c =
    start_cut_at c.args.bridge.now.state c.settle_all.new.bridge.state (c.args.unread.now ++ c.args.bytes.now) c.in-Err.ensures.err

pub loop-i-init : goal.loop-i-init
loop-i-init c =
    let whole : List ℕ = c.args.unread.now ++ c.args.bytes.now in
    let all : length whole ≡ length whole - 0 = omega arith in
    record {
      within = omega arith;
      runs = subst (Reading Client c.args.bridge.now.state c.settle_all.new.bridge.state whole whole) all
          (read_start Client c.args.bridge.now.state c.settle_all.new.bridge.state whole c.in-Ok.ensures.ok);
      calm = c.in-Ok.ensures.calm;
      kept = c.settle_all.ensures.kept;
      sound = c.settle_all.ensures.sound;
    }

pub returns-in-Ok-More-clause-ok : goal.returns-in-Ok-More-clause-ok
returns-in-Ok-More-clause-ok c =
    let stays : c.scan_unit.new.unread ≡ c.loop-i.unread =
    c.in-Ok-More.ensures.left ∙ ap (λ (x : Scan Unit91 ℕ). left_by x c.loop-i.unread) c.in-Ok-More.field-0-is in
    subst (λ (t : List ℕ). IsRead c.args.bridge.now.state (cut_all Client c.args.bridge.now.state (c.args.unread.now ++ c.args.bytes.now)) c.loop-i.bridge.state (t ++ drop c.loop-i.at c.args.bytes.now)) (sym stays)
    (more_at Client c.args.bridge.now.state c.loop-i.bridge.state (c.args.unread.now ++ c.args.bytes.now) (c.loop-i.unread ++ drop c.loop-i.at c.args.bytes.now) c.loop-i.i (omega (arith, c.loop-i-test.true, length-append c.args.unread.now c.args.bytes.now)) c.loop-i.invariant.runs
    (scan_goes c.loop-i.bridge.state c.awaits.result (c.loop-i.unread ++ drop c.loop-i.at c.args.bytes.now) (c.loop-i.unread ++ c.split_at.result.1.now) More c.awaits.ensures.value (ap (λ (t : List ℕ). c.loop-i.unread ++ t) c.split_at.ensures.back)
    (sym c.in-Ok-More.field-0-is ∙ c.in-Ok-More.ensures.exact)))

pub returns-in-Ok-queue_unit-clause-ok : goal.returns-in-Ok-queue_unit-clause-ok
returns-in-Ok-queue_unit-clause-ok c =
    let none : c.forget.new.self ++ drop (length c.args.bytes.now) c.args.bytes.now ≡ [] =
    ap (λ (t : List ℕ). t ++ drop (length c.args.bytes.now) c.args.bytes.now) c.forget.ensures ∙ drop-length c.args.bytes.now in
    bad_at Client c.args.bridge.now.state c.loop-i.bridge.state c.queue_unit.new.bridge.state (c.args.unread.now ++ c.args.bytes.now) (c.loop-i.unread ++ drop c.loop-i.at c.args.bytes.now) _ c.loop-i.i (Queued (unit.Bad c.in-Ok-Bad.code)) (omega (arith, c.loop-i-test.true, length-append c.args.unread.now c.args.bytes.now)) c.loop-i.invariant.runs
    (scan_goes c.loop-i.bridge.state c.awaits.result (c.loop-i.unread ++ drop c.loop-i.at c.args.bytes.now) (c.loop-i.unread ++ c.split_at.result.1.now) (Bad c.in-Ok-Bad.code) c.awaits.ensures.value (ap (λ (t : List ℕ). c.loop-i.unread ++ t) c.split_at.ensures.back)
    (sym c.in-Ok-Bad.field-0-is ∙ c.in-Ok-Bad.ensures.exact))
    c.in-Ok-queue_unit.ensures.ok none

pub returns-in-Ok-queue_unit-clause-sound : goal.returns-in-Ok-queue_unit-clause-sound
returns-in-Ok-queue_unit-clause-sound c =
    sound_more c.args.bridge.now c.loop-i.bridge c.queue_unit.new.bridge c.loop-i.invariant.sound c.queue_unit.ensures.sound

pub returns-in-Err-queue_unit-clause-sound : goal.returns-in-Err-queue_unit-clause-sound
returns-in-Err-queue_unit-clause-sound c =
    sound_more c.args.bridge.now c.loop-i.bridge c.queue_unit.new.bridge c.loop-i.invariant.sound c.queue_unit.ensures.sound

pub returns-in-Err-queue_unit-clause-err : goal.returns-in-Err-queue_unit-clause-err
returns-in-Err-queue_unit-clause-err c =
    bad_cut_at c.args.bridge.now.state c.loop-i.bridge.state c.queue_unit.new.bridge.state (c.args.unread.now ++ c.args.bytes.now) (c.loop-i.unread ++ drop c.loop-i.at c.args.bytes.now) c.loop-i.i (Queued (unit.Bad c.in-Ok-Bad.code)) (omega (arith, c.loop-i-test.true, length-append c.args.unread.now c.args.bytes.now)) c.loop-i.invariant.runs
    (scan_goes c.loop-i.bridge.state c.awaits.result (c.loop-i.unread ++ drop c.loop-i.at c.args.bytes.now) (c.loop-i.unread ++ c.split_at.result.1.now) (Bad c.in-Ok-Bad.code) c.awaits.ensures.value (ap (λ (t : List ℕ). c.loop-i.unread ++ t) c.split_at.ensures.back)
    (sym c.in-Ok-Bad.field-0-is ∙ c.in-Ok-Bad.ensures.exact))
    c.in-Err-queue_unit.ensures.err

pub returns-in-Err-queue_unit-2-clause-err : goal.returns-in-Err-queue_unit-2-clause-err
returns-in-Err-queue_unit-2-clause-err c =
    whole_cut_at c.args.bridge.now.state c.loop-i.bridge.state c.queue_unit-in-Ok-Whole.new.bridge.state (c.args.unread.now ++ c.args.bytes.now) (c.loop-i.unread ++ drop c.loop-i.at c.args.bytes.now) c.loop-i.i c.in-Ok-Whole.n (Queued c.in-Ok-Whole.unit) (omega (arith, c.loop-i-test.true, length-append c.args.unread.now c.args.bytes.now)) c.loop-i.invariant.runs
    (scan_goes c.loop-i.bridge.state c.awaits.result (c.loop-i.unread ++ drop c.loop-i.at c.args.bytes.now) (c.loop-i.unread ++ c.split_at.result.1.now) (Whole c.in-Ok-Whole.unit c.in-Ok-Whole.n) c.awaits.ensures.value (ap (λ (t : List ℕ). c.loop-i.unread ++ t) c.split_at.ensures.back)
    (sym c.in-Ok-Whole.field-0-is ∙ c.in-Ok-Whole.ensures.exact))
    c.in-Err-queue_unit-2.ensures.err

pub returns-in-Err-queue_unit-2-clause-sound : goal.returns-in-Err-queue_unit-2-clause-sound
returns-in-Err-queue_unit-2-clause-sound c =
    sound_more c.args.bridge.now c.loop-i.bridge c.queue_unit-in-Ok-Whole.new.bridge c.loop-i.invariant.sound c.queue_unit-in-Ok-Whole.ensures.sound

pub returns-in-Err-scan_unit-clause-err : goal.returns-in-Err-scan_unit-clause-err
returns-in-Err-scan_unit-clause-err c =
    cut_at Client c.args.bridge.now.state c.loop-i.bridge.state c.run_out.new.self.state (c.args.unread.now ++ c.args.bytes.now) (c.loop-i.unread ++ drop c.loop-i.at c.args.bytes.now) _ c.loop-i.invariant.runs
    (ap (λ (b : BridgeState). b.state) c.run_out.ensures.step)

pub returns-in-Err-scan_unit-clause-sound : goal.returns-in-Err-scan_unit-clause-sound
returns-in-Err-scan_unit-clause-sound c =
    sound_more c.args.bridge.now c.loop-i.bridge c.run_out.new.self c.loop-i.invariant.sound
    (moved_stays OutOfMemory c.loop-i.bridge c.run_out.new.self c.run_out.ensures.step c.run_out.ensures.kept)

pub loop-i-preserved : goal.loop-i-preserved
loop-i-preserved c =
    let found = rw c.in-Ok-Whole.field-0-is at c.in-Ok-Whole.ensures.within in
    let taken : c.saturating_sub-at.result ≡ c.in-Ok-Whole.n - length c.loop-i.unread =
    c.saturating_sub-at.ensures ∙ ap (λ (k : ℕ). c.in-Ok-Whole.n - k) c.len-kept.ensures in
    let left : c.scan_unit.new.unread ≡ drop c.in-Ok-Whole.n c.loop-i.unread =
    c.in-Ok-Whole.ensures.left ∙ ap (λ (x : Scan Unit91 ℕ). left_by x c.loop-i.unread) c.in-Ok-Whole.field-0-is in
    record {
      within = omega (arith, found.1, taken, c.split_at.ensures.back_len, length-append c.loop-i.unread c.split_at.result.1.now, c.loop-i.invariant.within);
      runs = whole_at Client c.args.bridge.now.state c.loop-i.bridge.state c.queue_unit-in-Ok-Whole.new.bridge.state (c.args.unread.now ++ c.args.bytes.now) (c.loop-i.unread ++ drop c.loop-i.at c.args.bytes.now) _ c.loop-i.i c.in-Ok-Whole.n (Queued c.in-Ok-Whole.unit) (omega (arith, c.loop-i-test.true, length-append c.args.unread.now c.args.bytes.now)) c.loop-i.invariant.runs
          (scan_goes c.loop-i.bridge.state c.awaits.result (c.loop-i.unread ++ drop c.loop-i.at c.args.bytes.now) (c.loop-i.unread ++ c.split_at.result.1.now) (Whole c.in-Ok-Whole.unit c.in-Ok-Whole.n) c.awaits.ensures.value (ap (λ (t : List ℕ). c.loop-i.unread ++ t) c.split_at.ensures.back)
          (sym c.in-Ok-Whole.field-0-is ∙ c.in-Ok-Whole.ensures.exact))
          c.in-Ok-queue_unit-2.ensures.ok
          (ap (λ (t : List ℕ). t ++ drop (c.loop-i.at + c.saturating_sub-at.result) c.args.bytes.now) left
          ∙ ap (λ (m : ℕ). drop c.in-Ok-Whole.n c.loop-i.unread ++ drop (c.loop-i.at + m) c.args.bytes.now) taken
          ∙ drop_kept c.in-Ok-Whole.n c.loop-i.at c.loop-i.unread c.args.bytes.now);
      calm = c.in-Ok-queue_unit-2.ensures.calm;
      kept = keeps_more c.args.bridge.now c.loop-i.bridge c.queue_unit-in-Ok-Whole.new.bridge c.loop-i.invariant.kept c.queue_unit-in-Ok-Whole.ensures.kept;
      sound = sound_more c.args.bridge.now c.loop-i.bridge c.queue_unit-in-Ok-Whole.new.bridge c.loop-i.invariant.sound c.queue_unit-in-Ok-Whole.ensures.sound;
    }

pub returns-clause-ok : goal.returns-clause-ok
returns-clause-ok c =
    let none : length (c.args.unread.now ++ c.args.bytes.now) - c.loop-i.i ≡ 0 = omega (arith, c.loop-i-test.false, length-append c.args.unread.now c.args.bytes.now) in
    all_at Client c.args.bridge.now.state c.loop-i.bridge.state (c.args.unread.now ++ c.args.bytes.now) (c.loop-i.unread ++ drop c.loop-i.at c.args.bytes.now)
    (subst (Reading Client c.args.bridge.now.state c.loop-i.bridge.state (c.args.unread.now ++ c.args.bytes.now) (c.loop-i.unread ++ drop c.loop-i.at c.args.bytes.now)) none c.loop-i.invariant.runs)
