use Rattle.bridge_core.proofs.OwedLines.{last_text, lines_last, next_text, some_owed}
use Rattle.std.proofs.Common.{ap, refl, sym}
use Rattle.gate_model.specs.Spelling.{lines_text}
use Rattle.bridge_core.proofs.Writings.{writes_at, writes_front, writes_same, writes_then}
use Rattle.bridge_core.proofs.report.tell_lines.Goals as goal

pub returns-then-not-tell_life-clause-text : goal.returns-then-not-tell_life-clause-text
returns-then-not-tell_life-clause-text g c =
    let told = rw c.slots.ensures at c.tell_life.ensures in
    writes_same _ _ _ _ _ _ _ (last_text c.args.pair c.args.paths.now c.loop-life.told c.args.last c.in-Some.life c.in-Some.ensures)
    (writes_front _ _ _ _ _ _ _ c.if-not-tell_life.true (writes_then _ _ _ _ _ _ _ _ _ _ refl c.loop-life.invariant.written told))

pub returns-then-not-tell_life-clause-some : goal.returns-then-not-tell_life-clause-some
returns-then-not-tell_life-clause-some g c = some_owed c.args.pair c.args.paths.now c.loop-life.told c.args.last c.in-Some.life c.in-Some.ensures

pub loop-life-preserved : goal.loop-life-preserved
loop-life-preserved g c =
    let told = rw c.slots.ensures at c.tell_life.ensures in
    record {
      within = c.in-Some.ensures.within;
      written = writes_same _ _ _ _ _ _ _ (next_text c.args.pair c.args.paths.now c.loop-life.told c.args.last c.in-Some.life c.in-Some.ensures)
          (writes_at _ _ _ _ _ _ c.if-not-tell_life.false (writes_then _ _ _ _ _ _ _ _ _ _ refl c.loop-life.invariant.written told));
    }

pub returns-clause-text : goal.returns-clause-text
returns-clause-text g c =
    writes_same _ _ _ _ _ _ _
    (sym (ap (lines_text c.args.pair) (lines_last c.args.paths.now c.loop-life.told c.args.last c.next_owing.result c.loop-life.invariant.within c.in_default.not-Some c.next_owing.ensures)))
    c.loop-life.invariant.written
