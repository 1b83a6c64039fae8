use Rattle.std.proofs.Common.{arith}
use Rattle.std.proofs.lemmas.Bool.{OnFalse_at, OnTrue_at}
use Rattle.gate_runs.specs.Journal.{journal}
use Rattle.gate_turns.proofs.PairLines.{is_in_at, lines_more, lines_stop, lines_whole}
use Rattle.gate_turns.proofs.welcome.tell_all_lines.Goals as goal

pub returns-then-not-tell_lines-clause-told : goal.returns-then-not-tell_lines-clause-told
returns-then-not-tell_lines-clause-told g c = λ s n all.
    let here = is_in_at (g.R.Relay.represents s) n c.args.live.now c.loop-pair.pair-index c.pair-item.result c.loop-pair-test.true c.pair-item.is all in
    let state : g.R.Relay.represents s c.deref.result.now (journal c.pair-item.result.number n) = rw c.deref.ensures here.relay in
    lines_stop (g.R.Relay.words s) n c.args.live.now c.loop-pair.pair-index c.pair-item.result _ _ _ c.loop-pair-test.true c.pair-item.is (c.loop-pair.invariant.told s n all)
    (OnFalse_at c.if-not-tell_lines.true c.tell_lines.ensures.part s _ state)
    (OnFalse_at c.if-not-tell_lines.true c.tell_lines.ensures.some s _ state)

pub loop-pair-preserved : goal.loop-pair-preserved
loop-pair-preserved g c = record {
  out = omega (arith, c.loop-pair.invariant.out, c.tell_lines.ensures.later);
  told = λ s n all.
      let here = is_in_at (g.R.Relay.represents s) n c.args.live.now c.loop-pair.pair-index c.pair-item.result c.loop-pair-test.true c.pair-item.is all in
      let state : g.R.Relay.represents s c.deref.result.now (journal c.pair-item.result.number n) = rw c.deref.ensures here.relay in
      lines_more (g.R.Relay.words s) n c.args.live.now c.loop-pair.pair-index c.pair-item.result _ _ _ c.loop-pair-test.true c.pair-item.is (c.loop-pair.invariant.told s n all)
      (OnTrue_at c.if-not-tell_lines.false c.tell_lines.ensures.whole s _ state);
}

pub returns-clause-told : goal.returns-clause-told
returns-clause-told g c = λ s n all. lines_whole (g.R.Relay.words s) n c.args.live.now c.loop-pair.pair-index _ _ c.loop-pair-test.false (c.loop-pair.invariant.told s n all)
