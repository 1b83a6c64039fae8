use Rattle.std.proofs.Common.{arith}
use Rattle.gate_turns.proofs.Runs.{run_stops, turns_more}
use Rattle.gate_turns.proofs.running.run.Goals as goal

pub returns-in-Err-clause-log : goal.returns-in-Err-clause-log
returns-in-Err-clause-log g c =
    run_stops (g.R.Relay.words c.args.setup.now) (g.R.Relay.represents c.args.setup.now) c.args.limits.now c.loop.counter c.one_turn.result c.in-Err.how _ _ _ _ _ _
    c.loop-test.true c.in-Err.is c.loop.invariant.log c.one_turn.ensures.log

pub loop-preserved : goal.loop-preserved
loop-preserved g c = record {
  holds = c.one_turn.ensures.holds;
  limit = λ le. c.one_turn.ensures.limit (c.loop.invariant.limit le);
  onward = omega (arith, c.loop.invariant.onward, c.one_turn.ensures.onward);
  later = omega (arith, c.loop.invariant.later, c.one_turn.ensures.accept.later);
  out = omega (arith, c.loop.invariant.out, c.one_turn.ensures.out.later);
  tape = omega (arith, c.loop.invariant.tape, c.one_turn.ensures.tape.later);
  count = λ within. c.one_turn.ensures.count (c.loop.invariant.count within);
  log = turns_more (g.R.Relay.words c.args.setup.now) (g.R.Relay.represents c.args.setup.now) c.args.limits.now c.loop.counter c.one_turn.result _ _ _ _ _ _
      c.loop-test.true c.in_default.is c.loop.invariant.log c.one_turn.ensures.log;
}
