use Rattle.std.proofs.Common.{rules, arith}
use Rattle.gate_turns.proofs.Keeping.{ends_then, ports_then}
use Rattle.gate_turns.proofs.WriteMarks.{lap_more, lap_last, lap_stops, lap_full}
use Rattle.gate_turns.proofs.part.write_lap.Goals as goal

pub returns-in-Err-clause-log : goal.returns-in-Err-clause-log
returns-in-Err-clause-log g c =
    lap_stops (g.R.Relay.words c.args.setup.now) (g.R.Relay.represents c.args.setup.now) _ c.args.lap c.loop.counter c.write_once-wrote.result.more c.loop.ran_out c.write_once-wrote.result.ran_out c.in-Err.fault _
    c.write_once-wrote.result.result _ _ _ _ _ _ c.end.ensures c.loop-test.true c.in-Err.is c.loop.invariant.log c.write_once-wrote.ensures.log

pub returns-then-not-wrote-clause-log : goal.returns-then-not-wrote-clause-log
returns-then-not-wrote-clause-log g c =
    lap_last (g.R.Relay.words c.args.setup.now) (g.R.Relay.represents c.args.setup.now) _ c.args.lap c.loop.counter c.write_once-wrote.result.more c.loop.ran_out c.write_once-wrote.result.ran_out
    c.write_once-wrote.result.result _ _ _ _ _ _ c.end.ensures c.loop-test.true (search rules) c.loop.invariant.log c.write_once-wrote.ensures.log

pub loop-preserved : goal.loop-preserved
loop-preserved g c = record {
  ends = ends_then c.loop.invariant.ends c.write_once-wrote.ensures.ends;
  has = search rules;
  ports = ports_then c.loop.invariant.ports c.write_once-wrote.ensures.ports;
  out = omega (arith, c.loop.invariant.out, c.write_once-wrote.ensures.out.later);
  tape = omega (arith, c.loop.invariant.tape, c.write_once-wrote.ensures.tape.later);
  count = omega arith;
  log = lap_more (g.R.Relay.words c.args.setup.now) (g.R.Relay.represents c.args.setup.now) _ c.args.lap c.loop.counter c.write_once-wrote.result.more c.loop.ran_out c.write_once-wrote.result.ran_out
      c.write_once-wrote.result.result _ _ _ _ _ _ c.end.ensures c.loop-test.true (search rules) (search rules) c.loop.invariant.log c.write_once-wrote.ensures.log;
}

pub returns-clause-log : goal.returns-clause-log
returns-clause-log g c =
    lap_full (g.R.Relay.words c.args.setup.now) (g.R.Relay.represents c.args.setup.now) c.args.lap c.loop.counter c.loop.ran_out _ _ _ _ (omega (arith, c.loop-test.false, c.loop.auto.counter-end)) c.loop.invariant.log
