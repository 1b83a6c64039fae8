use Rattle.std.proofs.Common.{inl, rules}
use Rattle.gate_command.specs.Outcome.{around}
use Rattle.gate_command.proofs.RunLaws.{ran_after}
use Rattle.gate_command.proofs.serving.begin_and_run.Goals as goal

pub returns-clause-outcome : goal.returns-clause-outcome
returns-clause-outcome g c =
    let ran = c.run_recorded in
    inl (record {
      begun = g.C.Sink.held c.write_start.new.sink;
      start = c.write_start.ensures.whole (search rules);
      ran = ran_after c.args.setup.now c.args.limits.now ran.result (around g.P.Ports g.K.Sink g.C.Sink c.args.ports.now c.args.out.now c.args.capture.now.sink)
          (around g.P.Ports g.K.Sink g.C.Sink ran.new.ports ran.new.out ran.new.capture.sink) (g.C.Sink.faults c.write_start.new.sink) (g.C.Sink.held c.write_start.new.sink)
          c.write_start.ensures.later ran.ensures.ran;
    })
