-- What stays while turn after turn is made.
use Rattle.std.proofs.Common.{◌≤◌}
use Rattle.gate_runs.specs.Marks.{Extends}
use Rattle.gate_runs.specs.Next.{pair_limit}
use Rattle.gate_turns.specs.Counting.{CountWithin}
use Rattle.gate_turns.specs.Rounds.{Holds, run_state}
use Rattle.gate_turns.proofs.Runs.{TurnsEffect}
use Rattle.gate_turns.proofs.running.run.Given as goal

-- so many turns were made
abbrev pub invariant-loop : goal.invariant-loop
invariant-loop g l = record {
  holds : Holds l.service (g.P.Ports.pairs l.ports) (g.P.Ports.ends l.ports);
  limit : l.fn.service.accepted ≤ pair_limit l.limits → l.service.accepted ≤ pair_limit l.limits;
  onward : g.P.Ports.last l.fn.ports ≤ g.P.Ports.last l.ports;
  later : g.P.Ports.faults l.fn.ports ≤ g.P.Ports.faults l.ports;
  out : g.K.Sink.faults l.fn.report ≤ g.K.Sink.faults l.report;
  tape : g.T.Recorder.faults l.fn.recorder ≤ g.T.Recorder.faults l.recorder;
  count : CountWithin g.R.Relay.out_of_memory l.fn.service l.fn.tally → CountWithin g.R.Relay.out_of_memory l.service l.tally;
  log : Extends (g.P.Ports.log l.fn.ports) (g.P.Ports.log l.ports)
      (TurnsEffect (g.R.Relay.words l.setup) (g.R.Relay.represents l.setup) l.limits l.counter
      (run_state l.fn.service l.fn.tally (g.P.Ports.last l.fn.ports) (g.K.Sink.held l.fn.report) (g.T.Recorder.held l.fn.recorder))
      (run_state l.service l.tally (g.P.Ports.last l.ports) (g.K.Sink.held l.report) (g.T.Recorder.held l.recorder)));
}
