-- What stays while a lap goes on.
use Rattle.std.proofs.Common.{◌≡◌, ◌≤◌, true, Ok}
use Rattle.gate_relay.specs.Sides.{has_end}
use Rattle.gate_runs.specs.Marks.{Extends}
use Rattle.gate_runs.specs.Stages.{Writing, lap_after}
use Rattle.gate_turns.specs.Counting.{CountsOnce}
use Rattle.gate_turns.specs.Parts.{KeepsEnds, KeepsPorts, PartEffect, state}
use Rattle.gate_turns.proofs.part.write_lap.Given as goal

-- so many writes were made
abbrev pub invariant-loop : goal.invariant-loop
invariant-loop g l = record {
  ends : KeepsEnds l.fn.live l.live (g.P.Ports.ends l.fn.ports) (g.P.Ports.ends l.ports);
  has : has_end l.fn.live.sides ≡ true → has_end l.live.sides ≡ true;
  ports : KeepsPorts g.P.Ports l.fn.ports l.ports;
  out : g.K.Sink.faults l.fn.report ≤ g.K.Sink.faults l.report;
  tape : g.T.Recorder.faults l.fn.recorder ≤ g.T.Recorder.faults l.recorder;
  count : CountsOnce g.R.Relay.out_of_memory l.fn.live l.live l.fn.tally l.tally;
  log : Extends (g.P.Ports.log l.fn.ports) (g.P.Ports.log l.ports)
      (PartEffect (g.R.Relay.words l.setup) (g.R.Relay.represents l.setup) (Writing l.lap 0) (Writing (lap_after l.ran_out l.lap) l.counter) (Ok tt)
      (state l.fn.live l.fn.tally (g.K.Sink.held l.fn.report) (g.T.Recorder.held l.fn.recorder))
      (state l.live l.tally (g.K.Sink.held l.report) (g.T.Recorder.held l.recorder)));
}
