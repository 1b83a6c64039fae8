-- What stays while pair after pair has its part of the turn.
use Rattle.std.proofs.Common.{◌≤◌, ◌-◌, vec_len, Ok}
use Rattle.gate_runs.specs.Marks.{Extends}
use Rattle.gate_turns.specs.Counting.{CountWithin}
use Rattle.gate_turns.specs.Parts.{KeepsPorts}
use Rattle.gate_turns.specs.Rounds.{Holds, PairsEffect, run_state}
use Rattle.gate_turns.proofs.round.turn_all.Given as goal

-- the pairs before the place had theirs
abbrev pub invariant-loop-at : goal.invariant-loop-at
invariant-loop-at g l = record {
  holds : Holds l.service (g.P.Ports.pairs l.ports) (g.P.Ports.ends l.ports);
  ports : KeepsPorts g.P.Ports l.fn.ports l.ports;
  out : g.K.Sink.faults l.fn.report ≤ g.K.Sink.faults l.report;
  tape : g.T.Recorder.faults l.fn.recorder ≤ g.T.Recorder.faults l.recorder;
  count : CountWithin g.R.Relay.out_of_memory l.fn.service l.fn.tally → CountWithin g.R.Relay.out_of_memory l.service l.tally;
  log : Extends (g.P.Ports.log l.fn.ports) (g.P.Ports.log l.ports)
      (PairsEffect (g.R.Relay.words l.setup) (g.R.Relay.represents l.setup) 0 l.at (Ok tt)
      (run_state l.fn.service l.fn.tally (g.P.Ports.last l.fn.ports) (g.K.Sink.held l.fn.report) (g.T.Recorder.held l.fn.recorder))
      (run_state l.service l.tally (g.P.Ports.last l.ports) (g.K.Sink.held l.report) (g.T.Recorder.held l.recorder)));
}

abbrev pub decreases-loop-at : goal.decreases-loop-at
decreases-loop-at g l = vec_len l.service.live - l.at
