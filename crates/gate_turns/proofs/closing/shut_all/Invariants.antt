use Rattle.std.proofs.Common.{◌≡◌, ◌⊎◌, ◌≤◌, true, length}
use Rattle.std.specs.Vec.Iter.{into_iter_items, into_iter_len}
use Rattle.gate_outside.specs.Counts.{Rose}
use Rattle.gate_runs.specs.declared.served.Outside.TheVariants.{Out, Capture}
use Rattle.gate_runs.specs.declared.served.Served.TheVariants.{Fault}
use Rattle.gate_runs.specs.Marks.{Extends}
use Rattle.gate_runs.specs.Serving.{is_sink_fault}
use Rattle.gate_turns.specs.Endings.{ClosingEffect, closing_state}
use Rattle.gate_turns.specs.Parts.{KeepsPorts}
use Rattle.gate_turns.specs.Rounds.{OwnsEnds}
use Rattle.gate_turns.proofs.closing.shut_all.Given as goal

-- the pairs that were taken out of the list were shut
abbrev pub invariant-loop-live : goal.invariant-loop-live
invariant-loop-live g l = record {
  count : into_iter_len l.live-iterator ≡ length (into_iter_items l.live-iterator);
  owns : OwnsEnds (into_iter_items l.live-iterator) (g.P.Ports.pairs l.ports) (g.P.Ports.ends l.ports);
  ports : KeepsPorts g.P.Ports l.fn.ports l.ports;
  out : g.K.Sink.faults l.fn.report ≤ g.K.Sink.faults l.report;
  tape : g.T.Recorder.faults l.fn.recorder ≤ g.T.Recorder.faults l.recorder;
  answer : (l.answer ≡ l.fn.answer) ⊎ (is_sink_fault l.answer ≡ true);
  mute : l.answer ≡ Fault Out → (l.fn.answer ≡ Fault Out) ⊎ Rose (g.K.Sink.faults l.fn.report) (g.K.Sink.faults l.report);
  lost : l.answer ≡ Fault Capture → (l.fn.answer ≡ Fault Capture) ⊎ Rose (g.T.Recorder.faults l.fn.recorder) (g.T.Recorder.faults l.recorder);
  log : (s : g.row.R-Setup.Denot) → Extends (g.P.Ports.log l.fn.ports) (g.P.Ports.log l.ports)
      (ClosingEffect (g.R.Relay.words s) (g.R.Relay.represents s)
      (closing_state l.fn.service.live.items l.fn.answer (g.K.Sink.held l.fn.report) (g.T.Recorder.held l.fn.recorder))
      (closing_state (into_iter_items l.live-iterator) l.answer (g.K.Sink.held l.report) (g.T.Recorder.held l.recorder)));
}
