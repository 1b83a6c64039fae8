use Rattle.std.proofs.Common.{◌≤◌, take}
use Rattle.std.specs.List.{AllByRecursion}
use Rattle.gate_outside.specs.Streams.{Appends}
use Rattle.gate_runs.specs.Marks.{History}
use Rattle.gate_runs.specs.Report.{lines_of}
use Rattle.gate_turns.specs.Rounds.{IsIn, numbers}
use Rattle.gate_turns.proofs.welcome.tell_all_lines.Given as goal

-- the lines of so many pairs were taken
abbrev pub invariant-loop-pair : goal.invariant-loop-pair
invariant-loop-pair g l = record {
  out : g.K.Sink.faults l.fn.report ≤ g.K.Sink.faults l.report;
  told : (s : g.row.R-Setup.Denot) (n : History) → AllByRecursion (IsIn (g.R.Relay.represents s) n) l.live
      → Appends (g.K.Sink.held l.fn.report) (g.K.Sink.held l.report) (lines_of (g.R.Relay.words s) (numbers (take l.pair-index l.live)) n);
}
