use Rattle.std.proofs.Common.{◌≤◌, ◌-◌, true}
use Rattle.gate_model.specs.Paths.{lines_in}
use Rattle.gate_model.specs.Spelling.{lines_text}
use Rattle.bridge_core.specs.Reports.{Writes}
use Rattle.bridge_core.proofs.report.tell_lines.Given as goal

-- the lines of the lives so far were written
abbrev pub invariant-loop-life : goal.invariant-loop-life
invariant-loop-life g l = record {
  within : l.told ≤ l.last;
  written : Writes true (g.K.Sink.faults l.fn.report) (g.K.Sink.faults l.report) (g.K.Sink.held l.fn.report) (g.K.Sink.held l.report)
      (lines_text l.pair (lines_in l.paths l.told));
}

abbrev pub decreases-loop-life : goal.decreases-loop-life
decreases-loop-life g l = l.last - l.told
