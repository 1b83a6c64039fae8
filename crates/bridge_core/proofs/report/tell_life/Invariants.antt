use Rattle.std.proofs.Common.{drop}
use Rattle.gate_model.specs.Paths.{lines_of_life}
use Rattle.gate_model.specs.Spelling.{lines_text}
use Rattle.bridge_core.proofs.Writings.{Telling}
use Rattle.bridge_core.proofs.report.tell_life.Given as goal

abbrev pub invariant-loop-slot : goal.invariant-loop-slot
invariant-loop-slot g l =
    Telling (g.K.Sink.faults l.fn.report) (g.K.Sink.faults l.report) (g.K.Sink.held l.fn.report) (g.K.Sink.held l.report)
    (lines_text l.pair (lines_of_life l.life l.slots)) (lines_text l.pair (lines_of_life l.life (drop l.slot-index l.slots)))
