use Rattle.std.proofs.Common.{drop}
use Rattle.consume_path.specs.Offers.{lines_of}
use Rattle.gate_model.specs.Spelling.{lines_text}
use Rattle.bridge_core.proofs.Writings.{Telling}
use Rattle.bridge_core.proofs.report.tell_deliveries.Given as goal

abbrev pub invariant-loop-delivery : goal.invariant-loop-delivery
invariant-loop-delivery g l =
    Telling (g.K.Sink.faults l.fn.report) (g.K.Sink.faults l.report) (g.K.Sink.held l.fn.report) (g.K.Sink.held l.report)
    (lines_text l.pair (lines_of l.life l.deliveries)) (lines_text l.pair (lines_of l.life (drop l.delivery-index l.deliveries)))
