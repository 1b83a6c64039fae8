use Rattle.std.proofs.Common.{length}
use Rattle.gate_show.specs.Showing.{SoFar}
use Rattle.gate_show.proofs.show.show_entries.Given as goal

abbrev pub invariant-loop-rest : goal.invariant-loop-rest
invariant-loop-rest g l = SoFar (g.K.Sink.faults l.fn.out) (g.K.Sink.faults l.out) (g.K.Sink.held l.fn.out) (g.K.Sink.held l.out) l.number l.bytes l.rest

abbrev pub decreases-loop-rest : goal.decreases-loop-rest
decreases-loop-rest g l = length l.rest
