use Rattle.std.proofs.Common.{length}
use Rattle.gate_listing.specs.Steps.{SoFar}
use Rattle.gate_listing.proofs.listing.list_all.Given as goal

abbrev pub invariant-loop-rest : goal.invariant-loop-rest
invariant-loop-rest g l = SoFar l.dialect (g.K.Sink.faults l.fn.out) (g.K.Sink.faults l.out) (g.K.Sink.held l.fn.out) (g.K.Sink.held l.out) l.bytes l.rest

abbrev pub decreases-loop-rest : goal.decreases-loop-rest
decreases-loop-rest g l = length l.rest
