use Rattle.std.proofs.Common.{ℕ, List, take, arith, subst}
use Rattle.gate_outside.specs.Streams.{Appends}
use Rattle.gate_outside.proofs.Appending.{appends_more}
use Rattle.gate_outside.proofs.streams.write_all.Goals as goal

pub loop-at-preserved : goal.loop-at-preserved
loop-at-preserved g c = record {
  within = omega (arith, c.in-Took.ensures.taken);
  later = omega arith;
  added = appends_more _ _ _ _ _ _ c.loop-at.invariant.added
      (let Added : List ℕ → Type 0 = λ rest. Appends (g.K.Sink.held c.loop-at.sink) (g.K.Sink.held c.write.new.self) (take c.in-Took.n rest)
      in subst Added c.split_at.ensures.back c.in-Took.ensures.held);
}
