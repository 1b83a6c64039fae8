use Rattle.std.proofs.Common.{arith}
use Rattle.gate_outside.specs.declared.ports.End.TheVariants.{Client}
use Rattle.gate_outside.proofs.OpenEndLemmas.{distinct_push, below_push, below_more, below_free}
use Rattle.gate_ends.proofs.OpenEndLemmas.{clients_of_accept}
use Rattle.gate_ends.proofs.open_ends.OpenEnds.accept.Goals as goal

pub invariant_of-self : goal.invariant_of-self
invariant_of-self g c =
    let old = c.args.self.now in
    let more = clients_of_accept old.ends.items old.pairs in
    record {
      paired = omega arith;
      reserved_ends = omega arith;
      reserved_links = omega arith;
      counted = rw c.push_reserved.ensures.items (omega (arith, more, old.counted));
      few = rw c.push_reserved.ensures.items (omega (arith, more, c.requires.room.0));
      below = rw c.push_reserved.ensures.items
          (below_push _ _ _ Client (below_more _ _ _ (omega arith) old.below) (omega arith));
      distinct = rw c.push_reserved.ensures.items
          (distinct_push _ _ Client old.distinct (below_free _ Client _ old.below));
    }
