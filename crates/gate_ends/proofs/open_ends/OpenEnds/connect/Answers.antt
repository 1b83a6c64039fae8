use Rattle.std.proofs.Common.{arith}
use Rattle.gate_outside.specs.declared.ports.End.TheVariants.{Up}
use Rattle.gate_outside.proofs.OpenEndLemmas.{distinct_push, below_push}
use Rattle.gate_ends.proofs.OpenEndLemmas.{clients_of_connect}
use Rattle.gate_ends.proofs.open_ends.OpenEnds.connect.Goals as goal

pub invariant_of-self : goal.invariant_of-self
invariant_of-self g c =
    let old = c.args.self.now in
    let same = clients_of_connect old.ends.items c.args.pair in
    record {
      paired = omega arith;
      reserved_ends = omega arith;
      reserved_links = omega arith;
      counted = rw c.push_reserved.ensures.items (omega (arith, same, old.counted));
      few = rw c.push_reserved.ensures.items (omega (arith, same, old.few));
      below = rw c.push_reserved.ensures.items (below_push _ _ _ Up old.below c.requires.known);
      distinct = rw c.push_reserved.ensures.items (distinct_push _ _ Up old.distinct c.requires.free);
    }
