use Rattle.std.proofs.Common.{◌≡◌, length, arith, rules, vec_len}
use Rattle.gate_outside.specs.declared.ports.End.TheVariants.{Client}
use Rattle.gate_outside.proofs.OpenEndLemmas.{distinct_push, below_push, below_more, below_free}
use Rattle.gate_outside.proofs.OpenEndLemmas.{distinct_fit}
use Rattle.gate_outside.proofs.pairs.Pairs.accept.Goals as goal

pub push_reserved-requires-2 : goal.push_reserved-requires-2
push_reserved-requires-2 c =
    let fit = distinct_fit _ _ c.self.invariant.below c.self.invariant.distinct in
    let same : vec_len c.self.inside.ends ≡ length c.self.inside.ends.items = search rules in
    omega (arith, fit)

pub invariant_of-self : goal.invariant_of-self
invariant_of-self c = record {
  accepted = omega arith;
  pairs = omega arith;
  ends = omega arith;
  below = rw c.push_reserved-2.ensures.items
      (below_push _ _ _ Client (below_more _ _ _ (omega arith) c.self.invariant.below) (omega arith));
  distinct = rw c.push_reserved-2.ensures.items
      (distinct_push _ _ Client c.self.invariant.distinct (rw c.len-pair.ensures (below_free _ Client _ c.self.invariant.below)));
}
