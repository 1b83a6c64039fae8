use Rattle.std.proofs.Common.{◌≡◌, ◌<◌, length, false, arith, rules, vec_len}
use Rattle.std.proofs.lemmas.List.{length_push}
use Rattle.gate_outside.specs.declared.ports.End.TheVariants.{Up}
use Rattle.gate_outside.specs.Ends.{is_open}
use Rattle.gate_outside.proofs.OpenEndLemmas.{distinct_push, below_push, distinct_fit}
use Rattle.gate_outside.proofs.pairs.Pairs.link.Goals as goal

pub push_reserved-requires : goal.push_reserved-requires
push_reserved-requires c =
    let known : c.args.pair < vec_len c.self.inside.taken = search rules in
    let free : is_open c.args.pair Up c.self.inside.ends.items ≡ false = search rules in
    let below = below_push _ _ c.args.pair Up c.self.invariant.below known in
    let distinct = distinct_push _ c.args.pair Up c.self.invariant.distinct free in
    let fit = distinct_fit _ _ below distinct in
    let one_more = length_push c.self.inside.ends.items (c.args.pair, Up) in
    let same : vec_len c.self.inside.ends ≡ length c.self.inside.ends.items = search rules in
    omega (arith, fit, one_more)

pub invariant_of-self : goal.invariant_of-self
invariant_of-self c =
    let known : c.args.pair < vec_len c.self.inside.taken = search rules in
    let free : is_open c.args.pair Up c.self.inside.ends.items ≡ false = search rules in
    record {
      accepted = c.self.invariant.accepted;
      pairs = c.self.invariant.pairs;
      ends = omega arith;
      below = rw c.push_reserved.ensures.items (below_push _ _ _ Up c.self.invariant.below known);
      distinct = rw c.push_reserved.ensures.items (distinct_push _ _ Up c.self.invariant.distinct free);
    }
