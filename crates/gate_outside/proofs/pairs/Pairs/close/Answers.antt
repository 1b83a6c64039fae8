use Rattle.std.proofs.Common.{◌≡◌, not, arith, rules}
use Rattle.std.proofs.lemmas.Fn.{filter_same}
use Rattle.gate_outside.specs.Ends.{is_end, closed}
use Rattle.gate_outside.proofs.OpenEndLemmas.{distinct_closed, below_closed}
use Rattle.gate_outside.proofs.pairs.Pairs.close.Goals as goal

pub invariant_of-self : goal.invariant_of-self
invariant_of-self c =
    let kept : c.retain.new.self.items ≡ closed c.args.pair c.args.end c.self.inside.ends.items =
    filter_same _ (λ x. not (is_end c.args.pair c.args.end x)) _ (λ x b q t. (search rules, search rules)) _ _ c.retain.ensures.filtered in
    record {
      accepted = c.self.invariant.accepted;
      pairs = c.self.invariant.pairs;
      ends = omega arith;
      below = rw kept (below_closed _ _ _ _ c.self.invariant.below);
      distinct = rw kept (distinct_closed _ _ _ c.self.invariant.distinct);
    }

pub returns : goal.returns
returns c =
    let kept : c.retain.new.self.items ≡ closed c.args.pair c.args.end c.self.inside.ends.items =
    filter_same _ (λ x. not (is_end c.args.pair c.args.end x)) _ (λ x b q t. (search rules, search rules)) _ _ c.retain.ensures.filtered in
    rw (← c.self.view_is, kept)
