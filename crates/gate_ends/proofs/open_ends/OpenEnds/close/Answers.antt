use Rattle.std.proofs.Common.{◌≡◌, ◌∙◌, ap, sym, arith, rules, length, vec_len}
use Rattle.std.proofs.lemmas.Option.{slice_get_within}
use Rattle.gate_outside.specs.Ends.{closed}
use Rattle.gate_outside.proofs.OpenEndLemmas.{distinct_closed, below_closed}
use Rattle.gate_ends.specs.OpenEnds.{clients_of}
use Rattle.gate_ends.proofs.OpenEndLemmas.{closed_free, left-closed, clients_of-closed}
use Rattle.gate_ends.proofs.open_ends.OpenEnds.close.Goals as goal

pub returns-in_err-at-clause-ends : goal.returns-in_err-at-clause-ends
returns-in_err-at-clause-ends g c =
    sym (closed_free c.args.self.now.ends.items c.args.pair c.args.end c.in_err-at.ensures.none)

pub remove-requires : goal.remove-requires
remove-requires g c =
    let within = slice_get_within c.args.self.now.ends.items c.in_ok-at.at _ c.in_ok-at.ensures.some in
    let same : vec_len c.args.self.now.ends ≡ length c.args.self.now.ends.items = search rules in
    omega (arith, within, same)

pub invariant_of-self : goal.invariant_of-self
invariant_of-self g c =
    let old = c.args.self.now in
    let kept : c.remove.new.self.items ≡ closed c.args.pair c.args.end old.ends.items =
    left-closed _ old.ends.items c.in_ok-at.at c.args.pair c.args.end c.remove.ensures.items old.distinct c.in_ok-at.ensures.some in
    record {
      paired = omega arith;
      reserved_ends = omega arith;
      reserved_links = omega arith;
      counted = c.clients_in-self.ensures ∙ ap clients_of c.deref.ensures.value;
      few = rw kept (omega (arith, clients_of-closed old.ends.items c.args.pair c.args.end, old.few));
      below = rw kept (below_closed _ _ _ _ old.below);
      distinct = rw kept (distinct_closed _ _ _ old.distinct);
    }

pub returns-clause-ends : goal.returns-clause-ends
returns-clause-ends g c =
    c.give_back_kept.ensures.ends
    ∙ left-closed _ _ c.in_ok-at.at c.args.pair c.args.end c.remove.ensures.items c.args.self.now.distinct c.in_ok-at.ensures.some
