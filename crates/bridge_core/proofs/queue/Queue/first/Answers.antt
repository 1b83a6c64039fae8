use Rattle.std.proofs.Common.{◌≡◌, ◌∙◌, ◌<◌, List, ap, arith, count_by, subst, sym}
use Rattle.std.proofs.lemmas.Bool.{ltb-false, ltb-true}
use Rattle.std.specs.Prelude.{slice_index_or}
use Rattle.machine_091.specs.declared.unit.Unit91.{Unit91}
use Rattle.bridge_core.specs.Held.{AreFirst, is_counted_at}
use Rattle.bridge_core.proofs.FirstPlaces.{first_of_none, first_of_some}
use Rattle.bridge_core.proofs.queue.Queue.first.Goals as goal

pub overflow_sub-result : goal.overflow_sub-result
overflow_sub-result c =
    let some : 0 < count_by (is_counted_at c.args.channel) c.args.self.now = ltb-true 0 _ (sym c.has.ensures ∙ c.if-has.true) in
    let known : AreFirst c.args.self.now c.self.inside.gone c.self.inside.firsts =
    subst (λ (us : List Unit91). AreFirst us c.self.inside.gone c.self.inside.firsts) c.self.view_is c.self.invariant.3 in
    let at = known.1 c.args.channel c.requires (first_of_some (is_counted_at c.args.channel) c.args.self.now (omega (arith, some))) in
    omega (arith, at, ap (λ k. slice_index_or c.self.inside.firsts k 0) c.from.ensures)

pub returns-then-has : goal.returns-then-has
returns-then-has c =
    let some : 0 < count_by (is_counted_at c.args.channel) c.args.self.now = ltb-true 0 _ (sym c.has.ensures ∙ c.if-has.true) in
    let known : AreFirst c.args.self.now c.self.inside.gone c.self.inside.firsts =
    subst (λ (us : List Unit91). AreFirst us c.self.inside.gone c.self.inside.firsts) c.self.view_is c.self.invariant.3 in
    let at = known.1 c.args.channel c.requires (first_of_some (is_counted_at c.args.channel) c.args.self.now (omega (arith, some))) in
    omega (arith, at, ap (λ k. slice_index_or c.self.inside.firsts k 0) c.from.ensures)

pub returns-else-has : goal.returns-else-has
returns-else-has c =
    let none : count_by (is_counted_at c.args.channel) c.args.self.now ≡ 0 = omega (arith, ltb-false 0 _ (sym c.has.ensures ∙ c.if-has.false)) in
    c.len.ensures ∙ sym (first_of_none (is_counted_at c.args.channel) c.args.self.now none)
