use Rattle.std.proofs.Common.{◌≡◌, ◌<◌, ◌∙◌, ℕ, List, Some, ap, arith, count_by, length, subst, sym}
use Rattle.std.specs.Prelude.{if◌then◌else◌, slice_get}
use Rattle.std.specs.List.{list_any}
use Rattle.machine_091.specs.declared.unit.Unit91.{Unit91}
use Rattle.gate_model.specs.Queue.{is_bad_unit, payloads, removed}
use Rattle.bridge_core.specs.Held.{is_counted_at}
use Rattle.bridge_core.proofs.Counts.{counted_less, counted_left, some_counted}
use Rattle.bridge_core.proofs.KeptFirsts.{length_less}
use Rattle.bridge_core.proofs.Payloads.{bad_less, payloads_less, stands_at, taken_out}
use Rattle.bridge_core.proofs.Went.{next_fits, went_first, went_other}
use Rattle.bridge_core.proofs.queue.Queue.remove.Goals as goal
use Rattle.bridge_core.proofs.queue.Queue.remove.Goals.{else-was_first-via-then-was_first+else-self-of-gt0, else-was_first-via-else-was_first}

pub overflow_sub-self : goal.overflow_sub-self
overflow_sub-self c =
    let us : List Unit91 = c.self.inside.units.items in
    let i : ℕ = c.args.place in
    let u : Unit91 = c.in-Some.unit in
    let there : slice_get us i ≡ Some u =
    stands_at i us u (subst (λ (vs : List Unit91). i < length vs) (sym c.self.view_is) c.requires) ∙ ap Some (sym c.in-Some.ensures.value) in
    omega (arith, payloads_less i us u there, c.self.invariant.0, c.payload_of.ensures)

pub overflow_sub-self-2 : goal.overflow_sub-self-2
overflow_sub-self-2 c =
    let us : List Unit91 = c.self.inside.units.items in
    let i : ℕ = c.args.place in
    let u : Unit91 = c.in-Some.unit in
    let k : ℕ = c.place_of-of.result in
    let there : slice_get us i ≡ Some u =
    stands_at i us u (subst (λ (vs : List Unit91). i < length vs) (sym c.self.view_is) c.requires) ∙ ap Some (sym c.in-Some.ensures.value) in
    some_counted us u i c.self.inside.counts k there c.place_of-of.ensures.value c.self.invariant.2

pub overflow_add-self : goal.overflow_add-self
overflow_add-self c =
    let us : List Unit91 = c.self.inside.units.items in
    let i : ℕ = c.args.place in
    let u : Unit91 = c.in-Some.unit in
    let k : ℕ = c.place_of-of.result in
    let there : slice_get us i ≡ Some u =
    stands_at i us u (subst (λ (vs : List Unit91). i < length vs) (sym c.self.view_is) c.requires) ∙ ap Some (sym c.in-Some.ensures.value) in
    let rest : c.remove.new.self.items ≡ removed i us = c.in-Some.ensures.items ∙ sym (taken_out i us) in
    omega (arith, next_fits us c.remove.new.self.items u c.self.inside.gone c.went-self-inside.result i c.self.inside.firsts k c.next_from.result there rest c.went-self-inside.ensures.gone c.self.invariant.3 (omega (arith, c.requires, ap length c.self.view_is, ap length rest, length_less i us u there)) c.next_from.ensures)

pub invariant_of-self : goal.invariant_of-self
invariant_of-self c =
    let us : List Unit91 = c.self.inside.units.items in
    let i : ℕ = c.args.place in
    let u : Unit91 = c.in-Some.unit in
    let k : ℕ = c.place_of-of.result in
    let there : slice_get us i ≡ Some u =
    stands_at i us u (subst (λ (vs : List Unit91). i < length vs) (sym c.self.view_is) c.requires) ∙ ap Some (sym c.in-Some.ensures.value) in
    let rest : c.remove.new.self.items ≡ removed i us = c.in-Some.ensures.items ∙ sym (taken_out i us) in (
      omega (arith, payloads_less i us u there, c.self.invariant.0, c.payload_of.ensures, ap payloads rest),
      c.bad_without-self-inside.ensures
          ∙ ap (λ (vs : List Unit91). if is_bad_unit u then list_any is_bad_unit vs else c.self.inside.bad) rest
          ∙ bad_less i us u c.self.inside.bad there c.self.invariant.1
          ∙ sym (ap (list_any is_bad_unit) rest),
      λ n lt. counted_less us u i c.self.inside.counts k there c.self.told.0 c.place_of-of.ensures.value c.self.invariant.2 n lt
          ∙ sym (ap (count_by (is_counted_at n)) rest),
      went_first us c.remove.new.self.items u c.self.inside.gone c.went-self-inside.result i c.self.inside.firsts c.went-self-inside.new.firsts k c.next_from.result there c.place_of-of.ensures.value c.self.told.1
          (omega (arith, c.place_of-of.ensures.within)) rest c.went-self-inside.ensures.gone c.went-self-inside.ensures.firsts c.self.invariant.3 c.if-was_first.true c.next_from.ensures,
      c.went.ensures us there rest c.self.invariant.4,
    )

pub invariant_of-self-else-self-of-gt0 : goal.invariant_of-self-else-self-of-gt0
invariant_of-self-else-self-of-gt0 c =
    let us : List Unit91 = c.self.inside.units.items in
    let i : ℕ = c.args.place in
    let u : Unit91 = c.in-Some.unit in
    let k : ℕ = c.place_of-of.result in
    let there : slice_get us i ≡ Some u =
    stands_at i us u (subst (λ (vs : List Unit91). i < length vs) (sym c.self.view_is) c.requires) ∙ ap Some (sym c.in-Some.ensures.value) in
    let rest : c.remove.new.self.items ≡ removed i us = c.in-Some.ensures.items ∙ sym (taken_out i us) in (
      omega (arith, payloads_less i us u there, c.self.invariant.0, c.payload_of.ensures, ap payloads rest),
      c.bad_without-self-inside.ensures
          ∙ ap (λ (vs : List Unit91). if is_bad_unit u then list_any is_bad_unit vs else c.self.inside.bad) rest
          ∙ bad_less i us u c.self.inside.bad there c.self.invariant.1
          ∙ sym (ap (list_any is_bad_unit) rest),
      λ n lt. counted_less us u i c.self.inside.counts k there c.self.told.0 c.place_of-of.ensures.value c.self.invariant.2 n lt
          ∙ sym (ap (count_by (is_counted_at n)) rest),
      went_other us c.remove.new.self.items u c.self.inside.gone c.went-self-inside.result i c.self.inside.firsts c.went-self-inside.new.firsts k there c.place_of-of.ensures.value c.self.told.1
          (omega (arith, c.place_of-of.ensures.within)) rest c.went-self-inside.ensures.gone c.went-self-inside.ensures.firsts c.self.invariant.3
          (λ was. counted_left us u i c.self.inside.counts k c.remove.new.self.items there c.self.told.0 c.place_of-of.ensures.value c.self.invariant.2 c.if-self-of-gt0.false rest),
      c.went.ensures us there rest c.self.invariant.4,
    )

pub invariant_of-self-else-was_first : goal.invariant_of-self-else-was_first
invariant_of-self-else-was_first c =
    let us : List Unit91 = c.self.inside.units.items in
    let i : ℕ = c.args.place in
    let u : Unit91 = c.in-Some.unit in
    let k : ℕ = c.place_of-of.result in
    let there : slice_get us i ≡ Some u =
    stands_at i us u (subst (λ (vs : List Unit91). i < length vs) (sym c.self.view_is) c.requires) ∙ ap Some (sym c.in-Some.ensures.value) in
    let rest : c.remove.new.self.items ≡ removed i us = c.in-Some.ensures.items ∙ sym (taken_out i us) in (
      omega (arith, payloads_less i us u there, c.self.invariant.0, c.payload_of.ensures, ap payloads rest),
      c.bad_without-self-inside.ensures
          ∙ ap (λ (vs : List Unit91). if is_bad_unit u then list_any is_bad_unit vs else c.self.inside.bad) rest
          ∙ bad_less i us u c.self.inside.bad there c.self.invariant.1
          ∙ sym (ap (list_any is_bad_unit) rest),
      λ n lt. counted_less us u i c.self.inside.counts k there c.self.told.0 c.place_of-of.ensures.value c.self.invariant.2 n lt
          ∙ sym (ap (count_by (is_counted_at n)) rest),
      went_other us c.remove.new.self.items u c.self.inside.gone c.went-self-inside.result i c.self.inside.firsts c.went-self-inside.new.firsts k there c.place_of-of.ensures.value c.self.told.1
          (omega (arith, c.place_of-of.ensures.within)) rest c.went-self-inside.ensures.gone c.went-self-inside.ensures.firsts c.self.invariant.3
          (λ was. absurd (c.if-was_first.false was)),
      c.went.ensures us there rest c.self.invariant.4,
    )

pub returns-then-self-of-gt0-clause-unit : goal.returns-then-self-of-gt0-clause-unit
returns-then-self-of-gt0-clause-unit c =
    ap (λ (us : List Unit91). slice_get us c.args.place) (sym c.self.view_is)
    ∙ stands_at c.args.place c.self.inside.units.items c.in-Some.unit (subst (λ (us : List Unit91). c.args.place < length us) (sym c.self.view_is) c.requires)
    ∙ ap Some (sym c.in-Some.ensures.value)

pub returns-then-self-of-gt0-clause-rest : goal.returns-then-self-of-gt0-clause-rest
returns-then-self-of-gt0-clause-rest c = c.in-Some.ensures.items ∙ sym (taken_out c.args.place c.self.inside.units.items) ∙ ap (removed c.args.place) c.self.view_is

pub returns-else-was_first-clause-unit : goal.returns-else-was_first-clause-unit
returns-else-was_first-clause-unit c =
    ap (λ (us : List Unit91). slice_get us c.args.place) (sym c.self.view_is)
    ∙ stands_at c.args.place c.self.inside.units.items c.in-Some.unit (subst (λ (us : List Unit91). c.args.place < length us) (sym c.self.view_is) c.requires)
    ∙ ap Some (sym c.in-Some.ensures.value)

pub returns-else-was_first-clause-rest : goal.returns-else-was_first-clause-rest
returns-else-was_first-clause-rest c =
    elim c.else-was_first.branch [
      | else-was_first-via-then-was_first+else-self-of-gt0 w ↦ w.self-is ∙ c.in-Some.ensures.items ∙ sym (taken_out c.args.place c.self.inside.units.items) ∙ ap (removed c.args.place) c.self.view_is
      | else-was_first-via-else-was_first w ↦ w.self-is ∙ c.in-Some.ensures.items ∙ sym (taken_out c.args.place c.self.inside.units.items) ∙ ap (removed c.args.place) c.self.view_is
    ]
