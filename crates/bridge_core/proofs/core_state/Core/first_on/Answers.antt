use Rattle.std.proofs.Common.{◌≡◌, ◌∙◌, ℕ, List, None, Some, ap, arith, count_by, length, nat_lt, option_copied, sym}
use Rattle.std.proofs.lemmas.Bool.{ltb-false}
use Rattle.std.specs.Prelude.{slice_get}
use Rattle.std.specs.List.{position_or_len}
use Rattle.machine_091.specs.declared.unit.Unit91.{Unit91}
use Rattle.gate_model.specs.State.{State, waits}
use Rattle.bridge_core.specs.Held.{is_counted_at}
use Rattle.bridge_core.proofs.FirstPlaces.{first_of_none}
use Rattle.bridge_core.proofs.Least.{inside, none_on_none, of_own, own_free}
use Rattle.bridge_core.proofs.Search.{none_on_beat, none_on_first, none_on_waiting}
use Rattle.bridge_core.proofs.core_state.Core.first_on.Goals as goal
use Rattle.bridge_core.proofs.core_state.Core.first_on.Goals.{then-not-has-via-then-not-has, then-not-has-via-else-not-has+then-waits_on}

pub returns-then-not-has-clause-none : goal.returns-then-not-has-clause-none
returns-then-not-has-clause-none c front is =
    let w : State = c.args.self.now in
    let n : ℕ = c.args.channel in
    let same : c.self.inside.queue ≡ w.queue = ap (λ (x : State). x.queue) c.self.view_is in
    elim c.then-not-has.branch [
      | then-not-has-via-then-not-has b ↦
          let none : count_by (is_counted_at n) w.queue ≡ 0 =
          omega (arith, ltb-false 0 _ (ap (λ (us : List Unit91). nat_lt 0 (count_by (is_counted_at n) us)) (sym same) ∙ sym c.has.ensures ∙ b.if-not-has.true)) in
          none_on_first (waits w) w.queue n (length w.queue) (omega (arith, first_of_none (is_counted_at n) w.queue none))
      | then-not-has-via-else-not-has+then-waits_on b ↦
          none_on_waiting (waits w) w.queue n (length w.queue) c.requires front (sym b.waits_on.ensures ∙ b.if-waits_on.true)
    ]

pub returns-in-Some-clause-free : goal.returns-in-Some-clause-free
returns-in-Some-clause-free c =
    let w : State = c.args.self.now in
    let i : ℕ = c.first-place.result in
    let same : c.self.inside.queue ≡ w.queue = ap (λ (x : State). x.queue) c.self.view_is in
    let here : slice_get w.queue i ≡ Some c.in-Some.unit.now =
    ap (λ (us : List Unit91). slice_get us i) (sym same) ∙ sym c.get.ensures ∙ ap option_copied c.in-Some.is in
    own_free (waits w) w.queue c.args.channel i c.in-Some.unit.now c.requires
    (c.first-place.ensures ∙ ap (λ (us : List Unit91). position_or_len (is_counted_at c.args.channel) us) same) here
    (sym c.waits_for_all.ensures ∙ c.if-not-waits_for_all.true) (sym c.waits_on.ensures ∙ c.if-waits_on.false)

pub returns-in-Some-clause-within : goal.returns-in-Some-clause-within
returns-in-Some-clause-within c =
    let w : State = c.args.self.now in
    let i : ℕ = c.first-place.result in
    let same : c.self.inside.queue ≡ w.queue = ap (λ (x : State). x.queue) c.self.view_is in
    inside i w.queue c.in-Some.unit.now (ap (λ (us : List Unit91). slice_get us i) (sym same) ∙ sym c.get.ensures ∙ ap option_copied c.in-Some.is)

pub returns-in_default-clause-none : goal.returns-in_default-clause-none
returns-in_default-clause-none c front is =
    let w : State = c.args.self.now in
    let n : ℕ = c.args.channel in
    let i : ℕ = c.first-place.result in
    let same : c.self.inside.queue ≡ w.queue = ap (λ (x : State). x.queue) c.self.view_is in
    let first : i ≡ position_or_len (is_counted_at n) w.queue = c.first-place.ensures ∙ ap (λ (us : List Unit91). position_or_len (is_counted_at n) us) same in
    let here : slice_get w.queue i ≡ Some c.in-Some.unit.now =
    ap (λ (us : List Unit91). slice_get us i) (sym same) ∙ sym c.get.ensures ∙ ap option_copied c.in-Some.is in
    none_on_beat (waits w) w.queue n (length w.queue) i c.in-Some.unit.now c.requires front first here (of_own w.queue n i c.in-Some.unit.now first here)
    (sym c.waits_for_all.ensures ∙ c.if-not-waits_for_all.false)

pub returns-in_default-2-clause-none : goal.returns-in_default-2-clause-none
returns-in_default-2-clause-none c front is =
    let w : State = c.args.self.now in
    let n : ℕ = c.args.channel in
    let i : ℕ = c.first-place.result in
    let same : c.self.inside.queue ≡ w.queue = ap (λ (x : State). x.queue) c.self.view_is in
    let none : slice_get w.queue i ≡ None = ap (λ (us : List Unit91). slice_get us i) (sym same) ∙ sym c.get.ensures ∙ ap option_copied c.in_default.is in
    none_on_none (waits w) w.queue n i (c.first-place.ensures ∙ ap (λ (us : List Unit91). position_or_len (is_counted_at n) us) same) none
