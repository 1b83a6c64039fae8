use Rattle.std.proofs.Common.{◌≡◌, ◌∙◌, ℕ, List, Option, Some, ap, option_copied, subst, sym}
use Rattle.std.proofs.lemmas.Bool.{OnTrue_at}
use Rattle.std.specs.Prelude.{IfSome, slice_get}
use Rattle.machine_091.specs.declared.unit.Unit91.{Unit91}
use Rattle.gate_model.specs.State.{State, waits}
use Rattle.bridge_core.specs.Held.{IsFreeAbove}
use Rattle.bridge_core.proofs.Least.{above_found, inside}
use Rattle.bridge_core.proofs.core_state.Core.first_above.Goals as goal

pub returns-in-Some-clause-place : goal.returns-in-Some-clause-place
returns-in-Some-clause-place c =
    let w : State = c.args.self.now in
    let i : ℕ = c.args.place in
    let same : c.self.inside.queue ≡ w.queue = ap (λ (x : State). x.queue) c.self.view_is in
    let here : slice_get w.queue i ≡ Some c.in-Some.unit.now =
    ap (λ (us : List Unit91). slice_get us i) (sym same) ∙ sym c.get.ensures ∙ ap option_copied c.in-Some.is in
    let free : IfSome (slice_get w.queue i) (IsFreeAbove w.queue i) =
    subst (λ (us : List Unit91). IfSome (slice_get us i) (IsFreeAbove us i)) same (OnTrue_at c.if-is_free_above.true c.is_free_above.ensures) in
    sym (above_found (waits w) w.queue i c.in-Some.unit.now c.requires.running c.requires.all c.requires.none here
    (subst (λ (o : Option Unit91). IfSome o (IsFreeAbove w.queue i)) here free)
    (ap (waits w).channel (sym c.channel_of.ensures) ∙ sym c.waits_on.ensures ∙ c.if-not-waits_on.true))

pub returns-in-Some-clause-within : goal.returns-in-Some-clause-within
returns-in-Some-clause-within c =
    let w : State = c.args.self.now in
    let i : ℕ = c.args.place in
    let same : c.self.inside.queue ≡ w.queue = ap (λ (x : State). x.queue) c.self.view_is in
    inside i w.queue c.in-Some.unit.now (ap (λ (us : List Unit91). slice_get us i) (sym same) ∙ sym c.get.ensures ∙ ap option_copied c.in-Some.is)
