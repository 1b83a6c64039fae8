use Rattle.std.proofs.Common.{◌≡◌, ◌∙◌, ◌+◌, ◌<◌, Bool, List, Option, Some, if◌then◌else◌, ap}
use Rattle.std.proofs.Common.{arith}
use Rattle.std.proofs.Common.{drop, length, refl, subst, sym, take, ℕ}
use Rattle.std.proofs.lemmas.Bool.{OnFalse_at, OnTrue_at}
use Rattle.std.specs.Prelude.{IfSome, slice_get}
use Rattle.machine_091.specs.declared.unit.Unit91.{Unit91}
use Rattle.gate_model.specs.Queue.{channel_of, place_from}
use Rattle.gate_model.specs.State.{State, waits}
use Rattle.bridge_core.specs.Held.{AreHeld}
use Rattle.bridge_core.proofs.Places.{none_behind, none_held, place_here}
use Rattle.bridge_core.proofs.core_state.Core.look_through.Goals as goal

-- from this unit on, by whether it can be taken up
abbrev from : State → ℕ → Bool → Option ℕ
from w i b = if b then Some i else place_from (waits w) w.queue (i + 1) (drop (i + 1) w.queue)

pub loop-i-init : goal.loop-i-init
loop-i-init c = record { place = refl; held = none_held }

pub loop-i-preserved : goal.loop-i-preserved
loop-i-preserved c =
    let w : State = c.args.self.now in
    let same : c.self.inside.queue ≡ w.queue = ap (λ (x : State). x.queue) c.self.view_is in
    let inside : c.loop-i.i < length w.queue = omega (arith, c.loop-i-test.true, c.len-i-end.ensures, ap length same) in
    record {
      place = c.loop-i.invariant.place ∙ place_here (waits w) w.queue c.loop-i.i c.can_take.result c.can_take.ensures inside
          ∙ ap (from w c.loop-i.i) c.if-can_take.false;
      held = subst (λ (us : List Unit91). AreHeld (take (c.loop-i.i + 1) us) c.hold.new.held) same (OnTrue_at c.if-not-hold.false c.hold.ensures.held);
    }

pub returns-then-not-hold-clause-place : goal.returns-then-not-hold-clause-place
returns-then-not-hold-clause-place c =
    let w : State = c.args.self.now in
    let same : c.self.inside.queue ≡ w.queue = ap (λ (x : State). x.queue) c.self.view_is in
    let inside : c.loop-i.i < length w.queue = omega (arith, c.loop-i-test.true, c.len-i-end.ensures, ap length same) in
    let all : IfSome (slice_get w.queue c.loop-i.i) (λ u. channel_of u ≡ 0) =
    subst (λ (us : List Unit91). IfSome (slice_get us c.loop-i.i) (λ u. channel_of u ≡ 0)) same (OnFalse_at c.if-not-hold.true c.hold.ensures.all) in
    sym (c.loop-i.invariant.place ∙ place_here (waits w) w.queue c.loop-i.i c.can_take.result c.can_take.ensures inside
    ∙ ap (from w c.loop-i.i) c.if-can_take.false ∙ none_behind (waits w) w.queue c.loop-i.i inside all)

pub returns-then-can_take-clause-place : goal.returns-then-can_take-clause-place
returns-then-can_take-clause-place c =
    let w : State = c.args.self.now in
    let same : c.self.inside.queue ≡ w.queue = ap (λ (x : State). x.queue) c.self.view_is in
    let inside : c.loop-i.i < length w.queue = omega (arith, c.loop-i-test.true, c.len-i-end.ensures, ap length same) in
    sym (c.loop-i.invariant.place ∙ place_here (waits w) w.queue c.loop-i.i c.can_take.result c.can_take.ensures inside
    ∙ ap (from w c.loop-i.i) c.if-can_take.true)
