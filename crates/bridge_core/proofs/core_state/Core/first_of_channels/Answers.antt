use Rattle.std.proofs.Common.{◌≡◌, ◌∙◌, ◌+◌, List, ap, arith, not, subst, sym}
use Rattle.std.proofs.lemmas.List.Sums.{prefix_len-le-length}
use Rattle.std.specs.List.{position_or_len}
use Rattle.machine_091.specs.declared.unit.Unit91.{Unit91}
use Rattle.gate_model.specs.State.{State, waits}
use Rattle.bridge_core.specs.Held.{is_counted_at}
use Rattle.bridge_core.proofs.Least.{IsLeast, least_found, least_moves, least_none, least_stays, none_fewer, none_of_all}
use Rattle.bridge_core.proofs.core_state.Core.first_of_channels.Goals as goal
use Rattle.bridge_core.proofs.core_state.Core.first_of_channels.Goals.{in-Some, in_default}

pub loop-i-preserved : goal.loop-i-preserved
loop-i-preserved c =
    let w : State = c.args.self.now in
    elim c.match-first_on.branch [
      | in-Some b ↦
          subst (IsLeast (waits w) w.queue (c.loop-i.i + 1)) (sym b.first-is)
          (least_moves (waits w) w.queue c.loop-i.i c.loop-i.first b.in-Some.place b.min-first.result c.requires.running b.in-Some.ensures.within b.in-Some.ensures.free b.min-first.ensures c.loop-i.invariant)
      | in_default b ↦
          subst (IsLeast (waits w) w.queue (c.loop-i.i + 1)) (sym b.first-is)
          (least_stays (waits w) w.queue c.loop-i.i c.loop-i.first c.loop-i.invariant (c.first_on.ensures.none c.requires.front b.in_default.is))
    ]

pub first_above-requires-clause-none : goal.first_above-requires-clause-none
first_above-requires-clause-none c =
    let w : State = c.args.self.now in
    none_of_all (waits w) w.queue c.loop-i.i c.loop-i.first c.passed-passed.result (omega (arith, c.loop-i-test.false)) (omega (arith, c.if-passed-first.true)) c.loop-i.invariant.1
    (c.passed-passed.ensures c.requires.front)

pub returns-then-first-end-clause-place : goal.returns-then-first-end-clause-place
returns-then-first-end-clause-place c =
    let w : State = c.args.self.now in
    let same : c.self.inside.queue ≡ w.queue = ap (λ (x : State). x.queue) c.self.view_is in
    let end : c.first-end.result ≡ position_or_len (is_counted_at 0) w.queue =
    c.first-end.ensures ∙ ap (λ (us : List Unit91). position_or_len (is_counted_at 0) us) same in
    sym (least_found (waits w) w.queue c.loop-i.i c.loop-i.first (omega (arith, c.loop-i-test.false)) c.loop-i.invariant
    (none_fewer (waits w) w.queue 256 c.loop-i.first c.passed-passed.result (omega (arith, c.if-passed-first.false)) (c.passed-passed.ensures c.requires.front)) (omega (arith, end)))

pub returns-then-first-end-clause-within : goal.returns-then-first-end-clause-within
returns-then-first-end-clause-within c =
    let w : State = c.args.self.now in
    let same : c.self.inside.queue ≡ w.queue = ap (λ (x : State). x.queue) c.self.view_is in
    let end : c.first-end.result ≡ position_or_len (is_counted_at 0) w.queue =
    c.first-end.ensures ∙ ap (λ (us : List Unit91). position_or_len (is_counted_at 0) us) same in
    omega (arith, end, prefix_len-le-length (λ x. not (is_counted_at 0 x)) w.queue)

pub returns-else-first-end-clause-place : goal.returns-else-first-end-clause-place
returns-else-first-end-clause-place c =
    let w : State = c.args.self.now in
    let same : c.self.inside.queue ≡ w.queue = ap (λ (x : State). x.queue) c.self.view_is in
    let end : c.first-end.result ≡ position_or_len (is_counted_at 0) w.queue =
    c.first-end.ensures ∙ ap (λ (us : List Unit91). position_or_len (is_counted_at 0) us) same in
    sym (least_none (waits w) w.queue c.loop-i.i c.loop-i.first (omega (arith, c.loop-i-test.false)) c.loop-i.invariant
    (none_fewer (waits w) w.queue 256 c.loop-i.first c.passed-passed.result (omega (arith, c.if-passed-first.false)) (c.passed-passed.ensures c.requires.front)) (omega (arith, end)) c.requires.front)
