use Rattle.std.proofs.Common.{◌≡◌, ◌∙◌, ◌+◌, ◌-◌, ◌≤◌, ◌<◌, ◌^◌, ◌++◌, ◌∷◌, ◌||◌, [], Bool, List, ap, arith, count_by, length, subst, sym, ℕ}
use Rattle.std.specs.List.{list_any}
use Rattle.std.specs.Prelude.{slice_index_or, slice_set}
use Rattle.machine_091.specs.declared.unit.Unit91.{Unit91}
use Rattle.gate_model.specs.Queue.{is_bad_unit, payloads}
use Rattle.bridge_core.specs.Held.{AreCounted, AreFirst, ArePassed, is_counted_at}
use Rattle.bridge_core.proofs.Counts.{counted_more}
use Rattle.bridge_core.proofs.KeptFirsts.{pushed_behind, pushed_first}
use Rattle.bridge_core.proofs.Passed.{passed_behind}
use Rattle.bridge_core.proofs.Payloads.{bad_more, payloads_more}
use Rattle.bridge_core.proofs.queue.Queue.push.Goals as goal

pub invariant_of-self : goal.invariant_of-self
invariant_of-self c =
    let us : List Unit91 = c.self.inside.units.items in
    let u : Unit91 = c.args.unit in
    let k : ℕ = c.place_of-place.result in
    let gone : ℕ = c.self.inside.gone in
    let firsts : List ℕ = c.self.inside.firsts in
    let count : ℕ = c.in-Some-checked_add.count in
    let end : ℕ = c.in-Some-checked_add-2.end in
    let counts : count ≡ slice_index_or c.self.inside.counts k 0 + 1 = c.in-Some-checked_add.ensures.1 in
    let ends : end ≡ gone + (length us + 1) = omega (arith, c.in-Some-checked_add-2.ensures, c.len.ensures) in
    let bound : gone + length us + 1 < 2 ^ 64 = omega (arith, ends) in
    let none : count_by (is_counted_at k) us ≡ 0 =
    omega (arith, counts, c.if-count-eq1.true, c.self.invariant.2 k (omega (arith, c.place_of-place.ensures.within))) in (
      omega (arith, c.in-Some.ensures, c.payload_of.ensures, c.self.invariant.0, payloads_more us u, ap payloads c.in-Ok.ensures.items),
      ap (λ (b : Bool). c.self.inside.bad || b) c.is_bad_unit-bad.ensures
          ∙ ap (λ (b : Bool). b || is_bad_unit u) c.self.invariant.1 ∙ sym (bad_more us u)
          ∙ sym (ap (list_any is_bad_unit) c.in-Ok.ensures.items),
      subst (λ (vs : List Unit91). AreCounted vs (slice_set c.self.inside.counts k count)) (sym c.in-Ok.ensures.items)
          (counted_more us u c.self.inside.counts k count c.self.told.0 c.place_of-place.ensures.value counts c.self.invariant.2),
      subst (λ (vs : List Unit91). AreFirst vs gone (slice_set firsts k (end - 1))) (sym c.in-Ok.ensures.items)
          (subst (λ (e : ℕ). AreFirst (us ++ u ∷ []) gone (slice_set firsts k e)) (omega (arith, ends))
          (pushed_first us u gone firsts k c.self.told.1 c.place_of-place.ensures.value bound none c.self.invariant.3)),
      c.pass_all.ensures (subst (λ (vs : List Unit91). ArePassed vs c.self.inside.above.passed c.self.inside.above.channels) (sym c.in-Ok.ensures.items)
          (passed_behind us u c.self.inside.above.passed c.self.inside.above.channels c.self.invariant.4)),
    )

pub invariant_of-self-else-count-eq1 : goal.invariant_of-self-else-count-eq1
invariant_of-self-else-count-eq1 c =
    let us : List Unit91 = c.self.inside.units.items in
    let u : Unit91 = c.args.unit in
    let k : ℕ = c.place_of-place.result in
    let gone : ℕ = c.self.inside.gone in
    let count : ℕ = c.in-Some-checked_add.count in
    let counts : count ≡ slice_index_or c.self.inside.counts k 0 + 1 = c.in-Some-checked_add.ensures.1 in
    let bound : gone + length us + 1 < 2 ^ 64 = omega (arith, c.in-Some-checked_add-2.ensures, c.len.ensures) in
    let more : 1 ≤ count_by (is_counted_at k) us =
    omega (arith, counts, c.if-count-eq1.false, c.self.invariant.2 k (omega (arith, c.place_of-place.ensures.within))) in (
      omega (arith, c.in-Some.ensures, c.payload_of.ensures, c.self.invariant.0, payloads_more us u, ap payloads c.in-Ok.ensures.items),
      ap (λ (b : Bool). c.self.inside.bad || b) c.is_bad_unit-bad.ensures
          ∙ ap (λ (b : Bool). b || is_bad_unit u) c.self.invariant.1 ∙ sym (bad_more us u)
          ∙ sym (ap (list_any is_bad_unit) c.in-Ok.ensures.items),
      subst (λ (vs : List Unit91). AreCounted vs (slice_set c.self.inside.counts k count)) (sym c.in-Ok.ensures.items)
          (counted_more us u c.self.inside.counts k count c.self.told.0 c.place_of-place.ensures.value counts c.self.invariant.2),
      subst (λ (vs : List Unit91). AreFirst vs gone c.self.inside.firsts) (sym c.in-Ok.ensures.items)
          (pushed_behind us u gone c.self.inside.firsts k c.place_of-place.ensures.value bound more c.self.invariant.3),
      c.pass_all.ensures (subst (λ (vs : List Unit91). ArePassed vs c.self.inside.above.passed c.self.inside.above.channels) (sym c.in-Ok.ensures.items)
          (passed_behind us u c.self.inside.above.passed c.self.inside.above.channels c.self.invariant.4)),
    )
