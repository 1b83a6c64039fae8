use Rattle.std.proofs.Common.{◌∙◌, List, ap, arith, count_by, length, subst, sym}
use Rattle.std.specs.List.{list_any}
use Rattle.machine_091.specs.declared.unit.Unit91.{Unit91}
use Rattle.gate_model.specs.Queue.{is_bad_unit, payloads}
use Rattle.bridge_core.specs.Held.{ArePassed, is_counted_at}
use Rattle.bridge_core.proofs.Counts.{none_counted}
use Rattle.bridge_core.proofs.queue.Queue.new.Goals as goal

pub invariant_of-result : goal.invariant_of-result
invariant_of-result c = (
  sym (ap payloads c.new.ensures.items),
  sym (ap (list_any is_bad_unit) c.new.ensures.items),
  λ n lt. none_counted n lt ∙ sym (ap (count_by (is_counted_at n)) c.new.ensures.items),
  (omega (arith, ap length c.new.ensures.items), λ n lt some. absurd (omega (arith, some, ap length c.new.ensures.items))),
  subst (λ (us : List Unit91). ArePassed us c.new-2.result.passed c.new-2.result.channels) (sym c.new.ensures.items) c.new-2.ensures,
)
