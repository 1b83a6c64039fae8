use Rattle.std.proofs.Common.{◌∙◌, ap, arith, count_by, length, sym}
use Rattle.std.specs.List.{list_any}
use Rattle.gate_model.specs.Queue.{is_bad_unit, payloads}
use Rattle.bridge_core.specs.Held.{is_counted_at}
use Rattle.bridge_core.proofs.Counts.{none_counted}
use Rattle.bridge_core.proofs.queue.Queue.clear.Goals as goal

pub invariant_of-self : goal.invariant_of-self
invariant_of-self c = (
  sym (ap payloads c.clear.ensures.items),
  sym (ap (list_any is_bad_unit) c.clear.ensures.items),
  λ n lt. none_counted n lt ∙ sym (ap (count_by (is_counted_at n)) c.clear.ensures.items),
  (omega (arith, ap length c.clear.ensures.items), λ n lt some. absurd (omega (arith, some, ap length c.clear.ensures.items))),
  c.clear-2.ensures _,
)
