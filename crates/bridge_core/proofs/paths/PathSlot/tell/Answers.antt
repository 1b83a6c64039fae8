use Rattle.std.proofs.Common.{rules}
use Rattle.bridge_core.proofs.PathSlots.{told_to}
use Rattle.bridge_core.proofs.paths.PathSlot.tell.Goals as goal

pub returns : goal.returns
returns c =
    elim c.match-unit.branch [
      | goal.in-Ok w ↦ search rules
      | goal.in-Deliver w ↦ told_to _ _ w.deref_mut-in-Deliver.result.now _ w.in-Deliver.due _ (search rules) (search rules) w.deliver_sent.ensures (search rules)
      | goal.in-Content w ↦ search rules
      | goal.in-Confirm w ↦ search rules
      | goal.in-Return w ↦ search rules
    ]
