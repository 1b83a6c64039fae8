use Rattle.std.proofs.Common.{arith}
use Rattle.std.specs.Option.{option_map}
use Rattle.gate_model.specs.Paths.{ended_path}
use Rattle.open_items.proofs.Filtered.{changed_more}
use Rattle.bridge_core.proofs.paths.lose_each.Goals as goal

pub loop-slot-preserved : goal.loop-slot-preserved
loop-slot-preserved c =
    changed_more (option_map ended_path) _ _ _ _ _ (omega arith) c.loop-slot.invariant c.end.ensures
