use Rattle.std.proofs.Common.{arith}
use Rattle.std.specs.Option.{option_map}
use Rattle.session_path.specs.Path.{end_lost}
use Rattle.open_items.proofs.Filtered.{changed_more}
use Rattle.bridge_core.proofs.paths.lose_ends.Goals as goal

pub loop-slot-preserved : goal.loop-slot-preserved
loop-slot-preserved c =
    changed_more (option_map end_lost) _ _ _ _ _ (omega arith) c.loop-slot.invariant c.lose_end.ensures
