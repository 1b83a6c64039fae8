use Rattle.std.proofs.Common.{arith}
use Rattle.std.specs.Option.{option_map}
use Rattle.session_path.specs.Path.{lines_told}
use Rattle.open_items.proofs.Filtered.{changed_more}
use Rattle.bridge_core.proofs.paths.tell_each.Goals as goal

pub loop-slot-preserved : goal.loop-slot-preserved
loop-slot-preserved c =
    changed_more (option_map lines_told) _ _ _ _ _ (omega arith) c.loop-slot.invariant c.lines_told.ensures
