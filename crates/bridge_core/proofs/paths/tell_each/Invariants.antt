use Rattle.std.proofs.Common.{◌≡◌, ◌++◌, drop, take}
use Rattle.gate_model.specs.Paths.{told_paths}
use Rattle.bridge_core.proofs.paths.tell_each.Given as goal

abbrev pub invariant-loop-slot : goal.invariant-loop-slot
invariant-loop-slot l = l.slots ≡ told_paths (take l.slot-index l.fn.slots) ++ drop l.slot-index l.fn.slots
