use Rattle.std.proofs.Common.{◌≡◌, ◌++◌, map, take, drop}
use Rattle.std.specs.Option.{option_map}
use Rattle.gate_model.specs.Paths.{ended_path}
use Rattle.bridge_core.proofs.paths.lose_each.Given as goal

abbrev pub invariant-loop-slot : goal.invariant-loop-slot
invariant-loop-slot l = l.paths ≡ map (option_map ended_path) (take l.slot-index l.fn.paths) ++ drop l.slot-index l.fn.paths
