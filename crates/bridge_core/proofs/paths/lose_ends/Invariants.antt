use Rattle.std.proofs.Common.{◌≡◌, ◌++◌, map, take, drop}
use Rattle.std.specs.Option.{option_map}
use Rattle.session_path.specs.Path.{end_lost}
use Rattle.bridge_core.proofs.paths.lose_ends.Given as goal

abbrev pub invariant-loop-slot : goal.invariant-loop-slot
invariant-loop-slot l = l.paths ≡ map (option_map end_lost) (take l.slot-index l.fn.paths) ++ drop l.slot-index l.fn.paths
