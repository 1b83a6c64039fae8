use Rattle.std.proofs.Common.{◌≡◌, ◌++◌, drop, map, take}
use Rattle.bridge_core.specs.Held.{moved_up}
use Rattle.bridge_core.proofs.queue.close_up.Given as goal

abbrev pub invariant-loop-first : goal.invariant-loop-first
invariant-loop-first l = l.firsts ≡ map (moved_up l.at) (take l.first-index l.fn.firsts) ++ drop l.first-index l.fn.firsts
