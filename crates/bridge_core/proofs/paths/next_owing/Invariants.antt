use Rattle.std.proofs.Common.{take}
use Rattle.bridge_core.specs.Reports.{IsNextOwing}
use Rattle.bridge_core.proofs.paths.next_owing.Given as goal

abbrev pub invariant-loop-slot : goal.invariant-loop-slot
invariant-loop-slot l = IsNextOwing l.above l.last (take l.slot-index l.slots) l.next
