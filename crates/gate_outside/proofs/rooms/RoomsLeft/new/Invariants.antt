use Rattle.std.proofs.Common.{◌≡◌, take}
use Rattle.gate_outside.proofs.rooms.RoomsLeft.new.Given as goal

-- the rooms so far
abbrev pub invariant-loop-k : goal.invariant-loop-k
invariant-loop-k l = l.copies.items ≡ take l.k l.rooms
