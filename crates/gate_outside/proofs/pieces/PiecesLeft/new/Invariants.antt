use Rattle.std.proofs.Common.{◌≡◌, take}
use Rattle.gate_outside.proofs.pieces.PiecesLeft.new.Given as goal

-- the pieces so far
abbrev pub invariant-loop-k : goal.invariant-loop-k
invariant-loop-k l = l.copies.items ≡ take l.k l.pieces
