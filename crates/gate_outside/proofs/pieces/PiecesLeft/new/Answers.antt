use Rattle.std.proofs.Common.{arith}
use Rattle.gate_outside.proofs.CopyLemmas.{one_more_copy, not_past}
use Rattle.gate_outside.proofs.pieces.PiecesLeft.new.Goals as goal
use Rattle.gate_outside.proofs.pieces.PiecesLeft.new.Goals.{in-Some+in_ok-copy_of+in_ok-push}
use Rattle.gate_outside.proofs.pieces.PiecesLeft.new.Goals.{in_default}

pub loop-k-preserved : goal.loop-k-preserved
loop-k-preserved c =
    elim c.match-get.branch [
      | in-Some+in_ok-copy_of+in_ok-push w ↦ rw (w.copies-is, w.in_ok-push.ensures.items, w.in_ok-copy_of.ensures)
          (one_more_copy _ _ _ _ c.loop-k.invariant w.in-Some.ensures)
      | in_default w ↦ absurd (not_past c.args.pieces.now c.loop-k.k (omega arith) w.in_default.ensures)
    ]
