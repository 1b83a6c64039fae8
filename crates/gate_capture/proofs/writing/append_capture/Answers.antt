use Rattle.std.proofs.Common.{arith, sym}
use Rattle.gate_capture.proofs.Appended.{there_is, append_next}
use Rattle.gate_capture.proofs.writing.append_capture.Goals as goal
use Rattle.gate_capture.proofs.writing.append_capture.Goals.{in-Some+in_ok-put_entry, in_default}

pub loop-k-preserved : goal.loop-k-preserved
loop-k-preserved c =
    elim c.match-get.branch [
      | in-Some+in_ok-put_entry w ↦ rw w.out-is (append_next _ _ _ _ _ _ _ c.loop-k.invariant (sym w.in-Some.ensures) w.in_ok-put_entry.ensures.ok)
      | in_default w ↦ absurd (there_is c.args.entries.now c.loop-k.k (omega arith) (sym w.in_default.ensures))
    ]
