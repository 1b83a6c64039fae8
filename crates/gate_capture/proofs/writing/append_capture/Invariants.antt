use Rattle.std.proofs.Common.{◌≡◌, ◌++◌, take}
use Rattle.gate_capture.specs.Captures.{capture}
use Rattle.gate_capture.proofs.writing.append_capture.Given as goal

abbrev pub invariant-loop-k : goal.invariant-loop-k
invariant-loop-k l = l.out ≡ l.fn.out ++ capture l.words (take l.k l.entries)
