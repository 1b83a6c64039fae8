use Rattle.std.proofs.Common.{ℕ, ◌<◌, take}
use Rattle.gate_probe.specs.Passing.{IsCutOff}
use Rattle.gate_probe.proofs.suite.are_shorter_cut_off.Given as goal

abbrev pub invariant-loop-size : goal.invariant-loop-size
invariant-loop-size l = (n : ℕ) → n < l.size → IsCutOff l.protocol (take n l.bytes)
