use Rattle.std.proofs.Common.{◌≡◌, ◌≤◌, take}
use Rattle.std.specs.List.{AllByRecursion}
use Rattle.gate_probe.specs.Passing.{IsPassing}
use Rattle.gate_probe.proofs.suite.count_passing.Given as goal

abbrev pub invariant-loop-sample : goal.invariant-loop-sample
invariant-loop-sample l = record {
  most : l.count ≤ l.sample-index;
  all : l.count ≡ l.sample-index → AllByRecursion IsPassing (take l.sample-index l.samples);
}
