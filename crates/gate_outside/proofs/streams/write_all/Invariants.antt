use Rattle.std.proofs.Common.{length, ◌-◌, ◌≤◌, take}
use Rattle.gate_outside.specs.Streams.{Appends}
use Rattle.gate_outside.proofs.streams.write_all.Given as goal

-- what was written so far is held
abbrev pub invariant-loop-at : goal.invariant-loop-at
invariant-loop-at g l = record {
  within : l.at ≤ length l.bytes;
  later : g.K.Sink.faults l.fn.sink ≤ g.K.Sink.faults l.sink;
  added : Appends (g.K.Sink.held l.fn.sink) (g.K.Sink.held l.sink) (take l.at l.bytes);
}

abbrev pub decreases-loop-at : goal.decreases-loop-at
decreases-loop-at g l = length l.bytes - l.at
