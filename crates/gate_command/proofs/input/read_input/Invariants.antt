use Rattle.std.proofs.Common.{length, ◌-◌, ◌<◌, ◌≤◌}
use Rattle.std.specs.Vec.{vec_len}
use Rattle.gate_command.specs.Input.{Reads}
use Rattle.gate_command.proofs.input.read_input.Given as goal

-- what was read so far
abbrev pub invariant-loop-input : goal.invariant-loop-input
invariant-loop-input g l = record {
  room : 0 < vec_len l.room;
  later : g.S.Source.faults l.fn.input ≤ g.S.Source.faults l.input;
  read : Reads (g.S.Source.left l.fn.input) (g.S.Source.left l.input) l.bytes;
}

abbrev pub decreases-loop-input : goal.decreases-loop-input
decreases-loop-input g l = 268435456 - length l.bytes
