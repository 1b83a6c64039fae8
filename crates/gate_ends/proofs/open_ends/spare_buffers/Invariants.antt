use Rattle.std.proofs.Common.{◌≡◌}
use Rattle.std.specs.Prelude.{vec_len}
use Rattle.gate_ends.proofs.open_ends.spare_buffers.Given as goal

-- the buffers so far
abbrev pub invariant-loop-k : goal.invariant-loop-k
invariant-loop-k l = vec_len l.spare ≡ l._k
