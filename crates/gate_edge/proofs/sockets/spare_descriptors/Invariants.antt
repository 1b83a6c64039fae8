use Rattle.std.proofs.Common.{◌≡◌}
use Rattle.std.specs.Prelude.{vec_len}
use Rattle.gate_edge.proofs.sockets.spare_descriptors.Given as goal

-- the descriptors so far
abbrev pub invariant-loop-k : goal.invariant-loop-k
invariant-loop-k g l = vec_len l.copies ≡ l._k
