use Rattle.std.proofs.Common.{◌≡◌, ◌+◌, nat_eq, drop}
use Rattle.std.specs.List.{common_prefix_len}
use Rattle.wire_base.proofs.header.agreed_len.Given as goal

-- what is left agrees as far as the whole, less what was passed
abbrev pub invariant-loop-i : goal.invariant-loop-i
invariant-loop-i l =
    l.i + common_prefix_len nat_eq (drop l.i l.bytes) (drop l.i l.header) ≡ common_prefix_len nat_eq l.bytes l.header
