use Rattle.std.proofs.Common.{◌≡◌}
use Rattle.gate_edge.proofs.real_ports.send.Given as goal

abbrev pub invariant-loop : goal.invariant-loop
invariant-loop l = record {
  pairs : l.held.pairs ≡ l.initial.held.pairs;
  ends : l.held.ends.items ≡ l.initial.held.ends.items;
}
