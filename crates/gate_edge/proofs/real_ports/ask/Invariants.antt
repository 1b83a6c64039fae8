use Rattle.std.proofs.Common.{◌≡◌}
use Rattle.gate_edge.proofs.real_ports.ask.Given as goal

abbrev pub invariant-loop-event : goal.invariant-loop-event
invariant-loop-event l = record {
  pairs : l.held.pairs ≡ l.initial.held.pairs;
  ends : l.held.ends.items ≡ l.initial.held.ends.items;
}
