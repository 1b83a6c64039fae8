use Rattle.gate_model.specs.State.{waits}
use Rattle.bridge_core.proofs.Least.{IsLeast}
use Rattle.bridge_core.proofs.core_state.Core.first_of_channels.Given as goal

abbrev pub invariant-loop-i : goal.invariant-loop-i
invariant-loop-i l = IsLeast (waits l.self) l.self.queue l.i l.first
