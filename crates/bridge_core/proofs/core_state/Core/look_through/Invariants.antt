use Rattle.std.proofs.Common.{◌≡◌, drop, take}
use Rattle.gate_model.specs.Queue.{place_from}
use Rattle.gate_model.specs.State.{waits}
use Rattle.bridge_core.specs.Held.{AreHeld}
use Rattle.bridge_core.proofs.core_state.Core.look_through.Given as goal

abbrev pub invariant-loop-i : goal.invariant-loop-i
invariant-loop-i l = record {
  place : place_from (waits l.self) l.self.queue 0 l.self.queue ≡ place_from (waits l.self) l.self.queue l.i (drop l.i l.self.queue);
  held : AreHeld (take l.i l.self.queue) l.held;
}
