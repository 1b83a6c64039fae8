use Rattle.std.proofs.Common.{◌≡◌, ◌-◌, false}
use Rattle.bridge_core.specs.Offers.{Keeps}
use Rattle.gate_pair.specs.PairStates.{StaysSound}
use Rattle.gate_pair.proofs.Settlings.{Runs}
use Rattle.gate_pair.proofs.cutting.settle_all.Given as goal

abbrev pub invariant-loop-i : goal.invariant-loop-i
invariant-loop-i l = record {
  runs : Runs l.fn.bridge.state l.bridge.state (l.count - l.i) l.count;
  calm : l.bridge.state.out_of_memory ≡ false;
  kept : Keeps l.fn.bridge l.bridge;
  sound : StaysSound l.fn.bridge l.bridge;
}
