use Rattle.std.proofs.Common.{◌≡◌, ◌-◌, ◌≤◌, ◌++◌, drop, false, length}
use Rattle.gate_outside.specs.declared.ports.End.TheVariants.{Client}
use Rattle.bridge_core.specs.Offers.{Keeps}
use Rattle.gate_pair.specs.PairStates.{StaysSound}
use Rattle.gate_pair.proofs.Cuts.{Reading}
use Rattle.gate_pair.proofs.cutting.cut_units.Given as goal

abbrev pub invariant-loop-i : goal.invariant-loop-i
invariant-loop-i l = record {
  within : l.at ≤ length l.bytes;
  runs : Reading Client l.fn.bridge.state l.bridge.state (l.fn.unread ++ l.bytes) (l.unread ++ drop l.at l.bytes)
      (length (l.fn.unread ++ l.bytes) - l.i);
  calm : l.bridge.state.out_of_memory ≡ false;
  kept : Keeps l.fn.bridge l.bridge;
  sound : StaysSound l.fn.bridge l.bridge;
}
