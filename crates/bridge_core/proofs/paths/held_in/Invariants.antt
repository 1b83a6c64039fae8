use Rattle.std.proofs.Common.{◌≡◌, ◌-◌, ◌^◌, min, take}
use Rattle.gate_model.specs.Paths.{bytes_in, held_in}
use Rattle.bridge_core.proofs.paths.held_in.Given as goal

abbrev pub invariant-loop-slot : goal.invariant-loop-slot
invariant-loop-slot l = record {
  count : l.publishes ≡ min (held_in (take l.slot-index l.slots)) (2 ^ 64 - 1);
  bytes : l.bytes ≡ min (bytes_in (take l.slot-index l.slots)) (2 ^ 64 - 1);
}
