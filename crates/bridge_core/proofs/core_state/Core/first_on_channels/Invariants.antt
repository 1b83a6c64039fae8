use Rattle.std.proofs.Common.{◌≡◌, drop}
use Rattle.gate_model.specs.Lives.{each}
use Rattle.gate_model.specs.Upstream.{first}
use Rattle.bridge_core.specs.Rows.{units_on}
use Rattle.bridge_core.proofs.core_state.Core.first_on_channels.Given as goal

abbrev pub invariant-loop-channel : goal.invariant-loop-channel
invariant-loop-channel l = first (each (units_on l.self l.row) l.channel (drop l.channel l.self.lives)) ≡ first (each (units_on l.self l.row) 0 l.self.lives)
