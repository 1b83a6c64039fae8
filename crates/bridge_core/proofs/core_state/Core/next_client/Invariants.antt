use Rattle.std.proofs.Common.{◌≡◌, drop}
use Rattle.gate_model.specs.Due.{client_rows}
use Rattle.gate_model.specs.Upstream.{first}
use Rattle.bridge_core.specs.Rows.{in_order, units_of}
use Rattle.bridge_core.proofs.core_state.Core.next_client.Given as goal

abbrev pub invariant-loop-row : goal.invariant-loop-row
invariant-loop-row l = first (in_order (units_of l.self) (drop l.row-index l.row-items)) ≡ first (client_rows l.self)
