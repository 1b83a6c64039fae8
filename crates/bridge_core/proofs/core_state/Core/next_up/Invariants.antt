use Rattle.std.proofs.Common.{◌≡◌, drop}
use Rattle.gate_model.specs.Due.{up_rows}
use Rattle.gate_model.specs.Upstream.{first}
use Rattle.bridge_core.specs.Rows.{in_order, up_units_of}
use Rattle.bridge_core.proofs.core_state.Core.next_up.Given as goal

abbrev pub invariant-loop-row : goal.invariant-loop-row
invariant-loop-row l = first (in_order (up_units_of l.self) (drop l.row-index l.row-items)) ≡ first (up_rows l.self)
