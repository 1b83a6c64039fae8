use Rattle.std.proofs.Common.{◌∙◌, ◌<◌, arith, length, sym}
use Rattle.bridge_core.specs.Rows.{up_units_of}
use Rattle.bridge_core.proofs.ChannelRows.{order_found, order_passed}
use Rattle.bridge_core.proofs.core_state.Core.next_up.Goals as goal

pub returns-in-Some : goal.returns-in-Some
returns-in-Some c =
    let inside : c.loop-row.row-index < length c.to_up-row-items.result = omega arith in
    order_found (up_units_of c.args.self.now) c.loop-row.row-index c.to_up-row-items.result _ inside (sym c.in-Some.is ∙ c.first_of_up.ensures) c.loop-row.invariant

pub loop-row-preserved : goal.loop-row-preserved
loop-row-preserved c =
    let inside : c.loop-row.row-index < length c.to_up-row-items.result = omega arith in
    order_passed (up_units_of c.args.self.now) c.loop-row.row-index c.to_up-row-items.result _ inside (sym c.in_default.is ∙ c.first_of_up.ensures) c.loop-row.invariant
