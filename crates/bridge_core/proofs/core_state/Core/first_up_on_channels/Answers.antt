use Rattle.std.proofs.Common.{◌≡◌, ◌∙◌, ◌<◌, arith, length, sym}
use Rattle.gate_model.specs.State.{State}
use Rattle.bridge_core.specs.Rows.{up_units_on}
use Rattle.bridge_core.proofs.ChannelRows.{row_ended, row_found, row_passed}
use Rattle.bridge_core.proofs.core_state.Core.first_up_on_channels.Goals as goal

pub returns-in-Some : goal.returns-in-Some
returns-in-Some c =
    let w : State = c.args.self.now in
    let inside : c.loop-channel.channel < length w.lives = omega (arith, c.loop-channel-test.true, c.top-channel-end.ensures.within, c.top-channel-end.ensures.all) in
    row_found (up_units_on w c.args.row) c.loop-channel.channel w.lives inside (sym c.in-Some.is ∙ c.up_unit_on.ensures) c.loop-channel.invariant

pub loop-channel-preserved : goal.loop-channel-preserved
loop-channel-preserved c =
    let w : State = c.args.self.now in
    let inside : c.loop-channel.channel < length w.lives = omega (arith, c.loop-channel-test.true, c.top-channel-end.ensures.within, c.top-channel-end.ensures.all) in
    row_passed (up_units_on w c.args.row) c.loop-channel.channel w.lives inside (sym c.in_default.is ∙ c.up_unit_on.ensures) c.loop-channel.invariant

pub returns : goal.returns
returns c =
    let w : State = c.args.self.now in
    let end : c.top-channel-end.result ≡ c.loop-channel.channel = omega (arith, c.loop-channel-test.false, c.loop-channel.auto.channel-end) in
    row_ended (up_units_on w c.args.row) c.top-channel-end.result c.loop-channel.channel w.lives end (c.top-channel-end.ensures.up c.args.row) c.loop-channel.invariant
