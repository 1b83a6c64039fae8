use Rattle.std.proofs.Common.{◌≤◌, ◌<◌, ◌∙◌, ap, arith, length, sym}
use Rattle.bridge_core.specs.ChannelRows.{is_waiting_on}
use Rattle.bridge_core.proofs.ChannelRows.{any_found, any_passed, waits_end}
use Rattle.bridge_core.proofs.channel_rows.any_waits.Goals as goal

pub returns-then-is_waiting_on : goal.returns-then-is_waiting_on
returns-then-is_waiting_on c =
    let inside : c.loop-i.i < length c.all-all.result.now = omega (arith, c.loop-i-test.true, c.max-top.ensures, c.top.ensures.within, ap length c.all-all.ensures, c.top-2.ensures.within) in
    any_found (is_waiting_on c.args.closing c.args.settled c.args.container.now c.args.paths.now) c.loop-i.i c.all-all.result.now c.args.lives.now c.index-all-i.result c.is_waiting_on.result _
    inside c.all-all.ensures c.is_waiting_on.ensures c.if-is_waiting_on.true c.loop-i.invariant

pub loop-i-preserved : goal.loop-i-preserved
loop-i-preserved c =
    let inside : c.loop-i.i < length c.all-all.result.now = omega (arith, c.loop-i-test.true, c.max-top.ensures, c.top.ensures.within, ap length c.all-all.ensures, c.top-2.ensures.within) in
    any_passed (is_waiting_on c.args.closing c.args.settled c.args.container.now c.args.paths.now) c.loop-i.i c.all-all.result.now c.args.lives.now c.index-all-i.result c.is_waiting_on.result _
    inside c.all-all.ensures c.is_waiting_on.ensures c.if-is_waiting_on.false c.loop-i.invariant

pub returns : goal.returns
returns c =
    let above : c.top.result ≤ c.loop-i.i = omega (arith, c.loop-i-test.false, c.max-top.ensures) in
    let over : c.top-2.result ≤ c.loop-i.i = omega (arith, c.loop-i-test.false, c.max-top.ensures) in
    sym (waits_end c.args.closing c.args.settled c.args.container.now c.args.paths.now c.top.result c.top-2.result c.loop-i.i c.args.lives.now
    above over c.top.ensures.beyond c.top-2.ensures.beyond) ∙ c.loop-i.invariant
