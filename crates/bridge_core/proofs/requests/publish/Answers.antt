use Rattle.std.proofs.Common.{◌∙◌}
use Rattle.bridge_core.proofs.Meets.{publish_refused, publish_sent}
use Rattle.bridge_core.proofs.requests.publish.Goals as goal

pub returns-in-Ok : goal.returns-in-Ok
returns-in-Ok c =
    publish_sent c.args.routes.now c.args.limit c.args.channel c.args.mandatory c.args.message _ c.in-Some.address.now _ _ _ c.in-Some.ensures
    c.in_ok-address.ensures c.in_ok-message.ensures.same c.in-Ok.ensures.right (c.new-payload.ensures ∙ c.in-Ok.ensures.bytes) c.in_ok-message.ensures.back

pub returns-in-Some-told : goal.returns-in-Some-told
returns-in-Some-told c =
    publish_refused c.args.routes.now c.args.limit c.args.channel c.args.mandatory c.args.message _ c.in-Some.address.now c.in-Err.fault c.in-Some-told.told
    c.in-Some.ensures c.in_ok-message.ensures.same c.in-Err.ensures.fault c.in-Some-told.ensures
