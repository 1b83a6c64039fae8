use Rattle.gate_model.proofs.Delivering.{ReceivedAre}
use Rattle.gate_model.proofs.Frames.{within}
use Rattle.gate_model.proofs.Images.{images_are}
use Rattle.gate_model.proofs.laws.deliveries_are_images.Goals as goal

pub returns : goal.returns
returns c =
    let laws = c.received_lawfully.ensures in
    let received : ReceivedAre = record { exchange = laws.exchange; key = laws.key; header = laws.header } in
    images_are (within c.connection_laws.ensures.limits_stay) received c.deliveries_lawfully.ensures c.numbers_lawfully.ensures.closed
    c.calls_lawfully.ensures c.links_lawfully.ensures.joined
