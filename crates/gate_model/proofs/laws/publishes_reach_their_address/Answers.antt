use Rattle.gate_model.proofs.Frames.{within}
use Rattle.gate_model.proofs.Images.{life_below}
use Rattle.gate_model.proofs.Reaches.{reaches_address}
use Rattle.gate_model.proofs.laws.publishes_reach_their_address.Goals as goal

pub returns : goal.returns
returns c =
    let laws = c.payloads_lawfully.ensures in
    reaches_address c.publishes_lawfully.ensures laws.frame laws.rest c.links_lawfully.ensures (life_below (within c.connection_laws.ensures.limits_stay))
