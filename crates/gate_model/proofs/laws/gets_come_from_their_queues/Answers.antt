use Rattle.gate_model.proofs.Frames.{within}
use Rattle.gate_model.proofs.Images.{life_below}
use Rattle.gate_model.proofs.Sources.{gets_from_queues}
use Rattle.gate_model.proofs.laws.gets_come_from_their_queues.Goals as goal

pub returns : goal.returns
returns c =
    let numbers = c.numbers_lawfully.ensures in
    gets_from_queues c.deliveries_lawfully.ensures numbers.closed c.links_lawfully.ensures c.names_lawfully.ensures.queue c.calls_lawfully.ensures
    c.delivers_lawfully.ensures.lawful numbers.tags numbers.global (life_below (within c.connection_laws.ensures.limits_stay))
