use Rattle.gate_model.proofs.Frames.{within}
use Rattle.gate_model.proofs.Images.{life_below}
use Rattle.gate_model.proofs.Takers.{takes_as_asked}
use Rattle.gate_model.proofs.laws.deliveries_are_taken_as_asked.Goals as goal

pub returns : goal.returns
returns c =
    takes_as_asked c.deliveries_lawfully.ensures c.numbers_lawfully.ensures.closed c.calls_lawfully.ensures c.names_lawfully.ensures.queue
    (life_below (within c.connection_laws.ensures.limits_stay))
