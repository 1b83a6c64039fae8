use Rattle.gate_model.proofs.Frames.{within}
use Rattle.gate_model.proofs.Images.{life_below}
use Rattle.gate_model.proofs.Wishes.{meets_wishes}
use Rattle.gate_model.proofs.laws.wishes_are_met.Goals as goal

pub returns : goal.returns
returns c =
    meets_wishes c.deliveries_lawfully.ensures c.numbers_lawfully.ensures.closed c.calls_lawfully.ensures c.names_lawfully.ensures.queue c.links_lawfully.ensures
    (life_below (within c.connection_laws.ensures.limits_stay))
