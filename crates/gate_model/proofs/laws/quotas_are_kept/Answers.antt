use Rattle.gate_model.proofs.Frames.{within}
use Rattle.gate_model.proofs.Images.{life_below}
use Rattle.gate_model.proofs.Stating.{keeps_quotas}
use Rattle.gate_model.proofs.laws.quotas_are_kept.Goals as goal

pub returns : goal.returns
returns c =
    keeps_quotas c.links_lawfully.ensures c.deliveries_lawfully.ensures c.numbers_lawfully.ensures.closed c.calls_lawfully.ensures
    c.links_lawfully-2.ensures.credit c.counts_lawfully.ensures c.links_lawfully-2.ensures.joined
    (life_below (within c.connection_laws.ensures.limits_stay))
