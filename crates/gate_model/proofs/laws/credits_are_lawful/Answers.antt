use Rattle.gate_model.proofs.Stating.{states_credit}
use Rattle.gate_model.proofs.laws.credits_are_lawful.Goals as goal

pub returns : goal.returns
returns c =
    states_credit c.links_lawfully.ensures c.deliveries_lawfully.ensures c.numbers_lawfully.ensures.closed c.calls_lawfully.ensures
    c.links_lawfully-2.ensures.credit c.counts_lawfully.ensures c.links_lawfully-2.ensures.joined
