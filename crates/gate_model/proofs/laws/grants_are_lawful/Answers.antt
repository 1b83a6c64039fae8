use Rattle.gate_model.proofs.Settles.{grants_are}
use Rattle.gate_model.proofs.laws.grants_are_lawful.Goals as goal

pub returns : goal.returns
returns c =
    grants_are c.links_lawfully.ensures c.deliveries_lawfully.ensures c.numbers_lawfully.ensures.closed c.calls_lawfully.ensures
    c.links_lawfully-2.ensures.credit c.counts_lawfully.ensures
