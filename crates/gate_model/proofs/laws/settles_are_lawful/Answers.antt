use Rattle.gate_model.proofs.Settles.{settles_are}
use Rattle.gate_model.proofs.laws.settles_are_lawful.Goals as goal

pub returns : goal.returns
returns c =
    settles_are c.deliveries_lawfully.ensures c.numbers_lawfully.ensures.closed c.calls_lawfully.ensures c.ids_lawfully.ensures.fresh
    c.settles_lawfully.ensures.lawful
