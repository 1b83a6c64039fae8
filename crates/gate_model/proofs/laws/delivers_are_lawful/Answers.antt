use Rattle.gate_model.proofs.Delivers.{delivers_are, fresh_are}
use Rattle.gate_model.proofs.laws.delivers_are_lawful.Goals as goal

pub returns : goal.returns
returns c =
    let arrives = c.deliveries_lawfully.ensures in
    let fresh = fresh_are arrives c.numbers_lawfully.ensures.closed c.calls_lawfully.ensures c.ids_lawfully.ensures.fresh in
    delivers_are arrives c.delivers_lawfully.ensures.lawful c.numbers_lawfully.ensures.tags c.numbers_lawfully.ensures.global c.ids_lawfully.ensures.content fresh
