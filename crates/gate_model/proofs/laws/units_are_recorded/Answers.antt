use Rattle.gate_model.proofs.Records.{records_are}
use Rattle.gate_model.proofs.laws.units_are_recorded.Goals as goal

pub returns : goal.returns
returns c = records_are c.links_lawfully.ensures c.deliveries_lawfully.ensures c.numbers_lawfully.ensures.closed c.calls_lawfully.ensures
