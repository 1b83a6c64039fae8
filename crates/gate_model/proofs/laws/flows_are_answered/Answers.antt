use Rattle.gate_model.proofs.Reflowing.{flows_once}
use Rattle.gate_model.proofs.laws.flows_are_answered.Goals as goal

pub returns : goal.returns
returns c = flows_once c.flows_lawfully.ensures c.links_lawfully.ensures c.deliveries_lawfully.ensures
