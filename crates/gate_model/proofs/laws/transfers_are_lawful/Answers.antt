use Rattle.gate_model.proofs.Fates.{transfers_are}
use Rattle.gate_model.proofs.laws.transfers_are_lawful.Goals as goal

pub returns : goal.returns
returns c = transfers_are c.publishes_lawfully.ensures c.payloads_lawfully.ensures.frame c.payloads_lawfully.ensures.rest
