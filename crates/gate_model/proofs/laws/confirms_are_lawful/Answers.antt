use Rattle.gate_model.proofs.Fates.{confirms_are}
use Rattle.gate_model.proofs.laws.confirms_are_lawful.Goals as goal

pub returns : goal.returns
returns c = confirms_are c.publishes_lawfully.ensures c.confirms_lawfully.ensures.lawful
