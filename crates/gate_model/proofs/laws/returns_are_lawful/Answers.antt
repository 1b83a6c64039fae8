use Rattle.gate_model.proofs.Backs.{returns_are}
use Rattle.gate_model.proofs.laws.returns_are_lawful.Goals as goal

pub returns : goal.returns
returns c = returns_are c.publishes_lawfully.ensures c.returns_lawfully.ensures.due c.returns_lawfully.ensures.frame
