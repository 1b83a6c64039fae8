use Rattle.gate_model.proofs.Attaching.{attaches_once}
use Rattle.gate_model.proofs.laws.attaches_go_once.Goals as goal

pub returns : goal.returns
returns c = attaches_once c.attaches_lawfully.ensures
