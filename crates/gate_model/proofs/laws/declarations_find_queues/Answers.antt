use Rattle.gate_model.proofs.Declares.{declares_found}
use Rattle.gate_model.proofs.Frames.{within}
use Rattle.gate_model.proofs.Images.{life_below}
use Rattle.gate_model.proofs.laws.declarations_find_queues.Goals as goal

pub returns : goal.returns
returns c = declares_found c.answers_lawfully.ensures (life_below (within c.connection_laws.ensures.limits_stay))
