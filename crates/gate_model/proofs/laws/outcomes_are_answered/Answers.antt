use Rattle.gate_model.proofs.Answering.{settles_in_order}
use Rattle.gate_model.proofs.Frames.{within}
use Rattle.gate_model.proofs.Images.{life_below}
use Rattle.gate_model.proofs.laws.outcomes_are_answered.Goals as goal

pub returns : goal.returns
returns c = settles_in_order c.settles_lawfully.ensures (life_below (within c.connection_laws.ensures.limits_stay))
