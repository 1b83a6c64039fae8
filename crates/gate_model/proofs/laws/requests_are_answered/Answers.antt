use Rattle.gate_model.proofs.Frames.{within}
use Rattle.gate_model.proofs.Images.{life_below}
use Rattle.gate_model.proofs.Oks.{answers_in_order}
use Rattle.gate_model.proofs.laws.requests_are_answered.Goals as goal

pub returns : goal.returns
returns c = answers_in_order c.answers_lawfully.ensures (life_below (within c.connection_laws.ensures.limits_stay))
