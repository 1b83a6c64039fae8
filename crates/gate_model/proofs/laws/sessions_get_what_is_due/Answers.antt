use Rattle.gate_model.proofs.Dues.{ends_containers}
use Rattle.gate_model.proofs.Frames.{within}
use Rattle.gate_model.proofs.Images.{life_below}
use Rattle.gate_model.proofs.laws.sessions_get_what_is_due.Goals as goal

pub returns : goal.returns
returns c = ends_containers c.publishes_lawfully.ensures (life_below (within c.connection_laws.ensures.limits_stay))
