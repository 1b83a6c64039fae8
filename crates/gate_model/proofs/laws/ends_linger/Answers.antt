use Rattle.gate_model.proofs.Frames.{within}
use Rattle.gate_model.proofs.Images.{life_below}
use Rattle.gate_model.proofs.Lingering.{lingers}
use Rattle.gate_model.proofs.laws.ends_linger.Goals as goal

pub returns : goal.returns
returns c = lingers c.publishes_lawfully.ensures (life_below (within c.connection_laws.ensures.limits_stay))
