use Rattle.gate_model.proofs.Closes.{closes_a_life_once}
use Rattle.gate_model.proofs.Frames.{within}
use Rattle.gate_model.proofs.Images.{life_below}
use Rattle.gate_model.proofs.laws.lives_close_once.Goals as goal

pub returns : goal.returns
returns c = closes_a_life_once (life_below (within c.connection_laws.ensures.limits_stay))
