use Rattle.gate_model.proofs.Frames.{within}
use Rattle.gate_model.proofs.Images.{life_below}
use Rattle.gate_model.proofs.Takes.{takes_in_turn}
use Rattle.gate_model.proofs.laws.requests_hold_what_follows.Goals as goal

pub returns : goal.returns
returns c = takes_in_turn (life_below (within c.connection_laws.ensures.limits_stay))
