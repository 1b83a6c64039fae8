use Rattle.gate_model.proofs.Behind.{delivers_behind}
use Rattle.gate_model.proofs.Frames.{within}
use Rattle.gate_model.proofs.Images.{life_below}
use Rattle.gate_model.proofs.laws.delivers_go_behind_answers.Goals as goal

pub returns : goal.returns
returns c = delivers_behind (life_below (within c.connection_laws.ensures.limits_stay))
