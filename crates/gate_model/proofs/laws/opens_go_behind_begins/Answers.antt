use Rattle.gate_model.proofs.Begins.{opens_behind}
use Rattle.gate_model.proofs.laws.opens_go_behind_begins.Goals as goal

pub returns : goal.returns
returns c = opens_behind
