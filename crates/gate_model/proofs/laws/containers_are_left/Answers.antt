use Rattle.gate_model.proofs.Goes.{shuts_up_at_once}
use Rattle.gate_model.proofs.laws.containers_are_left.Goals as goal

pub returns : goal.returns
returns c = shuts_up_at_once
