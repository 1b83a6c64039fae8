use Rattle.gate_model.proofs.Errors.{states_errors}
use Rattle.gate_model.proofs.laws.ends_state_errors.Goals as goal

pub returns : goal.returns
returns c = states_errors
