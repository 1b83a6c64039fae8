use Rattle.gate_model.proofs.Stopping.{stops}
use Rattle.gate_model.proofs.laws.closed_channels_get_no_answers.Goals as goal

pub returns : goal.returns
returns c = stops
