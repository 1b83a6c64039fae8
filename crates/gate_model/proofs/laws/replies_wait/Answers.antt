use Rattle.gate_model.proofs.Ends.{channels_end_when_settled}
use Rattle.gate_model.proofs.Waits.{ends_when_settled, opens_when_opened}
use Rattle.gate_model.proofs.laws.replies_wait.Goals as goal

pub returns : goal.returns
returns c = record { ends = ends_when_settled; channels = channels_end_when_settled; opens = opens_when_opened }
