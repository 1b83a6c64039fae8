use Rattle.gate_model.proofs.Losing.{loses}
use Rattle.gate_model.proofs.laws.lost_containers_end_publishes.Goals as goal

pub returns : goal.returns
returns c = loses
