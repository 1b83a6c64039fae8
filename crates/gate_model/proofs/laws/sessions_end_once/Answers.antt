use Rattle.gate_model.proofs.Ending.{ends_once}
use Rattle.gate_model.proofs.laws.sessions_end_once.Goals as goal

pub returns : goal.returns
returns c = ends_once
