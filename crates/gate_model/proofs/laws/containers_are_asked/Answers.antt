use Rattle.gate_model.proofs.Goes.{are_called_for, goes_when_due}
use Rattle.gate_model.proofs.laws.containers_are_asked.Goals as goal

pub returns : goal.returns
returns c = record { called = are_called_for; goes = goes_when_due }
