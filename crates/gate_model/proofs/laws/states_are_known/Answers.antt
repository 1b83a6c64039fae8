use Rattle.gate_model.proofs.Known.{conn_is, container_is, known, memory_is, moment_is, number_is}
use Rattle.gate_model.proofs.Known.{side_is}
use Rattle.gate_model.proofs.laws.states_are_known.Goals as goal

pub returns : goal.returns
returns c = record {
  connection = λ h p. conn_is (known h p);
  container = λ h p. container_is (known h p);
  side = λ h p. side_is (known h p);
  moment = λ h p. moment_is (known h p);
  memory = λ h p. memory_is (known h p);
  number = λ h p. number_is (known h p);
}
