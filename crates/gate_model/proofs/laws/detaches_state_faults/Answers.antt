use Rattle.gate_model.proofs.Faults.{states_faults}
use Rattle.gate_model.proofs.Frames.{within}
use Rattle.gate_model.proofs.Images.{life_below}
use Rattle.gate_model.proofs.Passed.{states_passed}
use Rattle.gate_model.proofs.laws.detaches_state_faults.Goals as goal

pub returns : goal.returns
returns c = record {
  only = states_faults c.links_lawfully.ensures;
  passed = states_passed c.links_lawfully.ensures (life_below (within c.connection_laws.ensures.limits_stay));
}
