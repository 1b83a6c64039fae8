use Rattle.gate_model.proofs.FittingUp.{fits_containers}
use Rattle.gate_model.proofs.Naming.{addresses_short}
use Rattle.gate_model.proofs.laws.frames_fit_containers.Goals as goal

pub returns : goal.returns
returns c = λ s h form p r. fits_containers addresses_short s h form p r
