use Rattle.gate_model.proofs.Times.{beats_at_once, shuts_at_once}
use Rattle.gate_model.proofs.laws.times_are_kept.Goals as goal

pub returns-clause-beats_at_once : goal.returns-clause-beats_at_once
returns-clause-beats_at_once c = beats_at_once

pub returns-clause-shuts_at_once : goal.returns-clause-shuts_at_once
returns-clause-shuts_at_once c = shuts_at_once
