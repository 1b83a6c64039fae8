use Rattle.gate_model.proofs.Reasoning.{closes_once, says_why}
use Rattle.gate_model.proofs.laws.closes_say_why.Goals as goal

pub returns : goal.returns
returns c = record { why = says_why; once = closes_once }
