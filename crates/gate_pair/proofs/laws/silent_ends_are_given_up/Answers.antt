use Rattle.gate_pair.proofs.Silences.{gives_up}
use Rattle.gate_pair.proofs.laws.silent_ends_are_given_up.Goals as goal

pub returns : goal.returns
returns c = gives_up (record { due = c.silent_ends_are_given_up.ensures.due; at_once = c.silent_ends_are_given_up.ensures.at_once })
