use Rattle.gate_command.proofs.Judging.{nothing_asked}
use Rattle.gate_command.proofs.recorded.service_in.Goals as goal

pub returns-clause-none : goal.returns-clause-none
returns-clause-none c = nothing_asked c.args.text.now _ _ _ c.in_ok-words.ensures c.in_ok-read.ensures.only c.service_of.ensures.none
