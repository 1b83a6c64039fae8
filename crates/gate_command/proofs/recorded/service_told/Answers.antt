use Rattle.gate_command.proofs.Judging.{text_asks_nothing}
use Rattle.gate_command.proofs.recorded.service_told.Goals as goal

pub returns-in-Ok-clause-none : goal.returns-in-Ok-clause-none
returns-in-Ok-clause-none c = text_asks_nothing c.in-Ok.text.now c.args.text.now _ c.in-Ok.ensures.cases.0 c.service_in.ensures.none
