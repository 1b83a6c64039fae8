use Rattle.gate_command.proofs.Texts.{text_is_small}
use Rattle.gate_command.proofs.top_call.serve_as_asked.Goals as goal

pub begin_and_run-requires-clause-small : goal.begin_and_run-requires-clause-small
begin_and_run-requires-clause-small g c = rw (c.as_bytes.ensures.value, c.in-Ok.ensures) (text_is_small _ _ c.requires.asks.2)
