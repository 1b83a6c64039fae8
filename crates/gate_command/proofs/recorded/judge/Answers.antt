use Rattle.gate_command.proofs.Judging.{of_capture, at_fault}
use Rattle.gate_command.proofs.recorded.judge.Goals as goal

pub returns-in-Ok-clause-said : goal.returns-in-Ok-clause-said
returns-in-Ok-clause-said g c = of_capture _ _ c.in-Ok.capture _ _ _ c.in_ok-capture.ensures.found c.in-Ok.is c.judge_run.ensures.said

pub returns-in-Err-clause-said : goal.returns-in-Err-clause-said
returns-in-Err-clause-said g c = at_fault _ _ c.in-Err.field-0 _ _ _ c.in_ok-capture.ensures.exact c.in-Err.is c.say_bad.ensures.said
