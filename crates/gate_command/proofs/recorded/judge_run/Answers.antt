use Rattle.gate_command.proofs.Judging.{judged, unjudged}
use Rattle.gate_command.proofs.recorded.judge_run.Goals as goal

pub returns-in-Some-clause-said : goal.returns-in-Some-clause-said
returns-in-Some-clause-said g c =
    judged c.args.capture.words c.as_slice.result.now c.args.capture.entries _ _ c.in_ok-replayed-in-Some.replayed _ _ _ c.as_slice.ensures c.in_ok-limits.ensures.some c.in-Some.is c.in_ok-replayed-in-Some.ensures c.say_replayed.ensures.said

pub returns-clause-said : goal.returns-clause-said
returns-clause-said g c =
    unjudged c.args.capture.words c.as_slice.result.now c.args.capture.entries _ _ _ _ c.as_slice.ensures c.in_ok-limits.ensures.none c.in-None.is c.say_bad.ensures.said
