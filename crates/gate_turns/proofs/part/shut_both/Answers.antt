use Rattle.gate_turns.proofs.ShutMarks.{shut_then, shut_gone, shut_stops}
use Rattle.gate_turns.proofs.part.shut_both.Goals as goal

pub returns-in-Ok-clause-log : goal.returns-in-Ok-clause-log
returns-in-Ok-clause-log g c = λ s.
    shut_then (g.R.Relay.words s) (g.R.Relay.represents s) c.shut_end.result c.shut_end-in-Ok.result c.has_end.result _ _ _ _ _ _ c.in-Ok.is c.if-has_end.true c.has_end.ensures (c.shut_end.ensures.log s) (c.shut_end-in-Ok.ensures.log s)

pub returns-in-Ok-2-clause-log : goal.returns-in-Ok-2-clause-log
returns-in-Ok-2-clause-log g c = λ s.
    shut_gone (g.R.Relay.words s) (g.R.Relay.represents s) c.shut_end.result c.has_end.result _ _ _ _ c.in-Ok.is c.if-has_end.false c.has_end.ensures (c.shut_end.ensures.log s)

pub returns-in-Err-clause-log : goal.returns-in-Err-clause-log
returns-in-Err-clause-log g c = λ s.
    shut_stops (g.R.Relay.words s) (g.R.Relay.represents s) _ _ _ c.shut_end.result c.in-Err.fault _ _ _ _ c.in-Err.is (c.shut_end.ensures.log s)
