use Rattle.gate_turns.proofs.ShutMarks.{visit_then, visit_stops}
use Rattle.gate_turns.proofs.part.visit.Goals as goal

pub returns-in-Ok-clause-log : goal.returns-in-Ok-clause-log
returns-in-Ok-clause-log g c =
    visit_then (g.R.Relay.words c.args.setup.now) (g.R.Relay.represents c.args.setup.now) _ _ _ c.exchange.result c.shut_both.result _ _ _ _ _ _ c.in-Ok.is c.exchange.ensures.log (c.shut_both.ensures.log c.args.setup.now)

pub returns-in-Err-clause-log : goal.returns-in-Err-clause-log
returns-in-Err-clause-log g c =
    visit_stops (g.R.Relay.words c.args.setup.now) (g.R.Relay.represents c.args.setup.now) _ _ _ c.exchange.result c.in-Err.fault _ _ _ _ c.in-Err.is c.exchange.ensures.log
