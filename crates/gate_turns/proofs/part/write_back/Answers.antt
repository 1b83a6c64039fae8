use Rattle.gate_turns.proofs.WriteMarks.{then_log, ends_log, stops_log, to_log, to_again, to_end}
use Rattle.gate_turns.proofs.WriteMarks.{to_shut}
use Rattle.gate_turns.proofs.part.write_back.Goals as goal

pub returns-in-Ok-clause-log : goal.returns-in-Ok-clause-log
returns-in-Ok-clause-log g c =
    to_log (g.R.Relay.words c.args.setup.now) (g.R.Relay.represents c.args.setup.now) _ _ _ _ _ _ _ _ (to_shut c.write_lap-again.result.ran_out)
    (then_log (g.R.Relay.words c.args.setup.now) (g.R.Relay.represents c.args.setup.now) _ _ _ _ _ _ _ _ _ _ _ _ (to_again c.write_lap-back.result.ran_out c.if-back.true) c.in-Ok.is c.write_lap-back.ensures.log c.write_lap-again.ensures.log)

pub returns-in-Ok-2-clause-log : goal.returns-in-Ok-2-clause-log
returns-in-Ok-2-clause-log g c =
    ends_log (g.R.Relay.words c.args.setup.now) (g.R.Relay.represents c.args.setup.now) _ _ _ _ _ _ _ _ (to_end c.write_lap-back.result.ran_out c.if-back.false) c.in-Ok.is c.write_lap-back.ensures.log

pub returns-in-Err-clause-log : goal.returns-in-Err-clause-log
returns-in-Err-clause-log g c =
    stops_log (g.R.Relay.words c.args.setup.now) (g.R.Relay.represents c.args.setup.now) _ _ _ _ c.in-Err.fault _ _ _ _ c.in-Err.is c.write_lap-back.ensures.log
