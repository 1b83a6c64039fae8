use Rattle.gate_turns.proofs.WriteMarks.{then_log, stops_log, to_client}
use Rattle.gate_turns.proofs.part.write_both.Goals as goal

pub returns-in-Ok-clause-log : goal.returns-in-Ok-clause-log
returns-in-Ok-clause-log g c =
    then_log (g.R.Relay.words c.args.setup.now) (g.R.Relay.represents c.args.setup.now) _ _ _ _ _ _ _ _ _ _ _ _ (to_client c.write_lap-out.result.ran_out) c.in-Ok.is c.write_lap-out.ensures.log c.write_back.ensures.log

pub returns-in-Err-clause-log : goal.returns-in-Err-clause-log
returns-in-Err-clause-log g c =
    stops_log (g.R.Relay.words c.args.setup.now) (g.R.Relay.represents c.args.setup.now) _ _ _ _ c.in-Err.fault _ _ _ _ c.in-Err.is c.write_lap-out.ensures.log
