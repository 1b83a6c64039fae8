use Rattle.gate_turns.proofs.WriteMarks.{look_write_log, look_none_log, look_stops_log}
use Rattle.gate_turns.proofs.part.write_once.Goals as goal

pub returns-in-Ok-clause-log : goal.returns-in-Ok-clause-log
returns-in-Ok-clause-log g c =
    look_write_log (g.R.Relay.words c.args.setup.now) (g.R.Relay.represents c.args.setup.now) c.args.end c.look_for-told.result.0.ran_out c.write_ready-more.result.0 c.look_for-told.result.0.ready _
    c.look_for-told.result.1 c.write_ready-more.result.1 _ _ _ _ _ c.in-Ok.is c.if-look.true (c.look_for-told.ensures.ready c.if-look.true)
    (c.look_for-told.ensures.log _ _) (λ bytes e. c.write_ready-more.ensures.log c.args.setup.now bytes e)

pub returns-in-Ok-2-clause-log : goal.returns-in-Ok-2-clause-log
returns-in-Ok-2-clause-log g c =
    look_none_log (g.R.Relay.words c.args.setup.now) (g.R.Relay.represents c.args.setup.now) c.args.end c.look_for-told.result.0.ran_out c.look_for-told.result.0.ready _
    c.look_for-told.result.1 _ _ _ c.in-Ok.is c.if-look.false (c.look_for-told.ensures.log _ _)

pub returns-in-Err-clause-log : goal.returns-in-Err-clause-log
returns-in-Err-clause-log g c =
    look_stops_log (g.R.Relay.words c.args.setup.now) (g.R.Relay.represents c.args.setup.now) c.args.end c.look_for-told.result.0.ran_out _
    c.look_for-told.result.1 c.in-Err.fault _ _ _ c.in-Err.is (c.look_for-told.ensures.log _ _)
