use Rattle.std.proofs.Common.{refl}
use Rattle.gate_turns.proofs.WriteMarks.{then_log, stops_log}
use Rattle.gate_turns.proofs.part.settle_and_connect.Goals as goal

pub returns-in-Ok-clause-log : goal.returns-in-Ok-clause-log
returns-in-Ok-clause-log g c =
    then_log (g.R.Relay.words c.args.setup.now) (g.R.Relay.represents c.args.setup.now) _ _ _ _ c.settle.result c.connect.result _ _ _ _ _ _ refl c.in-Ok.is (c.settle.ensures.log _ _) c.connect.ensures.log

pub returns-in-Err-clause-log : goal.returns-in-Err-clause-log
returns-in-Err-clause-log g c =
    stops_log (g.R.Relay.words c.args.setup.now) (g.R.Relay.represents c.args.setup.now) _ _ _ c.settle.result c.in-Err.fault _ _ _ _ c.in-Err.is (c.settle.ensures.log _ _)
