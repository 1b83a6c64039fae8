use Rattle.gate_turns.proofs.Runs.{turn_closes, turn_half, turn_halts}
use Rattle.gate_turns.proofs.running.one_turn.Goals as goal

pub returns-in-Err-turn_all-clause-log : goal.returns-in-Err-turn_all-clause-log
returns-in-Err-turn_all-clause-log g c =
    turn_halts (g.R.Relay.words c.args.setup.now) (g.R.Relay.represents c.args.setup.now) c.args.limits.now c.turn_all.result c.in-Err-turn_all.fault c.outside.result _ _ _ _
    c.in-Err-turn_all.is c.outside.ensures
    (turn_half (g.R.Relay.words c.args.setup.now) (g.R.Relay.represents c.args.setup.now) c.args.limits.now c.open_turn.result c.turn_all.result _ _ _ _ _ _
    c.in_default.is c.open_turn.ensures.log c.turn_all.ensures.log)

pub returns-clause-log : goal.returns-clause-log
returns-clause-log g c =
    turn_closes (g.R.Relay.words c.args.setup.now) (g.R.Relay.represents c.args.setup.now) c.args.limits.now c.turn_all.result c.close_turn.result _ _ _ _ _ _
    c.in_default-turn_all.is
    (turn_half (g.R.Relay.words c.args.setup.now) (g.R.Relay.represents c.args.setup.now) c.args.limits.now c.open_turn.result c.turn_all.result _ _ _ _ _ _
    c.in_default.is c.open_turn.ensures.log c.turn_all.ensures.log)
    (c.close_turn.ensures.log c.args.setup.now (g.K.Sink.held c.turn_all.new.report))
