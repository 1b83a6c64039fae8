use Rattle.gate_turns.proofs.OpenMarks.{opens_full, opens_room, opens_stop}
use Rattle.gate_turns.proofs.welcome.open_turn.Goals as goal

pub returns-in-Err-clause-log : goal.returns-in-Err-clause-log
returns-in-Err-clause-log g c =
    opens_stop (g.R.Relay.words c.args.setup.now) (g.R.Relay.represents c.args.setup.now) c.args.limits.now c.read_clock.result c.in-Err.fault c.outside.result _ _ _ _
    c.in-Err.is c.outside.ensures (c.read_clock.ensures.log c.args.setup.now)

pub returns-then-not-has_room-clause-log : goal.returns-then-not-has_room-clause-log
returns-then-not-has_room-clause-log g c =
    opens_full (g.R.Relay.words c.args.setup.now) (g.R.Relay.represents c.args.setup.now) c.args.limits.now c.has_room.result c.read_clock.result c.in-Ok.moment _ _ _ _
    c.in-Ok.is c.has_room.ensures.room c.if-not-has_room.true (c.read_clock.ensures.log c.args.setup.now)

pub returns-clause-log : goal.returns-clause-log
returns-clause-log g c =
    opens_room (g.R.Relay.words c.args.setup.now) (g.R.Relay.represents c.args.setup.now) c.args.limits.now c.has_room.result c.read_clock.result c.in-Ok.moment c.welcome.result _ _ _ _ _ _
    c.in-Ok.is c.has_room.ensures.room c.if-not-has_room.false (c.read_clock.ensures.log c.args.setup.now) c.welcome.ensures.log
