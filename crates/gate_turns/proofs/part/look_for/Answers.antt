use Rattle.std.proofs.Common.{rules}
use Rattle.gate_turns.proofs.WriteMarks.{look_out_if}
use Rattle.gate_turns.proofs.part.look_for.Goals as goal

pub returns-clause-log : goal.returns-clause-log
returns-clause-log g c = λ log kept.
    look_out_if (g.R.Relay.words c.args.setup.now) (g.R.Relay.represents c.args.setup.now) c.args.end c.look-look.result.ran_out _ c.tell.result c.args.live.now c.look-look.new.self c.args.tally.now c.note.new.self _ _ kept log
    c.if-not-look.false (search rules) c.look-look.ensures.number c.look-look.ensures.sides c.tell.ensures.never c.look-look.ensures.calm c.look-look.ensures.due c.look-look.ensures.takes
    c.look-look.ensures.found c.look-look.ensures.entry (λ h s. c.tell.ensures.told c.args.setup.now h s)
