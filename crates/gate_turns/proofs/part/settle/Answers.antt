use Rattle.std.proofs.Common.{rules, sym, ◌∙◌}
use Rattle.gate_turns.proofs.Connects.{take_log}
use Rattle.gate_turns.proofs.part.settle.Goals as goal

pub returns-clause-log : goal.returns-clause-log
returns-clause-log g c = λ log kept.
    take_log (g.R.Relay.words c.args.setup.now) (g.R.Relay.represents c.args.setup.now) c.settle-ran_out.result c.tell.result c.args.live.now c.settle-ran_out.new.self c.args.tally.now c.note.new.self _ _ kept log
    (search rules) c.settle-ran_out.ensures.number c.settle-ran_out.ensures.sides c.tell.ensures.never
    (λ h s. sym (search rules) ∙ c.takes_up.ensures.word c.args.setup.now h s) c.settle-ran_out.ensures.entry
    (λ h s. c.tell.ensures.told c.args.setup.now h s)
