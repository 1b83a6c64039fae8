use Rattle.std.proofs.Common.{rules}
use Rattle.gate_turns.proofs.Closings.{shut_log}
use Rattle.gate_turns.proofs.Ends.{closed_are, closed_keep}
use Rattle.gate_turns.proofs.closing.shut_open.Goals as goal

pub returns-clause-open : goal.returns-clause-open
returns-clause-open g c = closed_are c.args.end _ _ _ _ _ _ c.lose.ensures.number c.lose.ensures.sides c.shut.ensures.ends c.requires.open

pub returns-clause-others : goal.returns-clause-others
returns-clause-others g c = closed_keep c.args.end _ _ _ c.shut.ensures.ends

pub returns-clause-log : goal.returns-clause-log
returns-clause-log g c = λ s back.
    shut_log (g.R.Relay.words s) (g.R.Relay.represents s) c.args.answer c.answer_after.result c.tell_more-told.result c.record_shut-kept.result c.args.live.now c.lose.new.self back c.args.end _ _ _ _ _ _
    (search rules) c.requires.order c.lose.ensures.number (λ h k. c.lose.ensures.entry s h k) (λ h k. c.tell_more-told.ensures.told s h k) c.record_shut-kept.ensures.kept c.answer_after.ensures c.shut.ensures.log
