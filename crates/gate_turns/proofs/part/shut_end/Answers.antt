use Rattle.std.proofs.Common.{rules, sym, ◌∙◌}
use Rattle.gate_turns.proofs.Ends.{closed_are, closed_keep}
use Rattle.gate_turns.proofs.Reporting.{kept_by}
use Rattle.gate_turns.proofs.ShutMarks.{shut_log}
use Rattle.gate_turns.proofs.part.shut_end.Goals as goal

pub returns-clause-ends : goal.returns-clause-ends
returns-clause-ends g c = record {
  number = c.lose.ensures.number;
  open_ends = closed_are c.args.end _ _ _ _ _ _ c.lose.ensures.number c.lose.ensures.sides c.shut.ensures.ends c.requires.open;
  others = closed_keep c.args.end _ _ _ c.shut.ensures.ends;
}

pub returns-clause-log : goal.returns-clause-log
returns-clause-log g c = λ s.
    shut_log (g.R.Relay.words s) (g.R.Relay.represents s) c.args.end c.tell_shut.result c.both.result c.record-kept.result c.args.live.now c.lose.new.self c.args.tally.now c.note.new.self _ _ _ _ _ _
    (search rules) c.lose.ensures.number (λ h r. sym (search rules) ∙ c.is_shut.ensures.word s h r) (λ h r. c.lose.ensures.entry s h r)
    (λ h r. c.tell_shut.ensures.told s h r) c.both.ensures (kept_by _ _ _ _ c.record-kept.ensures.whole c.record-kept.ensures.part) c.shut.ensures.log
