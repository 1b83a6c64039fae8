use Rattle.std.proofs.Common.{rules, sym, ◌∙◌}
use Rattle.gate_turns.proofs.Connects.{connect_log}
use Rattle.gate_turns.proofs.Ends.{linked_are, linked_keep}
use Rattle.gate_turns.proofs.Reporting.{kept_by}
use Rattle.gate_turns.proofs.part.connect.Goals as goal

pub returns-clause-ends : goal.returns-clause-ends
returns-clause-ends g c = record {
  number = c.link.ensures.number;
  open_ends = linked_are _ _ _ _ _ _ _ c.link.ensures.number c.link.ensures.sides c.connect-answer.ensures.ends (c.is_linked.ensures.side (search rules)) c.requires.open;
  others = linked_keep _ _ _ _ c.connect-answer.ensures.ends;
}

pub returns-clause-log : goal.returns-clause-log
returns-clause-log g c =
    connect_log (g.R.Relay.words c.args.setup.now) (g.R.Relay.represents c.args.setup.now) c.connect-answer.result c.tell.result c.both.result c.record-kept.result
    c.args.live.now c.link.new.self c.args.tally.now _ _ _ _ _ _ c.link.ensures.number (search rules)
    (λ h s. sym (search rules) ∙ c.is_linked.ensures.word c.args.setup.now h s) (λ h s. c.link.ensures.entry c.args.setup.now h s)
    (λ h s. c.tell.ensures.told c.args.setup.now h s) c.both.ensures (kept_by _ _ _ _ c.record-kept.ensures.whole c.record-kept.ensures.part) c.connect-answer.ensures.log
