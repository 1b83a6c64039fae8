use Rattle.gate_turns.proofs.Fronts.{front_then, front_more}
use Rattle.gate_turns.proofs.report.tell_number.Goals as goal

pub returns-then-not-write_all-clause-part : goal.returns-then-not-write_all-clause-part
returns-then-not-write_all-clause-part g c = front_more _ _ _ _ c.write_all.ensures.part

pub returns-clause-part : goal.returns-clause-part
returns-clause-part g c =
    front_then _ _ _ _ _ (c.write_all.ensures.whole c.if-not-write_all.false) c.tell_count.ensures.part
