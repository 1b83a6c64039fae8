use Rattle.gate_turns.proofs.Fronts.{front_then, front_more}
use Rattle.gate_turns.proofs.report.tell_count.Goals as goal

pub returns-then-not-tell_decimal-clause-part : goal.returns-then-not-tell_decimal-clause-part
returns-then-not-tell_decimal-clause-part g c = front_more _ _ _ _ c.tell_decimal.ensures.part

pub returns-clause-part : goal.returns-clause-part
returns-clause-part g c =
    front_then _ _ _ _ _ (c.tell_decimal.ensures.whole c.if-not-tell_decimal.false) c.write_all.ensures.part
