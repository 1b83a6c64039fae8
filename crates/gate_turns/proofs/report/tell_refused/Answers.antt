use Rattle.gate_turns.proofs.Fronts.{front_then, front_more}
use Rattle.gate_turns.proofs.report.tell_refused.Goals as goal

pub returns-then-not-tell_memory-clause-part : goal.returns-then-not-tell_memory-clause-part
returns-then-not-tell_memory-clause-part g c = front_more _ _ _ _ c.tell_memory.ensures.part

pub returns-clause-part : goal.returns-clause-part
returns-clause-part g c =
    front_then _ _ _ _ _ (c.tell_memory.ensures.whole c.if-not-tell_memory.false) c.tell_closed.ensures.part
