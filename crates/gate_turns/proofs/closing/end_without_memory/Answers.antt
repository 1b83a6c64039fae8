use Rattle.gate_runs.specs.declared.served.Served.TheVariants.{Memory}
use Rattle.std.proofs.Common.{refl}
use Rattle.gate_turns.proofs.Closings.{Cut, Whole, served_without_memory}
use Rattle.gate_turns.proofs.closing.end_without_memory.Goals as goal

pub returns-then-tell_last-clause-served : goal.returns-then-tell_last-clause-served
returns-then-tell_last-clause-served g c = λ w x kept. served_without_memory w x Memory _ _ kept (Whole refl (c.tell_last.ensures.whole c.if-tell_last.true))

pub returns-else-tell_last-clause-served : goal.returns-else-tell_last-clause-served
returns-else-tell_last-clause-served g c = λ w x kept. served_without_memory w x _ _ _ kept (Cut refl c.tell_last.ensures.part)
