use Rattle.std.proofs.lemmas.Bool.{OnFalse_at}
use Rattle.gate_turns.proofs.Telling.{told_second}
use Rattle.gate_turns.proofs.accounts.tell.Goals as goal

pub returns-else-tell_lines-clause-told : goal.returns-else-tell_lines-clause-told
returns-else-tell_lines-clause-told g c = λ s h r.
    let here : g.R.Relay.represents s c.deref.result.now h = rw c.deref.ensures r.relay in
    told_second _ _ _ _ _ (c.tell_memory_if.ensures.whole c.if-not-tell_memory_if.false)
    (OnFalse_at c.if-tell_lines.false c.tell_lines.ensures.part s h here)
    (OnFalse_at c.if-tell_lines.false c.tell_lines.ensures.some s h here)
