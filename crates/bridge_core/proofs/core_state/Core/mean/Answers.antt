use Rattle.std.proofs.Common.{◌≡◌, ℕ, List, sym, subst}
use Rattle.std.specs.Prelude.{OnOk}
use Rattle.machine_10.specs.Parts.{parts_of}
use Rattle.machine_10.specs.Transitions.{meaning_of}
use Rattle.machine_10.specs.declared.unit.Want10.{Want10}
use Rattle.gate_model.specs.State.{with_meaning, with_session}
use Rattle.bridge_core.proofs.core_state.Core.mean.Goals as goal

pub returns-in-Session-clause-ok : goal.returns-in-Session-clause-ok
unfolding meaning_of
returns-in-Session-clause-ok c =
    let s = c.in-Session in
    subst (λ (x : Want10). OnOk c.hear_session.result (c.hear_session.new.self ≡ with_meaning (meaning_of x) c.args.self.now))
    (sym s.is)
    (subst (λ (text : List ℕ). OnOk c.hear_session.result (c.hear_session.new.self ≡ with_session s.channel (parts_of s.perf) text c.args.self.now))
    c.as_slice.ensures c.hear_session.ensures.ok)
