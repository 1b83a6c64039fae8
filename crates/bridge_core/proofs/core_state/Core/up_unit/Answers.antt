use Rattle.std.proofs.Common.{◌∙◌, sym, ap}
use Rattle.bridge_core.specs.LinkFaults.{takes_memory_by}
use Rattle.bridge_core.proofs.Heards.{heard_same, on_err, up_stays}
use Rattle.bridge_core.proofs.core_state.Core.up_unit.Goals as goal

pub returns-in-Ok-clause-err : goal.returns-in-Ok-clause-err
returns-in-Ok-clause-err c =
    on_err c.mean-met.result c.mean-met.ensures.err c.mean-met.ensures.takes
    (λ e takes.
    let same = c.in-Ok.ensures.ok ∙ heard_same c.connection_laws.ensures.within c.args.unit.now c.self.inside.up (ap takes_memory_by (sym c.in-Ok.ensures.want) ∙ takes) in
    e ∙ (up_stays _ c.hear.new.self same ∙ c.self.view_is))
