use Rattle.std.proofs.Common.{◌≡◌, List, ap, subst, take}
use Rattle.machine_091.specs.declared.unit.Unit91.{Unit91}
use Rattle.gate_model.specs.State.{State, waits}
use Rattle.bridge_core.specs.Held.{AreAboveHeld}
use Rattle.bridge_core.proofs.AboveHeld.{none_on_above}
use Rattle.bridge_core.proofs.core_state.Core.passed.Goals as goal

pub returns : goal.returns
returns c front =
    let w : State = c.args.self.now in
    let same : c.self.inside.queue ≡ w.queue = ap (λ (x : State). x.queue) c.self.view_is in
    none_on_above (waits w) w.queue c.passed.result front (subst (λ (us : List Unit91). AreAboveHeld (take c.passed.result us)) same c.passed.ensures)
