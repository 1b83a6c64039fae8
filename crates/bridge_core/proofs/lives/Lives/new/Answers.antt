use Rattle.std.proofs.Common.{ap, arith, refl, replicate}
use Rattle.gate_model.specs.declared.life.Life.{Life}
use Rattle.bridge_core.proofs.Flows.{new_fit}
use Rattle.bridge_core.proofs.lives.Lives.new.Goals as goal

pub invariant_of-result : goal.invariant_of-result
unfolding Rattle.gate_model.specs.Lives.no_lives
invariant_of-result c =
    (λ e. new_fit c.no_life.result c.no_life.ensures, (refl, (omega arith, ap (λ (l : Life). replicate 256 l) c.no_life.ensures)))
