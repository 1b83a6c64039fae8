use Rattle.std.proofs.Common.{◌∙◌, ◌≤◌, ◌<◌, arith, rules}
use Rattle.std.proofs.lemmas.List.{length-set}
use Rattle.bridge_core.proofs.Flows.{set_fits}
use Rattle.bridge_core.proofs.Tops.{set_below}
use Rattle.bridge_core.proofs.lives.Lives.set.Goals as goal

pub invariant_of-self : goal.invariant_of-self
invariant_of-self c =
    let higher : c.self.inside.top ≤ c.max-self-inside.result = search rules in
    let above : c.args.channel < c.max-self-inside.result = search rules in
    let all : c.max-self-inside.result ≤ 256 = search rules in
    (λ e. grind (arith, set_fits), (length-set _ _ _ ∙ c.self.invariant.1.0, (all, set_below _ _ _ _ _ _ higher above c.self.invariant.1.1.1)))
