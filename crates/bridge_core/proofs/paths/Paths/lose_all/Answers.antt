use Rattle.gate_model.specs.Paths.{ended_path}
use Rattle.bridge_core.proofs.Tops.{paths_stay}
use Rattle.bridge_core.proofs.paths.Paths.lose_all.Goals as goal

pub invariant_of-self : goal.invariant_of-self
invariant_of-self c = paths_stay ended_path c.self.inside.top c.self.inside.paths _ c.self.invariant c.lose_each.ensures
