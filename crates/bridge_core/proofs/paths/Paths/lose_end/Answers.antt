use Rattle.session_path.specs.Path.{end_lost}
use Rattle.bridge_core.proofs.Tops.{paths_stay}
use Rattle.bridge_core.proofs.paths.Paths.lose_end.Goals as goal

pub invariant_of-self : goal.invariant_of-self
invariant_of-self c = paths_stay end_lost c.self.inside.top c.self.inside.paths _ c.self.invariant c.lose_ends.ensures
