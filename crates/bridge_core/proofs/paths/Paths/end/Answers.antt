use Rattle.bridge_core.proofs.Tops.{path_stays, path_written}
use Rattle.bridge_core.proofs.paths.Paths.end.Goals as goal

pub invariant_of-self : goal.invariant_of-self
invariant_of-self c =
    path_stays _ c.self.inside.top _ _ _ c.self.inside.paths c.if-at-lt256.true c.self.invariant c.end.ensures

pub returns-then-at-lt256 : goal.returns-then-at-lt256
returns-then-at-lt256 c =
    path_written _ c.self.inside.top _ _ _ _ _ _ c.if-at-lt256.true c.from-at.ensures c.self.view_is c.self.invariant c.end.ensures
