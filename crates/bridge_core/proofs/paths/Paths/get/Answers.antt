use Rattle.std.proofs.lemmas.Result.{on_ok_weaker}
use Rattle.bridge_core.proofs.Tops.{path_or_none_stays, path_written}
use Rattle.bridge_core.proofs.paths.Paths.get.Goals as goal

pub invariant_of-self : goal.invariant_of-self
invariant_of-self c =
    path_or_none_stays c.get.result _ c.self.inside.top _ _ _ c.self.inside.paths c.if-at-lt256.true c.self.invariant c.get.ensures.ok c.get.ensures.err

pub returns-then-at-lt256-clause-ok : goal.returns-then-at-lt256-clause-ok
returns-then-at-lt256-clause-ok c =
    on_ok_weaker c.get.result
    (path_written _ c.self.inside.top _ _ _ _ _ _ c.if-at-lt256.true c.from-at.ensures c.self.view_is c.self.invariant)
    c.get.ensures.ok
