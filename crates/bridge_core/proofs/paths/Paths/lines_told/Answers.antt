use Rattle.std.proofs.Common.{◌∙◌, ap}
use Rattle.session_path.specs.Path.{lines_told}
use Rattle.gate_model.specs.Paths.{told_paths}
use Rattle.bridge_core.proofs.Tops.{changed_below, paths_stay}
use Rattle.bridge_core.proofs.paths.Paths.lines_told.Goals as goal

pub invariant_of-self : goal.invariant_of-self
invariant_of-self c =
    paths_stay lines_told c.self.inside.top c.self.inside.paths _ c.self.invariant
    (changed_below lines_told c.self.inside.top c.from.result c.self.inside.paths _ c.self.invariant c.from.ensures c.tell_each.ensures)

pub returns : goal.returns
returns c =
    changed_below lines_told c.self.inside.top c.from.result c.self.inside.paths _ c.self.invariant c.from.ensures c.tell_each.ensures
    ∙ ap told_paths c.self.view_is
