use Rattle.std.proofs.Common.{◌∙◌, ap, take}
use Rattle.gate_model.specs.Paths.{bytes_in, held_in, lines_of_life}
use Rattle.bridge_core.proofs.Tops.{bytes_below, held_below, lines_below}
use Rattle.bridge_core.proofs.paths.Paths.used.Goals as goal

pub returns-clause-count : goal.returns-clause-count
returns-clause-count c =
    ap (λ n. held_in (take n c.self.inside.paths)) c.from.ensures ∙ held_below c.self.inside.top c.self.inside.paths c.self.invariant ∙ ap held_in c.self.view_is

pub returns-clause-bytes : goal.returns-clause-bytes
returns-clause-bytes c =
    ap (λ n. bytes_in (take n c.self.inside.paths)) c.from.ensures ∙ bytes_below c.self.inside.top c.self.inside.paths c.self.invariant ∙ ap bytes_in c.self.view_is

pub returns-clause-lines : goal.returns-clause-lines
returns-clause-lines c = λ life.
    ap (λ n. lines_of_life life (take n c.self.inside.paths)) c.from.ensures ∙ lines_below c.self.inside.top c.self.inside.paths c.self.invariant life
    ∙ ap (lines_of_life life) c.self.view_is
