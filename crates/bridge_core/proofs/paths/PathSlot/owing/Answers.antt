use Rattle.std.proofs.Common.{◌∙◌, Bool, Some, None, ap, if◌then◌else◌, sym}
use Rattle.bridge_core.proofs.OwedLines.{life_owing}
use Rattle.bridge_core.specs.Reports.{owing_on}
use Rattle.bridge_core.proofs.paths.PathSlot.owing.Goals as goal

pub returns-then-owes_lines : goal.returns-then-owes_lines
returns-then-owes_lines c =
    ap Some c.life.ensures
    ∙ ap (λ (b : Bool). if b then Some c.in_ok-path.path.now.publishes.life else None) (sym c.if-owes_lines.true)
    ∙ life_owing c.in_ok-path.path.now c.owes_lines.result c.owes_lines.ensures ∙ ap owing_on c.in_ok-path.ensures

pub returns-else-owes_lines : goal.returns-else-owes_lines
returns-else-owes_lines c =
    ap (λ (b : Bool). if b then Some c.in_ok-path.path.now.publishes.life else None) (sym c.if-owes_lines.false)
    ∙ life_owing c.in_ok-path.path.now c.owes_lines.result c.owes_lines.ensures ∙ ap owing_on c.in_ok-path.ensures
