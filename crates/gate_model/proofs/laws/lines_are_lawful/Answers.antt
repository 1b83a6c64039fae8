use Rattle.gate_model.proofs.Reports.{lines_are}
use Rattle.gate_model.proofs.laws.lines_are_lawful.Goals as goal

pub returns : goal.returns
returns c =
    lines_are c.publishes_lawfully.ensures c.lines_lawfully.ensures.lines c.deliveries_lawfully.ensures
    c.delivery_lines_lawfully.ensures.lines
