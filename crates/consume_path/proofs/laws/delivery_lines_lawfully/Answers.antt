use Rattle.consume_path.proofs.Lines.{lines_are, told_once}
use Rattle.consume_path.proofs.laws.delivery_lines_lawfully.Goals as goal

pub returns-clause-lines : goal.returns-clause-lines
returns-clause-lines c = lines_are

pub returns-clause-once : goal.returns-clause-once
returns-clause-once c = told_once
