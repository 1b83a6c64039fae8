use Rattle.publish_path.proofs.Lines.{lines_are, told_once}
use Rattle.publish_path.proofs.laws.lines_lawfully.Goals as goal

pub returns-clause-lines : goal.returns-clause-lines
returns-clause-lines c = lines_are

pub returns-clause-once : goal.returns-clause-once
returns-clause-once c = told_once
