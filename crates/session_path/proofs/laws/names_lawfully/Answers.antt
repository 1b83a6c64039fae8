use Rattle.session_path.proofs.Names.{names_are, queue_is}
use Rattle.session_path.proofs.laws.names_lawfully.Goals as goal

pub returns-clause-names : goal.returns-clause-names
returns-clause-names c = names_are

pub returns-clause-queue : goal.returns-clause-queue
returns-clause-queue c = queue_is
