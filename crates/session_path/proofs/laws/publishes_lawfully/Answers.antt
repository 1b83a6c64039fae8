use Rattle.session_path.proofs.PathLaws.{publishes_are}
use Rattle.session_path.proofs.laws.publishes_lawfully.Goals as goal

pub returns : goal.returns
returns c = publishes_are
