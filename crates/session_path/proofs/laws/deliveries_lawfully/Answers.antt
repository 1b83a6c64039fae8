use Rattle.session_path.proofs.PathLaws.{deliveries_are}
use Rattle.session_path.proofs.laws.deliveries_lawfully.Goals as goal

pub returns : goal.returns
returns c = deliveries_are
