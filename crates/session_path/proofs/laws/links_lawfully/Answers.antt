use Rattle.session_path.proofs.Tied.{links_are_tied}
use Rattle.session_path.proofs.laws.links_lawfully.Goals as goal

pub returns : goal.returns
returns c = links_are_tied
