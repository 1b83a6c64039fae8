use Rattle.session_path.proofs.LinkAttaches.{attaches_are}
use Rattle.session_path.proofs.laws.attaches_lawfully.Goals as goal

pub returns : goal.returns
returns c = attaches_are
