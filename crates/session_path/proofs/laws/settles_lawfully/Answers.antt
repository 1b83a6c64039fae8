use Rattle.session_path.proofs.PathLaws.{settles_are}
use Rattle.session_path.proofs.laws.settles_lawfully.Goals as goal

pub returns : goal.returns
returns c = settles_are
