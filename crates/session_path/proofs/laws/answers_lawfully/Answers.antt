use Rattle.session_path.proofs.PathLaws.{oks_are}
use Rattle.session_path.proofs.laws.answers_lawfully.Goals as goal

pub returns : goal.returns
returns c = oks_are
