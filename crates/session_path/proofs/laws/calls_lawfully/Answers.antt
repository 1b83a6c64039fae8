use Rattle.session_path.proofs.Calls.{calls_are}
use Rattle.session_path.proofs.laws.calls_lawfully.Goals as goal

pub returns : goal.returns
returns c = calls_are
