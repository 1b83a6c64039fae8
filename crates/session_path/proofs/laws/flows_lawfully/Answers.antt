use Rattle.session_path.proofs.LinkFlows.{flows_are}
use Rattle.session_path.proofs.laws.flows_lawfully.Goals as goal

pub returns : goal.returns
returns c = flows_are
