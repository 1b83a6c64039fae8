use Rattle.consume_path.proofs.Joining.{joins}
use Rattle.consume_path.proofs.Sanity.{grant_is_lawful}
use Rattle.consume_path.proofs.laws.links_lawfully.Goals as goal

pub returns-clause-credit : goal.returns-clause-credit
returns-clause-credit c = grant_is_lawful

pub returns-clause-joined : goal.returns-clause-joined
returns-clause-joined c = λ life k h calls. joins life h k calls
