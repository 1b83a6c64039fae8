use Rattle.consume_path.proofs.Counted.{counted}
use Rattle.consume_path.proofs.laws.counts_lawfully.Goals as goal

pub returns : goal.returns
returns c = counted
