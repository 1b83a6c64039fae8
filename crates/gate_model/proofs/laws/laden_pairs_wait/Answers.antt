use Rattle.gate_model.proofs.Holding.{holds_few, takes_with_room}
use Rattle.gate_model.proofs.laws.laden_pairs_wait.Goals as goal

pub returns : goal.returns
returns c = record { room = takes_with_room c.publishes_lawfully.ensures; most = holds_few c.publishes_lawfully.ensures }
