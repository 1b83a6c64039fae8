use Rattle.bridge_core.proofs.Order.{up_in_order}
use Rattle.bridge_core.proofs.rows.to_up.Goals as goal

pub returns : goal.returns
returns c = up_in_order
