use Rattle.bridge_core.proofs.Order.{client_in_order}
use Rattle.bridge_core.proofs.rows.to_client.Goals as goal

pub returns : goal.returns
returns c = client_in_order
