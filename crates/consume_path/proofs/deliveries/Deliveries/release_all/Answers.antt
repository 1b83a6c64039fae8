use Rattle.consume_path.proofs.Kept.{kept_closed}
use Rattle.consume_path.proofs.deliveries.Deliveries.release_all.Goals as goal

pub invariant_of-self : goal.invariant_of-self
invariant_of-self c = kept_closed c.self.invariant c.close_links.ensures
