use Rattle.consume_path.proofs.Kept.{kept_begun}
use Rattle.consume_path.proofs.deliveries.Deliveries.end_delivery.Goals as goal

pub invariant_of-self : goal.invariant_of-self
invariant_of-self c = kept_begun c.self.invariant c.args.link c.begin_on.ensures
