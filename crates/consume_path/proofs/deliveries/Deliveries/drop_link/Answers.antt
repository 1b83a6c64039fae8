use Rattle.consume_path.proofs.Kept.{kept_without}
use Rattle.consume_path.proofs.deliveries.Deliveries.drop_link.Goals as goal

pub invariant_of-self : goal.invariant_of-self
invariant_of-self c = kept_without c.self.invariant c.args.link c.leave_out.ensures
