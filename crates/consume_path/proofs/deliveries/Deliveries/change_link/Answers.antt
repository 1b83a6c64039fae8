use Rattle.consume_path.proofs.Kept.{kept_link}
use Rattle.consume_path.proofs.deliveries.Deliveries.change_link.Goals as goal

pub invariant_of-self : goal.invariant_of-self
invariant_of-self c = kept_link c.self.invariant c.args.link c.args.change c.change_links.ensures
