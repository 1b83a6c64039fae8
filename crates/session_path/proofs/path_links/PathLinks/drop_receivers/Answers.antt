use Rattle.session_path.proofs.Ties.{filtered_tied}
use Rattle.session_path.proofs.Wanted.{wanted_receives}
use Rattle.session_path.proofs.path_links.PathLinks.drop_receivers.Goals as goal

pub invariant_of-self : goal.invariant_of-self
invariant_of-self c = rw c.drop_wanted_receivers.ensures (filtered_tied _ _ _ _ wanted_receives c.self.invariant)
