use Rattle.session_path.proofs.Wanted.{received_tied}
use Rattle.session_path.proofs.path_links.PathLinks.want_receiver.Goals as goal

pub invariant_of-self : goal.invariant_of-self
invariant_of-self c = received_tied c.insert_wanted.result _ _ _ _ c.insert_wanted.ensures.links c.insert_wanted.ensures.links_kept c.self.invariant
