use Rattle.session_path.proofs.Unwanted.{unwanted_tied}
use Rattle.session_path.proofs.path_links.PathLinks.drop_wanted.Goals as goal

pub invariant_of-self : goal.invariant_of-self
invariant_of-self c = rw (c.drop_wanted_senders.ensures, c.drop_all_wanted.ensures, c.as_slice.ensures.value) (unwanted_tied _ c.self.invariant)
