use Rattle.session_path.proofs.Ties.{framed_tied}
use Rattle.session_path.proofs.path_links.PathLinks.commit_frame.Goals as goal

pub invariant_of-self : goal.invariant_of-self
invariant_of-self c = rw c.commit_frame.ensures.links (framed_tied c.args.frame _ _ _ c.self.invariant)
