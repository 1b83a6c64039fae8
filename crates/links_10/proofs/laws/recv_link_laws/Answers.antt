use Rattle.links_10.proofs.RecvLemmas.{folds}
use Rattle.links_10.proofs.laws.recv_link_laws.Goals as goal

pub returns : goal.returns
returns c = folds
