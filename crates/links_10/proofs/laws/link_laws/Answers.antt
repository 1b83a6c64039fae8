use Rattle.links_10.proofs.SendLemmas.{folds}
use Rattle.links_10.proofs.laws.link_laws.Goals as goal

pub returns : goal.returns
returns c = folds
