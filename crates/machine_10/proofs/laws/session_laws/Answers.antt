use Rattle.machine_10.proofs.FoldLemmas.{folds}
use Rattle.machine_10.proofs.laws.session_laws.Goals as goal

pub returns : goal.returns
returns c = record { folds = folds }
