use Rattle.publish_path.proofs.Confirms.{confirm_is_lawful, confirm_is_offered}
use Rattle.publish_path.proofs.laws.confirms_lawfully.Goals as goal

pub returns-clause-lawful : goal.returns-clause-lawful
returns-clause-lawful c = confirm_is_lawful

pub returns-clause-offered : goal.returns-clause-offered
returns-clause-offered c = λ life n h owed are. confirm_is_offered life h n owed.0 owed.1 are
