use Rattle.consume_path.proofs.Settling.{settle_is_lawful, first_is, released_is, covered_is}
use Rattle.consume_path.proofs.laws.settles_lawfully.Goals as goal

pub returns-clause-lawful : goal.returns-clause-lawful
returns-clause-lawful c = settle_is_lawful

pub returns-clause-first : goal.returns-clause-first
returns-clause-first c = first_is

pub returns-clause-released : goal.returns-clause-released
returns-clause-released c = λ life h shut none n taken. released_is life h shut none n taken

pub returns-clause-covered : goal.returns-clause-covered
returns-clause-covered c = covered_is
