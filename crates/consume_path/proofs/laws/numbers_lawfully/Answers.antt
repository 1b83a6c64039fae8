use Rattle.consume_path.proofs.Keeping.{numbers_kept, tags_kept, closed_kept, global_kept}
use Rattle.consume_path.proofs.laws.numbers_lawfully.Goals as goal

pub returns-clause-arrived : goal.returns-clause-arrived
returns-clause-arrived c = numbers_kept

pub returns-clause-tags : goal.returns-clause-tags
returns-clause-tags c = tags_kept

pub returns-clause-closed : goal.returns-clause-closed
returns-clause-closed c = closed_kept

pub returns-clause-global : goal.returns-clause-global
returns-clause-global c = global_kept
