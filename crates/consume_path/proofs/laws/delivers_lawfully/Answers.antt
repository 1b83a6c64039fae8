use Rattle.consume_path.proofs.Counted.{tagged, tags_differ}
use Rattle.consume_path.proofs.Delivering.{deliver_is, deliver_is_lawful, known_is}
use Rattle.consume_path.proofs.laws.delivers_lawfully.Goals as goal

pub returns-clause-due : goal.returns-clause-due
returns-clause-due c = deliver_is

pub returns-clause-lawful : goal.returns-clause-lawful
returns-clause-lawful c = deliver_is_lawful

pub returns-clause-tagged : goal.returns-clause-tagged
returns-clause-tagged c = tagged

pub returns-clause-one : goal.returns-clause-one
returns-clause-one c = tags_differ

pub returns-clause-known : goal.returns-clause-known
returns-clause-known c = known_is
