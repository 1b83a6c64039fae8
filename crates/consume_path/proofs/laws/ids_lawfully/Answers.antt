use Rattle.consume_path.proofs.Delivering.{open_id_is, content_is}
use Rattle.consume_path.proofs.Freshness.{fresh}
use Rattle.consume_path.proofs.laws.ids_lawfully.Goals as goal

pub returns-clause-fresh : goal.returns-clause-fresh
returns-clause-fresh c = fresh

pub returns-clause-open_ids : goal.returns-clause-open_ids
returns-clause-open_ids c = open_id_is

pub returns-clause-content : goal.returns-clause-content
returns-clause-content c = λ life n h fresh taken needed. content_is life h fresh n taken needed
