use Rattle.gate_model.proofs.Counts.{counts_kept}
use Rattle.gate_model.proofs.laws.counts_are_kept.Goals as goal

pub returns : goal.returns
returns c = counts_kept c.deliveries_lawfully.ensures c.numbers_lawfully.ensures.closed c.calls_lawfully.ensures
