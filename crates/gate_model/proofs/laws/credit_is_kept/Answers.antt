use Rattle.gate_model.proofs.LinkSteps.{credit_kept}
use Rattle.gate_model.proofs.laws.credit_is_kept.Goals as goal

pub returns : goal.returns
returns c = credit_kept c.deliveries_lawfully.ensures c.numbers_lawfully.ensures.closed c.calls_lawfully.ensures
