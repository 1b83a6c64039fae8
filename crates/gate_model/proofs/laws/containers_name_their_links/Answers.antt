use Rattle.gate_model.proofs.Frames.{within}
use Rattle.gate_model.proofs.Hears.{hears_links}
use Rattle.gate_model.proofs.laws.containers_name_their_links.Goals as goal

pub returns : goal.returns
returns c = hears_links (within c.connection_laws.ensures.limits_stay) c.deliveries_lawfully.ensures c.numbers_lawfully.ensures.closed c.calls_lawfully.ensures
