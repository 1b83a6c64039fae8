use Rattle.gate_model.proofs.Giving.{gives_up_idle}
use Rattle.gate_model.proofs.laws.idle_links_are_given_up.Goals as goal

pub returns : goal.returns
returns c = gives_up_idle c.publishes_lawfully.ensures c.links_lawfully.ensures
