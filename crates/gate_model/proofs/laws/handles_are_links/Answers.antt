use Rattle.gate_model.proofs.Handles.{names_handles}
use Rattle.gate_model.proofs.laws.handles_are_links.Goals as goal

pub returns : goal.returns
returns c =
    names_handles c.publishes_lawfully.ensures c.payloads_lawfully.ensures.frame c.payloads_lawfully.ensures.rest c.links_lawfully.ensures
    c.deliveries_lawfully.ensures c.numbers_lawfully.ensures.closed c.calls_lawfully.ensures
