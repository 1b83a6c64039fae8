use Rattle.gate_model.proofs.Releases.{releases_are}
use Rattle.gate_model.proofs.laws.releases_are_lawful.Goals as goal

pub returns : goal.returns
returns c =
    releases_are c.deliveries_lawfully.ensures c.settles_lawfully.ensures.released c.settles_lawfully.ensures.covered c.links_lawfully.ensures
