use Rattle.gate_model.proofs.Frames.{within}
use Rattle.gate_model.proofs.Images.{life_below}
use Rattle.gate_model.proofs.Starts.{starts_behind}
use Rattle.gate_model.proofs.laws.consumers_are_told_first.Goals as goal

pub returns : goal.returns
returns c =
    let numbers = c.numbers_lawfully.ensures in
    let delivers = c.delivers_lawfully.ensures in
    starts_behind c.deliveries_lawfully.ensures numbers.closed c.calls_lawfully.ensures c.counts_lawfully.ensures delivers.lawful delivers.due numbers.tags numbers.global
    c.answers_lawfully.ensures (life_below (within c.connection_laws.ensures.limits_stay))
