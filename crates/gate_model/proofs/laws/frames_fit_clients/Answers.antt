use Rattle.gate_model.proofs.Backs.{returns_are}
use Rattle.gate_model.proofs.Delivering.{ReceivedAre}
use Rattle.gate_model.proofs.Frames.{fits_clients}
use Rattle.gate_model.proofs.laws.frames_fit_clients.Goals as goal

pub returns : goal.returns
returns c = λ h p.
    let laws = c.received_lawfully.ensures in
    let received : ReceivedAre = record { exchange = laws.exchange; key = laws.key; header = laws.header } in
    fits_clients c.connection_laws.ensures.limits_stay received c.deliveries_lawfully.ensures c.names_lawfully.ensures.names h p
    (returns_are c.publishes_lawfully.ensures c.returns_lawfully.ensures.due c.returns_lawfully.ensures.frame h p)
