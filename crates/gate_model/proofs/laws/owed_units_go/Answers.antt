use Rattle.gate_model.proofs.Delivers.{fresh_are}
use Rattle.gate_model.proofs.Frames.{within}
use Rattle.gate_model.proofs.Images.{life_below}
use Rattle.gate_model.proofs.Owing.{serves}
use Rattle.gate_model.proofs.Rests.{supplies}
use Rattle.gate_model.proofs.Writing.{begun_below, content_is}
use Rattle.gate_model.proofs.laws.owed_units_go.Goals as goal

pub returns : goal.returns
returns c =
    let arrives = c.deliveries_lawfully.ensures in
    let delivers = c.delivers_lawfully.ensures.lawful in
    let tags = c.numbers_lawfully.ensures.tags in
    let globals = c.numbers_lawfully.ensures.global in
    let contents = c.ids_lawfully.ensures.content in
    let fresh = fresh_are arrives c.numbers_lawfully.ensures.closed c.calls_lawfully.ensures c.ids_lawfully.ensures.fresh in
    let below = life_below (within c.connection_laws.ensures.limits_stay) in
    record {
      clients = serves c.publishes_lawfully.ensures c.confirms_lawfully.ensures.offered c.returns_lawfully.ensures.due c.returns_lawfully.ensures.most arrives
          c.delivers_lawfully.ensures.due tags globals (content_is arrives delivers tags globals contents fresh)
          (begun_below arrives delivers tags globals contents fresh) below;
      containers = supplies c.publishes_lawfully.ensures c.payloads_lawfully.ensures.frame arrives c.settles_lawfully.ensures.first below;
    }
