use Rattle.gate_model.proofs.Delivers.{delivers_are, fresh_are}
use Rattle.gate_model.proofs.Owes.{ends_clients}
use Rattle.gate_model.proofs.Writing.{begun_below, closed_ends, content_is}
use Rattle.gate_model.proofs.laws.clients_get_what_is_due.Goals as goal

pub returns : goal.returns
returns c =
    let arrives = c.deliveries_lawfully.ensures in
    let delivers = c.delivers_lawfully.ensures.lawful in
    let tags = c.numbers_lawfully.ensures.tags in
    let globals = c.numbers_lawfully.ensures.global in
    let contents = c.ids_lawfully.ensures.content in
    let fresh = fresh_are arrives c.numbers_lawfully.ensures.closed c.calls_lawfully.ensures c.ids_lawfully.ensures.fresh in
    ends_clients (content_is arrives delivers tags globals contents fresh) (closed_ends arrives delivers tags globals contents fresh)
    (begun_below arrives delivers tags globals contents fresh) (delivers_are arrives delivers tags globals contents fresh)
    c.publishes_lawfully.ensures c.returns_lawfully.ensures.due c.returns_lawfully.ensures.frame
