use Rattle.std.proofs.Common.{◌∙◌, ap, sym}
use Rattle.consume_path.specs.Deliveries.{DeliveryState}
use Rattle.consume_path.specs.Offers.{next_deliver_of}
use Rattle.consume_path.proofs.Steps.{deliver_seen}
use Rattle.consume_path.proofs.deliveries.Deliveries.next_deliver.Goals as goal

pub returns : goal.returns
returns c =
    let global = c.self.inside.global in
    c.first_deliver.ensures ∙ ap (next_deliver_of global) c.as_slice.ensures.value ∙ sym (deliver_seen global c.self.inside.items.items)
    ∙ ap (λ (s : DeliveryState). next_deliver_of s.global s.list) c.self.view_is
