use Rattle.std.proofs.Common.{◌∙◌, ap, sym}
use Rattle.std.specs.List.{slice_get}
use Rattle.consume_path.specs.declared.tallies.Counts.{Counts}
use Rattle.consume_path.specs.Deliveries.{DeliveryState}
use Rattle.consume_path.specs.Kept.{only_settle}
use Rattle.consume_path.specs.Offers.{next_settle_of}
use Rattle.consume_path.proofs.Alone.{only_seen}
use Rattle.consume_path.proofs.Kept.{none_owed}
use Rattle.consume_path.proofs.Steps.{settle_seen}
use Rattle.consume_path.proofs.deliveries.Deliveries.next_settle.Goals as goal

pub returns-then-self-eq0 : goal.returns-then-self-eq0
returns-then-self-eq0 c =
    sym (none_owed c.self.invariant c.if-self-eq0.true) ∙ ap (λ (s : DeliveryState). next_settle_of s.list) c.self.view_is

pub returns-in-Some : goal.returns-in-Some
returns-in-Some c =
    let items = c.self.inside.items.items in
    let owed = c.self.inside.counts.owed in
    let place = c.place_owing-place.result in
    sym (only_seen items owed place c.in-Some.only (ap (λ (n : Counts). n.owed) c.self.invariant.counts_are) (ap (λ ds. only_settle owed (slice_get ds place)) (sym c.as_slice-items.ensures.value) ∙ sym c.only_settle.ensures ∙ c.in-Some.is))
    ∙ sym (settle_seen items) ∙ ap (λ (s : DeliveryState). next_settle_of s.list) c.self.view_is
