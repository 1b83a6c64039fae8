-- Where each event is that of a call: what each link keeps to, the credit of its flows, and the
-- delivery that its transfers make.
use Rattle.std.proofs.Common.{◌≡◌, ◌∙◌, ℕ, ◌+◌, List, [], ◌∷◌, Bool, true, false, refl, sym}
use Rattle.std.proofs.Common.{ap, subst, Option, Some, None, cond, map}
use Rattle.std.specs.Prelude.{◌&&◌, ◌==◌, is_some, IfSome}
use Rattle.links_10.specs.Recv.{after_attach, after_peer_flow, after_cancel}
use Rattle.links_10.specs.declared.recv.Granting.TheVariants.{Ended}
use Rattle.consume_path.specs.declared.changes.Change.TheVariants.{Delivered as ToDelivered}
use Rattle.consume_path.specs.declared.changes.Change.TheVariants.{Written as ToWritten}
use Rattle.consume_path.specs.declared.changes.Change.TheVariants.{Answered as ToAnswered}
use Rattle.consume_path.specs.declared.changes.Change.TheVariants.{Cancelled as ToCancelled}
use Rattle.consume_path.specs.declared.changes.Change.TheVariants.{Closed as ToClosed}
use Rattle.consume_path.specs.declared.changes.Change.TheVariants.{EndLost as ToEndLost}
use Rattle.consume_path.specs.declared.changes.Change.TheVariants.{SettleSent as ToSettleSent}
use Rattle.consume_path.specs.declared.changes.Change.TheVariants.{Reported}
use Rattle.consume_path.specs.declared.delivery.Delivery.{Delivery}
use Rattle.consume_path.specs.declared.receiving.NextGrant.{NextGrant}
use Rattle.consume_path.specs.declared.receiving.ReceivingLink.{ReceivingLink}
use Rattle.consume_path.specs.Items.{new_delivery}
use Rattle.consume_path.specs.Links.{has_number, link_of, in_link, link_attached, new_get}
use Rattle.consume_path.specs.Links.{link_flowed, link_echoed, link_waits}
use Rattle.consume_path.specs.Links.{link_cancelled, link_closed, get_emptied, leaves_empty}
use Rattle.consume_path.specs.Deliveries.{DeliveryState, DeliveryEvent, LinkAdded, LinkAttached}
use Rattle.consume_path.specs.Deliveries.{LinkFlowed, LinkEchoed, GetCame, TransferCame, Arrived}
use Rattle.consume_path.specs.Deliveries.{LinkDropped, Delivered, Written, Answered, Cancelled}
use Rattle.consume_path.specs.Deliveries.{Closed, EndLost, PrefetchSet, GlobalSet, SettleSent}
use Rattle.consume_path.specs.Deliveries.{GrantSent, Emptied, LinesTold, after_events}
use Rattle.consume_path.specs.Offers.{is_for_gets, next_grant_of}
use Rattle.consume_path.specs.Laws.{AreCalls, IsLawfulCredit, IsLawfulGrant}
use Rattle.consume_path.proofs.Finding.{found_number}
use Rattle.consume_path.proofs.Granting.{Within, Sane, source_of, map_sane, each_sane}
use Rattle.consume_path.proofs.Granting.{within_less, less_same, less_if, attach_less, flow_less}
use Rattle.consume_path.proofs.Granting.{cancel_less, added_sane, empty_some, none_some}
use Rattle.consume_path.proofs.Granting.{transferred_sane, arrived_sane, dropped_sane, granted_sane}
use Rattle.consume_path.proofs.Granting.{equal}

-- each change of the links

attached_sane : (list : List Delivery) (links : List ReceivingLink) (link count : ℕ) → Sane list links → Sane list (map (link_attached link count) links)
attached_sane list links link count s = map_sane list links (link_attached link count) (λ l. refl) step s
  where
    step : (k : ℕ) (l : ReceivingLink) → link_of links k ≡ Some l → Within list l → Within list (link_attached link count l)
    step k l e w =
        let less = less_if (has_number link l) l.state (after_attach count l.state) (attach_less count l.state) in
        within_less list l (link_attached link count l) refl refl refl less (λ c. less.ended (w.stopped c)) w.gets w

flowed_sane : (list : List Delivery) (links : List ReceivingLink) (link count : ℕ) → Sane list links → Sane list (map (link_flowed link count) links)
flowed_sane list links link count s = map_sane list links (link_flowed link count) (λ l. refl) step s
  where
    step : (k : ℕ) (l : ReceivingLink) → link_of links k ≡ Some l → Within list l → Within list (link_flowed link count l)
    step k l e w =
        let less = less_if (has_number link l) l.state (after_peer_flow count l.state) (flow_less count l.state) in
        within_less list l (link_flowed link count l) refl refl refl less (λ c. less.ended (w.stopped c)) (λ g. w.gets (empty_some (has_number link l && leaves_empty count l) l.get g)) w

echoed_sane : (list : List Delivery) (links : List ReceivingLink) (link : ℕ) → Sane list links → Sane list (map (link_echoed link) links)
echoed_sane list links link s = map_sane list links (link_echoed link) (λ l. refl) (λ k l e w. within_less list l (link_echoed link l) refl refl refl (less_same l.state) w.stopped w.gets w) s

waits_sane : (list : List Delivery) (links : List ReceivingLink) (link number : ℕ) (no_ack : Bool) → in_link (λ l. is_for_gets l.kind) (link_of links link) ≡ true → Sane list links → Sane list (map (link_waits link number no_ack) links)
waits_sane list links link number no_ack for_gets s = map_sane list links (link_waits link number no_ack) (λ l. refl) step s
  where
    step : (k : ℕ) (l : ReceivingLink) → link_of links k ≡ Some l → Within list l → Within list (link_waits link number no_ack l)
    step k l e w = within_less list l (link_waits link number no_ack l) refl refl refl (less_same l.state) w.stopped (λ g. by (l.link == link) refl g) w
      where
        there : l.link ≡ link → is_for_gets l.kind ≡ true
        there is = ap (in_link (λ (m : ReceivingLink). is_for_gets m.kind)) (sym (ap (link_of links) (sym is ∙ found_number links k l e) ∙ e)) ∙ for_gets

        by : (b : Bool) → (l.link == link) ≡ b → is_some (cond b (Some (new_get number no_ack)) l.get) ≡ true → is_for_gets l.kind ≡ true
        by true is g = there (equal l.link link is)
        by false is g = w.gets g

cancelled_sane : (list : List Delivery) (links : List ReceivingLink) (link : ℕ) → Sane list links → Sane list (map (link_cancelled link) links)
cancelled_sane list links link s = map_sane list links (link_cancelled link) (λ l. refl) step s
  where
    step : (k : ℕ) (l : ReceivingLink) → link_of links k ≡ Some l → Within list l → Within list (link_cancelled link l)
    step k l e w =
        let less = less_if (has_number link l) l.state (after_cancel l.state) (cancel_less l.state) in
        within_less list l (link_cancelled link l) refl refl refl less (λ c. by (has_number link l) c) w.gets w
      where
        by : (b : Bool) → cond b true l.cancelled ≡ true → (cond b (after_cancel l.state) l.state).granting ≡ Ended
        by true c = refl
        by false c = w.stopped c

closed_sane : (list : List Delivery) (links : List ReceivingLink) → Sane list links → Sane list (map link_closed links)
closed_sane list links s = map_sane list links link_closed (λ l. refl) (λ k l e w. within_less list l (link_closed l) refl refl refl (cancel_less l.state) (λ c. refl) w.gets w) s

emptied_sane : (list : List Delivery) (links : List ReceivingLink) (link : ℕ) → Sane list links → Sane list (map (get_emptied link) links)
emptied_sane list links link s = map_sane list links (get_emptied link) (λ l. refl) (λ k l e w. within_less list l (get_emptied link l) refl refl refl (less_same l.state) w.stopped (λ g. w.gets (none_some (has_number link l) l.get g)) w) s

abbrev IsSane : DeliveryState → Type 0
IsSane s = Sane s.list s.links

pub sane : (life : ℕ) (h : List DeliveryEvent) → AreCalls life h → IsSane (after_events life h)
sane life [] c = record { distinct = tt; each = λ k. refl }
sane life (LinkAdded link kind ∷ h) c = let s = after_events life h in added_sane s.list s.links link kind s.prefetch c.0 (sane life h c.1)
sane life (LinkAttached link count ∷ h) c = let s = after_events life h in attached_sane s.list s.links link count (sane life h c.1)
sane life (LinkFlowed link count ∷ h) c = let s = after_events life h in flowed_sane s.list s.links link count (sane life h c.1)
sane life (LinkEchoed link ∷ h) c = let s = after_events life h in echoed_sane s.list s.links link (sane life h c.1)
sane life (GetCame link no_ack ∷ h) c = let s = after_events life h in waits_sane s.list s.links link (s.gets + 1) no_ack c.0 (sane life h c.1)
sane life (TransferCame link part payload ∷ h) c = let s = after_events life h in transferred_sane s.list s.links link part payload c.0.1 (sane life h c.1)
sane life (Arrived a content again ∷ h) c = let s = after_events life h in arrived_sane s.list s.links a.link (is_some content) (new_delivery s.closed (s.arrived + 1) a content again) refl c.0.0 (sane life h c.1)
sane life (LinkDropped link ∷ h) c = let s = after_events life h in dropped_sane s.list s.links link (sane life h c.1)
sane life (Delivered number ∷ h) c = let s = after_events life h in each_sane (ToDelivered number (s.tags + 1)) s.list s.links (sane life h c.1)
sane life (Written tag ∷ h) c = let s = after_events life h in each_sane (ToWritten tag) s.list s.links (sane life h c.1)
sane life (Answered tag multiple settle ∷ h) c = let s = after_events life h in each_sane (ToAnswered tag multiple settle) s.list s.links (sane life h c.1)
sane life (Cancelled link ∷ h) c = let s = after_events life h in each_sane (ToCancelled link) s.list (map (link_cancelled link) s.links) (cancelled_sane s.list s.links link (sane life h c.1))
sane life (Closed ∷ h) c = let s = after_events life h in each_sane ToClosed s.list (map link_closed s.links) (closed_sane s.list s.links (sane life h c.1))
sane life (EndLost ∷ h) c = let s = after_events life h in each_sane ToEndLost s.list s.links (sane life h c.1)
sane life (PrefetchSet count ∷ h) c = sane life h c.1
sane life (GlobalSet count ∷ h) c = sane life h c.1
sane life (SettleSent settle ∷ h) c = let s = after_events life h in each_sane (ToSettleSent settle) s.list s.links (sane life h c.1)
sane life (GrantSent grant ∷ h) c = let s = after_events life h in granted_sane s.closed s.list s.links grant c.0 (sane life h c.1)
sane life (Emptied link ∷ h) c = let s = after_events life h in emptied_sane s.list s.links link (sane life h c.1)
sane life (LinesTold ∷ h) c = let s = after_events life h in each_sane Reported s.list s.links (sane life h c.1)

-- the credit of the flow that is due
pub grant_is_lawful : (life : ℕ) (h : List DeliveryEvent) → AreCalls life h → IfSome (next_grant_of (after_events life h).closed (after_events life h).links) (IsLawfulGrant (after_events life h))
grant_is_lawful life h calls = by (next_grant_of s.closed s.links) refl
  where
    s : DeliveryState
    s = after_events life h

    by : (o : Option NextGrant) → next_grant_of s.closed s.links ≡ o → IfSome o (IsLawfulGrant s)
    by None e = tt
    by (Some g) e =
        let source = source_of s.closed s.list s.links g (sane life h calls) e in
        subst (λ o. IfSome o (λ (l : ReceivingLink). IsLawfulCredit l.kind g.credit l)) (sym source.found) source.lawful
