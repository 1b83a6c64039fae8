-- The deliveries of a life of a channel, from their transfers to their dispositions: before any
-- event, and after each.
use Rattle.std.specs.Prelude.{ℕ, Bool, true, false, ◌+◌, List, [], ◌∷◌, ◌++◌, map, filter, Option}
use Rattle.std.specs.Prelude.{is_some}
use Rattle.consume_path.specs.declared.delivery.Arriving.{Arriving}
use Rattle.consume_path.specs.declared.delivery.Content.{Content}
use Rattle.consume_path.specs.declared.delivery.Delivery.{Delivery}
use Rattle.consume_path.specs.declared.delivery.NextSettle.{NextSettle}
use Rattle.consume_path.specs.declared.delivery.Settle.{Settle}
use Rattle.consume_path.specs.declared.receiving.NextGrant.{NextGrant}
use Rattle.consume_path.specs.declared.receiving.Part.{Part}
use Rattle.consume_path.specs.declared.receiving.ReceivingLink.{ReceivingLink}
use Rattle.consume_path.specs.declared.receiving.RecvKind.{RecvKind}
use Rattle.consume_path.specs.Items.{new_delivery, is_open, trimmed, delivered, written, answered}
use Rattle.consume_path.specs.Items.{cancelled, closed, end_lost, settle_sent, link_dropped}
use Rattle.consume_path.specs.Items.{reported}
use Rattle.consume_path.specs.Links.{new_link, without, link_attached, link_flowed, link_echoed}
use Rattle.consume_path.specs.Links.{link_waits, transfer_came, taken_from, link_cancelled}
use Rattle.consume_path.specs.Links.{link_closed, flow_sent, get_emptied, recount, change_first}
use Rattle.consume_path.specs.Links.{has_number}

pub record DeliveryState : Type 0 where
  -- the number of the life
  pub life : ℕ
  -- its receiving links, in the order in which they were needed
  pub links : List ReceivingLink
  -- the deliveries for which something is still to come, in order of arrival
  pub list : List Delivery
  -- the whole deliveries so far, the delivery tags and the gets
  pub arrived : ℕ
  pub tags : ℕ
  pub gets : ℕ
  -- the prefetch of consumers to come, and that of all; 0 is no limit (AMQP 0-9-1 1.8.3.1)
  pub prefetch : ℕ
  pub global : ℕ
  pub closed : Bool

pub data DeliveryEvent : Type 0 where
  -- a link is needed
  LinkAdded : (link : ℕ) (kind : RecvKind) → DeliveryEvent
  -- the container's attach, with its initial delivery-count (AMQP 1.0 2.7.3)
  LinkAttached : (link count : ℕ) → DeliveryEvent
  -- its flow with a delivery-count (AMQP 1.0 2.7.4)
  LinkFlowed : (link count : ℕ) → DeliveryEvent
  -- its flow with echo
  LinkEchoed : (link : ℕ) → DeliveryEvent
  -- a basic.get waits
  GetCame : (link : ℕ) (no_ack : Bool) → DeliveryEvent
  -- a transfer that isn't at fault (AMQP 1.0 2.7.5)
  TransferCame : (link : ℕ) (part : Part) (payload : List ℕ) → DeliveryEvent
  -- a delivery is whole, and what goes to the client of it, where it has an image
  Arrived : (arriving : Arriving) (content : Option Content) (again : Bool) → DeliveryEvent
  -- a link is no more
  LinkDropped : (link : ℕ) → DeliveryEvent
  -- the first byte of a deliver or get-ok was taken, and the last of its content
  Delivered : (number : ℕ) → DeliveryEvent
  Written : (tag : ℕ) → DeliveryEvent
  -- an ack, nack, reject or recover of the client
  Answered : (tag : ℕ) (multiple : Bool) (settle : Settle) → DeliveryEvent
  -- a consumer was cancelled
  Cancelled : (link : ℕ) → DeliveryEvent
  -- the life's closing event
  Closed : DeliveryEvent
  -- the container's end was lost or shut
  EndLost : DeliveryEvent
  -- a basic.qos
  PrefetchSet : (count : ℕ) → DeliveryEvent
  GlobalSet : (count : ℕ) → DeliveryEvent
  -- a disposition went (AMQP 1.0 2.7.6)
  SettleSent : (settle : NextSettle) → DeliveryEvent
  -- a flow of a link went
  GrantSent : (grant : NextGrant) → DeliveryEvent
  -- the get-empty of a link's get is noted
  Emptied : (link : ℕ) → DeliveryEvent
  -- the lines that the report was owed were reported
  LinesTold : DeliveryEvent

abbrev pub no_deliveries : ℕ → DeliveryState
no_deliveries life = record {
  life = life;
  links = [];
  list = [];
  arrived = 0;
  tags = 0;
  gets = 0;
  prefetch = 0;
  global = 0;
  closed = false;
}

-- each delivery is changed, and each link counts those that are left
abbrev pub with_list : List Delivery → DeliveryState → DeliveryState
with_list list s = record s { list = list; links = map (recount list) s.links }

abbrev pub each : (Delivery → Delivery) → DeliveryState → DeliveryState
each f s = with_list (filter is_open (map (λ d. trimmed (f d)) s.list)) s

abbrev pub each_link : (ReceivingLink → ReceivingLink) → DeliveryState → DeliveryState
each_link f s = record s { links = map f s.links }

abbrev pub after_event : DeliveryEvent → DeliveryState → DeliveryState
after_event (LinkAdded link kind) s =
    with_list s.list (record s { links = s.links ++ new_link link kind s.prefetch ∷ [] })
after_event (LinkAttached link count) s = each_link (link_attached link count) s
after_event (LinkFlowed link count) s = each_link (link_flowed link count) s
after_event (LinkEchoed link) s = each_link (link_echoed link) s
after_event (GetCame link no_ack) s =
    each_link (link_waits link (s.gets + 1) no_ack) (record s { gets = s.gets + 1 })
after_event (TransferCame link part payload) s =
    with_list s.list (record s {
      links = change_first (has_number link) (transfer_came part payload) s.links;
    })
after_event (Arrived arriving content again) s =
    with_list (s.list ++ new_delivery s.closed (s.arrived + 1) arriving content again ∷ [])
    (each_link (taken_from arriving.link (is_some content)) (record s { arrived = s.arrived + 1 }))
after_event (LinkDropped link) s =
    each (link_dropped link) (record s { links = without link s.links })
after_event (Delivered number) s =
    each (delivered number (s.tags + 1)) (record s { tags = s.tags + 1 })
after_event (Written tag) s = each (written tag) s
after_event (Answered tag multiple settle) s = each (answered tag multiple settle) s
after_event (Cancelled link) s = each (cancelled link) (each_link (link_cancelled link) s)
after_event Closed s = each closed (each_link link_closed (record s { closed = true }))
after_event EndLost s = each end_lost s
after_event (PrefetchSet count) s = record s { prefetch = count }
after_event (GlobalSet count) s = record s { global = count }
after_event (SettleSent settle) s = each (settle_sent settle) s
after_event (GrantSent grant) s = each_link (flow_sent grant.link grant.credit grant.cause) s
after_event (Emptied link) s = each_link (get_emptied link) s
after_event LinesTold s = each reported s

-- newest first
abbrev pub after_events : ℕ → List DeliveryEvent → DeliveryState
after_events life [] = no_deliveries life
after_events life (x ∷ h) = after_event x (after_events life h)

-- those for which something is still to come then
abbrev pub open_after : ℕ → List DeliveryEvent → List Delivery
open_after life h = (after_events life h).list
