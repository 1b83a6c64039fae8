-- What the open deliveries and the links make due.
use Rattle.std.specs.Prelude.{ℕ, zero, suc, Bool, true, false, ◌+◌, ◌==◌, ◌&&◌, ◌||◌, not, nat_lt}
use Rattle.std.specs.Prelude.{if◌then◌else◌, List, [], ◌∷◌, ◌++◌, find, count_by, length, map}
use Rattle.std.specs.Prelude.{Option, Some, None, is_some}
use Rattle.std.specs.List.{list_any}
use Rattle.std.specs.Option.{option_map, option_or}
use Rattle.links_10.specs.Recv.{grant_of}
use Rattle.links_10.specs.Send.{advanced}
use Rattle.open_items.specs.declared.lost.LostItem.{LostItem}
use Rattle.consume_path.specs.declared.delivery.Arriving.{Arriving}
use Rattle.consume_path.specs.declared.delivery.Content.{Content}
use Rattle.consume_path.specs.declared.delivery.Delivery.{Delivery}
use Rattle.consume_path.specs.declared.delivery.NextDeliver.{NextDeliver}
use Rattle.consume_path.specs.declared.delivery.NextSettle.{NextSettle}
use Rattle.consume_path.specs.declared.delivery.Settle.{Settle}
use Rattle.consume_path.specs.declared.delivery.Taker.{Taker}
use Rattle.consume_path.specs.declared.delivery.Taker.TheVariants.{Nobody, Getter, Consumer}
use Rattle.consume_path.specs.declared.receiving.Arrival.{Arrival}
use Rattle.consume_path.specs.declared.receiving.Arrival.TheVariants.{More, Whole, Dropped}
use Rattle.consume_path.specs.declared.receiving.Cause.{Cause}
use Rattle.consume_path.specs.declared.receiving.Cause.TheVariants.{Refill, Stop, Get as Asks, Echo}
use Rattle.consume_path.specs.declared.receiving.NextGrant.{NextGrant}
use Rattle.consume_path.specs.declared.receiving.Part.{Part}
use Rattle.consume_path.specs.declared.receiving.Partial.{Partial}
use Rattle.consume_path.specs.declared.receiving.ReceivingLink.{ReceivingLink}
use Rattle.consume_path.specs.declared.receiving.RecvKind.{RecvKind}
use Rattle.consume_path.specs.declared.receiving.RecvKind.TheVariants.{Consumer as Consumes, Get}
use Rattle.consume_path.specs.declared.receiving.RecvKind.TheVariants.{Probe}
use Rattle.consume_path.specs.declared.receiving.TransferFault.{TransferFault}
use Rattle.consume_path.specs.declared.receiving.TransferFault.TheVariants.{InvalidField}
use Rattle.consume_path.specs.declared.receiving.TransferFault.TheVariants.{LimitExceeded}
use Rattle.consume_path.specs.declared.receiving.TransferFault.TheVariants.{SizeExceeded}
use Rattle.consume_path.specs.declared.searches.Ranked.{Ranked}
use Rattle.consume_path.specs.Deliveries.{DeliveryState, Arrived, TransferCame, after_event}
use Rattle.consume_path.specs.Deliveries.{with_list}
use Rattle.consume_path.specs.Items.{is_held, owes, owes_as, owed_settle, is_no_ack, limit_of}
use Rattle.consume_path.specs.Items.{is_on, is_outstanding, needs_content, is_covered, is_left}
use Rattle.consume_path.specs.Items.{new_delivery}
use Rattle.consume_path.specs.Links.{link_of, in_link, is_between, id_in, id_or, settled_in}
use Rattle.consume_path.specs.Links.{bytes_in, is_empty, is_to_ask, taker_of, begun, taken_from}
use Rattle.consume_path.specs.Links.{change_first, has_number}

-- the first of those with the least key

abbrev pub sooner : {R : Type 0} → (R → ℕ) → Option R → Option R → Option R
sooner key None r = r
sooner key (Some a) None = Some a
sooner key (Some a) (Some b) = if nat_lt (key b) (key a) then Some b else Some a

abbrev pub soonest : {A R : Type 0} → (R → ℕ) → (A → Option R) → List A → Option R
soonest key offer [] = None
soonest key offer (x ∷ xs) = sooner key (offer x) (soonest key offer xs)

-- transfers

-- a delivery that is held, unsettled, or whose content is being written has this delivery-id
abbrev pub has_open_id : ℕ → Delivery → Bool
has_open_id id d = d.id == id && (is_held d.place || d.writing || is_left d)

abbrev pub is_partial : ℕ → Option Partial → Bool
is_partial id None = false
is_partial id (Some p) = p.id == id

-- one that is begun has it
abbrev pub has_begun_id : ℕ → ReceivingLink → Bool
has_begun_id id l = is_partial id l.partial

abbrev pub is_open_id : ℕ → List ReceivingLink → List Delivery → Bool
is_open_id id links list = list_any (has_begun_id id) links || list_any (has_open_id id) list

-- a tag has at most 32 bytes (AMQP 1.0 2.8.7)
abbrev pub most_tag : ℕ
most_tag = 32

-- a delivery has at most so many bytes: the max-message-size of the gateway's attaches
abbrev pub most_bytes : ℕ
most_bytes = 16842752

abbrev pub is_longer : ℕ → Option ℕ → Bool
is_longer most None = false
is_longer most (Some length) = nat_lt most length

-- a first transfer lacks its delivery-id or its tag, a tag is too long, or a delivery is resumed
abbrev pub lacks_field : Bool → Part → Bool
lacks_field first part =
    (first && not (is_some part.id && is_some part.tag_length))
    || is_longer most_tag part.tag_length || part.resume

-- a later transfer has another id than its first
abbrev pub is_other : Option Partial → Option ℕ → Bool
is_other None id = false
is_other (Some p) None = false
is_other (Some p) (Some id) = not (p.id == id)

abbrev pub names_wrongly : Part → ReceivingLink → List ReceivingLink → List Delivery → Bool
names_wrongly part l links list =
    lacks_field (is_between l) part || (is_between l && is_open_id (id_or 0 part.id) links list)
    || is_other l.partial part.id

-- the first that is wrong with a transfer of so many bytes (AMQP 1.0 2.7.5, 2.8.18)
abbrev pub fault_of : Part → ℕ → ReceivingLink → List ReceivingLink → List Delivery
    → Option TransferFault
fault_of part size l links list =
    if names_wrongly part l links list then Some InvalidField
    else if is_between l && (l.state.limit_left == 0) then Some LimitExceeded
    else if nat_lt most_bytes (length (bytes_in l.partial) + size) then Some SizeExceeded
    else None

abbrev pub fault_in : Part → ℕ → Option ReceivingLink → List ReceivingLink → List Delivery
    → Option TransferFault
fault_in part size None links list = None
fault_in part size (Some l) links list = fault_of part size l links list

abbrev pub fault_at : Part → ℕ → ℕ → DeliveryState → Option TransferFault
fault_at part size link s = fault_in part size (link_of s.links link) s.links s.list

-- a transfer that isn't at fault (AMQP 1.0 2.6.14)
abbrev pub arrival_of : Part → Arrival
arrival_of part = if part.aborted then Dropped else (if part.more then More else Whole)

-- the whole delivery of a link, and whom it goes to
abbrev pub no_arrival : ℕ → Arriving
no_arrival link = record { link = link; id = 0; settled = false; taker = Nobody }

abbrev pub arriving_in : ℕ → Option ReceivingLink → Arriving
arriving_in link None = no_arrival link
arriving_in link (Some l) = record {
  link = link;
  id = id_in l.partial None;
  settled = settled_in l.partial;
  taker = taker_of l;
}

-- the whole delivery that a transfer ends
abbrev pub ending_in : ℕ → Part → Option ReceivingLink → Arriving
ending_in link part None = no_arrival link
ending_in link part (Some l) = record {
  link = link;
  id = id_in l.partial part.id;
  settled = settled_in l.partial || part.settled;
  taker = taker_of l;
}

-- a whole delivery is added, and its link is as it was
abbrev pub added : Arriving → Option Content → Bool → DeliveryState → DeliveryState
added a content again s = record s {
  list = s.list ++ new_delivery s.closed (s.arrived + 1) a content again ∷ [];
  arrived = s.arrived + 1;
}

-- a transfer ends the delivery of a link, which is taken of it, with an image or without
abbrev pub ended_on : ℕ → Bool → DeliveryState → DeliveryState
ended_on link image s = with_list s.list (record s {
  links = map (taken_from link image) (change_first (has_number link) begun s.links);
})

-- the whole delivery of a link is taken, with what goes to the client of it
abbrev pub taken_whole : ℕ → Option Content → Bool → DeliveryState → DeliveryState
taken_whole link content again s =
    after_event (Arrived (arriving_in link (link_of s.links link)) content again) s

-- a transfer ends its delivery, which is taken at once
abbrev pub arrived_whole : ℕ → Part → List ℕ → Option Content → Bool → DeliveryState → DeliveryState
arrived_whole link part payload content again s =
    taken_whole link content again (after_event (TransferCame link part payload) s)

abbrev pub payload_in : Option ReceivingLink → List ℕ
payload_in None = []
payload_in (Some l) = bytes_in l.partial

-- delivers

abbrev pub consumes : Taker → Bool
consumes Nobody = false
consumes (Getter number no_ack) = false
consumes (Consumer no_ack limit) = true

-- a consumer has it, and hasn't settled it
abbrev pub is_unsettled : Delivery → Bool
is_unsettled d = consumes d.taker && is_outstanding d

abbrev pub unsettled_on : ℕ → Delivery → Bool
unsettled_on link d = is_on link d.link && is_unsettled d

-- one more is within a limit
abbrev pub has_room : Option ℕ → ℕ → Bool
has_room None count = true
has_room (Some limit) count = nat_lt count limit

-- of all consumers; 0 is no limit
abbrev pub has_global_room : ℕ → List Delivery → Bool
has_global_room global list = global == 0 || nat_lt (count_by is_unsettled list) global

-- of so many unsettled ones on its link: both limits have room, or it needs no ack (AMQP 0-9-1
-- 1.8.3.1)
abbrev pub is_within : Bool → ℕ → Taker → Bool
is_within free count taker = is_no_ack taker || (free && has_room (limit_of taker) count)

abbrev pub deliver_of : ℕ → Delivery → NextDeliver
deliver_of link d = record { number = d.number; link = link; id = d.id; again = d.again }

-- gets by their numbers
abbrev pub getting : Taker → NextDeliver → Option Ranked
getting Nobody next = None
getting (Getter number no_ack) next = Some (record { rank = number; next = next })
getting (Consumer no_ack limit) next = None

-- consumers by the numbers of their links
abbrev pub consuming : Bool → ℕ → Taker → NextDeliver → Option Ranked
consuming free count taker next =
    if consumes taker && is_within free count taker then Some (record {
      rank = next.link;
      next = next;
    }) else None

abbrev pub on_link : Option ℕ → (ℕ → Option Ranked) → Option Ranked
on_link None offer = None
on_link (Some link) offer = offer link

abbrev pub get_offer : Delivery → Option Ranked
get_offer d =
    if is_held d.place then on_link d.link (λ link. getting d.taker (deliver_of link d)) else None

abbrev pub consumer_offer : Bool → List Delivery → Delivery → Option Ranked
consumer_offer free list d =
    if is_held d.place then on_link d.link (λ link. consuming free
    (count_by (unsettled_on link) list) d.taker (deliver_of link d)) else None

abbrev pub rank_of : Ranked → ℕ
rank_of r = r.rank

-- a get's before a consumer's
abbrev pub next_deliver_of : ℕ → List Delivery → Option NextDeliver
next_deliver_of global list =
    option_map (λ r. r.next)
    (option_or (soonest rank_of get_offer list)
    (soonest rank_of (consumer_offer (has_global_room global list) list) list))

abbrev pub has_content : ℕ → Delivery → Bool
has_content id d = d.id == id && needs_content d

abbrev pub content_in : Option Delivery → Option Content
content_in None = None
content_in (Some d) = d.content

-- what goes to the client of the delivery with this delivery-id
abbrev pub content_of : ℕ → List Delivery → Option Content
content_of id list = content_in (find (has_content id) list)

-- answers of the client

-- the tag is outstanding, or covers all
abbrev pub is_known : ℕ → Bool → List Delivery → Bool
is_known tag multiple list = (multiple && (tag == 0)) || list_any (is_covered tag false) list

-- dispositions

abbrev pub owes_of : Settle → Delivery → Bool
owes_of s d = owes_as s d.place

abbrev pub owes_id : Settle → ℕ → Delivery → Bool
owes_id s id d = owes_as s d.place && (d.id == id)

-- the run of consecutive delivery-ids behind last that are owed this state, n at most, in 32 bits
-- (AMQP 1.0 2.7.6)
abbrev pub run_to : ℕ → Settle → List Delivery → ℕ → ℕ
run_to zero s list last = last
run_to (suc n) s list last =
    if list_any (owes_id s (advanced last 1)) list then run_to n s list (advanced last 1) else last

abbrev pub run_from : Settle → List Delivery → ℕ → NextSettle
run_from s list id =
    record { first = id; last = run_to (count_by (owes_of s) list) s list id; settle = s }

abbrev pub settle_in : List Delivery → Option Settle → ℕ → Option NextSettle
settle_in list None id = None
settle_in list (Some s) id = Some (run_from s list id)

abbrev pub settle_from : List Delivery → Option Delivery → Option NextSettle
settle_from list None = None
settle_from list (Some d) = settle_in list (owed_settle d.place) d.id

-- from the first delivery that is owed one, in order of arrival
abbrev pub next_settle_of : List Delivery → Option NextSettle
next_settle_of list = settle_from list (find (λ d. owes d.place) list)

abbrev pub is_uncovered : ℕ → Delivery → Bool
is_uncovered link d = is_on link d.link && is_left d

-- each whole delivery of the link that didn't come settled had its disposition
abbrev pub is_all_covered : ℕ → List Delivery → Bool
is_all_covered link list = not (list_any (is_uncovered link) list)

-- nothing is to come of a link any more: its consumer is cancelled, or it has none and serves no
-- gets, and each delivery had its disposition
abbrev pub is_probe : RecvKind → Bool
is_probe (Consumes tag no_ack) = false
is_probe Get = false
is_probe Probe = true

abbrev pub is_over : ℕ → DeliveryState → Bool
is_over link s =
    in_link (λ l. l.cancelled || is_probe l.kind) (link_of s.links link)
    && is_all_covered link s.list

-- flows

abbrev pub is_for_gets : RecvKind → Bool
is_for_gets (Consumes tag no_ack) = false
is_for_gets Get = true
is_for_gets Probe = false

-- gets

-- a link is for gets, and none waits there
abbrev pub is_free_for_get : ReceivingLink → Bool
is_free_for_get l = is_for_gets l.kind && not (is_some l.get)

abbrev pub serves_gets : ℕ → List ReceivingLink → Bool
serves_gets link links = in_link (λ l. is_for_gets l.kind) (link_of links link)

abbrev pub takes_get : ℕ → List ReceivingLink → Bool
takes_get link links = in_link is_free_for_get (link_of links link)

-- one waits, and wasn't found empty
abbrev pub is_getting : ReceivingLink → Bool
is_getting l = is_some l.get && not (is_empty l.get)

abbrev pub awaits_get : ℕ → List ReceivingLink → Bool
awaits_get link links = in_link is_getting (link_of links link)

-- a delivery of the link waits for its deliver or get-ok
abbrev pub is_held_on : ℕ → Delivery → Bool
is_held_on link d = is_on link d.link && is_held d.place

abbrev pub holds : ℕ → List Delivery → Bool
holds link list = list_any (is_held_on link) list

-- no get waits on a link for gets, and each delivery had its disposition
abbrev pub is_at_rest : ℕ → DeliveryState → Bool
is_at_rest link s = takes_get link s.links && is_all_covered link s.list

-- the credit that is left; none on a cancelled link, and on a get's in a closed life
abbrev pub echo_credit : Bool → ReceivingLink → ℕ
echo_credit closed l =
    if l.cancelled || (closed && is_for_gets l.kind) then 0 else l.state.credit

abbrev pub grant_as : ReceivingLink → Cause → ℕ → NextGrant
grant_as l cause credit = record { link = l.link; credit = credit; cause = cause }

abbrev pub flow_if : Bool → NextGrant → Option NextGrant
flow_if due grant = if due then Some grant else None

-- of one link: a refill, a cancel's, a get's, and the answers to echoes (AMQP 1.0 2.6.7, 2.7.4)
abbrev pub flow_of : Bool → ReceivingLink → Option NextGrant
flow_of closed l =
    if l.attached then option_or (option_map (grant_as l Refill) (grant_of l.state))
    (option_or (flow_if l.stopping (grant_as l Stop 0))
    (option_or (flow_if (is_to_ask l.get && not closed) (grant_as l Asks 1))
    (flow_if (nat_lt 0 l.echoes) (grant_as l Echo (echo_credit closed l))))) else None

abbrev pub grant_link : NextGrant → ℕ
grant_link g = g.link

-- of the link with the least number
abbrev pub next_grant_of : Bool → List ReceivingLink → Option NextGrant
next_grant_of closed links = soonest grant_link (flow_of closed) links

-- the get that waits on a link is due a get-empty
abbrev pub is_drained : ℕ → List ReceivingLink → Bool
is_drained link links = in_link (λ l. is_empty l.get) (link_of links link)

-- lines of the report

abbrev pub line_of : ℕ → Delivery → Option LostItem
line_of life d = option_map (λ kind. record { life = life; number = d.id; kind = kind }) d.line

abbrev pub with_line : Option LostItem → List LostItem → List LostItem
with_line None items = items
with_line (Some item) items = item ∷ items

-- the lines that the report is owed, in order of arrival
abbrev pub lines_of : ℕ → List Delivery → List LostItem
lines_of life [] = []
lines_of life (d ∷ ds) = with_line (line_of life d) (lines_of life ds)
