-- A session with what it carries, as contracts see it: before any event, and after each.
use Rattle.std.specs.Prelude.{◌≡◌, ℕ, zero, suc, Bool, true, false, not, ◌==◌, ◌&&◌, ◌||◌, ◌+◌}
use Rattle.std.specs.Prelude.{nat_lt}
use Rattle.std.specs.Prelude.{if◌then◌else◌, bytes_eq, codes, decimal, length, is_some}
use Rattle.std.specs.Prelude.{List, [], ◌∷◌, ◌++◌, count_by, drop, filter, find, Option, Some, None}
use Rattle.std.specs.List.{list_any}
use Rattle.publish_path.specs.Links.{link_of, link_to}
use Rattle.publish_path.specs.Offers.{frame_sent, is_pending, links_after, waits_on}
use Rattle.publish_path.specs.Publishes.{PublishState, TakenUp, OutcomeCame, LinkGone, ConfirmSent}
use Rattle.publish_path.specs.Publishes.{LinesTold, ReturnSent, after_event, is_told, no_publishes}
use Rattle.publish_path.specs.declared.publish.Confirm.{Confirm}
use Rattle.publish_path.specs.declared.publish.NextFrame.{NextFrame}
use Rattle.publish_path.specs.declared.publish.Outcome.{Outcome}
use Rattle.publish_path.specs.declared.publish.Publish.{Publish}
use Rattle.publish_path.specs.declared.send_links.SendingLink.{SendingLink}
use Rattle.consume_path.specs.Deliveries.{DeliveryState, Answered, Arrived, Closed, Delivered}
use Rattle.consume_path.specs.Deliveries.{Emptied, EndLost, GetCame, GrantSent, LinkAdded}
use Rattle.consume_path.specs.Deliveries.{LinkAttached, LinkDropped}
use Rattle.consume_path.specs.Deliveries.{LinkEchoed, LinkFlowed, SettleSent, TransferCame, Written}
use Rattle.consume_path.specs.Deliveries.{LinesTold as DeliveriesTold, no_deliveries}
use Rattle.consume_path.specs.Deliveries.{Cancelled, GlobalSet, PrefetchSet}
use Rattle.consume_path.specs.Deliveries as deliveries
use Rattle.consume_path.specs.Links.{consumer_link, is_tag_used, link_of as receiving_link}
use Rattle.consume_path.specs.Links.{tag_in}
use Rattle.consume_path.specs.Offers.{arriving_in, content_of, fault_at, next_grant_of}
use Rattle.consume_path.specs.Offers.{awaits_get, holds, is_at_rest, is_drained, is_over}
use Rattle.consume_path.specs.Offers.{next_settle_of}
use Rattle.consume_path.specs.Offers.{takes_get}
use Rattle.consume_path.specs.declared.delivery.Content.{Content}
use Rattle.consume_path.specs.declared.delivery.NextSettle.{NextSettle}
use Rattle.consume_path.specs.declared.delivery.Settle.{Settle}
use Rattle.consume_path.specs.declared.receiving.NextGrant.{NextGrant}
use Rattle.consume_path.specs.declared.receiving.Part.{Part}
use Rattle.consume_path.specs.declared.receiving.ReceivingLink.{ReceivingLink}
use Rattle.consume_path.specs.declared.receiving.RecvKind.{RecvKind}
use Rattle.consume_path.specs.declared.receiving.RecvKind.TheVariants.{Consumer, Get, Probe}
use Rattle.consume_path.specs.declared.receiving.TransferFault.{TransferFault}
use Rattle.session_path.specs.Links.{LinksState, all_lost, asked_by, attached, credit_in}
use Rattle.session_path.specs.Links.{free_number, has_number, is_given, is_parting}
use Rattle.session_path.specs.Links.{is_stage_refused}
use Rattle.session_path.specs.Links.{is_left, is_stage_failed, is_stage_whole, is_to_part}
use Rattle.session_path.specs.Links.{is_stage_open, is_wanting, limited, link_asked, link_detached}
use Rattle.session_path.specs.Links.{link_failed, link_flowed, linked_to, lowest, named, no_links}
use Rattle.session_path.specs.Links.{parted, told_on, with_receiver, without_receivers}
use Rattle.session_path.specs.Links.{without_wanted}
use Rattle.session_path.specs.declared.path.AttachHeard.{AttachHeard}
use Rattle.session_path.specs.declared.path.Awaited.{Awaited}
use Rattle.session_path.specs.declared.path.DeliverDue.{DeliverDue}
use Rattle.session_path.specs.declared.path.PathLink.{PathLink}
use Rattle.session_path.specs.declared.path.PathOk.{PathOk}
use Rattle.session_path.specs.declared.path.PathOk.TheVariants as ok
use Rattle.session_path.specs.declared.path.Settling.{Settling}
use Rattle.session_path.specs.declared.path.Source.{Source}
use Rattle.session_path.specs.declared.path.Writing.{Writing}

pub record PathState : Type 0 where
  -- the publishes of the channel's life
  pub publishes : PublishState
  -- the deliveries to its consumers
  pub deliveries : DeliveryState
  -- the links that both go on
  pub links : LinksState
  -- the addresses of the receiving ones
  pub sources : List Source
  -- the basic.consume that waits for the container
  pub awaited : Option Awaited
  -- the content of a delivery of which frames are to go
  pub writing : Option Writing
  -- the dispositions of the container that are to be answered, in the order in which they came
  pub settles : List Settling
  -- confirm.select was taken up
  pub confirms : Bool
  -- the answers that are due to the client, in the order of its requests, and the names that some
  -- of them give back: a consumer tag, a queue
  pub oks : List PathOk
  pub names : List (List ℕ)
  -- the queue that was declared last; empty where none was
  pub queue : List ℕ
  -- the session is lost: what it transfers is passed over
  pub lost : Bool

abbrev pub with_deliveries : deliveries.DeliveryEvent → PathState → PathState
with_deliveries x s = record s { deliveries = deliveries.after_event x s.deliveries }

-- ---- a life

-- channel.open was taken up, as this life of the client's connection; no begin came
abbrev pub opened : ℕ → PathState
opened life = record {
  publishes = no_publishes life;
  deliveries = no_deliveries life;
  links = no_links;
  sources = [];
  awaited = None;
  writing = None;
  settles = [];
  confirms = false;
  oks = [];
  names = [];
  queue = [];
  lost = false;
}

-- the container's begin came, with the greatest handle that it takes (AMQP 1.0 2.7.2)
abbrev pub began : ℕ → PathState → PathState
began handle_max s = record s { links = limited handle_max s.links }

-- its closing event: what no client settled goes back, and no request waits any more; no receiving
-- link is asked for, and a content that is begun is cut (AMQP 0-9-1 1.5.2.5)
abbrev pub closed : PathState → PathState
closed s = record s {
  deliveries = deliveries.after_event Closed s.deliveries;
  links = without_receivers s.links;
  awaited = None;
  writing = None;
}

-- nothing crosses it any more: each publish without an outcome is lost, and what is transferred is
-- passed over
abbrev pub cut_off : PathState → PathState
cut_off s = record s { publishes = after_event (LinkGone None false) s.publishes; lost = true }

-- the container ended its session, or is at fault on it: that is its closing event, if none came
-- before. No link is asked for any more, and no transfer of the container counts; what else is due
-- on its links goes until the gateway's end (AMQP 1.0 2.5.5, 2.5.6)
abbrev pub lost : PathState → PathState
lost s = record (cut_off (closed s)) { links = without_wanted (closed s).links }

-- the gateway's end went, or the connection is lost: no link is left
abbrev pub ended : PathState → PathState
ended s = record (cut_off (closed s)) { links = all_lost (closed s).links; settles = [] }

-- the upstream end is lost or was shut: no disposition goes any more either
abbrev pub end_lost : PathState → PathState
end_lost s = with_deliveries EndLost (ended s)

-- ---- requests of the client

-- an answer is owed. A basic.qos for each consumer counts for those to come from then on
-- (RabbitMQ's meaning of `global`; AMQP 0-9-1 1.8.3.1)
abbrev pub prefetch_by : PathOk → DeliveryState → DeliveryState
prefetch_by ok.Flow d = d
prefetch_by ok.Declare d = d
prefetch_by ok.Select d = d
prefetch_by (ok.Consume link) d = d
prefetch_by (ok.Qos count global) d =
    if global then d else deliveries.after_event (PrefetchSet count) d
prefetch_by ok.Cancel d = d
prefetch_by ok.Queue d = d
prefetch_by ok.Get d = d
prefetch_by (ok.Empty link) d = d
prefetch_by ok.Recover d = d

abbrev pub owed : PathOk → PathState → PathState
owed ok s = record s {
  deliveries = prefetch_by ok s.deliveries;
  oks = s.oks ++ ok ∷ [];
}

-- confirm.select: publishes that are taken up from now on are confirmed
abbrev pub selected : PathState → PathState
selected s = record s { confirms = true }

abbrev pub number_of : Option SendingLink → ℕ
number_of None = 0
number_of (Some l) = l.link

-- a whole content was taken up, for this address, with this payload and the frames of its return,
-- on the link to the address
abbrev pub published_on : LinksState → List ℕ → List ℕ → List (List ℕ) → PathState → PathState
published_on links address payload back s = record s {
  publishes = after_event (TakenUp (number_of
      (link_to links.sending address)) s.confirms payload back) s.publishes;
  links = links;
}

abbrev pub published : List ℕ → List ℕ → List (List ℕ) → PathState → PathState
published address payload back s =
    published_on (linked_to address s.links) address payload back s

-- the consumer tag that a basic.consume asks for, or else `ctag-` and the least number from 1 whose
-- tag isn't in use on the channel (AMQP 0-9-1 1.8.3.3)
abbrev pub numbered_tag : ℕ → List ℕ
numbered_tag n = codes "ctag-" ++ decimal n

abbrev pub free_from : ℕ → ℕ → List ReceivingLink → ℕ
free_from zero n links = n
free_from (suc k) n links =
    if is_tag_used (numbered_tag n) links then free_from k (n + 1) links else n

abbrev pub tag_for : List ℕ → List ReceivingLink → List ℕ
tag_for [] links = numbered_tag (free_from (length links) 1 links)
tag_for (c ∷ tag) links = c ∷ tag

-- it is the address of the receiving link with this number
abbrev pub is_source_of : ℕ → Source → Bool
is_source_of link x = x.link == link

abbrev pub source_in : Option Source → List ℕ
source_in None = []
source_in (Some x) = x.address

abbrev pub address_in : ℕ → List Source → List ℕ
address_in link sources = source_in (find (is_source_of link) sources)

abbrev pub source_of : ℕ → PathState → List ℕ
source_of link s = address_in link s.sources

-- an empty name of a queue stands for the one that was declared last (AMQP 0-9-1 1.7.2.1)
abbrev pub queue_or : List ℕ → List ℕ → List ℕ
queue_or last [] = last
queue_or last (c ∷ queue) = c ∷ queue

-- a receiving link is wanted, of this kind and from this address
abbrev pub wanted_from : List ℕ → RecvKind → PathState → PathState
wanted_from address kind s =
    with_deliveries (LinkAdded (free_number s.links.links) kind)
    (record s {
      links = with_receiver s.links;
      sources = s.sources ++ record { link = free_number s.links.links; address = address } ∷ [];
    })

-- and a request waits for the container's attach
abbrev pub asked_from : List ℕ → RecvKind → Bool → Bool → PathState → PathState
asked_from address kind declares no_wait s = record (wanted_from address kind s) {
  awaited = Some (record {
    link = free_number s.links.links;
    declares = declares;
    no_wait = no_wait;
  });
}

-- basic.consume of this queue
abbrev pub consumed : List ℕ → List ℕ → Bool → Bool → PathState → PathState
consumed queue tag no_ack no_wait s =
    asked_from (queue_or s.queue queue) (Consumer (tag_for tag s.deliveries.links) no_ack) false
    no_wait s

-- queue.declare of this queue: a link to it is attached without credit, which shows that it is
-- there
abbrev pub declare_came : List ℕ → Bool → PathState → PathState
declare_came queue no_wait s = asked_from queue Probe true no_wait (record s { queue = queue })

-- basic.get of this queue waits on the link for gets from its address, or on a new one where there
-- is none that neither end detached or refused
abbrev pub is_serving : PathLink → Bool
is_serving l = l.receives && not (is_parting l || is_stage_refused l.stage)

abbrev pub is_get_link : List ℕ → DeliveryState → List Source → PathLink → Bool
is_get_link address d sources l =
    is_serving l
    && (takes_get l.link d.links && bytes_eq (address_in l.link sources) address)

abbrev pub get_link : List ℕ → PathState → Option PathLink
get_link address s = find (is_get_link address s.deliveries s.sources) s.links.links

abbrev pub got_on : Option PathLink → List ℕ → Bool → PathState → PathState
got_on None address no_ack s =
    with_deliveries (GetCame (free_number s.links.links) no_ack) (wanted_from address Get s)
got_on (Some l) address no_ack s = with_deliveries (GetCame l.link no_ack) s

abbrev pub got_from : List ℕ → Bool → PathState → PathState
got_from address no_ack s = got_on (get_link address s) address no_ack s

abbrev pub got : List ℕ → Bool → PathState → PathState
got queue no_ack s = got_from (queue_or s.queue queue) no_ack s

-- basic.cancel: the consumer with this tag takes no more, where there is one. The answer gives the
-- tag back (AMQP 0-9-1 1.8.3.5)
abbrev pub cancelled_on : Option ℕ → DeliveryState → DeliveryState
cancelled_on None d = d
cancelled_on (Some link) d = deliveries.after_event (Cancelled link) d

abbrev pub cancelled : List ℕ → Bool → PathState → PathState
cancelled tag no_wait s = record s {
  deliveries = cancelled_on (consumer_link tag s.deliveries.links) s.deliveries;
  oks = if no_wait then s.oks else s.oks ++ ok.Cancel ∷ [];
  names = if no_wait then s.names else s.names ++ tag ∷ [];
}

-- basic.ack, nack, reject or recover
abbrev pub answer_came : ℕ → Bool → Settle → PathState → PathState
answer_came tag multiple settle s = with_deliveries (Answered tag multiple settle) s

-- ---- what the container sends

-- an attach. That of a receiving link with a source begins its deliveries, and decides the request
-- that waits for it
abbrev pub is_awaited_on : ℕ → Option Awaited → Bool
is_awaited_on link None = false
is_awaited_on link (Some a) = a.link == link

-- it is to be answered
abbrev pub is_answered : ℕ → Option Awaited → Bool
is_answered link None = false
is_answered link (Some a) = a.link == link && not a.no_wait

abbrev pub declares_in : Option Awaited → Bool
declares_in None = false
declares_in (Some a) = a.declares

abbrev pub answer_on : ℕ → Bool → PathOk
answer_on link declares = if declares then ok.Queue else ok.Consume link

abbrev pub oks_by : ℕ → Option Awaited → List PathOk
oks_by link awaited =
    if is_answered link awaited then answer_on link (declares_in awaited) ∷ [] else []

-- the name that it gives back: the queue that is there, or the consumer's tag (AMQP 0-9-1 1.7.2.2,
-- 1.8.3.4). The link may be gone before the answer goes, and another have its number
abbrev pub name_in : Option Awaited → List ℕ → DeliveryState → List ℕ
name_in None queue d = []
name_in (Some a) queue d = if a.declares then queue else tag_in (receiving_link d.links a.link)

abbrev pub names_by : ℕ → Option Awaited → List ℕ → DeliveryState → List (List ℕ)
names_by link awaited queue d =
    if is_answered link awaited then name_in awaited queue d ∷ [] else []

-- what waits once this link is attached
abbrev pub still_awaited : ℕ → Option Awaited → Option Awaited
still_awaited link awaited = if is_awaited_on link awaited then None else awaited

abbrev pub begun_on : ℕ → ℕ → PathState → PathState
begun_on link count s =
    with_deliveries (LinkAttached link count) (record s {
      oks = s.oks ++ oks_by link s.awaited;
      names = s.names ++ names_by link s.awaited s.queue s.deliveries;
      awaited = still_awaited link s.awaited;
    })

abbrev pub begun_if : Option PathLink → AttachHeard → PathState → PathState
begun_if None a s = s
begun_if (Some l) a s = if l.receives && a.there then begun_on l.link a.count s else s

abbrev pub attach_came : AttachHeard → PathState → PathState
attach_came a s =
    begun_if (asked_by a s.links) a (record s { links = attached a s.links })

-- a get that is found empty is answered at once
abbrev pub emptied_in : ℕ → DeliveryState → DeliveryState
emptied_in link d =
    if is_drained link d.links then deliveries.after_event (Emptied link) d else d

abbrev pub empty_oks : ℕ → DeliveryState → List PathOk
empty_oks link d = if is_drained link d.links then ok.Empty link ∷ [] else []

-- a flow on a receiving link: its delivery-count, and that it asks for the state (AMQP 1.0 2.6.7)
abbrev pub counted_on : Option ℕ → ℕ → DeliveryState → DeliveryState
counted_on None link d = d
counted_on (Some count) link d = deliveries.after_event (LinkFlowed link count) d

abbrev pub echoed_on : Bool → ℕ → DeliveryState → DeliveryState
echoed_on false link d = d
echoed_on true link d = deliveries.after_event (LinkEchoed link) d

abbrev pub flow_in : ℕ → Option ℕ → Bool → DeliveryState → DeliveryState
flow_in link count echo d = echoed_on echo link (counted_on count link d)

abbrev pub receiver_in : Option PathLink → Option PathLink
receiver_in None = None
receiver_in (Some l) = if l.receives then Some l else None

abbrev pub receiver_flowed : PathLink → Option ℕ → Bool → PathState → PathState
receiver_flowed l count echo s = record s {
  deliveries = emptied_in l.link (flow_in l.link count echo s.deliveries);
  oks = s.oks ++ empty_oks l.link (flow_in l.link count echo s.deliveries);
}

abbrev pub flowed_by : Option PathLink → ℕ → Option ℕ → ℕ → Bool → Bool → PathState → PathState
flowed_by None peer count credit drain echo s =
    record s { links = link_flowed peer count credit drain echo s.links }
flowed_by (Some l) peer count credit drain echo s = receiver_flowed l count echo s

abbrev pub flow_came : ℕ → Option ℕ → ℕ → Bool → Bool → PathState → PathState
flow_came peer count credit drain echo s =
    flowed_by (receiver_in (named peer s.links)) peer count credit drain echo s

-- a transfer counts on a receiving link that neither end detached, unless the session is lost;
-- elsewhere it is passed over
abbrev pub taking_in : Option PathLink → Option PathLink
taking_in None = None
taking_in (Some l) = if l.receives && is_stage_whole l.stage then Some l else None

abbrev pub taking : ℕ → PathState → Option PathLink
taking peer s = if s.lost then None else taking_in (named peer s.links)

abbrev pub fault_on : Option PathLink → Part → ℕ → DeliveryState → Option TransferFault
fault_on None part size d = None
fault_on (Some l) part size d = fault_at part size l.link d

-- what is wrong with a transfer of so many bytes
abbrev pub transfer_fault : ℕ → Part → ℕ → PathState → Option TransferFault
transfer_fault peer part size s = fault_on (taking peer s) part size s.deliveries

-- the last transfer of a delivery
abbrev pub is_last : Part → Bool
is_last part = not part.more && not part.aborted

-- the whole delivery, and what goes to the client of that, where it has an image
abbrev pub arrival_on : ℕ → Option Content → Bool → DeliveryState → deliveries.DeliveryEvent
arrival_on link image again d =
    Arrived (arriving_in link (receiving_link d.links link)) image again

abbrev pub arrived_on : ℕ → Option Content → Bool → DeliveryState → DeliveryState
arrived_on link image again d = deliveries.after_event (arrival_on link image again d) d

abbrev pub transferred : ℕ → Part → List ℕ → Option Content → Bool → DeliveryState → DeliveryState
transferred link part payload image again d =
    if is_last part
    then arrived_on link image again (deliveries.after_event (TransferCame link part payload) d)
    else deliveries.after_event (TransferCame link part payload) d

-- a whole delivery with an image is what the get on its link waits for: the place of its get-ok is
-- among the answers to the channel's requests
abbrev pub is_served : ℕ → Part → Option Content → DeliveryState → Bool
is_served link part image d = is_last part && (is_some image && awaits_get link d.links)

abbrev pub transfer_oks : ℕ → Part → List ℕ → Option Content → Bool → DeliveryState → List PathOk
transfer_oks link part payload image again d =
    if is_served link part image d then ok.Get ∷ []
    else empty_oks link (transferred link part payload image again d)

abbrev pub transferred_on : Option PathLink → Part → List ℕ → Option Content → Bool → PathState
    → PathState
transferred_on None part payload image again s = s
transferred_on (Some l) part payload image again s = record s {
  deliveries = emptied_in l.link (transferred l.link part payload image again s.deliveries);
  oks = s.oks ++ transfer_oks l.link part payload image again s.deliveries;
}

abbrev pub transfer_came : ℕ → Part → List ℕ → Option Content → Bool → PathState → PathState
transfer_came peer part payload image again s =
    transferred_on (taking peer s) part payload image again s

-- a transfer passed a limit of its link
abbrev pub failed : ℕ → TransferFault → PathState → PathState
failed peer fault s = record s { links = link_failed peer fault s.links }

-- a detach: the link is lost for the publishes that have no outcome; its error says that there is
-- no such node, or not (AMQP 1.0 2.8.15)
abbrev pub lost_on : Bool → Option PathLink → PublishState → PublishState
lost_on not_found None p = p
lost_on not_found (Some l) p = after_event (LinkGone (Some l.link) not_found) p

abbrev pub sender_in : Option PathLink → Option PathLink
sender_in None = None
sender_in (Some l) = if l.receives then None else Some l

abbrev pub detach_came : ℕ → Bool → PathState → PathState
detach_came peer not_found s = record s {
  publishes = lost_on not_found (sender_in (named peer s.links)) s.publishes;
  links = link_detached peer s.links;
}

-- an outcome: a terminal state, or a settlement without a state; one that isn't settled is answered
-- where it is the first outcome of some transfer
abbrev pub last_or : ℕ → Option ℕ → ℕ
last_or first None = first
last_or first (Some last) = last

abbrev pub tells : ℕ → Option ℕ → PathState → Bool
tells first last s = list_any (is_told first (last_or first last)) s.publishes.list

abbrev pub settle_if : Bool → Settling → List Settling → List Settling
settle_if due settling list = if due then list ++ settling ∷ [] else list

abbrev pub outcome_came : ℕ → Option ℕ → Outcome → Bool → PathState → PathState
outcome_came first last outcome settled s = record s {
  publishes = after_event (OutcomeCame first (last_or first last) outcome) s.publishes;
  settles = settle_if (not settled && tells first last s)
      (record { first = first; last = last }) s.settles;
}

-- ---- what goes to the container

-- the attach of the first link that is wanted, under the name with this number
abbrev pub attach_sent : ℕ → PathState → PathState
attach_sent name s = record s { links = link_asked name s.links }

-- a flow of a link is due until the gateway's detach goes: for what the container asked of its
-- state; and to give its credit back once no publish waits on it or there is none to send by, as
-- after the container's detach (AMQP 1.0 2.6.7)
abbrev pub may_drain : List Publish → List SendingLink → PathLink → Bool
may_drain list sending l =
    not (list_any (waits_on l.link) list) || (credit_in (link_of sending l.link) == 0)

abbrev pub owes_flow : List Publish → List SendingLink → PathLink → Bool
owes_flow list sending l =
    not (is_given l) && (nat_lt 0 l.echoes || (nat_lt 0 l.drains && may_drain list sending l))

abbrev pub flow_of : List Publish → LinksState → Option PathLink
flow_of list links = find (owes_flow list links.sending) links.links

-- a flow of a receiving link is due as its deliveries say, until the gateway's detach went
abbrev pub granting_on : Option NextGrant → LinksState → Option PathLink
granting_on None links = None
granting_on (Some g) links = find (has_number g.link) links.links

abbrev pub grant_in : PathState → Option NextGrant
grant_in s = next_grant_of s.deliveries.closed s.deliveries.links

abbrev pub granting : PathState → Option PathLink
granting s = granting_on (grant_in s) s.links

-- of a sending and a receiving link the one with the lower number goes first
abbrev pub goes_first : Option PathLink → Option PathLink → Bool
goes_first None k = true
goes_first (Some l) None = false
goes_first (Some l) (Some k) = nat_lt k.link l.link

-- the flow that is due is of a receiving link
abbrev pub is_grant_next : PathState → Bool
is_grant_next s =
    is_some (granting s) && goes_first (flow_of s.publishes.list s.links) (granting s)

abbrev pub granted_by : Option NextGrant → PathState → PathState
granted_by None s = s
granted_by (Some g) s = with_deliveries (GrantSent g) s

-- the flow that is due went
abbrev pub link_flow_sent : PathState → PathState
link_flow_sent s =
    if is_grant_next s then granted_by (grant_in s) s
    else record s { links = told_on (flow_of s.publishes.list s.links) s.links }

-- a transfer frame with so many bytes of its publish's payload
abbrev pub transfer_sent : NextFrame → ℕ → PathState → PathState
transfer_sent frame count s = record s {
  publishes = after_event (frame_sent frame count s.publishes.list) s.publishes;
  links = record s.links { sending = links_after frame s.links.sending };
}

-- the disposition that answers the first of the container's
abbrev pub settle_sent : PathState → PathState
settle_sent s = record s { settles = drop 1 s.settles }

-- a link is given up where its handle is wanting: that with the lowest handle of the sending ones
-- on which no publish waits, is begun or lacks an outcome, and of those for gets on which none
-- waits or has its answer still to go, and each delivery had its disposition. No answer goes to a
-- closed life
abbrev pub is_empty_of : ℕ → PathOk → Bool
is_empty_of link (ok.Empty k) = k == link
is_empty_of link x = false

abbrev pub is_resting : DeliveryState → List PathOk → ℕ → Bool
is_resting d oks link =
    is_at_rest link d
    && not (holds link d.list || (not d.closed && list_any (is_empty_of link) oks))

abbrev pub is_idle : List Publish → DeliveryState → List PathOk → PathLink → Bool
is_idle list d oks l =
    is_stage_open l.stage
    && (if l.receives then is_resting d oks l.link
    else count_by (is_pending (Some l.link)) list == 0)

abbrev pub given_of : List Publish → DeliveryState → List PathOk → LinksState → Option PathLink
given_of list d oks s =
    if is_wanting s then lowest (filter (is_idle list d oks) s.links) else None

-- the disposition of role receiver that is due went (AMQP 1.0 2.7.6)
abbrev pub disposed_by : Option NextSettle → PathState → PathState
disposed_by None s = s
disposed_by (Some x) s = with_deliveries (SettleSent x) s

abbrev pub dispose_sent : PathState → PathState
dispose_sent s = disposed_by (next_settle_of s.deliveries.list) s

-- a receiving link has no deliveries any more, and no address, since another may take its number
abbrev pub without_source : ℕ → List Source → List Source
without_source link sources = filter (λ x. not (is_source_of link x)) sources

abbrev pub dropped : ℕ → PathState → PathState
dropped link s =
    with_deliveries (LinkDropped link)
    (record s { sources = without_source link s.sources })

abbrev pub dropped_by : Option PathLink → PathState → PathState
dropped_by None s = s
dropped_by (Some l) s = if l.receives then dropped l.link s else s

-- the gateway's detach is due of a link that the container detached or that failed, once no get-ok
-- is to go of it, and of one that both ends attached whose deliveries are over
abbrev pub is_left_by : DeliveryState → PathLink → Bool
is_left_by d l = is_to_part l && not (l.receives && holds l.link d.list)

abbrev pub is_done_with : DeliveryState → PathLink → Bool
is_done_with d l = l.receives && is_stage_open l.stage && is_over l.link d

abbrev pub parts : DeliveryState → PathLink → Bool
parts d l = is_left_by d l || is_done_with d l

-- of two links the one with the lower number
abbrev pub lower_of : Option PathLink → Option PathLink → Option PathLink
lower_of None k = k
lower_of (Some l) None = Some l
lower_of (Some l) (Some k) = if nat_lt k.link l.link then Some k else Some l

-- the link whose detach is due: the first of those, and of one that is given up
abbrev pub detaching_in : List Publish → DeliveryState → List PathOk → LinksState
    → Option PathLink
detaching_in list d oks s = lower_of (find (parts d) s.links) (given_of list d oks s)

abbrev pub detaching_of : PathState → Option PathLink
detaching_of s = detaching_in s.publishes.list s.deliveries s.oks s.links

-- it is one of them; it is open or failed, where the container didn't detach it
abbrev pub IsThere : LinksState → PathLink → Type 0
IsThere s l =
    (find (has_number l.link) s.links ≡ Some l)
    × (is_left l ≡ false → (is_stage_open l.stage || is_stage_failed l.stage) ≡ true)

-- the detach that is due went
abbrev pub detach_sent : PathState → PathState
detach_sent s =
    dropped_by (detaching_of s) (record s { links = parted (detaching_of s) s.links })

-- a detach of the container closes the channel where a consumer has the link, a request waits for
-- it, or deliveries of it aren't settled
abbrev pub is_needed : DeliveryState → ℕ → Bool
is_needed d link = not (is_over link d || is_at_rest link d)

abbrev pub closes_on : Option PathLink → PathState → Bool
closes_on None s = false
closes_on (Some l) s =
    not (is_given l) && (is_awaited_on l.link s.awaited || is_needed s.deliveries l.link)

abbrev pub closes_at : ℕ → PathState → Bool
closes_at peer s = closes_on (receiver_in (named peer s.links)) s

-- ---- what goes to the client

abbrev pub confirm_sent : Confirm → PathState → PathState
confirm_sent c s = record s { publishes = after_event (ConfirmSent c) s.publishes }

-- a frame of the return of this publish
abbrev pub return_sent : ℕ → PathState → PathState
return_sent number s = record s { publishes = after_event (ReturnSent number) s.publishes }

-- a deliver or a get-ok, which answers a request: its content goes behind it
abbrev pub deliver_sent : DeliverDue → PathState → PathState
deliver_sent d s =
    with_deliveries (Delivered d.next.number) (record s {
      writing = Some (record { id = d.next.id; tag = d.tag; gone = 0 });
      oks = if d.get then drop 1 s.oks else s.oks;
    })

-- the frames of the content of a delivery
abbrev pub frames_in : Option Content → List (List ℕ)
frames_in None = []
frames_in (Some c) = c.frames

abbrev pub frames_of : ℕ → PathState → List (List ℕ)
frames_of id s = frames_in (content_of id s.deliveries.list)

-- a frame of the content that is begun; none is to go behind the last
abbrev pub written_on : Option Writing → PathState → Option Writing
written_on None s = None
written_on (Some w) s =
    if nat_lt (w.gone + 1) (length (frames_of w.id s)) then Some (record w { gone = w.gone + 1 })
    else None

abbrev pub content_sent : PathState → PathState
content_sent s = record s { writing = written_on s.writing s }

-- the last byte of the last frame of the content with this tag
abbrev pub content_whole : ℕ → PathState → PathState
content_whole tag s = with_deliveries (Written tag) s

-- the answer that is due went. A basic.qos for all consumers together counts from its answer on
abbrev pub first_of : {A : Type 0} → List A → Option A
first_of [] = None
first_of (x ∷ xs) = Some x

abbrev pub global_by : Option PathOk → DeliveryState → DeliveryState
global_by None d = d
global_by (Some ok.Flow) d = d
global_by (Some ok.Declare) d = d
global_by (Some ok.Select) d = d
global_by (Some (ok.Consume link)) d = d
global_by (Some (ok.Qos count global)) d =
    if global then deliveries.after_event (GlobalSet count) d else d
global_by (Some ok.Cancel) d = d
global_by (Some ok.Queue) d = d
global_by (Some ok.Get) d = d
global_by (Some (ok.Empty link)) d = d
global_by (Some ok.Recover) d = d

-- it gives a name back
abbrev pub gives_name : Option PathOk → Bool
gives_name None = false
gives_name (Some ok.Flow) = false
gives_name (Some ok.Declare) = false
gives_name (Some ok.Select) = false
gives_name (Some (ok.Consume link)) = true
gives_name (Some (ok.Qos count global)) = false
gives_name (Some ok.Cancel) = true
gives_name (Some ok.Queue) = true
gives_name (Some ok.Get) = false
gives_name (Some (ok.Empty link)) = false
gives_name (Some ok.Recover) = false

abbrev pub ok_sent : PathState → PathState
ok_sent s = record s {
  deliveries = global_by (first_of s.oks) s.deliveries;
  oks = drop 1 s.oks;
  names = if gives_name (first_of s.oks) then drop 1 s.names else s.names;
}

abbrev pub lines_told : PathState → PathState
lines_told s =
    with_deliveries DeliveriesTold (record s { publishes = after_event LinesTold s.publishes })
