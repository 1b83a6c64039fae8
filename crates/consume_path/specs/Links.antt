-- The receiving links of a life, and what an event does to each (AMQP 1.0 2.6).
use Rattle.std.specs.Prelude.{ℕ, Bool, true, false, ◌+◌, ◌-◌, ◌^◌, ◌==◌, ◌&&◌, ◌||◌, not, nat_lt}
use Rattle.std.specs.Prelude.{if◌then◌else◌, List, [], ◌∷◌, ◌++◌, find, filter, count_by, Option}
use Rattle.std.specs.Prelude.{Some, None, is_some, bytes_eq}
use Rattle.std.specs.Option.{option_map}
use Rattle.std.specs.List.{list_any}
use Rattle.links_10.specs.Recv.{new_recv, asked_recv, after_attach, after_peer_flow, after_grant}
use Rattle.links_10.specs.Recv.{after_arrival, recounted, after_cancel}
use Rattle.links_10.specs.declared.recv.Receiving.{Receiving}
use Rattle.consume_path.specs.declared.delivery.Delivery.{Delivery}
use Rattle.consume_path.specs.declared.delivery.Taker.{Taker}
use Rattle.consume_path.specs.declared.delivery.Taker.TheVariants.{Nobody, Getter}
use Rattle.consume_path.specs.declared.delivery.Taker.TheVariants.{Consumer as Consumes}
use Rattle.consume_path.specs.declared.link_changes.LinkChange.{LinkChange}
use Rattle.consume_path.specs.declared.link_changes.LinkChange.TheVariants.{Attached, Flowed}
use Rattle.consume_path.specs.declared.link_changes.LinkChange.TheVariants.{Echoed, Waits}
use Rattle.consume_path.specs.declared.link_changes.LinkChange.TheVariants.{Cancelled, FlowSent}
use Rattle.consume_path.specs.declared.link_changes.LinkChange.TheVariants.{Emptied}
use Rattle.consume_path.specs.declared.receiving.Cause.{Cause}
use Rattle.consume_path.specs.declared.receiving.Cause.TheVariants.{Refill, Stop, Get as Asks, Echo}
use Rattle.consume_path.specs.declared.receiving.Part.{Part}
use Rattle.consume_path.specs.declared.receiving.Partial.{Partial}
use Rattle.consume_path.specs.declared.receiving.ReceivingLink.{ReceivingLink}
use Rattle.consume_path.specs.declared.receiving.RecvKind.{RecvKind}
use Rattle.consume_path.specs.declared.receiving.RecvKind.TheVariants.{Consumer, Get, Probe}
use Rattle.consume_path.specs.declared.receiving.WaitingGet.{WaitingGet}
use Rattle.consume_path.specs.Items.{is_held, is_out, limit_of, is_on}

abbrev pub has_number : ℕ → ReceivingLink → Bool
has_number link l = l.link == link

abbrev pub link_of : List ReceivingLink → ℕ → Option ReceivingLink
link_of links link = find (has_number link) links

-- what holds of the link with this number
abbrev pub in_link : (ReceivingLink → Bool) → Option ReceivingLink → Bool
in_link test None = false
in_link test (Some l) = test l

-- the delivery-count of a link (AMQP 1.0 2.6.7)
abbrev pub count_in : Option ReceivingLink → ℕ
count_in None = 0
count_in (Some l) = l.state.count

-- consumer tags

abbrev pub tag_by : RecvKind → List ℕ
tag_by (Consumer tag no_ack) = tag
tag_by Get = []
tag_by Probe = []

abbrev pub tag_in : Option ReceivingLink → List ℕ
tag_in None = []
tag_in (Some l) = tag_by l.kind

abbrev pub is_tagged : List ℕ → RecvKind → Bool
is_tagged tag (Consumer own no_ack) = bytes_eq own tag
is_tagged tag Get = false
is_tagged tag Probe = false

-- a consumer that isn't cancelled has this tag (AMQP 0-9-1 1.8.3.3)
abbrev pub has_tag : List ℕ → ReceivingLink → Bool
has_tag tag l = is_tagged tag l.kind && not l.cancelled

abbrev pub is_tag_used : List ℕ → List ReceivingLink → Bool
is_tag_used tag links = list_any (has_tag tag) links

-- its link
abbrev pub consumer_with : List ℕ → List ReceivingLink → Option ReceivingLink
consumer_with tag links = find (has_tag tag) links

abbrev pub consumer_link : List ℕ → List ReceivingLink → Option ℕ
consumer_link tag links = option_map (λ l. l.link) (consumer_with tag links)

-- a link that was asked for, and isn't attached yet

-- without a limit the quota is 64 (the gateway's own)
abbrev pub free_quota : ℕ
free_quota = 64

-- the prefetch limits a consumer that acknowledges, where it isn't 0 (AMQP 0-9-1 1.8.3.1)
abbrev pub limit_by : RecvKind → ℕ → Option ℕ
limit_by (Consumer tag no_ack) prefetch =
    if no_ack || (prefetch == 0) then None else Some prefetch
limit_by Get prefetch = None
limit_by Probe prefetch = None

abbrev pub or_free : Option ℕ → ℕ
or_free None = free_quota
or_free (Some limit) = limit

-- credit is stated by itself on a consumer's link alone
abbrev pub first_state : RecvKind → Option ℕ → Receiving
first_state (Consumer tag no_ack) limit = new_recv (or_free limit)
first_state Get limit = asked_recv
first_state Probe limit = asked_recv

abbrev pub new_link : ℕ → RecvKind → ℕ → ReceivingLink
new_link link kind prefetch = record {
  link = link;
  kind = kind;
  limit = limit_by kind prefetch;
  attached = false;
  state = first_state kind (limit_by kind prefetch);
  partial = None;
  cancelled = false;
  stopping = false;
  echoes = 0;
  get = None;
}

abbrev pub without : ℕ → List ReceivingLink → List ReceivingLink
without link links = filter (λ l. not (has_number link l)) links

-- transfers

-- the delivery of the next transfer is one that begins
abbrev pub is_between : ReceivingLink → Bool
is_between l = not (is_some l.partial)

abbrev pub id_or : ℕ → Option ℕ → ℕ
id_or id None = id
id_or id (Some own) = own

abbrev pub id_in : Option Partial → Option ℕ → ℕ
id_in None id = id_or 0 id
id_in (Some p) id = p.id

abbrev pub settled_in : Option Partial → Bool
settled_in None = false
settled_in (Some p) = p.settled

abbrev pub bytes_in : Option Partial → List ℕ
bytes_in None = []
bytes_in (Some p) = p.bytes

abbrev pub is_whole : Option Partial → Bool
is_whole None = false
is_whole (Some p) = p.whole

-- a transfer goes on with its delivery (AMQP 1.0 2.6.14); it came settled where one of its
-- transfers did (AMQP 1.0 2.7.5)
abbrev pub joined : Part → List ℕ → Option Partial → Option Partial
joined part payload before = if part.aborted then None else Some (record {
  id = id_in before part.id;
  settled = settled_in before || part.settled;
  bytes = bytes_in before ++ payload;
  whole = not part.more;
})

-- a transfer begins a delivery, or goes on with one
abbrev pub begun : ReceivingLink → ReceivingLink
begun l = record l { state = if is_between l then after_arrival l.state else l.state }

-- gets

abbrev pub was_asked : Option WaitingGet → Option WaitingGet
was_asked None = None
was_asked (Some g) = Some (record g { asked = true })

-- nothing comes for it
abbrev pub found_empty : Option WaitingGet → Option WaitingGet
found_empty None = None
found_empty (Some g) = Some (record g { empty = true })

-- it has the delivery, unless it was found empty before
abbrev pub served : Option WaitingGet → Option WaitingGet
served None = None
served (Some g) = if g.empty then Some g else None

abbrev pub is_asked : Option WaitingGet → Bool
is_asked None = false
is_asked (Some g) = g.asked

abbrev pub is_empty : Option WaitingGet → Bool
is_empty None = false
is_empty (Some g) = g.empty

-- its flow is still to go
abbrev pub is_to_ask : Option WaitingGet → Bool
is_to_ask None = false
is_to_ask (Some g) = not g.asked && not g.empty

-- whom an arrival on the link goes to

abbrev pub getter_of : Option WaitingGet → Taker
getter_of None = Nobody
getter_of (Some g) = if g.empty then Nobody else Getter g.number g.no_ack

abbrev pub taker_by : RecvKind → Bool → Option ℕ → Option WaitingGet → Taker
taker_by (Consumer tag no_ack) cancelled limit get =
    if cancelled then Nobody else Consumes no_ack limit
taker_by Get cancelled limit get = getter_of get
taker_by Probe cancelled limit get = Nobody

abbrev pub taker_of : ReceivingLink → Taker
taker_of l = taker_by l.kind l.cancelled l.limit l.get

-- what an event does to each link

abbrev pub on : {A : Type 0} → ℕ → ReceivingLink → A → A → A
on link l new old = if has_number link l then new else old

abbrev pub link_attached : ℕ → ℕ → ReceivingLink → ReceivingLink
link_attached link count l = record l {
  attached = on link l true l.attached;
  state = on link l (after_attach count l.state) l.state;
}

-- a flow leaves a get without credit: the get's own flow went, and no delivery is begun
abbrev pub leaves_empty : ℕ → ReceivingLink → Bool
leaves_empty count l =
    is_asked l.get && is_between l && ((after_peer_flow count l.state).credit == 0)

abbrev pub link_flowed : ℕ → ℕ → ReceivingLink → ReceivingLink
link_flowed link count l = record l {
  state = on link l (after_peer_flow count l.state) l.state;
  get = if has_number link l && leaves_empty count l then found_empty l.get else l.get;
}

-- the flows that answer echoes are counted up to 2^64 - 1
abbrev pub one_more : ℕ → ℕ
one_more n = if nat_lt (n + 1) (2 ^ 64) then n + 1 else n

abbrev pub link_echoed : ℕ → ReceivingLink → ReceivingLink
link_echoed link l = record l { echoes = on link l (one_more l.echoes) l.echoes }

abbrev pub new_get : ℕ → Bool → WaitingGet
new_get number no_ack =
    record { number = number; no_ack = no_ack; asked = false; empty = false }

abbrev pub link_waits : ℕ → ℕ → Bool → ReceivingLink → ReceivingLink
link_waits link number no_ack l =
    record l { get = on link l (Some (new_get number no_ack)) l.get }

-- an aborted delivery leaves a get without one (AMQP 1.0 2.7.5)
abbrev pub transfer_came : Part → List ℕ → ReceivingLink → ReceivingLink
transfer_came part payload l = record l {
  state = if is_between l then after_arrival l.state else l.state;
  partial = joined part payload l.partial;
  get = if part.aborted then found_empty l.get else l.get;
}

-- the link with this number is changed
abbrev pub change_first : {A : Type 0} → (A → Bool) → (A → A) → List A → List A
change_first here f [] = []
change_first here f (x ∷ xs) = if here x then f x ∷ xs else x ∷ change_first here f xs

-- its whole delivery is taken: a get has it where it has an image, else nothing comes
abbrev pub taken_from : ℕ → Bool → ReceivingLink → ReceivingLink
taken_from link image l = record l {
  partial = on link l None l.partial;
  get = on link l (if image then served l.get else found_empty l.get) l.get;
}

abbrev pub link_cancelled : ℕ → ReceivingLink → ReceivingLink
link_cancelled link l = record l {
  state = on link l (after_cancel l.state) l.state;
  cancelled = on link l true l.cancelled;
  stopping = on link l true l.stopping;
}

abbrev pub link_closed : ReceivingLink → ReceivingLink
link_closed l = record l { state = after_cancel l.state }

abbrev pub is_stop : Cause → Bool
is_stop Refill = false
is_stop Stop = true
is_stop Asks = false
is_stop Echo = false

abbrev pub is_ask : Cause → Bool
is_ask Refill = false
is_ask Stop = false
is_ask Asks = true
is_ask Echo = false

abbrev pub is_echo : Cause → Bool
is_echo Refill = false
is_echo Stop = false
is_echo Asks = false
is_echo Echo = true

-- a flow of the link went, for this cause
abbrev pub flow_sent : ℕ → ℕ → Cause → ReceivingLink → ReceivingLink
flow_sent link credit cause l = record l {
  state = on link l (after_grant credit l.state) l.state;
  stopping = if has_number link l && is_stop cause then false else l.stopping;
  get = if has_number link l && is_ask cause then was_asked l.get else l.get;
  echoes = if has_number link l && is_echo cause then l.echoes - 1 else l.echoes;
}

abbrev pub get_emptied : ℕ → ReceivingLink → ReceivingLink
get_emptied link l = record l { get = on link l None l.get }

abbrev pub link_changed : ℕ → LinkChange → ReceivingLink → ReceivingLink
link_changed link (Attached count) l = link_attached link count l
link_changed link (Flowed count) l = link_flowed link count l
link_changed link Echoed l = link_echoed link l
link_changed link (Waits number no_ack) l = link_waits link number no_ack l
link_changed link Cancelled l = link_cancelled link l
link_changed link (FlowSent credit cause) l = flow_sent link credit cause l
link_changed link Emptied l = get_emptied link l

-- what counts in a link's quota

-- on a limited link what the client hasn't settled; on another what is held
abbrev pub counts : Delivery → Bool
counts d = is_held d.place || (is_out d.place && is_some (limit_of d.taker))

abbrev pub counts_on : ℕ → Delivery → Bool
counts_on link d = is_on link d.link && counts d

abbrev pub one_if : Bool → ℕ
one_if b = if b then 1 else 0

-- a delivery counts from its first transfer on
abbrev pub counted_on : List Delivery → ReceivingLink → ℕ
counted_on list l = count_by (counts_on l.link) list + one_if (is_some l.partial)

abbrev pub recount : List Delivery → ReceivingLink → ReceivingLink
recount list l = record l { state = recounted (counted_on list l) l.state }
