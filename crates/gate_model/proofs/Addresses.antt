-- The addresses of links are short: those that clients name are, and those that exchanges stand for.
use Rattle.std.proofs.Common.{◌≡◌, ℕ, ◌≤◌, ◌==◌, ◌&&◌, not, Bool, true, false, if◌then◌else◌, List, [], ◌∷◌, ◌++◌}
use Rattle.std.proofs.Common.{length, map, find, Option, None, Some, is_some, refl, sym, subst, arith}
use Rattle.std.specs.List.{AllByRecursion}
use Rattle.publish_path.specs.Links.{address_in, address_of as address_on, asked_link, begun_on as begun_by, drained, flowed, has_number, link_of}
use Rattle.publish_path.specs.Links.{link_to, now_attached}
use Rattle.publish_path.specs.declared.send_links.SendingLink.{SendingLink}
use Rattle.consume_path.specs.declared.receiving.NextGrant.{NextGrant}
use Rattle.consume_path.specs.declared.delivery.NextSettle.{NextSettle}
use Rattle.consume_path.specs.declared.delivery.Content.{Content}
use Rattle.consume_path.specs.declared.receiving.Part.{Part}
use Rattle.consume_path.specs.declared.receiving.TransferFault.{TransferFault}
use Rattle.consume_path.specs.Offers.{next_settle_of}
use Rattle.session_path.specs.Due.{address_at}
use Rattle.session_path.specs.Events as event
use Rattle.session_path.specs.Events.{PathEvent, after_event, after_events}
use Rattle.session_path.specs.Links.{LinksState, asked_by, asked_on, attached, attached_as, detached_on, failed_by, failed_on, flowed_on}
use Rattle.session_path.specs.Links.{free_number, given_on, gone_on, is_left, is_stage_whole, is_wanted, linked_to, named, parted, put, told_on}
use Rattle.session_path.specs.Links.{with_link_to}
use Rattle.session_path.specs.Path.{PathState, begun_if, begun_on, detaching_of, dropped, disposed_by, dropped_by, flow_of, flowed_by, get_link}
use Rattle.session_path.specs.Path.{got_on, grant_in, granted_by}
use Rattle.session_path.specs.Path.{is_grant_next, is_source_of, link_flow_sent, queue_or, receiver_in, source_in, source_of, taking, transferred_on}
use Rattle.session_path.specs.declared.path.AttachDue.{AttachDue}
use Rattle.session_path.specs.declared.path.AttachHeard.{AttachHeard}
use Rattle.session_path.specs.declared.path.PathLink.{PathLink}
use Rattle.session_path.specs.declared.path.Source.{Source}
use Rattle.gate_model.proofs.Basics.{all_both}
use Rattle.gate_model.proofs.Consumers.{IfThere, all_found, all_left}

-- ---- of all of a list

-- ---- what a channel has

abbrev IsNear : SendingLink → Type 0
IsNear l = length l.address ≤ 255

abbrev AreNear : List SendingLink → Type 0
AreNear ls = AllByRecursion IsNear ls

abbrev AreNamed : List Source → Type 0
AreNamed xs = AllByRecursion (λ x. length x.address ≤ 255) xs

record Addressed (sending : List SendingLink) (sources : List Source) (queue : List ℕ) : Type 0 where
  near : AreNear sending
  named : AreNamed sources
  short : length queue ≤ 255

abbrev Has : PathState → Type 0
Has s = Addressed s.links.sending s.sources s.queue

abbrev KeepsAddress : (SendingLink → SendingLink) → Type 0
KeepsAddress f = (l : SendingLink) → (f l).address ≡ l.address

near_still : (f : SendingLink → SendingLink) (ls : List SendingLink) → KeepsAddress f → AreNear ls → AreNear (map f ls)
near_still f [] k a = tt
near_still f (l ∷ ls) k a = (subst (λ (x : List ℕ). length x ≤ 255) (sym (k l)) a.0, near_still f ls k a.1)

near_if : (b : Bool) (xs ys : List SendingLink) → AreNear xs → AreNear ys → AreNear (if b then xs else ys)
near_if true xs ys a e = a
near_if false xs ys a e = e

-- with other sending links
with_near : {ls ms : List SendingLink} {xs : List Source} {queue : List ℕ} → AreNear ms → Addressed ls xs queue → Addressed ms xs queue
with_near n a = record { near = n; named = a.named; short = a.short }

with_source : {ls : List SendingLink} {queue : List ℕ} (xs : List Source) (x : Source) → length x.address ≤ 255 → Addressed ls xs queue
    → Addressed ls (xs ++ x ∷ []) queue
with_source xs x s a = record { near = a.near; named = all_both (λ (y : Source). length y.address ≤ 255) xs (x ∷ []) a.named (s, tt); short = a.short }

queue_short : (last queue : List ℕ) → length last ≤ 255 → length queue ≤ 255 → length (queue_or last queue) ≤ 255
queue_short last [] a b = a
queue_short last (c ∷ queue) a b = b

-- ---- each event

-- what is named is short
abbrev pub IsShort : PathEvent → Type 0
IsShort (event.Published address payload back) = length address ≤ 255
IsShort (event.Consumed queue tag no_ack no_wait) = length queue ≤ 255
IsShort (event.Declared queue no_wait) = length queue ≤ 255
IsShort (event.GetAsked queue no_ack) = length queue ≤ 255
IsShort x = Unit {0}

if_has : (b : Bool) (x y : PathState) → Has x → Has y → Has (if b then x else y)
if_has true x y k m = k
if_has false x y k m = m

if_near : (b : Bool) (x y : LinksState) → AreNear x.sending → AreNear y.sending → AreNear (if b then x else y).sending
if_near true x y a e = a
if_near false x y a e = e

linked_near : (address : List ℕ) (s : LinksState) → length address ≤ 255 → AreNear s.sending → AreNear (linked_to address s).sending
linked_near address s short a =
    if_near (is_some (link_to s.sending address)) s (with_link_to address s) a
    (all_both IsNear s.sending (asked_link (free_number s.links) address ∷ []) a (short, tt))

got_has : (o : Option PathLink) (address : List ℕ) (no_ack : Bool) (s : PathState) → length address ≤ 255 → Has s → Has (got_on o address no_ack s)
got_has None address no_ack s short k = with_source s.sources (record { link = free_number s.links.links; address = address }) short k
got_has (Some l) address no_ack s short k = k

attached_near : (o : Option PathLink) (peer : ℕ) (there : Bool) (s : LinksState) → AreNear s.sending → AreNear (attached_as o peer there s).sending
attached_near None peer there s a = a
attached_near (Some l) peer there s a =
    near_if there (map (now_attached l.link) s.sending) s.sending (near_still (now_attached l.link) s.sending (λ x. refl) a) a

begun_has : (o : Option PathLink) (a : AttachHeard) (s : PathState) → Has s → Has (begun_if o a s)
begun_has None a s k = k
begun_has (Some l) a s k = if_has (l.receives && a.there) (begun_on l.link a.count s) s k k

flowed_near : (o : Option PathLink) (count : Option ℕ) (credit : ℕ) (drain echo : Bool) (s : LinksState) → AreNear s.sending
    → AreNear (flowed_on o count credit drain echo s).sending
flowed_near None count credit drain echo s a = a
flowed_near (Some l) count credit drain echo s a = near_still (flowed l.link count credit) s.sending (λ x. refl) a

flow_has : (o : Option PathLink) (peer : ℕ) (count : Option ℕ) (credit : ℕ) (drain echo : Bool) (s : PathState) → Has s
    → Has (flowed_by o peer count credit drain echo s)
flow_has None peer count credit drain echo s k = with_near (flowed_near (named peer s.links) count credit drain echo s.links k.near) k
flow_has (Some l) peer count credit drain echo s k = k

detached_near : (o : Option PathLink) (s : LinksState) → AreNear s.sending → AreNear (detached_on o s).sending
detached_near None s a = a
detached_near (Some l) s a = all_left IsNear (λ x. not (has_number l.link x)) s.sending a

taken_has : (o : Option PathLink) (part : Part) (payload : List ℕ) (image : Option Content) (again : Bool) (s : PathState) → Has s
    → Has (transferred_on o part payload image again s)
taken_has None part payload image again s k = k
taken_has (Some l) part payload image again s k = k

failed_near : (o : Option PathLink) (fault : TransferFault) (s : LinksState) → AreNear s.sending → AreNear (failed_on o fault s).sending
failed_near None fault s a = a
failed_near (Some l) fault s a = if_near (is_stage_whole l.stage && l.receives) (record s { links = put (failed_by fault l) s.links }) s a a

asked_near : (o : Option PathLink) (free : Option ℕ) (name : ℕ) (s : LinksState) → AreNear s.sending → AreNear (asked_on o free name s).sending
asked_near None free name s a = a
asked_near (Some l) None name s a = a
asked_near (Some l) (Some h) name s a = a

told_near : (o : Option PathLink) (s : LinksState) → AreNear s.sending → AreNear (told_on o s).sending
told_near None s a = a
told_near (Some l) s a = near_if (l.echoes == 0) (map (drained l.link) s.sending) s.sending (near_still (drained l.link) s.sending (λ x. refl) a) a

granted_has : (o : Option NextGrant) (s : PathState) → Has s → Has (granted_by o s)
granted_has None s k = k
granted_has (Some g) s k = k

told_has : (s : PathState) → Has s → Has (link_flow_sent s)
told_has s k =
    if_has (is_grant_next s) (granted_by (grant_in s) s) (record s { links = told_on (flow_of s.publishes.list s.links) s.links })
    (granted_has (grant_in s) s k) (with_near (told_near (flow_of s.publishes.list s.links) s.links k.near) k)

disposed_has : (o : Option NextSettle) (s : PathState) → Has s → Has (disposed_by o s)
disposed_has None s k = k
disposed_has (Some x) s k = k

parted_near : (o : Option PathLink) (s : LinksState) → AreNear s.sending → AreNear (parted o s).sending
parted_near None s a = a
parted_near (Some l) s a = if_near (is_left l) (gone_on (Some l) s) (given_on (Some l) s) a (all_left IsNear (λ x. not (has_number l.link x)) s.sending a)

dropped_has : (o : Option PathLink) (s : PathState) → Has s → Has (dropped_by o s)
dropped_has None s k = k
dropped_has (Some l) s k =
    if_has l.receives (dropped l.link s) s
    (record {
      near = k.near;
      named = all_left (λ (x : Source). length x.address ≤ 255) (λ x. not (is_source_of l.link x)) s.sources k.named;
      short = k.short;
    }) k

stays_short : (x : PathEvent) (s : PathState) → IsShort x → Has s → Has (after_event x s)
stays_short (event.Published address payload back) s g k = with_near (linked_near address s.links g k.near) k
stays_short (event.Consumed queue tag no_ack no_wait) s g k =
    with_source s.sources (record { link = free_number s.links.links; address = queue_or s.queue queue }) (queue_short s.queue queue k.short g) k
stays_short (event.Declared queue no_wait) s g k =
    with_source s.sources (record { link = free_number s.links.links; address = queue }) g (record { near = k.near; named = k.named; short = g })
stays_short (event.GetAsked queue no_ack) s g k =
    got_has (get_link (queue_or s.queue queue) s) (queue_or s.queue queue) no_ack s (queue_short s.queue queue k.short g) k
stays_short (event.AttachCame a) s g k =
    begun_has (asked_by a s.links) a (record s { links = attached a s.links }) (with_near (attached_near (asked_by a s.links) a.peer a.there s.links k.near) k)
stays_short (event.FlowCame peer count credit drain echo) s g k = flow_has (receiver_in (named peer s.links)) peer count credit drain echo s k
stays_short (event.DetachCame peer not_found) s g k = with_near (detached_near (named peer s.links) s.links k.near) k
stays_short (event.TransferCame peer part payload image again) s g k = taken_has (taking peer s) part payload image again s k
stays_short (event.LinkFailed peer fault) s g k = with_near (failed_near (named peer s.links) fault s.links k.near) k
stays_short (event.AttachSent name) s g k = with_near (asked_near (find is_wanted s.links.links) _ name s.links k.near) k
stays_short event.LinkFlowSent s g k = told_has s k
stays_short (event.TransferSent frame count) s g k =
    with_near (near_if frame.first (map (begun_by frame.link) s.links.sending) s.links.sending
    (near_still (begun_by frame.link) s.links.sending (λ l. refl) k.near) k.near) k
stays_short event.DisposeSent s g k = disposed_has (next_settle_of s.deliveries.list) s k
stays_short event.DetachSent s g k =
    dropped_has (detaching_of s) (record s { links = parted (detaching_of s) s.links }) (with_near (parted_near (detaching_of s) s.links k.near) k)
stays_short event.SessionLost s g k = with_near (all_left IsNear _ s.links.sending k.near) k
stays_short event.SessionEnded s g k = with_near tt k
stays_short event.UpLost s g k = with_near tt k
stays_short x s g k = k

has_short : (life : ℕ) (es : List PathEvent) → AllByRecursion IsShort es → Has (after_events life es)
has_short life [] a = record { near = tt; named = tt; short = omega arith }
has_short life (x ∷ es) a = stays_short x (after_events life es) a.0 (has_short life es a.1)

-- ---- the address of an attach

near_short : (o : Option SendingLink) → IfThere IsNear o → length (address_in o) ≤ 255
near_short None a = omega arith
near_short (Some l) a = a

named_short : (o : Option Source) → IfThere (λ x. length x.address ≤ 255) o → length (source_in o) ≤ 255
named_short None a = omega arith
named_short (Some x) a = a

pub address_short : (a : AttachDue) (life : ℕ) (es : List PathEvent) → AllByRecursion IsShort es → length (address_at a (after_events life es)) ≤ 255
address_short a life es all = by a.receives
  where
    s : PathState
    s = after_events life es

    k : Has s
    k = has_short life es all

    by : (b : Bool) → length (if b then source_of a.link s else address_on s.links.sending a.link) ≤ 255
    by true = named_short (find (is_source_of a.link) s.sources) (all_found (λ (x : Source). length x.address ≤ 255) (is_source_of a.link) s.sources k.named)
    by false = near_short (link_of s.links.sending a.link) (all_found IsNear (has_number a.link) s.links.sending k.near)
