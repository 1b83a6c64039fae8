-- What holds of each event of deliveries that an event of a path brings.
use Rattle.std.proofs.Common.{◌≡◌, ℕ, ◌&&◌, Bool, true, false, if◌then◌else◌, [], ◌∷◌, ◌++◌, Option, None, Some, refl}
use Rattle.std.specs.List.{AllByRecursion}
use Rattle.consume_path.specs.Deliveries as on
use Rattle.consume_path.specs.Deliveries.{DeliveryEvent, DeliveryState}
use Rattle.consume_path.specs.Links.{consumer_link}
use Rattle.consume_path.specs.Offers.{is_drained, next_settle_of}
use Rattle.consume_path.specs.declared.delivery.NextSettle.{NextSettle}
use Rattle.consume_path.specs.declared.receiving.NextGrant.{NextGrant}
use Rattle.consume_path.specs.declared.receiving.RecvKind.TheVariants.{Consumer, Get, Probe}
use Rattle.session_path.specs.Events as event
use Rattle.session_path.specs.Events.{PathEvent, arrivals, begins, cancels, counts, delivery_events, disposes, drops, echoes, empties, flows}
use Rattle.session_path.specs.Events.{gets, globals, grants, prefetches, transfers}
use Rattle.session_path.specs.Links.{asked_by, free_number, named}
use Rattle.session_path.specs.Path.{PathState, detaching_of, first_of, flow_in, get_link, grant_in, is_grant_next, is_last, queue_or, receiver_in}
use Rattle.session_path.specs.Path.{taking, arrival_on, tag_for, transferred}
use Rattle.session_path.specs.declared.path.PathLink.{PathLink}
use Rattle.session_path.specs.declared.path.PathOk.{PathOk}
use Rattle.session_path.specs.declared.path.PathOk.TheVariants as ok
use Rattle.gate_model.proofs.Basics.{all_both}

-- it neither adds a link, brings a delivery, nor ends a content or the life
abbrev pub is_mild : DeliveryEvent → Bool
is_mild (on.LinkAdded link k) = false
is_mild (on.Arrived a content again) = false
is_mild (on.Written tag) = false
is_mild on.Closed = false
is_mild on.EndLost = false
is_mild d = true

-- nor is a link attached or no more, a deliver or a get-ok begun, or a consumer cancelled
abbrev pub is_plain : DeliveryEvent → Bool
is_plain (on.LinkAttached link count) = false
is_plain (on.LinkDropped link) = false
is_plain (on.Delivered number) = false
is_plain (on.Cancelled link) = false
is_plain d = is_mild d

-- this holds of those that are not mild
abbrev pub OfEvent : (DeliveryEvent → Type 0) → PathState → PathEvent → Type 0
OfEvent P s (event.Consumed address tag no_ack no_wait) = P (on.LinkAdded (free_number s.links.links) (Consumer (tag_for tag s.deliveries.links) no_ack))
OfEvent P s (event.Declared queue no_wait) = P (on.LinkAdded (free_number s.links.links) Probe)
OfEvent P s (event.GetAsked queue no_ack) = P (on.LinkAdded (free_number s.links.links) Get)
OfEvent P s (event.TransferCame peer part payload image again) = (link : ℕ) (d : DeliveryState) → P (arrival_on link image again d)
OfEvent P s (event.ContentWhole tag) = P (on.Written tag)
OfEvent P s event.LifeClosed = P on.Closed
OfEvent P s event.SessionLost = P on.Closed
OfEvent P s event.SessionEnded = P on.Closed
OfEvent P s event.UpLost = P on.EndLost × P on.Closed
OfEvent P s x = Unit {0}

-- and of those that are not plain
abbrev pub OfEach : (DeliveryEvent → Type 0) → PathState → PathEvent → Type 0
OfEach P s (event.CancelCame tag no_wait) = (link : ℕ) → P (on.Cancelled link)
OfEach P s (event.AttachCame a) = (link count : ℕ) → P (on.LinkAttached link count)
OfEach P s event.DetachSent = (link : ℕ) → P (on.LinkDropped link)
OfEach P s (event.DeliverSent due) = P (on.Delivered due.next.number)
OfEach P s x = OfEvent P s x

module _ (P : DeliveryEvent → Type 0) (plain : (d : DeliveryEvent) → is_plain d ≡ true → P d) where
  one : (b : Bool) (d : DeliveryEvent) → P d → AllByRecursion P (if b then d ∷ [] else [])
  one true d p = (p, tt)
  one false d p = tt

  pub each_all : (s : PathState) (x : PathEvent) → OfEach P s x → AllByRecursion P (delivery_events s x)
  each_all s (event.Owed x) o = by x
    where
      by : (x : PathOk) → AllByRecursion P (prefetches x)
      by (ok.Qos count true) = tt
      by (ok.Qos count false) = (plain _ refl, tt)
      by x = tt
  each_all s (event.Consumed address tag no_ack no_wait) o = (o, tt)
  each_all s (event.CancelCame tag no_wait) o = by (consumer_link tag s.deliveries.links)
    where
      by : (c : Option ℕ) → AllByRecursion P (cancels c)
      by None = tt
      by (Some k) = (o k, tt)
  each_all s (event.Declared queue no_wait) o = (o, tt)
  each_all s (event.GetAsked queue no_ack) o = by (get_link (queue_or s.queue queue) s)
    where
      by : (g : Option PathLink) → AllByRecursion P (gets g no_ack s)
      by None = (plain _ refl, (o, tt))
      by (Some l) = (plain _ refl, tt)
  each_all s (event.AnswerCame tag multiple settle) o = (plain _ refl, tt)
  each_all s (event.AttachCame attach) o = by (asked_by attach s.links)
    where
      by : (l : Option PathLink) → AllByRecursion P (begins l attach)
      by None = tt
      by (Some l) = one (l.receives && attach.there) (on.LinkAttached l.link attach.count) (o l.link attach.count)
  each_all s (event.FlowCame peer count credit drain echo) o = by (receiver_in (named peer s.links))
    where
      counted : (o : Option ℕ) (k : ℕ) → AllByRecursion P (counts o k)
      counted None k = tt
      counted (Some c) k = (plain _ refl, tt)

      by : (o : Option PathLink) → AllByRecursion P (flows o count echo s.deliveries)
      by None = tt
      by (Some l) =
          all_both P (empties l.link (flow_in l.link count echo s.deliveries)) (echoes echo l.link ++ counts count l.link)
          (one (is_drained l.link _) (on.Emptied l.link) (plain _ refl))
          (all_both P (echoes echo l.link) (counts count l.link) (one echo (on.LinkEchoed l.link) (plain _ refl)) (counted count l.link))
  each_all s (event.TransferCame peer part payload image again) o = by (taking peer s)
    where
      by : (l : Option PathLink) → AllByRecursion P (transfers l part payload image again s.deliveries)
      by None = tt
      by (Some l) =
          let d : DeliveryState = on.after_event (on.TransferCame l.link part payload) s.deliveries in
          all_both P (empties l.link (transferred l.link part payload image again s.deliveries)) _ (one (is_drained l.link _) (on.Emptied l.link) (plain _ refl))
          (all_both P (arrivals (is_last part) l.link image again d) (on.TransferCame l.link part payload ∷ [])
          (one (is_last part) (arrival_on l.link image again d) (o l.link d)) (plain _ refl, tt))
  each_all s event.LinkFlowSent o = by (is_grant_next s) (grant_in s)
    where
      by : (b : Bool) (o : Option NextGrant) → AllByRecursion P (if b then grants o else [])
      by true None = tt
      by true (Some g) = (plain _ refl, tt)
      by false o = tt
  each_all s event.DisposeSent o = by (next_settle_of s.deliveries.list)
    where
      by : (o : Option NextSettle) → AllByRecursion P (disposes o)
      by None = tt
      by (Some x) = (plain _ refl, tt)
  each_all s event.DetachSent o = by (detaching_of s)
    where
      by : (l : Option PathLink) → AllByRecursion P (drops l)
      by None = tt
      by (Some l) = one l.receives (on.LinkDropped l.link) (o l.link)
  each_all s (event.DeliverSent due) o = (o, tt)
  each_all s (event.ContentWhole tag) o = (o, tt)
  each_all s (event.OkSent x) o = by (first_of s.oks)
    where
      by : (o : Option PathOk) → AllByRecursion P (globals o)
      by (Some (ok.Qos count true)) = (plain _ refl, tt)
      by (Some (ok.Qos count false)) = tt
      by (Some x) = tt
      by None = tt
  each_all s event.LinesWent o = (plain _ refl, tt)
  each_all s event.LifeClosed o = (o, tt)
  each_all s event.SessionLost o = (o, tt)
  each_all s event.SessionEnded o = (o, tt)
  each_all s event.UpLost o = (o.0, (o.1, tt))
  each_all s x o = tt

plain_mild : (d : DeliveryEvent) → is_plain d ≡ true → is_mild d ≡ true
plain_mild (on.LinkAttached link count) e = absurd cc
plain_mild (on.LinkDropped link) e = absurd cc
plain_mild (on.Delivered number) e = absurd cc
plain_mild (on.Cancelled link) e = absurd cc
plain_mild d e = e

pub event_all : (P : DeliveryEvent → Type 0) (mild : (d : DeliveryEvent) → is_mild d ≡ true → P d) (s : PathState) (x : PathEvent) → OfEvent P s x
    → AllByRecursion P (delivery_events s x)
event_all P mild s x o = each_all P (λ d e. mild d (plain_mild d e)) s x (by x o)
  where
    by : (x : PathEvent) → OfEvent P s x → OfEach P s x
    by (event.CancelCame tag no_wait) o = λ link. mild _ refl
    by (event.AttachCame a) o = λ link count. mild _ refl
    by event.DetachSent o = λ link. mild _ refl
    by (event.DeliverSent due) o = mild _ refl
    by x o = o
