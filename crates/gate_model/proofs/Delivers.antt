-- The delivers that go to a client are lawful.
use Rattle.std.proofs.Common.{◌≡◌, ℕ, ◌+◌, nat_lt, Bool, true, false, if◌then◌else◌, List, [], ◌∷◌}
use Rattle.std.proofs.Common.{Option, None, Some, refl, sym, ap, ◌∙◌, subst, ◌||◌, ◌≤◌}
use Rattle.std.specs.Prelude.{IfSome}
use Rattle.consume_path.specs.Deliveries.{DeliveryEvent, DeliveryState, open_after}
use Rattle.consume_path.specs.Deliveries.{after_events as deliveries_after}
use Rattle.consume_path.specs.Journal.{IsTaken, fate_of, global_of, is_closed, is_written, tags_of}
use Rattle.consume_path.specs.Laws.{AreFresh, IsLawfulDeliver, needs_content}
use Rattle.consume_path.specs.Offers.{content_of, next_deliver_of, serves_gets}
use Rattle.consume_path.specs.declared.delivery.Content.{Content}
use Rattle.machine_091.specs.declared.limits.TheConstants.{CHANNEL_MAX}
use Rattle.methods_091.specs.Writing.{method_text}
use Rattle.consume_path.specs.declared.delivery.NextDeliver.{NextDeliver}
use Rattle.session_path.specs.Due.{deliver_if, deliver_in, is_get_ok, most_tags, next_deliver, tag_of}
use Rattle.session_path.specs.Events.{after_events, deliveries_of}
use Rattle.session_path.specs.Path.{PathState, first_of}
use Rattle.session_path.specs.declared.path.DeliverDue.{DeliverDue}
use Rattle.gate_model.specs.Delivers.{Delivers, MayDeliver, MayGoOut}
use Rattle.gate_model.specs.Due.{carries_back, deliver_as, deliver_method}
use Rattle.gate_model.specs.Paths.{or_no_path, path_at, slot_at}
use Rattle.gate_model.specs.Picks.{ArePicks}
use Rattle.gate_model.specs.Publishing.{path_events, path_life}
use Rattle.gate_model.specs.State.{Gave, Step, before}
use Rattle.gate_model.specs.declared.channel.ChannelUnit.TheVariants as to_client
use Rattle.gate_model.specs.declared.outgoing.Outgoing.TheVariants.{ToClient}
use Rattle.gate_model.specs.declared.reply.Reply.{Reply}
use Rattle.gate_model.specs.declared.reply.Reply.TheVariants as reply
use Rattle.gate_model.proofs.Calm.{waits_open}
use Rattle.gate_model.proofs.Heard.{ClosedAre, open_heard}
use Rattle.gate_model.proofs.Reports.{DeliveriesAre}
use Rattle.gate_model.proofs.Settles.{CallsAre, IdsAre}
use Rattle.gate_model.proofs.Fates.{IsLived, IsNext, is_next, lived}
use Rattle.gate_model.proofs.Firsts.{OfChannel, goes_as}

-- what consume_path says of the deliveries of a life
abbrev pub DeliversAre : Type 0
DeliversAre = (life global : ℕ) (h : List DeliveryEvent) → IfSome (next_deliver_of global (open_after life h)) (IsLawfulDeliver global h)

abbrev pub TagsAre : Type 0
TagsAre = (life : ℕ) (h : List DeliveryEvent) → (deliveries_after life h).tags ≡ tags_of h

abbrev pub GlobalsAre : Type 0
GlobalsAre = (life : ℕ) (h : List DeliveryEvent) → (deliveries_after life h).global ≡ global_of h

-- the deliver that is due is that of the deliveries, with the next tag
if_due : (tags global : ℕ) (es : List DeliveryEvent) (get may : Bool) (next : NextDeliver) (d : DeliverDue) → IsLawfulDeliver global es next
    → deliver_if get may tags next ≡ Some d → IsLawfulDeliver global es d.next × (d.tag ≡ tags + 1)
if_due tags global es true false next d l e = absurd cc
if_due tags global es true true next d l e =
    let same : record { next = next; tag = tags + 1; get = true } ≡ d = cc in
    (subst (λ (x : DeliverDue). IsLawfulDeliver global es x.next) same l, sym (ap (λ (x : DeliverDue). x.tag) same))
if_due tags global es false may next d l e =
    let same : record { next = next; tag = tags + 1; get = false } ≡ d = cc in
    (subst (λ (x : DeliverDue). IsLawfulDeliver global es x.next) same l, sym (ap (λ (x : DeliverDue). x.tag) same))

from_due : (s : PathState) (es : List DeliveryEvent) (o : Option NextDeliver) (d : DeliverDue) (b : Bool) → IfSome o (IsLawfulDeliver s.deliveries.global es)
    → (if b then deliver_in o s else None) ≡ Some d → IsLawfulDeliver s.deliveries.global es d.next × (d.tag ≡ s.deliveries.tags + 1)
from_due s es o d false l e = absurd cc
from_due s es None d true l e = absurd cc
from_due s es (Some next) d true l e =
    if_due s.deliveries.tags s.deliveries.global es (serves_gets next.link s.deliveries.links) (is_get_ok (first_of s.oks)) next d l e

-- it is due in the life in progress
pub record IsDelivered (h : List Step) (n : ℕ) (d : DeliverDue) : Type 0 where
  pub life : ℕ
  pub lives : path_life h n ≡ Some life
  pub below : n ≤ CHANNEL_MAX
  pub path : path_at (before h).paths n ≡ after_events life (path_events h n)
  pub lawful : IsLawfulDeliver (global_of (deliveries_of life (path_events h n))) (deliveries_of life (path_events h n)) d.next
  pub tag : d.tag ≡ tags_of (deliveries_of life (path_events h n)) + 1

pub is_delivered : DeliveriesAre → DeliversAre → TagsAre → GlobalsAre → (h : List Step) (n : ℕ) (d : DeliverDue) → ArePicks h
    → next_deliver (path_at (before h).paths n) ≡ Some d
    → IsDelivered h n d
is_delivered arrives delivers tags globals h n d p e = by (slot_at (before h).paths n) refl e
  where
    lived_by : (s : PathState) → slot_at (before h).paths n ≡ Some s → IsLived h n s → next_deliver s ≡ Some d → IsDelivered h n d
    lived_by s g l f =
        let es : List DeliveryEvent = deliveries_of l.life (path_events h n) in
        let is : s.deliveries ≡ deliveries_after l.life es = ap (λ (x : PathState). x.deliveries) l.is ∙ arrives l.life (path_events h n) in
        let lawful : IfSome (next_deliver_of s.deliveries.global s.deliveries.list) (IsLawfulDeliver s.deliveries.global es) =
        subst (λ (x : DeliveryState). IfSome (next_deliver_of x.global x.list) (IsLawfulDeliver x.global es)) (sym is) (delivers l.life (deliveries_after l.life es).global es) in
        let found = from_due s es (next_deliver_of s.deliveries.global s.deliveries.list) d (nat_lt s.deliveries.tags most_tags) lawful f in
        record {
          life = l.life;
          lives = l.lives;
          below = l.below;
          path = ap or_no_path g ∙ l.is;
          lawful = subst (λ (g : ℕ). IsLawfulDeliver g es d.next) (ap (λ (x : DeliveryState). x.global) is ∙ globals l.life es) found.0;
          tag = found.1 ∙ ap (λ (t : ℕ). t + 1) (ap (λ (x : DeliveryState). x.tags) is ∙ tags l.life es);
        }

    by : (o : Option PathState) → slot_at (before h).paths n ≡ o → next_deliver (or_no_path o) ≡ Some d → IsDelivered h n d
    by None g f = absurd cc
    by (Some s) g f = lived_by s g (lived h n s p g) f

-- what is found by a delivery-id
abbrev pub ContentsAre : Type 0
ContentsAre = (life n : ℕ) (h : List DeliveryEvent) → AreFresh h → IsTaken h n → needs_content (fate_of n h) ≡ true
    → content_of (fate_of n h).id (open_after life h) ≡ (fate_of n h).content

-- in a life that goes on no two goes_on deliveries have one
abbrev pub FreshAre : Type 0
FreshAre = (h : List Step) (n life : ℕ) → ArePicks h → n ≤ CHANNEL_MAX → path_life h n ≡ Some life → is_closed (deliveries_of life (path_events h n)) ≡ false
    → AreFresh (deliveries_of life (path_events h n))

pub fresh_are : DeliveriesAre → ClosedAre → CallsAre → IdsAre → FreshAre
fresh_are arrives closed calls ids h n life p below l on =
    ids life (deliveries_of life (path_events h n)) (calls life (path_events h n) (open_heard arrives closed h n life p below l on))

module _ (arrives : DeliveriesAre) (delivers : DeliversAre) (tags : TagsAre) (globals : GlobalsAre) (contents : ContentsAre) (fresh : FreshAre) where
  -- its method is that of the link's consumer and of the delivery's content
  may_deliver : (h : List Step) (n : ℕ) (d : DeliverDue) (text : List ℕ) → ArePicks h → next_deliver (path_at (before h).paths n) ≡ Some d
      → text ≡ method_text (deliver_method (path_at (before h).paths n) d) → MayDeliver h n d text
  may_deliver h n d text p e same = by (is_delivered arrives delivers tags globals h n d p e)
    where
      by : IsDelivered h n d → MayDeliver h n d text
      by is =
          let ds : List DeliveryEvent = deliveries_of is.life (path_events h n) in
          let goes_on : is_closed ds ≡ false = waits_open ds d.next.number is.lawful.taken is.lawful.waiting in
          let needs : needs_content (fate_of d.next.number ds) ≡ true = ap (λ (b : Bool). b || is_written (fate_of d.next.number ds)) is.lawful.waiting in
          let found : content_of d.next.id (after_events is.life (path_events h n)).deliveries.list ≡ (fate_of d.next.number ds).content =
          ap (λ (x : DeliveryState). content_of d.next.id x.list) (arrives is.life (path_events h n))
          ∙ ap (λ (id : ℕ). content_of id (open_after is.life ds)) (sym is.lawful.id)
          ∙ contents is.life d.next.number ds (fresh h n is.life p is.below is.lives goes_on) is.lawful.taken needs in
          record {
            life = is.life;
            lives = is.lives;
            lawful = is.lawful;
            tag = is.tag;
            named = same ∙ ap (λ (s : PathState). method_text (deliver_method s d)) is.path
                ∙ ap (λ (c : Option Content). method_text (deliver_as (tag_of d.next.link (after_events is.life (path_events h n))) d c)) found;
          }

  may_go : (h : List Step) (u : Reply) (text : List ℕ) → ArePicks h → OfChannel (IsNext (before h)) u → text ≡ carries_back (before h) u → MayGoOut h u text
  may_go h (reply.OnChannel n (to_client.Ok x)) text p e same = tt
  may_go h (reply.OnChannel n (to_client.Deliver d)) text p e same = may_deliver h n d text p e same
  may_go h (reply.OnChannel n (to_client.Content c)) text p e same = tt
  may_go h (reply.OnChannel n (to_client.Confirm c)) text p e same = tt
  may_go h (reply.OnChannel n (to_client.Return r)) text p e same = tt
  may_go h u text p e same = tt

  pub delivers_are : (h : List Step) → ArePicks h → Delivers h
  delivers_are [] p = tt
  delivers_are (Gave (ToClient u) text ∷ h) p = (may_go h u text p.1 (goes_as (IsNext (before h)) (before h) u is_next p.0.1) p.0.2, delivers_are h p.1)
  delivers_are (s ∷ h) p = delivers_are h p.1
