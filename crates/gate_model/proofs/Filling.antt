-- Where no flow of a session is due, more than half of the quota of each consumer's live link is used; and what is left of a receiving link's credit is what its events say.
use Rattle.std.proofs.Common.{◌≡◌, ◌∙◌, ℕ, ◌+◌, ◌-◌, ◌*◌, ◌==◌, ◌<◌, nat_le, nat_lt, not, ◌&&◌, ◌||◌, Bool, true, false, if◌then◌else◌, cond, List, [], ◌∷◌, ◌++◌, Option, None, Some}
use Rattle.std.proofs.Common.{refl, sym, ap, subst, arith}
use Rattle.std.proofs.lemmas.Bool.Decides.{nat_tests}
use Rattle.std.specs.List.{AllByRecursion}
use Rattle.std.specs.Option.{option_map, option_or}
use Rattle.std.specs.Prelude.{IfSome, find, is_some}
use Rattle.links_10.specs.Recv.{after_arrival, after_attach, after_cancel, after_grant, after_peer_flow, gave_up, grant_of, is_live as is_granting, left_by, once_attached}
use Rattle.links_10.specs.declared.recv.Granting.{Granting}
use Rattle.links_10.specs.declared.recv.Granting.TheVariants.{Ended, Live, Unattached}
use Rattle.links_10.specs.declared.recv.Receiving.{Receiving}
use Rattle.consume_path.specs.Deliveries as on
use Rattle.consume_path.specs.Deliveries.{DeliveryEvent, DeliveryState}
use Rattle.consume_path.specs.Journal.{is_closed}
use Rattle.consume_path.specs.Laws.{AreCalls, IsCall, joined_of, pieces_of}
use Rattle.consume_path.specs.Links.{has_number as is_number, is_between as is_apart, is_stop, is_to_ask, link_of, new_link, transfer_came}
use Rattle.consume_path.specs.Offers.{echo_credit, flow_of, is_for_gets, grant_as, grant_link, next_grant_of, next_settle_of, sooner}
use Rattle.consume_path.specs.declared.receiving.Cause.TheVariants.{Echo, Get as Asks, Refill, Stop}
use Rattle.consume_path.specs.declared.receiving.NextGrant.{NextGrant}
use Rattle.consume_path.specs.declared.receiving.Partial.{Partial}
use Rattle.consume_path.specs.declared.receiving.ReceivingLink.{ReceivingLink}
use Rattle.consume_path.specs.declared.receiving.RecvKind.{RecvKind}
use Rattle.consume_path.specs.declared.receiving.WaitingGet.{WaitingGet}
use Rattle.consume_path.specs.declared.receiving.RecvKind.TheVariants.{Consumer, Get, Probe}
use Rattle.publish_path.specs.declared.send_links.SendingLink.{SendingLink}
use Rattle.session_path.specs.Due.{due_in, grant_due, next_flow}
use Rattle.session_path.specs.Events as event
use Rattle.session_path.specs.Events.{PathEvent, after_event, after_events, deliveries_of, delivery_events, drops, gets}
use Rattle.session_path.specs.Laws.{AreHeard}
use Rattle.session_path.specs.Links.{LinksState, asked_by, attached, free_number, has_number, named, parted}
use Rattle.session_path.specs.Path.{PathState, detaching_of, dropped_by, flow_of as flow_in, get_link, goes_first, got_on, grant_in, granting_on, is_grant_next, is_source_of, queue_or, receiver_in, taking}
use Rattle.session_path.specs.declared.path.PathLink.{PathLink}
use Rattle.session_path.specs.declared.path.Source.{Source}
use Rattle.session_path.proofs.Numbers.{added_knows, any_found, dropped_knows, is_taking, knows, moves, same_knows, takes}
use Rattle.session_path.proofs.Ties.{eq_to}
use Rattle.gate_model.specs.Credits.{in_use, is_consumer, kind_in, quota_of}
use Rattle.gate_model.specs.Picks.{ArePicks}
use Rattle.gate_model.specs.Publishing.{path_events}
use Rattle.gate_model.specs.Rests.{SuppliesContainers}
use Rattle.gate_model.specs.State.{Step}
use Rattle.gate_model.specs.Supplies.{FillsQuotas, LeavesCredit, Left, flowed, from_count, granted, is_attached, is_between, is_cancelled, is_consumers, is_echoed, is_live, is_stopped, is_unasked, is_used, left_on, taken}
use Rattle.gate_model.proofs.Asking.{Owes, none_owed, owes}
use Rattle.gate_model.proofs.Basics.{and_left, and_right, not_true}
use Rattle.gate_model.proofs.Brought.{OfEach, each_all, is_plain}
use Rattle.gate_model.proofs.Connections.{clash}
use Rattle.gate_model.proofs.Credits.{JoinedAre, kept_is, used}
use Rattle.gate_model.proofs.Granting.{CountsAre, DeliveriesAre}
use Rattle.gate_model.proofs.Heard.{ClosedAre, open_heard}
use Rattle.gate_model.proofs.Linking.{apart, counted_anew, link_after, linked, recounts, source}
use Rattle.gate_model.proofs.Quotas.{ForConsumer, Kept, equal, kept, number_is, turned}
use Rattle.gate_model.proofs.Receivers.{LinksAre}
use Rattle.gate_model.proofs.Rests.{LivesBelow}
use Rattle.gate_model.proofs.Settles.{CallsAre}
use Rattle.gate_model.proofs.Sources.{QueuesAre, attach_sources, disposed_sources, flow_sources, found_push, found_without, goes, granted_sources, has, transfer_sources}

-- ---- what the events say of a receiving link

abbrev pub as_left : Receiving → Left
as_left s = record { count = s.count; credit = s.credit }

-- no credit was due before it was attached
abbrev pub once : Bool → Granting
once true = Live
once false = Unattached

pub record Told (ds : List DeliveryEvent) (k : ℕ) (l : ReceivingLink) : Type 0 where
  pub attached : l.attached ≡ is_attached k ds
  pub cancelled : l.cancelled ≡ is_cancelled k ds
  left : as_left l.state ≡ left_on k ds
  live : is_consumer l.kind ≡ true → l.cancelled ≡ false → is_closed ds ≡ false → l.state.granting ≡ once l.attached

abbrev pub Tells : ℕ → List DeliveryEvent → Option ReceivingLink → Type 0
Tells k ds None = kind_in k ds ≡ None
Tells k ds (Some l) = Told ds k l

counted : (b : Bool) (s : DeliveryState) (ds : List DeliveryEvent) (k : ℕ) (o : Option ReceivingLink) → Tells k ds o → Tells k ds (counted_anew b s o)
counted true s ds k None w = w
counted true s ds k (Some l) w = record { attached = w.attached; cancelled = w.cancelled; left = w.left; live = w.live }
counted false s ds k None w = w
counted false s ds k (Some l) w = w

-- a mark that an event sets on one link
set : (a b old new : Bool) → a ≡ b → old ≡ new → (if a then true else old) ≡ (b || new)
set true true old new e f = refl
set false false old new e f = f
set true false old new e f = absurd cc
set false true old new e f = absurd cc

-- and the counts
moved : (a b : Bool) (s t : Receiving) (c d : Left) → a ≡ b → as_left t ≡ d → as_left s ≡ c → as_left (if a then t else s) ≡ (if b then d else c)
moved true true s t c d e f g = f
moved false false s t c d e f g = g
moved true false s t c d e f g = absurd cc
moved false true s t c d e f g = absurd cc

same_left : (a : Bool) (s t : Receiving) (c : Left) → as_left t ≡ as_left s → as_left s ≡ c → as_left (if a then t else s) ≡ c
same_left true s t c e f = e ∙ f
same_left false s t c e f = f

same_granting : (a : Bool) (s t : Receiving) (g : Granting) → t.granting ≡ s.granting → s.granting ≡ g → (if a then t else s).granting ≡ g
same_granting true s t g e f = e ∙ f
same_granting false s t g e f = f

flow_left : (count : ℕ) (s : Receiving) → as_left (after_peer_flow count s) ≡ flowed count (as_left s)
flow_left count s = by (nat_lt (left_by count s) s.credit)
  where
    by : (b : Bool) → as_left (if b then gave_up (left_by count s) s else s) ≡ (if b then as_left (gave_up (left_by count s) s) else as_left s)
    by true = refl
    by false = refl

flow_granting : (count : ℕ) (s : Receiving) → (after_peer_flow count s).granting ≡ s.granting
flow_granting count s = by (nat_lt (left_by count s) s.credit)
  where
    by : (b : Bool) → (if b then gave_up (left_by count s) s else s).granting ≡ s.granting
    by true = refl
    by false = refl

-- the attach makes it live
goes_live : (a : Bool) (count : ℕ) (s : Receiving) (old : Bool) → s.granting ≡ once old → (if a then after_attach count s else s).granting ≡ once (if a then true else old)
goes_live false count s old e = e
goes_live true count s true e = ap once_attached e
goes_live true count s false e = ap once_attached e

new_left : (link : ℕ) (kind : RecvKind) (prefetch : ℕ) → as_left (new_link link kind prefetch).state ≡ from_count 0
new_left link (Consumer tag no_ack) prefetch = refl
new_left link Get prefetch = refl
new_left link Probe prefetch = refl

new_live : (link : ℕ) (kind : RecvKind) (prefetch : ℕ) → is_consumer kind ≡ true → (new_link link kind prefetch).state.granting ≡ Unattached
new_live link (Consumer tag no_ack) prefetch e = refl
new_live link Get prefetch e = absurd cc
new_live link Probe prefetch e = absurd cc

module _ (joined : JoinedAre) (life : ℕ) where
  told : (ds : List DeliveryEvent) → AreCalls life ds → (k : ℕ) → Tells k ds (link_of (on.after_events life ds).links k)
  told [] c k = refl
  told (x ∷ ds) c k =
      subst (Tells k (x ∷ ds)) (sym (linked x s k))
      (counted (recounts x) (on.after_event x s) (x ∷ ds) k (link_after x s k (link_of s.links k)) (by x (link_of s.links k) refl c.0 (told ds c.1 k)))
    where
      s : DeliveryState
      s = on.after_events life ds

      -- an event on the link with this number is one on l
      here : (l : ReceivingLink) (link : ℕ) → link_of s.links k ≡ Some l → (l.link == link) ≡ (link == k)
      here l link f = ap (λ (j : ℕ). j == link) (number_is s.links k l f) ∙ turned link k (link == k) refl

      none_if : (b : Bool) (f : ReceivingLink → ReceivingLink) (es : List DeliveryEvent) → kind_in k es ≡ None → Tells k es (if b then option_map f None else None)
      none_if true f es w = w
      none_if false f es w = w

      by : (x : DeliveryEvent) (o : Option ReceivingLink) → link_of s.links k ≡ o → IsCall s x → Tells k ds o → Tells k (x ∷ ds) (link_after x s k o)
      by (on.LinkAdded link kind) None f e w = pick (link == k) refl
        where
          pick : (b : Bool) → (link == k) ≡ b → Tells k (on.LinkAdded link kind ∷ ds) (if b then Some (new_link link kind s.prefetch) else None)
          pick true i = record {
            attached = sym (ap (λ (b : Bool). if b then false else is_attached k ds) i);
            cancelled = sym (ap (λ (b : Bool). if b then false else is_cancelled k ds) i);
            left = new_left link kind s.prefetch ∙ sym (ap (λ (b : Bool). if b then from_count 0 else left_on k ds) i);
            live = λ c u o. new_live link kind s.prefetch c;
          }
          pick false i = ap (λ (b : Bool). if b then Some kind else kind_in k ds) i ∙ w
      by (on.LinkAdded link kind) (Some l) f e w = record {
        attached = w.attached ∙ sym (ap (λ (b : Bool). if b then false else is_attached k ds) off);
        cancelled = w.cancelled ∙ sym (ap (λ (b : Bool). if b then false else is_cancelled k ds) off);
        left = w.left ∙ sym (ap (λ (b : Bool). if b then from_count 0 else left_on k ds) off);
        live = w.live;
      }
        where
          pick : (b : Bool) → (link == k) ≡ b → b ≡ false
          pick true i = let none : link_of s.links k ≡ None = sym (ap (link_of s.links) (equal link k i)) ∙ e in let bad : Some l ≡ None = sym f ∙ none in absurd cc
          pick false i = refl

          off : (link == k) ≡ false
          off = pick (link == k) refl
      by (on.LinkAttached link count) None f e w = w
      by (on.LinkAttached link count) (Some l) f e w = record {
        attached = set (is_number link l) (link == k) l.attached (is_attached k ds) (here l link f) w.attached;
        cancelled = w.cancelled;
        left = moved (is_number link l) (link == k) l.state (after_attach count l.state) (left_on k ds) (from_count count) (here l link f) refl w.left;
        live = λ c u o. goes_live (is_number link l) count l.state l.attached (w.live c u o);
      }
      by (on.LinkFlowed link count) None f e w = w
      by (on.LinkFlowed link count) (Some l) f e w = record {
        attached = w.attached;
        cancelled = w.cancelled;
        left = moved (is_number link l) (link == k) l.state (after_peer_flow count l.state) (left_on k ds) (flowed count (left_on k ds)) (here l link f)
            (flow_left count l.state ∙ ap (λ (c : Left). flowed count c) w.left) w.left;
        live = λ c u o. same_granting (is_number link l) l.state (after_peer_flow count l.state) (once l.attached) (flow_granting count l.state) (w.live c u o);
      }
      by (on.LinkEchoed link) None f e w = w
      by (on.LinkEchoed link) (Some l) f e w = record { attached = w.attached; cancelled = w.cancelled; left = w.left; live = w.live }
      by (on.GetCame link no_ack) None f e w = w
      by (on.GetCame link no_ack) (Some l) f e w = record { attached = w.attached; cancelled = w.cancelled; left = w.left; live = w.live }
      by (on.TransferCame link part payload) None f e w = none_if (k == link) (transfer_came part payload) (on.TransferCame link part payload ∷ ds) w
      by (on.TransferCame link part payload) (Some l) f e w = pick (k == link) refl
        where
          partial : l.partial ≡ joined_of (pieces_of k ds)
          partial = subst (λ (o : Option ReceivingLink). IfSome o (λ m. m.partial ≡ joined_of (pieces_of k ds))) f (joined life k ds c.1)

          same : (link == k) ≡ true → is_apart l ≡ ((link == k) && is_between k ds)
          same i = ap (λ (p : Option Partial). not (is_some p)) partial ∙ sym (ap (λ (b : Bool). b && is_between k ds) i)

          pick : (b : Bool) → (k == link) ≡ b → Tells k (on.TransferCame link part payload ∷ ds) (if b then Some (transfer_came part payload l) else Some l)
          pick true i = record {
            attached = w.attached;
            cancelled = w.cancelled;
            left = moved (is_apart l) ((link == k) && is_between k ds) l.state (after_arrival l.state) (left_on k ds) (taken (left_on k ds)) (same (turned k link true i))
                (ap (λ (c : Left). taken c) w.left) w.left;
            live = λ c u o. same_granting (is_apart l) l.state (after_arrival l.state) (once l.attached) refl (w.live c u o);
          }
          pick false i = record {
            attached = w.attached;
            cancelled = w.cancelled;
            left = w.left ∙ sym (ap (λ (b : Bool). if b && is_between k ds then taken (left_on k ds) else left_on k ds) (turned k link false i));
            live = w.live;
          }
      by (on.Arrived a content again) None f e w = w
      by (on.Arrived a content again) (Some l) f e w = record { attached = w.attached; cancelled = w.cancelled; left = w.left; live = w.live }
      by (on.LinkDropped link) None f e w = pick (k == link) refl
        where
          pick : (b : Bool) → (k == link) ≡ b → Tells k (on.LinkDropped link ∷ ds) (if b then None else None)
          pick true i = ap (λ (b : Bool). if b then None else kind_in k ds) (turned k link true i)
          pick false i = ap (λ (b : Bool). if b then None else kind_in k ds) (turned k link false i) ∙ w
      by (on.LinkDropped link) (Some l) f e w = pick (k == link) refl
        where
          pick : (b : Bool) → (k == link) ≡ b → Tells k (on.LinkDropped link ∷ ds) (if b then None else Some l)
          pick true i = ap (λ (b : Bool). if b then None else kind_in k ds) (turned k link true i)
          pick false i = record { attached = w.attached; cancelled = w.cancelled; left = w.left; live = w.live }
      by (on.Cancelled link) None f e w = w
      by (on.Cancelled link) (Some l) f e w = record {
        attached = w.attached;
        cancelled = set (is_number link l) (link == k) l.cancelled (is_cancelled k ds) (here l link f) w.cancelled;
        left = same_left (is_number link l) l.state (after_cancel l.state) (left_on k ds) refl w.left;
        live = λ c u o. pick (is_number link l) c u o;
      }
        where
          pick : (b : Bool) → is_consumer l.kind ≡ true → (if b then true else l.cancelled) ≡ false → is_closed ds ≡ false → (if b then after_cancel l.state else l.state).granting ≡ once l.attached
          pick true c u o = absurd cc
          pick false c u o = w.live c u o
      by on.Closed None f e w = w
      by on.Closed (Some l) f e w = record { attached = w.attached; cancelled = w.cancelled; left = w.left; live = λ c u o. absurd cc }
      by (on.GrantSent g) None f e w = w
      by (on.GrantSent g) (Some l) f e w = record {
        attached = w.attached;
        cancelled = w.cancelled;
        left = moved (is_number g.link l) (g.link == k) l.state (after_grant g.credit l.state) (left_on k ds) (granted g.credit (left_on k ds)) (here l g.link f)
            (ap (λ (c : Left). granted g.credit c) w.left) w.left;
        live = λ c u o. same_granting (is_number g.link l) l.state (after_grant g.credit l.state) (once l.attached) refl (w.live c u o);
      }
      by (on.Emptied link) None f e w = w
      by (on.Emptied link) (Some l) f e w = record { attached = w.attached; cancelled = w.cancelled; left = w.left; live = w.live }
      by x None f e w = w
      by x (Some l) f e w = record { attached = w.attached; cancelled = w.cancelled; left = w.left; live = w.live }

  pub told_of : (ds : List DeliveryEvent) (k : ℕ) (o : Option ReceivingLink) → AreCalls life ds → link_of (on.after_events life ds).links k ≡ o → Tells k ds o
  told_of ds k o c e = subst (Tells k ds) e (told ds c k)

-- ---- a receiving link that the gateway didn't detach is one of the session's

module _ (deliveries : DeliveriesAre) (life : ℕ) where
  stay : (k : ℕ) (ys ds : List DeliveryEvent) → AllByRecursion (λ y. moves y ≡ false) ys → knows k (on.after_events life (ys ++ ds)).links ≡ knows k (on.after_events life ds).links
  stay k [] ds a = refl
  stay k (y ∷ ys) ds a = same_knows y a.0 k (on.after_events life (ys ++ ds)) ∙ stay k ys ds a.1

  plain : (d : DeliveryEvent) → is_plain d ≡ true → moves d ≡ false
  plain (on.LinkAdded link kind) e = absurd cc
  plain (on.LinkDropped link) e = absurd cc
  plain d e = refl

  -- it has an address
  numbered : (es : List PathEvent) (k : ℕ) → knows k (on.after_events life (deliveries_of life es)).links ≡ has k (after_events life es).sources
  numbered [] k = refl
  numbered (x ∷ es) k = by x (numbered es k)
    where
      s : PathState
      s = after_events life es

      ds : List DeliveryEvent
      ds = deliveries_of life es

      m : ℕ
      m = free_number s.links.links

      Old : Type 0
      Old = knows k (on.after_events life ds).links ≡ has k s.sources

      New : PathEvent → Type 0
      New x = knows k (on.after_events life (delivery_events s x ++ ds)).links ≡ has k (after_event x s).sources

      calm : (x : PathEvent) → Old → OfEach (λ y. moves y ≡ false) s x → (after_event x s).sources ≡ s.sources → New x
      calm x old o same = stay k (delivery_events s x) ds (each_all (λ y. moves y ≡ false) plain s x o) ∙ old ∙ ap (has k) (sym same)

      pushed : (o : Option Source) (y : Source) (b : Bool) → (is_some o || (b || false)) ≡ is_some (option_or o (cond b (Some y) None))
      pushed (Some z) y b = refl
      pushed None y true = refl
      pushed None y false = refl

      added : (kind : RecvKind) (address : List ℕ) → Old
          → knows k (on.after_events life (on.LinkAdded m kind ∷ ds)).links ≡ has k (s.sources ++ record { link = m; address = address } ∷ [])
      added kind address old =
          let y : Source = record { link = m; address = address } in
          added_knows k m kind (on.after_events life ds) ∙ ap (λ (b : Bool). b || ((m == k) || false)) old ∙ pushed (find (is_source_of k) s.sources) y (m == k)
          ∙ sym (ap is_some (found_push k s.sources y))

      got : (queue : List ℕ) (no_ack : Bool) (o : Option PathLink) → Old
          → knows k (on.after_events life (gets o no_ack s ++ ds)).links ≡ has k (got_on o queue no_ack s).sources
      got queue no_ack None old = same_knows (on.GetCame m no_ack) refl k (on.after_events life (on.LinkAdded m Get ∷ ds)) ∙ added Get queue old
      got queue no_ack (Some l) old = same_knows (on.GetCame l.link no_ack) refl k (on.after_events life ds) ∙ old

      gone : (b : Bool) (o : Option Source) → (not b && is_some o) ≡ is_some (if b then None else o)
      gone true o = refl
      gone false o = refl

      parts : (o : Option PathLink) → Old → knows k (on.after_events life (drops o ++ ds)).links ≡ has k (dropped_by o (record s { links = parted o s.links })).sources
      parts None old = old
      parts (Some l) old = at l.receives
        where
          at : (b : Bool) → knows k (on.after_events life ((if b then on.LinkDropped l.link ∷ [] else []) ++ ds)).links
              ≡ has k (dropped_by (Some (record l { receives = b })) (record s { links = parted (Some l) s.links })).sources
          at true =
              dropped_knows k l.link (on.after_events life ds) ∙ ap (λ (b : Bool). not (k == l.link) && b) old
              ∙ gone (k == l.link) (find (is_source_of k) s.sources) ∙ sym (ap is_some (found_without l.link k s.sources))
          at false = old

      by : (x : PathEvent) → Old → New x
      by (event.Consumed queue tag no_ack no_wait) old = added _ (queue_or s.queue queue) old
      by (event.Declared queue no_wait) old = added Probe queue old
      by (event.GetAsked queue no_ack) old = got (queue_or s.queue queue) no_ack (get_link (queue_or s.queue queue) s) old
      by event.DetachSent old = parts (detaching_of s) old
      by (event.AttachCame a) old = calm (event.AttachCame a) old (λ link count. refl) (attach_sources (asked_by a s.links) a (record s { links = attached a s.links }))
      by (event.FlowCame peer count credit drain echo) old =
          calm (event.FlowCame peer count credit drain echo) old tt (flow_sources (receiver_in (named peer s.links)) peer count credit drain echo s)
      by (event.TransferCame peer part payload image again) old =
          calm (event.TransferCame peer part payload image again) old (λ link d. refl) (transfer_sources (taking peer s) part payload image again s)
      by event.LinkFlowSent old = calm event.LinkFlowSent old tt (granted_sources (is_grant_next s) (grant_in s) s _ refl)
      by event.DisposeSent old = calm event.DisposeSent old tt (disposed_sources (next_settle_of s.deliveries.list) s)
      by (event.CancelCame tag no_wait) old = calm (event.CancelCame tag no_wait) old (λ link. refl) refl
      by (event.DeliverSent due) old = calm (event.DeliverSent due) old refl refl
      by (event.ContentWhole tag) old = calm (event.ContentWhole tag) old refl refl
      by event.LifeClosed old = calm event.LifeClosed old refl refl
      by event.SessionLost old = calm event.SessionLost old refl refl
      by event.SessionEnded old = calm event.SessionEnded old refl refl
      by event.UpLost old = calm event.UpLost old (refl, refl) refl
      by y old = calm y old tt refl

-- ---- no flow is due

none_granted : (sending : List SendingLink) (links : LinksState) (d : DeliveryState) (f : Option PathLink) (g : Option NextGrant)
    → (if is_some (granting_on g links) && goes_first f (granting_on g links) then grant_due (granting_on g links) g d else due_in sending f) ≡ None → granting_on g links ≡ None
none_granted sending links d f None e = refl
none_granted sending links d f (Some g) e = by (find (has_number g.link) links.links) f e
  where
    by : (o f : Option PathLink) → (if is_some o && goes_first f o then grant_due o (Some g) d else due_in sending f) ≡ None → o ≡ None
    by None f e = refl
    by (Some l) None e = absurd cc
    by (Some l) (Some m) e = pick (nat_lt l.link m.link) e
      where
        pick : (b : Bool) → (if b then grant_due (Some l) (Some g) d else due_in sending (Some m)) ≡ None → Some l ≡ None
        pick true e = absurd cc
        pick false e = absurd cc

none_offered : (closed : Bool) (links : List ReceivingLink) → next_grant_of closed links ≡ None → (k : ℕ) (l : ReceivingLink) → link_of links k ≡ Some l → flow_of closed l ≡ None
none_offered closed [] e k l f = absurd cc
none_offered closed (x ∷ xs) e k l f = by (flow_of closed x) (next_grant_of closed xs) (x.link == k) refl (λ g h. none_offered closed xs g k l h) e f
  where
    some : (c : Bool) (a b : NextGrant) → cond c (Some b) (Some a) ≡ None → ⊥
    some true a b e = cc
    some false a b e = cc

    by : (o p : Option NextGrant) (b : Bool) → flow_of closed x ≡ o → (p ≡ None → link_of xs k ≡ Some l → flow_of closed l ≡ None) → sooner grant_link o p ≡ None
        → cond b (Some x) (link_of xs k) ≡ Some l → flow_of closed l ≡ None
    by None p true i rest e f = let same : x ≡ l = cc in subst (λ (y : ReceivingLink). flow_of closed y ≡ None) same i
    by None p false i rest e f = rest e f
    by (Some a) None b i rest e f = absurd cc
    by (Some a) (Some c) b i rest e f = absurd (some (nat_lt (grant_link c) (grant_link a)) a c e)

no_refill : (closed : Bool) (l : ReceivingLink) → l.attached ≡ true → flow_of closed l ≡ None → grant_of l.state ≡ None
no_refill closed l a e = by l.attached (grant_of l.state) _ a e
  where
    by : (b : Bool) (o : Option ℕ) (rest : Option NextGrant) → b ≡ true → (if b then option_or (option_map (grant_as l Refill) o) rest else None) ≡ None → o ≡ None
    by true None rest f g = refl
    by true (Some c) rest f g = absurd cc
    by false o rest f g = absurd cc

-- so more than half of the quota is used
half : (s : Receiving) → is_granting s.granting ≡ true → grant_of s ≡ None → s.quota < 2 * (s.credit + s.counted)
half s live e = by (nat_le (2 * (s.credit + s.counted)) s.quota) refl
  where
    some : (a b : Bool) → a ≡ true → b ≡ true → (if a && b then Some (s.quota - s.counted) else None) ≡ None → ⊥
    some true true e f g = cc
    some false b e f g = cc
    some true false e f g = cc

    by : (b : Bool) → nat_le (2 * (s.credit + s.counted)) s.quota ≡ b → s.quota < 2 * (s.credit + s.counted)
    by true f = absurd (some (is_granting s.granting) (nat_le (2 * (s.credit + s.counted)) s.quota) live f e)
    by false f = grind (arith, nat_tests, f)

-- ---- a consumer that is cancelled

-- once its flow went, no credit is left on its link
record Stops (l : ReceivingLink) : Type 0 where
  ended : l.cancelled ≡ true → l.state.granting ≡ Ended
  credit : l.cancelled ≡ true → is_consumer l.kind ≡ true → l.stopping ≡ false → l.state.credit ≡ 0

new_stops : (link : ℕ) (kind : RecvKind) (prefetch : ℕ) → Stops (new_link link kind prefetch)
new_stops link kind prefetch = record { ended = λ e. absurd cc; credit = λ e. absurd cc }

stops_anew : (b : Bool) (s : DeliveryState) (o : Option ReceivingLink) → IfSome o Stops → IfSome (counted_anew b s o) Stops
stops_anew true s None w = tt
stops_anew true s (Some l) w = record { ended = w.ended; credit = w.credit }
stops_anew false s o w = w

-- what leaves the state so
same_ended : (a : Bool) (s t : Receiving) → (s.granting ≡ Ended → t.granting ≡ Ended) → s.granting ≡ Ended → (if a then t else s).granting ≡ Ended
same_ended true s t more e = more e
same_ended false s t more e = e

same_none : (a : Bool) (s t : Receiving) → (s.credit ≡ 0 → t.credit ≡ 0) → s.credit ≡ 0 → (if a then t else s).credit ≡ 0
same_none true s t more e = more e
same_none false s t more e = e

flow_none : (count : ℕ) (s : Receiving) → s.credit ≡ 0 → (after_peer_flow count s).credit ≡ 0
flow_none count s e = by (nat_lt (left_by count s) s.credit) refl
  where
    by : (b : Bool) → nat_lt (left_by count s) s.credit ≡ b → (if b then gave_up (left_by count s) s else s).credit ≡ 0
    by true f = let less : left_by count s < s.credit = grind (arith, nat_tests, f) in absurd (omega (arith, less, e))
    by false f = e

-- a flow of it gives none
offers_zero : (closed : Bool) (l : ReceivingLink) (g : NextGrant) → l.cancelled ≡ true → l.state.granting ≡ Ended → is_to_ask l.get ≡ false → flow_of closed l ≡ Some g → g.credit ≡ 0
offers_zero closed l g gone ended unasked e = by l.attached (is_granting l.state.granting) (nat_le (2 * (l.state.credit + l.state.counted)) l.state.quota) l.stopping (is_to_ask l.get) (nat_lt 0 l.echoes) (ap is_granting ended) unasked e
  where
    one : (c : ℕ) (a : NextGrant) → a.credit ≡ c → c ≡ 0 → Some a ≡ Some g → g.credit ≡ 0
    one c a i j f = let same : a ≡ g = cc in ap (λ (x : NextGrant). x.credit) (sym same) ∙ i ∙ j

    echo : (b : Bool) → b ≡ true → (if b || (closed && is_for_gets l.kind) then 0 else l.state.credit) ≡ 0
    echo true i = refl
    echo false i = absurd cc

    by : (a v m s t o : Bool) → v ≡ false → t ≡ false
        → (if a then option_or (option_map (grant_as l Refill) (if v && m then Some (l.state.quota - l.state.counted) else None))
        (option_or (if s then Some (grant_as l Stop 0) else None) (option_or (if t && not closed then Some (grant_as l Asks 1) else None)
        (if o then Some (grant_as l Echo (echo_credit closed l)) else None))) else None) ≡ Some g
        → g.credit ≡ 0
    by false v m s t o i j f = absurd cc
    by true true m s t o i j f = absurd cc
    by true false m true t o i j f = one 0 (grant_as l Stop 0) refl refl f
    by true false m false true o i j f = absurd cc
    by true false m false false true i j f = one (echo_credit closed l) (grant_as l Echo (echo_credit closed l)) refl (echo l.cancelled gone) f
    by true false m false false false i j f = absurd cc

-- and where none is due its own went
no_stop : (closed : Bool) (l : ReceivingLink) → l.attached ≡ true → flow_of closed l ≡ None → l.stopping ≡ false
no_stop closed l a e = by l.attached (option_map (grant_as l Refill) (grant_of l.state)) l.stopping _ a e
  where
    by : (b : Bool) (o : Option NextGrant) (s : Bool) (rest : Option NextGrant) → b ≡ true
        → (if b then option_or o (option_or (if s then Some (grant_as l Stop 0) else None) rest) else None) ≡ None → s ≡ false
    by true None true rest f g = absurd cc
    by true None false rest f g = refl
    by true (Some x) s rest f g = absurd cc
    by false o s rest f g = absurd cc

module _ (life : ℕ) where
  stops : (ds : List DeliveryEvent) → AreCalls life ds → (k : ℕ) → IfSome (link_of (on.after_events life ds).links k) Stops
  stops [] c k = tt
  stops (x ∷ ds) c k =
      subst (λ (o : Option ReceivingLink). IfSome o Stops) (sym (linked x s k))
      (stops_anew (recounts x) (on.after_event x s) (link_after x s k (link_of s.links k)) (by x (link_of s.links k) refl c.0 (stops ds c.1 k)))
    where
      s : DeliveryState
      s = on.after_events life ds

      unasked : (g : Option WaitingGet) (kind : RecvKind) → (is_some g ≡ true → is_for_gets kind ≡ true) → is_consumer kind ≡ true → is_to_ask g ≡ false
      unasked None kind f e = refl
      unasked (Some g) (Consumer tag no_ack) f e = let no : is_for_gets (Consumer tag no_ack) ≡ true = f refl in absurd cc
      unasked (Some g) Get f e = absurd cc
      unasked (Some g) Probe f e = absurd cc

      by : (x : DeliveryEvent) (o : Option ReceivingLink) → link_of s.links k ≡ o → IsCall s x → IfSome o Stops → IfSome (link_after x s k o) Stops
      by (on.LinkAdded link kind) None f e w = pick (link == k)
        where
          pick : (b : Bool) → IfSome (if b then Some (new_link link kind s.prefetch) else None) Stops
          pick true = new_stops link kind s.prefetch
          pick false = tt
      by (on.LinkAdded link kind) (Some l) f e w = w
      by (on.LinkAttached link count) None f e w = tt
      by (on.LinkAttached link count) (Some l) f e w = record {
        ended = λ c. same_ended (is_number link l) l.state (after_attach count l.state) (λ z. ap once_attached z) (w.ended c);
        credit = λ c u t. same_none (is_number link l) l.state (after_attach count l.state) (λ z. refl) (w.credit c u t);
      }
      by (on.LinkFlowed link count) None f e w = tt
      by (on.LinkFlowed link count) (Some l) f e w = record {
        ended = λ c. same_ended (is_number link l) l.state (after_peer_flow count l.state) (λ z. flow_granting count l.state ∙ z) (w.ended c);
        credit = λ c u t. same_none (is_number link l) l.state (after_peer_flow count l.state) (flow_none count l.state) (w.credit c u t);
      }
      by (on.LinkEchoed link) None f e w = tt
      by (on.LinkEchoed link) (Some l) f e w = record { ended = w.ended; credit = w.credit }
      by (on.GetCame link no_ack) None f e w = tt
      by (on.GetCame link no_ack) (Some l) f e w = record { ended = w.ended; credit = w.credit }
      by (on.TransferCame link part payload) None f e w = pick (k == link)
        where
          pick : (b : Bool) → IfSome (if b then None else None) Stops
          pick true = tt
          pick false = tt
      by (on.TransferCame link part payload) (Some l) f e w = pick (k == link)
        where
          less : l.state.credit ≡ 0 → l.state.credit - 1 ≡ 0
          less z = omega (arith, z)

          pick : (b : Bool) → IfSome (if b then Some (transfer_came part payload l) else Some l) Stops
          pick true = record {
            ended = λ c. same_ended (is_apart l) l.state (after_arrival l.state) (λ z. z) (w.ended c);
            credit = λ c u t. same_none (is_apart l) l.state (after_arrival l.state) less (w.credit c u t);
          }
          pick false = w
      by (on.Arrived a content again) None f e w = tt
      by (on.Arrived a content again) (Some l) f e w = record { ended = w.ended; credit = w.credit }
      by (on.LinkDropped link) None f e w = pick (k == link)
        where
          pick : (b : Bool) → IfSome (if b then None else None) Stops
          pick true = tt
          pick false = tt
      by (on.LinkDropped link) (Some l) f e w = pick (k == link)
        where
          pick : (b : Bool) → IfSome (if b then None else Some l) Stops
          pick true = tt
          pick false = w
      by (on.Cancelled link) None f e w = tt
      by (on.Cancelled link) (Some l) f e w = pick (is_number link l)
        where
          pick : (b : Bool) → Stops (record l {
            state = if b then after_cancel l.state else l.state;
            cancelled = if b then true else l.cancelled;
            stopping = if b then true else l.stopping;
          })
          pick true = record { ended = λ c. refl; credit = λ c u t. absurd cc }
          pick false = record { ended = w.ended; credit = w.credit }
      by on.Closed None f e w = tt
      by on.Closed (Some l) f e w = record { ended = λ c. refl; credit = w.credit }
      by (on.GrantSent g) None f e w = tt
      by (on.GrantSent g) (Some l) f e w = record {
        ended = λ c. same_ended (is_number g.link l) l.state (after_grant g.credit l.state) (λ z. z) (w.ended c);
        credit = λ c u t. pick (is_number g.link l) refl c u t;
      }
        where
          zero_on : is_number g.link l ≡ true → l.cancelled ≡ true → is_consumer l.kind ≡ true → g.credit ≡ 0
          zero_on i z u =
              let t = source s.closed s.links g (apart life ds c.1) e in
              let same : g.link ≡ k = sym (equal l.link g.link i) ∙ number_is s.links k l f in
              let here : Some t.link ≡ Some l = sym t.is ∙ ap (link_of s.links) same ∙ f in
              let is : t.link ≡ l = cc in
              let p : Kept ds k l = subst (λ (o : Option ReceivingLink). IfSome o (Kept ds k)) f (kept life ds c.1 k) in
              offers_zero s.closed l g z (w.ended z) (unasked l.get l.kind p.gets u) (ap (flow_of s.closed) (sym is) ∙ t.offers)

          pick : (b : Bool) → is_number g.link l ≡ b → l.cancelled ≡ true → is_consumer l.kind ≡ true → (if b && is_stop g.cause then false else l.stopping) ≡ false
              → (if b then after_grant g.credit l.state else l.state).credit ≡ 0
          pick true i c u t = zero_on i c u
          pick false i c u t = w.credit c u t
      by (on.Emptied link) None f e w = tt
      by (on.Emptied link) (Some l) f e w = record { ended = w.ended; credit = w.credit }
      by x None f e w = tt
      by x (Some l) f e w = record { ended = w.ended; credit = w.credit }

-- a link that isn't there is none that takes
none_takes : (k : ℕ) (ls : List PathLink) → find (has_number k) ls ≡ None → takes k ls ≡ false
none_takes k [] e = refl
none_takes k (l ∷ ls) e = by (has_number k l) (is_taking l) e (none_takes k ls)
  where
    by : (b t : Bool) → cond b (Some l) (find (has_number k) ls) ≡ None → (find (has_number k) ls ≡ None → takes k ls ≡ false) → ((b && t) || takes k ls) ≡ false
    by true t e rest = absurd cc
    by false t e rest = rest e

-- a link of the deliveries is one of the session's, which the gateway didn't detach
module _ (arrives : DeliveriesAre) (closed : ClosedAre) (tied : LinksAre) (queues : QueuesAre) where
  pub known_takes : (life : ℕ) (es : List PathEvent) (k : ℕ) → AreHeard life es → is_closed (deliveries_of life es) ≡ false → (l : ReceivingLink)
      → link_of (on.after_events life (deliveries_of life es)).links k ≡ Some l → takes k (after_events life es).links.links ≡ true
  known_takes life es k heard on_yet l is =
      let d = on.after_events life (deliveries_of life es) in
      let known : knows k d.links ≡ true = any_found (is_number k) (is_number k) d.links l is (eq_to l.link k (number_is d.links k l is)) in
      let open_yet : (after_events life es).deliveries.closed ≡ false = ap (λ (q : DeliveryState). q.closed) (arrives life es) ∙ closed life (deliveries_of life es) ∙ on_yet in
      (goes arrives closed tied queues life es heard).known open_yet k (sym (numbered arrives life es k) ∙ known)

module _ (arrives : DeliveriesAre) (closed : ClosedAre) (calls : CallsAre) (tied : LinksAre) (queues : QueuesAre) where
  -- so no link of the deliveries asks for a flow where none is due
  none_asked : (life : ℕ) (es : List PathEvent) (k : ℕ) → AreHeard life es → next_flow (after_events life es) ≡ None → is_closed (deliveries_of life es) ≡ false → (l : ReceivingLink)
      → link_of (on.after_events life (deliveries_of life es)).links k ≡ Some l → flow_of (on.after_events life (deliveries_of life es)).closed l ≡ None
  none_asked life es k heard none on_yet l is = none_offered d.closed d.links (unoffered (next_grant_of d.closed d.links) refl unasked) k l is
    where
      s : PathState
      s = after_events life es

      d : DeliveryState
      d = on.after_events life (deliveries_of life es)

      unasked : granting_on (next_grant_of d.closed d.links) s.links ≡ None
      unasked =
          ap (λ (q : DeliveryState). granting_on (next_grant_of q.closed q.links) s.links) (sym (arrives life es))
          ∙ none_granted s.links.sending s.links s.deliveries (flow_in s.publishes.list s.links) (grant_in s) none

      -- what the deliveries ask for would be of a link of the session
      unoffered : (o : Option NextGrant) → next_grant_of d.closed d.links ≡ o → granting_on o s.links ≡ None → o ≡ None
      unoffered None e f = refl
      unoffered (Some g) e f =
          let t = source d.closed d.links g (apart life (deliveries_of life es) (calls life es heard)) e in
          let taking_one : takes g.link s.links.links ≡ true = known_takes arrives closed tied queues life es g.link heard on_yet t.link t.is in
          absurd (clash (takes g.link s.links.links) taking_one (none_takes g.link s.links.links f))

both_false : (a b : Bool) → (a || b) ≡ false → (a ≡ false) × (b ≡ false)
both_false true b e = absurd cc
both_false false b e = (refl, e)

of_consumer : {T : Type 0} (kind : RecvKind) → is_consumer kind ≡ true → ForConsumer kind T → T
of_consumer (Consumer tag no_ack) e t = t
of_consumer Get e t = absurd cc
of_consumer Probe e t = absurd cc

module _ (arrives : DeliveriesAre) (closed : ClosedAre) (calls : CallsAre) (counts : CountsAre) (joined : JoinedAre) (tied : LinksAre) (queues : QueuesAre) where
  -- a consumer's link
  module _ (life : ℕ) (es : List PathEvent) (k : ℕ) (heard : AreHeard life es) (none : next_flow (after_events life es) ≡ None)
      (consumes : is_consumers (kind_in k (deliveries_of life es)) ≡ true) (is_there : is_attached k (deliveries_of life es) ≡ true) (on_yet : is_closed (deliveries_of life es) ≡ false) where
    abbrev ds : List DeliveryEvent
    ds = deliveries_of life es

    abbrev d : DeliveryState
    d = on.after_events life ds

    called : AreCalls life ds
    called = calls life es heard

    record Found : Type 0 where
      link : ReceivingLink
      is : link_of d.links k ≡ Some link
      told_so : Told ds k link
      kept_so : Kept ds k link
      consumer : is_consumer link.kind ≡ true
      attached : link.attached ≡ true
      unasked : flow_of d.closed link ≡ None

    found : Found
    found = by (link_of d.links k) refl
      where
        by : (o : Option ReceivingLink) → link_of d.links k ≡ o → Found
        by None e = let away : kind_in k ds ≡ None = told_of joined life ds k None called e in absurd (clash (is_consumers (kind_in k ds)) consumes (ap is_consumers away))
        by (Some l) e =
            let w : Told ds k l = told_of joined life ds k (Some l) called e in
            let p : Kept ds k l = kept_is life k ds l called e in
            record {
              link = l;
              is = e;
              told_so = w;
              kept_so = p;
              consumer = ap is_consumers p.kind ∙ consumes;
              attached = w.attached ∙ is_there;
              unasked = none_asked arrives closed calls tied queues life es k heard none on_yet l e;
            }

    filled : is_cancelled k ds ≡ false → quota_of k ds < 2 * ((left_on k ds).credit + in_use k ds)
    filled kept =
        let f : Found = found in
        let l : ReceivingLink = f.link in
        let granting : is_granting l.state.granting ≡ true = ap is_granting (f.told_so.live f.consumer (f.told_so.cancelled ∙ kept) on_yet ∙ ap once f.attached) in
        let more : l.state.quota < 2 * (l.state.credit + l.state.counted) = half l.state granting (no_refill d.closed l f.attached f.unasked) in
        let quota : l.state.quota ≡ quota_of k ds = of_consumer l.kind f.consumer f.kept_so.quota in
        let credit : l.state.credit ≡ (left_on k ds).credit = ap (λ (c : Left). c.credit) f.told_so.left in
        let counts_as : l.state.counted ≡ in_use k ds = used counts joined life k ds l called f.is in
        omega (arith, more, quota, credit, counts_as)

    emptied : is_cancelled k ds ≡ true → (left_on k ds).credit ≡ 0
    emptied gone =
        let f : Found = found in
        let l : ReceivingLink = f.link in
        let x : Stops l = subst (λ (o : Option ReceivingLink). IfSome o Stops) f.is (stops life ds called k) in
        sym (ap (λ (c : Left). c.credit) f.told_so.left) ∙ x.credit (f.told_so.cancelled ∙ gone) f.consumer (no_stop d.closed l f.attached f.unasked)

  -- a link in use has no echo to be answered, and no get to be asked for
  answered : (life : ℕ) (es : List PathEvent) (k : ℕ) → AreHeard life es → next_flow (after_events life es) ≡ None → is_used k (deliveries_of life es) ≡ true
      → (is_echoed k (deliveries_of life es) ≡ false) × (is_unasked k (deliveries_of life es) ≡ false)
  answered life es k heard none in_use_now = by (link_of d.links k) refl
    where
      ds : List DeliveryEvent
      ds = deliveries_of life es

      d : DeliveryState
      d = on.after_events life (deliveries_of life es)

      called : AreCalls life (deliveries_of life es)
      called = calls life es heard

      behind : (is_attached k ds && not (is_closed ds)) ≡ true
      behind = and_right (is_some (kind_in k ds)) _ in_use_now

      on_yet : is_closed (deliveries_of life es) ≡ false
      on_yet = not_true _ (and_right (is_attached k ds) _ behind)

      unless : (b c : Bool) → (b ≡ true → c ≡ true) → c ≡ false → b ≡ false
      unless true c f e = absurd (clash c (f refl) e)
      unless false c f e = refl

      by : (o : Option ReceivingLink) → link_of d.links k ≡ o → (is_echoed k ds ≡ false) × (is_unasked k ds ≡ false)
      by None e =
          let away : kind_in k ds ≡ None = told_of joined life ds k None called e in
          absurd (clash (is_some (kind_in k ds)) (and_left (is_some (kind_in k ds)) _ in_use_now) (ap is_some away))
      by (Some l) e =
          let w : Told ds k l = told_of joined life ds k (Some l) called e in
          let o : Owes ds k l = subst (λ (q : Option ReceivingLink). IfSome q (Owes ds k)) e (owes life ds called k) in
          let rest = none_owed d.closed l (closed life ds ∙ on_yet) (w.attached ∙ and_left (is_attached k ds) _ behind) (none_asked arrives closed calls tied queues life es k heard none on_yet l e) in
          (unless (is_echoed k ds) (nat_lt 0 l.echoes) o.echo rest.0, unless (is_unasked k ds) (is_to_ask l.get) o.ask rest.1)

  pub fills_quotas : LivesBelow → ((h : List Step) → ArePicks h → SuppliesContainers h) → (h : List Step) → ArePicks h → FillsQuotas h
  fills_quotas below supplies h p n life k r memory =
      record {
        live = λ e. on_link e;
        stopped = λ e. on_stopped e;
        told = λ e. (answered life es k (heard (used_open e)) none e).0;
        asked = λ e. (answered life es k (heard (used_open e)) none e).1;
      }
    where
      es : List PathEvent
      es = path_events h n

      ds : List DeliveryEvent
      ds = deliveries_of life es

      none : next_flow (after_events life es) ≡ None
      none = (supplies h p r.none r.readable r.unclosed n life r.lives r.carried).flows memory

      heard : is_closed ds ≡ false → AreHeard life es
      heard on_yet = open_heard arrives closed h n life p (below h n life r.lives) r.lives on_yet

      used_open : is_used k ds ≡ true → is_closed ds ≡ false
      used_open e = not_true _ (and_right (is_attached k ds) _ (and_right (is_some (kind_in k ds)) _ e))

      on_link : is_live k ds ≡ true → quota_of k ds < 2 * ((left_on k ds).credit + in_use k ds)
      on_link live =
          let behind = and_right (is_consumers (kind_in k ds)) _ live in
          let neither = both_false (is_cancelled k ds) (is_closed ds) (not_true _ (and_right (is_attached k ds) _ behind)) in
          filled life es k (heard neither.1) none (and_left (is_consumers (kind_in k ds)) _ live) (and_left (is_attached k ds) _ behind) neither.1 neither.0

      on_stopped : is_stopped k ds ≡ true → (left_on k ds).credit ≡ 0
      on_stopped gone =
          let behind = and_right (is_consumers (kind_in k ds)) _ gone in
          let more = and_right (is_attached k ds) _ behind in
          let on_yet : is_closed ds ≡ false = not_true _ (and_right (is_cancelled k ds) _ more) in
          emptied life es k (heard on_yet) none (and_left (is_consumers (kind_in k ds)) _ gone) (and_left (is_attached k ds) _ behind) on_yet (and_left (is_cancelled k ds) _ more)

  pub leaves_credit : LivesBelow → (h : List Step) → ArePicks h → LeavesCredit h
  leaves_credit below h p n life k link lives on_yet is =
      let es = path_events h n in
      let w : Told (deliveries_of life es) k link =
      told_of joined life (deliveries_of life es) k (Some link) (calls life es (open_heard arrives closed h n life p (below h n life lives) lives on_yet)) is in
      ap (λ (c : Left). c.credit) w.left
