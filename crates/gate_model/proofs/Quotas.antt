-- What a receiving link is for, and its quota, are what the events say; and where no flow takes its credit back it isn't cancelled.
use Rattle.std.proofs.Common.{◌≡◌, ◌∙◌, ℕ, ◌+◌, ◌==◌, ◌&&◌, ◌||◌, Bool, true, false, if◌then◌else◌, cond, List, [], ◌∷◌, ◌++◌, Option, None, Some}
use Rattle.std.proofs.Common.{refl, sym, ap, subst, arith}
use Rattle.std.specs.List.{AllByRecursion}
use Rattle.std.specs.Prelude.{IfSome, is_some}
use Rattle.std.proofs.lemmas.Bool.Decides.{nat_tests}
use Rattle.links_10.specs.Recv.{after_arrival, after_attach, after_cancel, after_grant, after_peer_flow, gave_up, left_by, once_attached}
use Rattle.links_10.specs.declared.recv.Granting.TheVariants.{Ended}
use Rattle.links_10.specs.declared.recv.Receiving.{Receiving}
use Rattle.std.specs.Prelude.{nat_lt}
use Rattle.consume_path.specs.Deliveries as on
use Rattle.consume_path.specs.Deliveries.{DeliveryEvent, DeliveryState}
use Rattle.consume_path.specs.Laws.{AreCalls, IsCall}
use Rattle.consume_path.specs.Links.{consumer_link, found_empty, has_number, in_link, transfer_came, is_ask, is_between, is_stop, leaves_empty, link_of, new_get}
use Rattle.consume_path.specs.Links.{new_link, or_free, served, was_asked}
use Rattle.consume_path.specs.Offers.{is_drained, is_for_gets, next_settle_of}
use Rattle.consume_path.specs.declared.delivery.NextSettle.{NextSettle}
use Rattle.consume_path.specs.declared.receiving.NextGrant.{NextGrant}
use Rattle.consume_path.specs.declared.receiving.ReceivingLink.{ReceivingLink}
use Rattle.consume_path.specs.declared.receiving.RecvKind.{RecvKind}
use Rattle.consume_path.specs.declared.receiving.RecvKind.TheVariants.{Consumer, Get, Probe}
use Rattle.consume_path.specs.declared.receiving.WaitingGet.{WaitingGet}
use Rattle.session_path.specs.Events as event
use Rattle.session_path.specs.Events.{PathEvent, after_events, arrivals, begins, cancels, counts, deliveries_of, delivery_events, disposes, drops}
use Rattle.session_path.specs.Events.{echoes, flows, gets, globals, grants, transfers}
use Rattle.session_path.specs.Links.{asked_by, free_number, named}
use Rattle.session_path.specs.Path.{PathState, detaching_of, first_of, flow_in, get_link, grant_in, is_grant_next, is_last, queue_or, receiver_in}
use Rattle.session_path.specs.Path.{taking, transferred}
use Rattle.session_path.specs.declared.path.PathLink.{PathLink}
use Rattle.session_path.specs.declared.path.PathOk.{PathOk}
use Rattle.session_path.specs.declared.path.PathOk.TheVariants as ok
use Rattle.gate_model.specs.Credits.{added_quota, kind_in, prefetch_in, prefetch_of, quota_by, quota_in, quota_of}
use Rattle.gate_model.proofs.Linking.{counted_anew, link_after, linked, recounts}

-- ---- by the events of the deliveries

pub prefetch_is : (life : ℕ) (ds : List DeliveryEvent) → (on.after_events life ds).prefetch ≡ prefetch_of ds
prefetch_is life [] = refl
prefetch_is life (on.PrefetchSet count ∷ ds) = refl
prefetch_is life (x ∷ ds) = prefetch_is life ds

-- ---- a link keeps to them

abbrev pub ForConsumer : RecvKind → Type 0 → Type 0
ForConsumer (Consumer tag no_ack) T = T
ForConsumer Get T = Unit {0}
ForConsumer Probe T = Unit {0}

for_more : (kind : RecvKind) (A B : Type 0) → (A → B) → ForConsumer kind A → ForConsumer kind B
for_more (Consumer tag no_ack) A B f a = f a
for_more Get A B f a = tt
for_more Probe A B f a = tt

pub record Kept (ds : List DeliveryEvent) (k : ℕ) (l : ReceivingLink) : Type 0 where
  pub kind : Some l.kind ≡ kind_in k ds
  pub quota : ForConsumer l.kind (l.state.quota ≡ quota_of k ds)
  pub calm : l.cancelled ≡ false → l.stopping ≡ false
  pub gets : is_some l.get ≡ true → is_for_gets l.kind ≡ true
  pub ended : is_for_gets l.kind ≡ true → l.state.granting ≡ Ended

-- ---- what an event leaves of one

-- the quota, and that no credit is due by itself
record Holds (s t : Receiving) : Type 0 where
  quota : t.quota ≡ s.quota
  ended : s.granting ≡ Ended → t.granting ≡ Ended

holds_if : (b : Bool) (s t : Receiving) → Holds s t → Holds s (if b then t else s)
holds_if true s t h = h
holds_if false s t h = record { quota = refl; ended = λ e. e }

flow_holds : (count : ℕ) (s : Receiving) → Holds s (after_peer_flow count s)
flow_holds count s = by (nat_lt (left_by count s) s.credit)
  where
    by : (b : Bool) → Holds s (if b then gave_up (left_by count s) s else s)
    by true = record { quota = refl; ended = λ e. e }
    by false = record { quota = refl; ended = λ e. e }

-- the link in its place, where the events say the same of it
same : (ds es : List DeliveryEvent) (k : ℕ) (l m : ReceivingLink) → m.kind ≡ l.kind → kind_in k es ≡ kind_in k ds → quota_of k es ≡ quota_of k ds → Holds l.state m.state
    → ((l.cancelled ≡ false → l.stopping ≡ false) → m.cancelled ≡ false → m.stopping ≡ false) → (is_some m.get ≡ true → (is_some l.get ≡ true → is_for_gets l.kind ≡ true) → is_for_gets l.kind ≡ true) → Kept ds k l → Kept es k m
same ds es k l m kind kinds quotas holds calm gets w = record {
  kind = ap Some kind ∙ w.kind ∙ sym kinds;
  quota = subst (λ (x : RecvKind). ForConsumer x (m.state.quota ≡ quota_of k es)) (sym kind)
      (for_more l.kind (l.state.quota ≡ quota_of k ds) (m.state.quota ≡ quota_of k es) (λ q. holds.quota ∙ q ∙ sym quotas) w.quota);
  calm = calm w.calm;
  gets = λ e. ap is_for_gets kind ∙ gets e w.gets;
  ended = λ e. holds.ended (w.ended (sym (ap is_for_gets kind) ∙ e));
}

still : (s : Receiving) → Holds s s
still s = record { quota = refl; ended = λ e. e }

-- its get
emptied : (b : Bool) (g : Option WaitingGet) → is_some (if b then found_empty g else g) ≡ true → is_some g ≡ true
emptied true None e = absurd cc
emptied true (Some g) e = refl
emptied false g e = e

asked : (b : Bool) (g : Option WaitingGet) → is_some (if b then was_asked g else g) ≡ true → is_some g ≡ true
asked true None e = absurd cc
asked true (Some g) e = refl
asked false g e = e

gone : (b : Bool) (g : Option WaitingGet) → is_some (if b then None else g) ≡ true → is_some g ≡ true
gone true g e = absurd cc
gone false g e = e

taken : (b image : Bool) (g : Option WaitingGet) → is_some (if b then (if image then served g else found_empty g) else g) ≡ true → is_some g ≡ true
taken false image g e = e
taken true true None e = absurd cc
taken true false None e = absurd cc
taken true image (Some g) e = refl

-- ---- a link that is found

pub number_is : (links : List ReceivingLink) (k : ℕ) (l : ReceivingLink) → link_of links k ≡ Some l → l.link ≡ k
number_is [] k l e = absurd cc
number_is (x ∷ xs) k l e = by (x.link == k) refl e (λ f. number_is xs k l f)
  where
    by : (b : Bool) → (x.link == k) ≡ b → cond b (Some x) (link_of xs k) ≡ Some l → (link_of xs k ≡ Some l → l.link ≡ k) → l.link ≡ k
    by true is f rest = let same : x ≡ l = cc in let at : x.link ≡ k = grind (arith, nat_tests, is) in ap (λ (y : ReceivingLink). y.link) (sym same) ∙ at
    by false is f rest = rest f

pub equal : (i j : ℕ) → (i == j) ≡ true → i ≡ j
equal i j e = grind (arith, nat_tests, e)

pub turned : (i j : ℕ) (b : Bool) → (i == j) ≡ b → (j == i) ≡ b
turned i j true e = grind (arith, nat_tests, e)
turned i j false e = grind (arith, nat_tests, e)

not_added : (kind : RecvKind) (b : Bool) (prefetch old : ℕ) → b ≡ false → added_quota kind b prefetch old ≡ old
not_added (Consumer tag no_ack) b prefetch old e = ap (λ (c : Bool). if c then quota_by no_ack prefetch else old) e
not_added Get b prefetch old e = refl
not_added Probe b prefetch old e = refl

new_quota : (link k : ℕ) (kind : RecvKind) (prefetch old : ℕ) → (link == k) ≡ true
    → ForConsumer kind ((new_link link kind prefetch).state.quota ≡ added_quota kind (link == k) prefetch old)
new_quota link k (Consumer tag no_ack) prefetch old e =
    by (no_ack || (prefetch == 0)) ∙ sym (ap (λ (b : Bool). if b then quota_by no_ack prefetch else old) e)
  where
    by : (b : Bool) → or_free (if b then None else Some prefetch) ≡ (if b then 64 else prefetch)
    by true = refl
    by false = refl
new_quota link k Get prefetch old e = tt
new_quota link k Probe prefetch old e = tt

new_ended : (link : ℕ) (kind : RecvKind) (prefetch : ℕ) → is_for_gets kind ≡ true → (new_link link kind prefetch).state.granting ≡ Ended
new_ended link (Consumer tag no_ack) prefetch e = absurd cc
new_ended link Get prefetch e = refl
new_ended link Probe prefetch e = absurd cc

-- ---- all events

counted : (b : Bool) (s : DeliveryState) (ds : List DeliveryEvent) (k : ℕ) (o : Option ReceivingLink) → IfSome o (Kept ds k) → IfSome (counted_anew b s o) (Kept ds k)
counted true s ds k None w = tt
counted true s ds k (Some l) w = record { kind = w.kind; quota = w.quota; calm = w.calm; gets = w.gets; ended = w.ended }
counted false s ds k o w = w

pub kept : (life : ℕ) (ds : List DeliveryEvent) → AreCalls life ds → (k : ℕ) → IfSome (link_of (on.after_events life ds).links k) (Kept ds k)
kept life [] c k = tt
kept life (x ∷ ds) c k =
    subst (λ (o : Option ReceivingLink). IfSome o (Kept (x ∷ ds) k)) (sym (linked x s k))
    (counted (recounts x) (on.after_event x s) (x ∷ ds) k (link_after x s k (link_of s.links k)) (by x (link_of s.links k) refl c.0 (kept life ds c.1 k)))
  where
    s : DeliveryState
    s = on.after_events life ds

    by : (x : DeliveryEvent) (o : Option ReceivingLink) → link_of s.links k ≡ o → IsCall s x → IfSome o (Kept ds k) → IfSome (link_after x s k o) (Kept (x ∷ ds) k)
    by (on.LinkAdded link kind) None f e w = pick (link == k) refl
      where
        pick : (b : Bool) → (link == k) ≡ b → IfSome (if b then Some (new_link link kind s.prefetch) else None) (Kept (on.LinkAdded link kind ∷ ds) k)
        pick true i = record {
          kind = sym (ap (λ (b : Bool). if b then Some kind else kind_in k ds) i);
          quota = subst (λ (p : ℕ). ForConsumer kind ((new_link link kind s.prefetch).state.quota ≡ added_quota kind (link == k) p (quota_of k ds))) (prefetch_is life ds)
              (new_quota link k kind s.prefetch (quota_of k ds) i);
          calm = λ z. refl;
          gets = λ z. absurd cc;
          ended = new_ended link kind s.prefetch;
        }
        pick false i = tt
    by (on.LinkAdded link kind) (Some l) f e w =
        same ds (on.LinkAdded link kind ∷ ds) k l l refl (ap (λ (b : Bool). if b then Some kind else kind_in k ds) off)
        (not_added kind (link == k) (prefetch_of ds) (quota_of k ds) off) (still l.state) (λ z. z) (λ z g. g z) w
      where
        pick : (b : Bool) → (link == k) ≡ b → b ≡ false
        pick true i = let none : link_of s.links k ≡ None = sym (ap (link_of s.links) (equal link k i)) ∙ e in let bad : Some l ≡ None = sym f ∙ none in absurd cc
        pick false i = refl

        off : (link == k) ≡ false
        off = pick (link == k) refl
    by (on.LinkAttached link count) None f e w = tt
    by (on.LinkAttached link count) (Some l) f e w =
        same ds (on.LinkAttached link count ∷ ds) k l _ refl refl refl
        (holds_if (has_number link l) l.state (after_attach count l.state) (record { quota = refl; ended = λ z. ap once_attached z })) (λ z. z) (λ z g. g z) w
    by (on.LinkFlowed link count) None f e w = tt
    by (on.LinkFlowed link count) (Some l) f e w =
        same ds (on.LinkFlowed link count ∷ ds) k l _ refl refl refl (holds_if (has_number link l) l.state (after_peer_flow count l.state) (flow_holds count l.state))
        (λ z. z) (λ z g. g (emptied (has_number link l && leaves_empty count l) l.get z)) w
    by (on.LinkEchoed link) None f e w = tt
    by (on.LinkEchoed link) (Some l) f e w = same ds (on.LinkEchoed link ∷ ds) k l _ refl refl refl (still l.state) (λ z. z) (λ z g. g z) w
    by (on.GetCame link no_ack) None f e w = tt
    by (on.GetCame link no_ack) (Some l) f e w =
        same ds (on.GetCame link no_ack ∷ ds) k l _ refl refl refl (still l.state) (λ z. z) (pick (l.link == link) refl) w
      where
        pick : (b : Bool) → (l.link == link) ≡ b → is_some (if b then Some (new_get (s.gets + 1) no_ack) else l.get) ≡ true → (is_some l.get ≡ true → is_for_gets l.kind ≡ true)
            → is_for_gets l.kind ≡ true
        pick true i z g =
            let here : link_of s.links link ≡ Some l = ap (link_of s.links) (sym (equal l.link link i) ∙ number_is s.links k l f) ∙ f in
            sym (ap (in_link (λ (m : ReceivingLink). is_for_gets m.kind)) here) ∙ e
        pick false i z g = g z
    by (on.TransferCame link part payload) None f e w = pick (k == link)
      where
        pick : (b : Bool) → IfSome (if b then None else None) (Kept (on.TransferCame link part payload ∷ ds) k)
        pick true = tt
        pick false = tt
    by (on.TransferCame link part payload) (Some l) f e w = pick (k == link)
      where
        pick : (b : Bool) → IfSome (if b then Some (transfer_came part payload l) else Some l) (Kept (on.TransferCame link part payload ∷ ds) k)
        pick true =
            same ds (on.TransferCame link part payload ∷ ds) k l (transfer_came part payload l) refl refl refl
            (holds_if (is_between l) l.state (after_arrival l.state) (record { quota = refl; ended = λ z. z })) (λ z. z) (λ z g. g (emptied part.aborted l.get z)) w
        pick false = same ds (on.TransferCame link part payload ∷ ds) k l l refl refl refl (still l.state) (λ z. z) (λ z g. g z) w
    by (on.Arrived a content again) None f e w = tt
    by (on.Arrived a content again) (Some l) f e w =
        same ds (on.Arrived a content again ∷ ds) k l _ refl refl refl (still l.state) (λ z. z) (λ z g. g (taken (has_number a.link l) (is_some content) l.get z)) w
    by (on.LinkDropped link) None f e w = pick (k == link)
      where
        pick : (b : Bool) → IfSome (if b then None else None) (Kept (on.LinkDropped link ∷ ds) k)
        pick true = tt
        pick false = tt
    by (on.LinkDropped link) (Some l) f e w = pick (k == link) refl
      where
        pick : (b : Bool) → (k == link) ≡ b → IfSome (if b then None else Some l) (Kept (on.LinkDropped link ∷ ds) k)
        pick true i = tt
        pick false i =
            same ds (on.LinkDropped link ∷ ds) k l l refl (ap (λ (b : Bool). if b then None else kind_in k ds) (turned k link false i)) refl (still l.state) (λ z. z)
            (λ z g. g z) w
    by (on.Cancelled link) None f e w = tt
    by (on.Cancelled link) (Some l) f e w =
        same ds (on.Cancelled link ∷ ds) k l _ refl refl refl (holds_if (has_number link l) l.state (after_cancel l.state) (record { quota = refl; ended = λ z. refl }))
        (pick (has_number link l)) (λ z g. g z) w
      where
        pick : (b : Bool) → (l.cancelled ≡ false → l.stopping ≡ false) → (if b then true else l.cancelled) ≡ false → (if b then true else l.stopping) ≡ false
        pick true g z = absurd cc
        pick false g z = g z
    by on.Closed None f e w = tt
    by on.Closed (Some l) f e w = same ds (on.Closed ∷ ds) k l _ refl refl refl (record { quota = refl; ended = λ z. refl }) (λ z. z) (λ z g. g z) w
    by (on.GrantSent grant) None f e w = tt
    by (on.GrantSent grant) (Some l) f e w =
        same ds (on.GrantSent grant ∷ ds) k l _ refl refl refl
        (holds_if (has_number grant.link l) l.state (after_grant grant.credit l.state) (record { quota = refl; ended = λ z. z }))
        (pick (has_number grant.link l && is_stop grant.cause)) (λ z g. g (asked (has_number grant.link l && is_ask grant.cause) l.get z)) w
      where
        pick : (b : Bool) → (l.cancelled ≡ false → l.stopping ≡ false) → l.cancelled ≡ false → (if b then false else l.stopping) ≡ false
        pick true g z = refl
        pick false g z = g z
    by (on.Emptied link) None f e w = tt
    by (on.Emptied link) (Some l) f e w =
        same ds (on.Emptied link ∷ ds) k l _ refl refl refl (still l.state) (λ z. z) (λ z g. g (gone (has_number link l) l.get z)) w
    by x None f e w = tt
    by x (Some l) f e w = record { kind = w.kind; quota = w.quota; calm = w.calm; gets = w.gets; ended = w.ended }

-- ---- by the events of the path

-- it asks for no get, notes none, cancels no consumer, sets no prefetch and adds no link
abbrev pub is_simple : DeliveryEvent → Bool
is_simple (on.LinkAdded link kind) = false
is_simple (on.GetCame link no_ack) = false
is_simple (on.Cancelled link) = false
is_simple (on.PrefetchSet count) = false
is_simple (on.Emptied link) = false
is_simple x = true

-- and none of the events of the deliveries that this one brings does
abbrev pub is_simple_event : PathEvent → Bool
is_simple_event (event.Owed x) = false
is_simple_event (event.Consumed queue tag no_ack no_wait) = false
is_simple_event (event.CancelCame tag no_wait) = false
is_simple_event (event.Declared queue no_wait) = false
is_simple_event (event.GetAsked queue no_ack) = false
is_simple_event (event.FlowCame peer count credit drain echo) = false
is_simple_event (event.TransferCame peer part payload image again) = false
is_simple_event x = true

abbrev pub AreSimple : List DeliveryEvent → Type 0
AreSimple xs = AllByRecursion (λ (x : DeliveryEvent). is_simple x ≡ true) xs

one : (b : Bool) (x : DeliveryEvent) → is_simple x ≡ true → AreSimple (if b then x ∷ [] else [])
one true x e = (e, tt)
one false x e = tt

pub simple_events : (s : PathState) (x : PathEvent) → is_simple_event x ≡ true → AreSimple (delivery_events s x)
simple_events s (event.Owed x) e = absurd cc
simple_events s (event.Consumed queue tag no_ack no_wait) e = absurd cc
simple_events s (event.CancelCame tag no_wait) e = absurd cc
simple_events s (event.Declared queue no_wait) e = absurd cc
simple_events s (event.GetAsked queue no_ack) e = absurd cc
simple_events s (event.FlowCame peer count credit drain echo) e = absurd cc
simple_events s (event.TransferCame peer part payload image again) e = absurd cc
simple_events s (event.AnswerCame tag multiple settle) e = (refl, tt)
simple_events s (event.AttachCame attach) e = by (asked_by attach s.links)
  where
    by : (o : Option PathLink) → AreSimple (begins o attach)
    by None = tt
    by (Some l) = one (l.receives && attach.there) (on.LinkAttached l.link attach.count) refl
simple_events s event.LinkFlowSent e = by (is_grant_next s) (grant_in s)
  where
    by : (b : Bool) (o : Option NextGrant) → AreSimple (if b then grants o else [])
    by true None = tt
    by true (Some g) = (refl, tt)
    by false o = tt
simple_events s event.DisposeSent e = by (next_settle_of s.deliveries.list)
  where
    by : (o : Option NextSettle) → AreSimple (disposes o)
    by None = tt
    by (Some x) = (refl, tt)
simple_events s event.DetachSent e = by (detaching_of s)
  where
    by : (o : Option PathLink) → AreSimple (drops o)
    by None = tt
    by (Some l) = one l.receives (on.LinkDropped l.link) refl
simple_events s (event.DeliverSent due) e = (refl, tt)
simple_events s (event.ContentWhole tag) e = (refl, tt)
simple_events s (event.OkSent x) e = by (first_of s.oks)
  where
    by : (o : Option PathOk) → AreSimple (globals o)
    by (Some (ok.Qos count true)) = (refl, tt)
    by (Some (ok.Qos count false)) = tt
    by (Some x) = tt
    by None = tt
simple_events s event.LinesWent e = (refl, tt)
simple_events s event.LifeClosed e = (refl, tt)
simple_events s event.SessionLost e = (refl, tt)
simple_events s event.SessionEnded e = (refl, tt)
simple_events s event.UpLost e = (refl, (refl, tt))
simple_events s x e = tt

-- ---- the prefetch and the quotas, by them

-- these change neither
abbrev Same : List DeliveryEvent → Type 0
Same xs = (k : ℕ) (ds : List DeliveryEvent) → (prefetch_of (xs ++ ds) ≡ prefetch_of ds) × (quota_of k (xs ++ ds) ≡ quota_of k ds)

simple_same : (xs : List DeliveryEvent) → AreSimple xs → Same xs
simple_same [] a k ds = (refl, refl)
simple_same (x ∷ xs) a k ds = let rest = simple_same xs a.1 k ds in let first = by x (xs ++ ds) a.0 in (first.0 ∙ rest.0, first.1 ∙ rest.1)
  where
    by : (x : DeliveryEvent) (es : List DeliveryEvent) → is_simple x ≡ true → (prefetch_of (x ∷ es) ≡ prefetch_of es) × (quota_of k (x ∷ es) ≡ quota_of k es)
    by (on.LinkAdded link kind) es e = absurd cc
    by (on.GetCame link no_ack) es e = absurd cc
    by (on.Cancelled link) es e = absurd cc
    by (on.PrefetchSet count) es e = absurd cc
    by (on.Emptied link) es e = absurd cc
    by x es e = (refl, refl)

-- by a path event that is neither an answer that is due nor a basic.consume
abbrev is_other : PathEvent → Bool
is_other (event.Owed x) = false
is_other (event.Consumed queue tag no_ack no_wait) = false
is_other x = true

others_same : (s : PathState) (x : PathEvent) → is_other x ≡ true → Same (delivery_events s x)
others_same s (event.Owed x) e k ds = absurd cc
others_same s (event.Consumed queue tag no_ack no_wait) e k ds = absurd cc
others_same s (event.CancelCame tag no_wait) e k ds = by (consumer_link tag s.deliveries.links)
  where
    by : (o : Option ℕ) → (prefetch_of (cancels o ++ ds) ≡ prefetch_of ds) × (quota_of k (cancels o ++ ds) ≡ quota_of k ds)
    by None = (refl, refl)
    by (Some link) = (refl, refl)
others_same s (event.Declared queue no_wait) e k ds = (refl, refl)
others_same s (event.GetAsked queue no_ack) e k ds = by (get_link (queue_or s.queue queue) s)
  where
    by : (o : Option PathLink) → (prefetch_of (gets o no_ack s ++ ds) ≡ prefetch_of ds) × (quota_of k (gets o no_ack s ++ ds) ≡ quota_of k ds)
    by None = (refl, refl)
    by (Some l) = (refl, refl)
others_same s (event.FlowCame peer count credit drain echo) e k ds = by (receiver_in (named peer s.links))
  where
    flowed : (b c : Bool) (o : Option ℕ) (link : ℕ)
        → (prefetch_of (((if b then on.Emptied link ∷ [] else []) ++ (echoes c link ++ counts o link)) ++ ds) ≡ prefetch_of ds)
        × (quota_of k (((if b then on.Emptied link ∷ [] else []) ++ (echoes c link ++ counts o link)) ++ ds) ≡ quota_of k ds)
    flowed true true None link = (refl, refl)
    flowed true true (Some n) link = (refl, refl)
    flowed true false None link = (refl, refl)
    flowed true false (Some n) link = (refl, refl)
    flowed false true None link = (refl, refl)
    flowed false true (Some n) link = (refl, refl)
    flowed false false None link = (refl, refl)
    flowed false false (Some n) link = (refl, refl)

    by : (o : Option PathLink) → (prefetch_of (flows o count echo s.deliveries ++ ds) ≡ prefetch_of ds) × (quota_of k (flows o count echo s.deliveries ++ ds) ≡ quota_of k ds)
    by None = (refl, refl)
    by (Some l) = flowed (is_drained l.link (flow_in l.link count echo s.deliveries).links) echo count l.link
others_same s (event.TransferCame peer part payload image again) e k ds = by (taking peer s)
  where
    came : (b c : Bool) (link : ℕ)
        → (prefetch_of (((if b then on.Emptied link ∷ [] else []) ++ (arrivals c link image again (on.after_event (on.TransferCame link part payload) s.deliveries)
        ++ on.TransferCame link part payload ∷ [])) ++ ds) ≡ prefetch_of ds)
        × (quota_of k (((if b then on.Emptied link ∷ [] else []) ++ (arrivals c link image again (on.after_event (on.TransferCame link part payload) s.deliveries)
        ++ on.TransferCame link part payload ∷ [])) ++ ds) ≡ quota_of k ds)
    came true true link = (refl, refl)
    came true false link = (refl, refl)
    came false true link = (refl, refl)
    came false false link = (refl, refl)

    by : (o : Option PathLink)
        → (prefetch_of (transfers o part payload image again s.deliveries ++ ds) ≡ prefetch_of ds) × (quota_of k (transfers o part payload image again s.deliveries ++ ds) ≡ quota_of k ds)
    by None = (refl, refl)
    by (Some l) = came (is_drained l.link (transferred l.link part payload image again s.deliveries).links) (is_last part) l.link
others_same s x e k ds = simple_same (delivery_events s x) (simple_events s x refl) k ds

pub prefetch_same : (life : ℕ) (es : List PathEvent) → prefetch_of (deliveries_of life es) ≡ prefetch_in es
prefetch_same life [] = refl
prefetch_same life (event.Owed x ∷ es) = by x (prefetch_same life es)
  where
    by : (x : PathOk) → prefetch_of (deliveries_of life es) ≡ prefetch_in es → prefetch_of (deliveries_of life (event.Owed x ∷ es)) ≡ prefetch_in (event.Owed x ∷ es)
    by (ok.Qos count true) old = old
    by (ok.Qos count false) old = refl
    by x old = old
prefetch_same life (event.Consumed queue tag no_ack no_wait ∷ es) = prefetch_same life es
prefetch_same life (x ∷ es) = (others_same (after_events life es) x refl 0 (deliveries_of life es)).0 ∙ prefetch_same life es

pub quota_same : (life k : ℕ) (es : List PathEvent) → quota_of k (deliveries_of life es) ≡ quota_in life k es
quota_same life k [] = refl
quota_same life k (event.Owed x ∷ es) = by x (quota_same life k es)
  where
    by : (x : PathOk) → quota_of k (deliveries_of life es) ≡ quota_in life k es → quota_of k (deliveries_of life (event.Owed x ∷ es)) ≡ quota_in life k (event.Owed x ∷ es)
    by (ok.Qos count true) old = old
    by (ok.Qos count false) old = old
    by x old = old
quota_same life k (event.Consumed queue tag no_ack no_wait ∷ es) =
    let here : Bool = free_number (after_events life es).links.links == k in
    ap (λ (p : ℕ). if here then quota_by no_ack p else quota_of k (deliveries_of life es)) (prefetch_same life es)
    ∙ ap (λ (n : ℕ). if here then quota_by no_ack (prefetch_in es) else n) (quota_same life k es)
quota_same life k (x ∷ es) = (others_same (after_events life es) x refl k (deliveries_of life es)).1 ∙ quota_same life k es
