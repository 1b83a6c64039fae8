-- A delivery that a client is to have is taken as the last request on its link said.
use Rattle.std.proofs.Common.{◌≡◌, ◌∙◌, ℕ, ◌+◌, ◌==◌, ◌≤◌, not, ◌&&◌, ◌||◌, Bool, true, false, if◌then◌else◌, List, [], ◌∷◌, ◌++◌, Option, None, Some}
use Rattle.std.proofs.Common.{refl, sym, ap, subst, arith}
use Rattle.std.proofs.lemmas.Bool.Decides.{nat_tests}
use Rattle.std.specs.List.{AllByRecursion, list_any}
use Rattle.std.specs.Option.{option_map}
use Rattle.std.specs.Prelude.{IfSome, bytes_eq, find, is_some}
use Rattle.consume_path.specs.Deliveries as on
use Rattle.consume_path.specs.Deliveries.{DeliveryEvent, DeliveryState}
use Rattle.consume_path.specs.Items.{is_nobody}
use Rattle.consume_path.specs.Journal.{IsTaken, arrives as comes, fate_of, is_closed, new_fate, numbers_of}
use Rattle.consume_path.specs.Laws.{AreCalls, IsCall}
use Rattle.consume_path.specs.Links.{consumer_link, flow_sent, found_empty, get_emptied, getter_of, has_number, has_tag, in_link, is_ask, is_tagged, is_whole, leaves_empty, link_cancelled, link_flowed, link_of, new_get, new_link, served}
use Rattle.consume_path.specs.Links.{tag_by, taken_from, taker_by, taker_of, transfer_came, was_asked}
use Rattle.consume_path.specs.Offers.{arriving_in, is_drained, is_for_gets}
use Rattle.consume_path.specs.declared.delivery.Content.{Content}
use Rattle.consume_path.specs.declared.delivery.Taker.{Taker}
use Rattle.consume_path.specs.declared.receiving.Part.{Part}
use Rattle.consume_path.specs.declared.receiving.ReceivingLink.{ReceivingLink}
use Rattle.consume_path.specs.declared.receiving.RecvKind.{RecvKind}
use Rattle.consume_path.specs.declared.receiving.RecvKind.TheVariants.{Consumer, Get, Probe}
use Rattle.consume_path.specs.declared.receiving.WaitingGet.{WaitingGet}
use Rattle.session_path.specs.Events as event
use Rattle.session_path.specs.Events.{PathEvent, after_events, arrivals, cancels, counts, deliveries_of, delivery_events, echoes, empties, flows, gets, prefetches, transfers}
use Rattle.session_path.specs.Laws.{AreHeard}
use Rattle.session_path.specs.Links.{free_number, named}
use Rattle.session_path.specs.Path.{PathState, arrival_on, flow_in, get_link, is_last, queue_or, receiver_in, tag_for, taking, transferred}
use Rattle.session_path.specs.declared.path.PathLink.{PathLink}
use Rattle.session_path.specs.declared.path.PathOk.{PathOk}
use Rattle.session_path.specs.declared.path.PathOk.TheVariants as ok
use Rattle.gate_model.specs.Credits.{is_consumer, kind_in, prefetch_of}
use Rattle.gate_model.specs.Picks.{ArePicks}
use Rattle.gate_model.specs.Publishing.{path_events}
use Rattle.gate_model.specs.Sources.{or_new}
use Rattle.gate_model.specs.Starts.{tag_asked}
use Rattle.gate_model.specs.State.{Step}
use Rattle.gate_model.specs.Takers.{AreTaken, Coming, IsTakenBy, TakesAsAsked, Terms, by_consume, by_get, coming_in, coming_on, consumes_on, terms_of, terms_on}
use Rattle.gate_model.proofs.Arrived.{counted, event_none}
use Rattle.gate_model.proofs.Basics.{all_both, and_left, and_none, and_right, not_true}
use Rattle.gate_model.proofs.Calling.{own}
use Rattle.gate_model.proofs.Calm.{not_new}
use Rattle.gate_model.proofs.Connections.{clash}
use Rattle.gate_model.proofs.Granting.{DeliveriesAre}
use Rattle.gate_model.proofs.Heard.{ClosedAre, open_heard}
use Rattle.gate_model.proofs.Images.{all_leave, arriving_link}
use Rattle.gate_model.proofs.Linking.{apart, counted_anew, link_after, linked, recounts}
use Rattle.gate_model.proofs.Moves.{arrives}
use Rattle.gate_model.proofs.Quotas.{AreSimple, Kept, equal, is_simple, kept, number_is, prefetch_is, prefetch_same, simple_events}
use Rattle.gate_model.proofs.Rests.{LivesBelow}
use Rattle.gate_model.proofs.Settles.{CallsAre}
use Rattle.gate_model.proofs.Sources.{QueuesAre, adds, gets_kind, kind_back, unadded}

-- ---- by the events of the deliveries

abbrev added_terms : RecvKind → Bool → ℕ → Option Terms → Option Terms
added_terms (Consumer tag no_ack) here prefetch old = if here then Some (by_consume no_ack prefetch) else old
added_terms Get here prefetch old = old
added_terms Probe here prefetch old = old

abbrev terms_by : ℕ → List DeliveryEvent → Option Terms
terms_by k [] = None
terms_by k (on.LinkAdded link kind ∷ ds) = added_terms kind (link == k) (prefetch_of ds) (terms_by k ds)
terms_by k (on.GetCame link no_ack ∷ ds) = if link == k then Some (by_get no_ack) else terms_by k ds
terms_by k (x ∷ ds) = terms_by k ds

abbrev consumes_by : ℕ → List DeliveryEvent → Bool
consumes_by k [] = false
consumes_by k (on.LinkAdded link kind ∷ ds) = if link == k then is_consumer kind else consumes_by k ds
consumes_by k (on.GetCame link no_ack ∷ ds) = not (link == k) && consumes_by k ds
consumes_by k (on.Cancelled link ∷ ds) = not (link == k) && consumes_by k ds
consumes_by k (x ∷ ds) = consumes_by k ds

-- ---- whom an arrival on a link goes to

-- it goes to nobody now, or to whom it went before
abbrev Keeps : Taker → Taker → Type 0
Keeps before now = is_nobody now ≡ false → now ≡ before

module _ (kind : RecvKind) (cancelled : Bool) (limit : Option ℕ) where
  -- that of a link whose get was g, and is h
  abbrev GetKeeps : Option WaitingGet → Option WaitingGet → Type 0
  GetKeeps g h = Keeps (taker_by kind cancelled limit g) (taker_by kind cancelled limit h)

  by_kind : (g h : Option WaitingGet) → Keeps (getter_of g) (getter_of h) → GetKeeps g h
  by_kind g h f = at kind
    where
      at : (kind : RecvKind) → Keeps (taker_by kind cancelled limit g) (taker_by kind cancelled limit h)
      at (Consumer tag no_ack) = λ e. refl
      at Get = f
      at Probe = λ e. refl

  emptied : (b : Bool) (g : Option WaitingGet) → GetKeeps g (if b then found_empty g else g)
  emptied true None = λ e. refl
  emptied true (Some g) = by_kind (Some g) (found_empty (Some g)) (λ e. absurd cc)
  emptied false g = λ e. refl

  asked : (b : Bool) (g : Option WaitingGet) → GetKeeps g (if b then was_asked g else g)
  asked true None = λ e. refl
  asked true (Some g) = by_kind (Some g) (was_asked (Some g)) (λ e. refl)
  asked false g = λ e. refl

  gone : (b : Bool) (g : Option WaitingGet) → GetKeeps g (if b then None else g)
  gone true g = by_kind g None (λ e. absurd cc)
  gone false g = λ e. refl

  taken : (b image : Bool) (g : Option WaitingGet) → GetKeeps g (if b then (if image then served g else found_empty g) else g)
  taken false image g = λ e. refl
  taken true true None = λ e. refl
  taken true false g = emptied true g
  taken true true (Some g) = by_kind (Some g) (served (Some g)) (by g.empty)
    where
      by : (b : Bool) → Keeps (getter_of (Some g)) (getter_of (if b then Some g else None))
      by true = λ e. refl
      by false = λ e. absurd cc

cancelled : (kind : RecvKind) (b old : Bool) (limit : Option ℕ) (g : Option WaitingGet) → Keeps (taker_by kind old limit g) (taker_by kind (if b then true else old) limit g)
cancelled (Consumer tag no_ack) true old limit g e = absurd cc
cancelled kind false old limit g e = refl
cancelled Get true old limit g e = refl
cancelled Probe true old limit g e = refl

-- ---- it is taken as they say

-- a consumer is to have what comes on it
abbrev has_consumer : RecvKind → Bool → Bool
has_consumer (Consumer tag no_ack) gone = not gone
has_consumer Get gone = false
has_consumer Probe gone = false

record Fits (k : ℕ) (ds : List DeliveryEvent) (l : ReceivingLink) : Type 0 where
  terms : is_nobody (taker_of l) ≡ false → terms_by k ds ≡ Some (terms_of (taker_of l))
  spares : has_consumer l.kind l.cancelled ≡ false → consumes_by k ds ≡ false

same : (k : ℕ) (ds es : List DeliveryEvent) (l m : ReceivingLink) → terms_by k es ≡ terms_by k ds → Keeps (taker_of l) (taker_of m)
    → ((has_consumer l.kind l.cancelled ≡ false → consumes_by k ds ≡ false) → has_consumer m.kind m.cancelled ≡ false → consumes_by k es ≡ false) → Fits k ds l → Fits k es m
same k ds es l m says keeps spares f = record {
  terms = λ e. let is : taker_of m ≡ taker_of l = keeps e in says ∙ f.terms (ap is_nobody (sym is) ∙ e) ∙ ap (λ (t : Taker). Some (terms_of t)) (sym is);
  spares = spares f.spares;
}

new_spares : (kind : RecvKind) → has_consumer kind false ≡ false → is_consumer kind ≡ false
new_spares (Consumer tag no_ack) e = absurd cc
new_spares Get e = refl
new_spares Probe e = refl

-- whom nobody's deliveries come for
lacks : (kind : RecvKind) (gone : Bool) (limit : Option ℕ) (g : Option WaitingGet) → is_nobody (taker_by kind gone limit g) ≡ true → has_consumer kind gone ≡ false
lacks (Consumer tag no_ack) true limit g e = refl
lacks (Consumer tag no_ack) false limit g e = absurd cc
lacks Get gone limit g e = refl
lacks Probe gone limit g e = refl

new_fits : (link : ℕ) (kind : RecvKind) (prefetch : ℕ) (here : Bool) (old : Option Terms) → here ≡ true → is_nobody (taker_of (new_link link kind prefetch)) ≡ false
    → added_terms kind here prefetch old ≡ Some (terms_of (taker_of (new_link link kind prefetch)))
new_fits link (Consumer tag no_ack) prefetch here old is e =
    ap (λ (b : Bool). if b then Some (by_consume no_ack prefetch) else old) is
    ∙ ap (λ (o : Option ℕ). Some (record { consumer = true; no_ack = no_ack; limit = o })) (by no_ack (prefetch == 0))
  where
    by : (a b : Bool) → (if a || b then None else Some prefetch) ≡ (if a then None else (if a || b then None else Some prefetch))
    by true b = refl
    by false b = refl
new_fits link Get prefetch here old is e = absurd cc
new_fits link Probe prefetch here old is e = absurd cc

off : (kind : RecvKind) (here : Bool) (prefetch : ℕ) (old : Option Terms) → here ≡ false → added_terms kind here prefetch old ≡ old
off (Consumer tag no_ack) here prefetch old e = ap (λ (b : Bool). if b then Some (by_consume no_ack prefetch) else old) e
off Get here prefetch old e = refl
off Probe here prefetch old e = refl

anew : (b : Bool) (s : DeliveryState) (k : ℕ) (ds : List DeliveryEvent) (o : Option ReceivingLink) → IfSome o (Fits k ds) → IfSome (counted_anew b s o) (Fits k ds)
anew true s k ds None w = tt
anew true s k ds (Some l) w = record { terms = w.terms; spares = w.spares }
anew false s k ds o w = w

fits : (life : ℕ) (ds : List DeliveryEvent) → AreCalls life ds → (k : ℕ) → IfSome (link_of (on.after_events life ds).links k) (Fits k ds)
fits life [] c k = tt
fits life (x ∷ ds) c k =
    subst (λ (o : Option ReceivingLink). IfSome o (Fits k (x ∷ ds))) (sym (linked x s k))
    (anew (recounts x) (on.after_event x s) k (x ∷ ds) (link_after x s k (link_of s.links k)) (by x (link_of s.links k) refl c.0 (fits life ds c.1 k)))
  where
    s : DeliveryState
    s = on.after_events life ds

    by : (x : DeliveryEvent) (o : Option ReceivingLink) → link_of s.links k ≡ o → IsCall s x → IfSome o (Fits k ds) → IfSome (link_after x s k o) (Fits k (x ∷ ds))
    by (on.LinkAdded link kind) None f e w = pick (link == k) refl
      where
        pick : (b : Bool) → (link == k) ≡ b → IfSome (if b then Some (new_link link kind s.prefetch) else None) (Fits k (on.LinkAdded link kind ∷ ds))
        pick true i = record {
          terms = λ z. ap (λ (p : ℕ). added_terms kind (link == k) p (terms_by k ds)) (sym (prefetch_is life ds)) ∙ new_fits link kind s.prefetch (link == k) (terms_by k ds) i z;
          spares = λ z. ap (λ (b : Bool). if b then is_consumer kind else consumes_by k ds) i ∙ new_spares kind z;
        }
        pick false i = tt
    by (on.LinkAdded link kind) (Some l) f e w =
        same k ds (on.LinkAdded link kind ∷ ds) l l (off kind (link == k) (prefetch_of ds) (terms_by k ds) (pick (link == k) refl)) (λ z. refl)
        (λ g z. ap (λ (b : Bool). if b then is_consumer kind else consumes_by k ds) (pick (link == k) refl) ∙ g z) w
      where
        pick : (b : Bool) → (link == k) ≡ b → b ≡ false
        pick true i = let none : link_of s.links k ≡ None = sym (ap (link_of s.links) (equal link k i)) ∙ e in let bad : Some l ≡ None = sym f ∙ none in absurd cc
        pick false i = refl
    by (on.LinkFlowed link count) (Some l) f e w =
        same k ds (on.LinkFlowed link count ∷ ds) l (link_flowed link count l) refl (emptied l.kind l.cancelled l.limit (has_number link l && leaves_empty count l) l.get) (λ z. z) w
    by (on.GetCame link no_ack) (Some l) f e w = pick (l.link == link) refl
      where
        number : l.link ≡ k
        number = number_is s.links k l f

        pick : (b : Bool) → (l.link == link) ≡ b
            → Fits k (on.GetCame link no_ack ∷ ds) (record l { get = (if b then Some (new_get (s.gets + 1) no_ack) else l.get) })
        pick true i =
            let at : l.link ≡ link = equal l.link link i in
            let here : (link == k) ≡ true = grind (arith, nat_tests, at, number) in
            let kind : l.kind ≡ Get = gets_kind l.kind (sym (ap (in_link (λ (m : ReceivingLink). is_for_gets m.kind)) (ap (link_of s.links) (sym at ∙ number) ∙ f)) ∙ e) in
            record {
              terms = λ z. ap (λ (b : Bool). if b then Some (by_get no_ack) else terms_by k ds) here
                  ∙ ap (λ (kind : RecvKind). Some (terms_of (taker_by kind l.cancelled l.limit (Some (new_get (s.gets + 1) no_ack))))) (sym kind);
              spares = λ z. and_none (not (link == k)) (consumes_by k ds) (w.spares z);
            }
        pick false i =
            let away : (link == k) ≡ false = grind (arith, nat_tests, i, number) in
            same k ds (on.GetCame link no_ack ∷ ds) l l (ap (λ (b : Bool). if b then Some (by_get no_ack) else terms_by k ds) away) (λ z. refl)
            (λ g z. and_none (not (link == k)) (consumes_by k ds) (g z)) w
    by (on.TransferCame link part payload) None f e w = pick (k == link)
      where
        pick : (b : Bool) → IfSome (if b then None else None) (Fits k (on.TransferCame link part payload ∷ ds))
        pick true = tt
        pick false = tt
    by (on.TransferCame link part payload) (Some l) f e w = pick (k == link)
      where
        pick : (b : Bool) → IfSome (if b then Some (transfer_came part payload l) else Some l) (Fits k (on.TransferCame link part payload ∷ ds))
        pick true = same k ds (on.TransferCame link part payload ∷ ds) l (transfer_came part payload l) refl (emptied l.kind l.cancelled l.limit part.aborted l.get) (λ z. z) w
        pick false = record { terms = w.terms; spares = w.spares }
    by (on.Arrived a content again) (Some l) f e w =
        same k ds (on.Arrived a content again ∷ ds) l (taken_from a.link (is_some content) l) refl (taken l.kind l.cancelled l.limit (has_number a.link l) (is_some content) l.get) (λ z. z) w
    by (on.LinkDropped link) None f e w = pick (k == link)
      where
        pick : (b : Bool) → IfSome (if b then None else None) (Fits k (on.LinkDropped link ∷ ds))
        pick true = tt
        pick false = tt
    by (on.LinkDropped link) (Some l) f e w = pick (k == link)
      where
        pick : (b : Bool) → IfSome (if b then None else Some l) (Fits k (on.LinkDropped link ∷ ds))
        pick true = tt
        pick false = record { terms = w.terms; spares = w.spares }
    by (on.Cancelled link) (Some l) f e w =
        same k ds (on.Cancelled link ∷ ds) l (link_cancelled link l) refl (cancelled l.kind (has_number link l) l.cancelled l.limit l.get) (pick (l.link == link) refl) w
      where
        number : l.link ≡ k
        number = number_is s.links k l f

        pick : (b : Bool) → (l.link == link) ≡ b → (has_consumer l.kind l.cancelled ≡ false → consumes_by k ds ≡ false)
            → has_consumer l.kind (if b then true else l.cancelled) ≡ false → (not (link == k) && consumes_by k ds) ≡ false
        pick true i g z =
            let at : l.link ≡ link = equal l.link link i in
            let here : (link == k) ≡ true = grind (arith, nat_tests, at, number) in
            ap (λ (b : Bool). not b && consumes_by k ds) here
        pick false i g z = and_none (not (link == k)) (consumes_by k ds) (g z)
    by (on.GrantSent grant) (Some l) f e w =
        same k ds (on.GrantSent grant ∷ ds) l (flow_sent grant.link grant.credit grant.cause l) refl (asked l.kind l.cancelled l.limit (has_number grant.link l && is_ask grant.cause) l.get) (λ z. z) w
    by (on.Emptied link) (Some l) f e w =
        same k ds (on.Emptied link ∷ ds) l (get_emptied link l) refl (gone l.kind l.cancelled l.limit (has_number link l) l.get) (λ z. z) w
    by x None f e w = tt
    by x (Some l) f e w = record { terms = w.terms; spares = w.spares }

-- ---- by the events of the path

-- it adds no link, asks for no get and cancels no consumer
abbrev is_calm : DeliveryEvent → Bool
is_calm (on.LinkAdded link kind) = false
is_calm (on.GetCame link no_ack) = false
is_calm (on.Cancelled link) = false
is_calm x = true

abbrev AreCalm : List DeliveryEvent → Type 0
AreCalm xs = AllByRecursion (λ (x : DeliveryEvent). is_calm x ≡ true) xs

calm_same : (k : ℕ) (xs ds : List DeliveryEvent) → AreCalm xs → (terms_by k (xs ++ ds) ≡ terms_by k ds) × (consumes_by k (xs ++ ds) ≡ consumes_by k ds)
calm_same k [] ds a = (refl, refl)
calm_same k (x ∷ xs) ds a = let first = by x (xs ++ ds) a.0 in let rest = calm_same k xs ds a.1 in (first.0 ∙ rest.0, first.1 ∙ rest.1)
  where
    by : (x : DeliveryEvent) (es : List DeliveryEvent) → is_calm x ≡ true → (terms_by k (x ∷ es) ≡ terms_by k es) × (consumes_by k (x ∷ es) ≡ consumes_by k es)
    by (on.LinkAdded link kind) es e = absurd cc
    by (on.GetCame link no_ack) es e = absurd cc
    by (on.Cancelled link) es e = absurd cc
    by x es e = (refl, refl)

-- it asks for no link and cancels no consumer
abbrev is_other : PathEvent → Bool
is_other (event.Consumed queue tag no_ack no_wait) = false
is_other (event.Declared queue no_wait) = false
is_other (event.GetAsked queue no_ack) = false
is_other (event.CancelCame tag no_wait) = false
is_other x = true

one : (b : Bool) (d : DeliveryEvent) → is_calm d ≡ true → AreCalm (if b then d ∷ [] else [])
one true d p = (p, tt)
one false d p = tt

both : (xs ys : List DeliveryEvent) → AreCalm xs → AreCalm ys → AreCalm (xs ++ ys)
both = all_both (λ (x : DeliveryEvent). is_calm x ≡ true)

simple_calm : (xs : List DeliveryEvent) → AreSimple xs → AreCalm xs
simple_calm [] a = tt
simple_calm (x ∷ xs) a = (by x a.0, simple_calm xs a.1)
  where
    by : (x : DeliveryEvent) → is_simple x ≡ true → is_calm x ≡ true
    by (on.LinkAdded link kind) e = absurd cc
    by (on.GetCame link no_ack) e = absurd cc
    by (on.Cancelled link) e = absurd cc
    by x e = refl

others_calm : (s : PathState) (x : PathEvent) → is_other x ≡ true → AreCalm (delivery_events s x)
others_calm s (event.Consumed queue tag no_ack no_wait) e = absurd cc
others_calm s (event.Declared queue no_wait) e = absurd cc
others_calm s (event.GetAsked queue no_ack) e = absurd cc
others_calm s (event.CancelCame tag no_wait) e = absurd cc
others_calm s (event.Owed x) e = by x
  where
    by : (x : PathOk) → AreCalm (prefetches x)
    by (ok.Qos count true) = tt
    by (ok.Qos count false) = (refl, tt)
    by x = tt
others_calm s (event.FlowCame peer count credit drain echo) e = by (receiver_in (named peer s.links))
  where
    counted_on : (o : Option ℕ) (k : ℕ) → AreCalm (counts o k)
    counted_on None k = tt
    counted_on (Some c) k = (refl, tt)

    by : (o : Option PathLink) → AreCalm (flows o count echo s.deliveries)
    by None = tt
    by (Some l) =
        both (empties l.link (flow_in l.link count echo s.deliveries)) (echoes echo l.link ++ counts count l.link)
        (one (is_drained l.link (flow_in l.link count echo s.deliveries).links) (on.Emptied l.link) refl)
        (both (echoes echo l.link) (counts count l.link) (one echo (on.LinkEchoed l.link) refl) (counted_on count l.link))
others_calm s (event.TransferCame peer part payload image again) e = by (taking peer s)
  where
    by : (o : Option PathLink) → AreCalm (transfers o part payload image again s.deliveries)
    by None = tt
    by (Some l) =
        let after : DeliveryState = on.after_event (on.TransferCame l.link part payload) s.deliveries in
        both (empties l.link (transferred l.link part payload image again s.deliveries)) _
        (one (is_drained l.link (transferred l.link part payload image again s.deliveries).links) (on.Emptied l.link) refl)
        (both (arrivals (is_last part) l.link image again after) (on.TransferCame l.link part payload ∷ []) (one (is_last part) (arrival_on l.link image again after) refl) (refl, tt))
others_calm s x e = simple_calm (delivery_events s x) (simple_events s x refl)

-- the tag of a consumer
tag_is : (life k : ℕ) (es : List PathEvent) (tag : List ℕ) (no_ack : Bool) → kind_in k (deliveries_of life es) ≡ Some (Consumer tag no_ack) → tag_asked life k es ≡ tag
tag_is life k [] tag no_ack e = absurd cc
tag_is life k (x ∷ es) tag no_ack e = by x e (tag_is life k es tag no_ack)
  where
    s : PathState
    s = after_events life es

    ds : List DeliveryEvent
    ds = deliveries_of life es

    Old : Type 0
    Old = kind_in k ds ≡ Some (Consumer tag no_ack) → tag_asked life k es ≡ tag

    back : (x : PathEvent) → AllByRecursion (λ y. adds y ≡ false) (delivery_events s x) → kind_in k (delivery_events s x ++ ds) ≡ Some (Consumer tag no_ack) → Old → tag_asked life k es ≡ tag
    back x a f old = old (kind_back k (Consumer tag no_ack) (delivery_events s x) ds a f)

    other : (kind : RecvKind) (b : Bool) → (kind ≡ Consumer tag no_ack → ⊥) → (if b then Some kind else kind_in k ds) ≡ Some (Consumer tag no_ack) → Old → tag_asked life k es ≡ tag
    other kind true un f old = absurd (un (let is : kind ≡ Consumer tag no_ack = cc in is))
    other kind false un f old = old f

    by : (x : PathEvent) → kind_in k (delivery_events s x ++ ds) ≡ Some (Consumer tag no_ack) → Old → tag_asked life k (x ∷ es) ≡ tag
    by (event.Consumed queue own free no_wait) f old = pick (free_number s.links.links == k) f
      where
        pick : (b : Bool) → (if b then Some (Consumer (tag_for own s.deliveries.links) free) else kind_in k ds) ≡ Some (Consumer tag no_ack)
            → (if b then tag_for own s.deliveries.links else tag_asked life k es) ≡ tag
        pick true g = let is : Consumer (tag_for own s.deliveries.links) free ≡ Consumer tag no_ack = cc in ap tag_by is
        pick false g = old g
    by (event.Declared queue no_wait) f old = other Probe (free_number s.links.links == k) (λ e. cc) f old
    by (event.GetAsked queue free) f old = at (get_link (queue_or s.queue queue) s) f
      where
        at : (o : Option PathLink) → kind_in k (gets o free s ++ ds) ≡ Some (Consumer tag no_ack) → tag_asked life k es ≡ tag
        at None g = other Get (free_number s.links.links == k) (λ e. cc) g old
        at (Some l) g = old g
    by (event.TransferCame peer part payload image again) f old =
        back (event.TransferCame peer part payload image again) (unadded s (event.TransferCame peer part payload image again) (λ link d. refl)) f old
    by (event.ContentWhole tag) f old = old f
    by event.LifeClosed f old = old f
    by event.SessionLost f old = old f
    by event.SessionEnded f old = old f
    by event.UpLost f old = old f
    by x f old = back x (unadded s x tt) f old

module _ (queues : QueuesAre) (life k : ℕ) where
  terms_same : (es : List PathEvent) → terms_on life k es ≡ terms_by k (deliveries_of life es)
  terms_same [] = refl
  terms_same (event.Consumed queue tag no_ack no_wait ∷ es) =
      let here : Bool = free_number (after_events life es).links.links == k in
      ap (λ (p : ℕ). if here then Some (by_consume no_ack p) else terms_on life k es) (sym (prefetch_same life es))
      ∙ ap (λ (o : Option Terms). if here then Some (by_consume no_ack (prefetch_of (deliveries_of life es))) else o) (terms_same es)
  terms_same (event.Declared queue no_wait ∷ es) = terms_same es
  terms_same (event.GetAsked queue no_ack ∷ es) =
      ap (λ (q : List ℕ). if or_new (get_link (queue_or q queue) s) (free_number s.links.links) == k then Some (by_get no_ack) else terms_on life k es) (sym (queues life es))
      ∙ ap (λ (o : Option Terms). if or_new (get_link (queue_or s.queue queue) s) (free_number s.links.links) == k then Some (by_get no_ack) else o) (terms_same es)
      ∙ by (get_link (queue_or s.queue queue) s)
    where
      s : PathState
      s = after_events life es

      by : (o : Option PathLink) → (if or_new o (free_number s.links.links) == k then Some (by_get no_ack) else terms_by k (deliveries_of life es))
          ≡ terms_by k (gets o no_ack s ++ deliveries_of life es)
      by None = refl
      by (Some l) = refl
  terms_same (event.CancelCame tag no_wait ∷ es) = terms_same es ∙ by (consumer_link tag (after_events life es).deliveries.links)
    where
      by : (o : Option ℕ) → terms_by k (deliveries_of life es) ≡ terms_by k (cancels o ++ deliveries_of life es)
      by None = refl
      by (Some link) = refl
  terms_same (x ∷ es) = terms_same es ∙ sym (calm_same k (delivery_events (after_events life es) x) (deliveries_of life es) (others_calm (after_events life es) x refl)).0

-- of links with different numbers one is cancelled by its tag
consumer_is : (life k : ℕ) (es : List PathEvent) (tag : List ℕ) → AreCalls life (deliveries_of life es) → consumer_link tag (on.after_events life (deliveries_of life es)).links ≡ Some k
    → bytes_eq (tag_asked life k es) tag ≡ true
consumer_is life k es tag calls e = by (find (has_tag tag) links) refl e
  where
    ds : List DeliveryEvent
    ds = deliveries_of life es

    links : List ReceivingLink
    links = (on.after_events life ds).links

    tagged : (kind : RecvKind) → is_tagged tag kind ≡ true → Some kind ≡ kind_in k ds → bytes_eq (tag_asked life k es) tag ≡ true
    tagged (Consumer own no_ack) t i = ap (λ (a : List ℕ). bytes_eq a tag) (tag_is life k es own no_ack (sym i)) ∙ t
    tagged Get t i = absurd cc
    tagged Probe t i = absurd cc

    by : (o : Option ReceivingLink) → find (has_tag tag) links ≡ o → option_map (λ (l : ReceivingLink). l.link) o ≡ Some k → bytes_eq (tag_asked life k es) tag ≡ true
    by None f g = absurd cc
    by (Some x) f g =
        let here : x.link ≡ k = cc in
        let r = own (has_tag tag) links x (apart life ds calls) f in
        let there : link_of links k ≡ Some x = ap (link_of links) (sym here) ∙ r.0 in
        let w : Kept ds k x = subst (λ (o : Option ReceivingLink). IfSome o (Kept ds k)) there (kept life ds calls k) in
        tagged x.kind (and_left (is_tagged tag x.kind) (not x.cancelled) r.1) w.kind

module _ (deliveries : DeliveriesAre) (calls : CallsAre) (queues : QueuesAre) (life k : ℕ) where
  consumes_too : (es : List PathEvent) → AreHeard life es → consumes_on life k es ≡ true → consumes_by k (deliveries_of life es) ≡ true
  consumes_too [] heard e = absurd cc
  consumes_too (x ∷ es) heard e = by x e (consumes_too es heard.1)
    where
      s : PathState
      s = after_events life es

      ds : List DeliveryEvent
      ds = deliveries_of life es

      Old : Type 0
      Old = consumes_on life k es ≡ true → consumes_by k ds ≡ true

      by : (x : PathEvent) → consumes_on life k (x ∷ es) ≡ true → Old → consumes_by k (delivery_events s x ++ ds) ≡ true
      by (event.Consumed queue tag no_ack no_wait) f old = pick (free_number s.links.links == k) f
        where
          pick : (b : Bool) → (b || consumes_on life k es) ≡ true → (if b then true else consumes_by k ds) ≡ true
          pick true g = refl
          pick false g = old g
      by (event.Declared queue no_wait) f old = pick (free_number s.links.links == k) f
        where
          pick : (b : Bool) → (not b && consumes_on life k es) ≡ true → (if b then false else consumes_by k ds) ≡ true
          pick true g = absurd cc
          pick false g = old g
      by (event.GetAsked queue no_ack) f old =
          at (get_link (queue_or s.queue queue) s)
          (ap (λ (q : List ℕ). not (or_new (get_link (queue_or q queue) s) (free_number s.links.links) == k) && consumes_on life k es) (queues life es) ∙ f)
        where
          pick : (b : Bool) → (not b && consumes_on life k es) ≡ true → (not b && (if b then false else consumes_by k ds)) ≡ true
          pick true g = absurd cc
          pick false g = old g

          more : (b : Bool) → (not b && consumes_on life k es) ≡ true → (not b && consumes_by k ds) ≡ true
          more true g = absurd cc
          more false g = old g

          at : (o : Option PathLink) → (not (or_new o (free_number s.links.links) == k) && consumes_on life k es) ≡ true → consumes_by k (gets o no_ack s ++ ds) ≡ true
          at None g = pick (free_number s.links.links == k) g
          at (Some l) g = more (l.link == k) g
      by (event.CancelCame tag no_wait) f old = at (consumer_link tag s.deliveries.links) refl
        where
          at : (o : Option ℕ) → consumer_link tag s.deliveries.links ≡ o → consumes_by k (cancels o ++ ds) ≡ true
          at None g = old (and_right (not (bytes_eq (tag_asked life k es) tag)) _ f)
          at (Some j) g = pick (j == k) refl
            where
              pick : (b : Bool) → (j == k) ≡ b → (not b && consumes_by k ds) ≡ true
              pick false i = old (and_right (not (bytes_eq (tag_asked life k es) tag)) _ f)
              pick true i =
                  let found : consumer_link tag (on.after_events life ds).links ≡ Some k =
                  ap (λ (d : DeliveryState). consumer_link tag d.links) (sym (deliveries life es)) ∙ g ∙ ap Some (equal j k i) in
                  absurd (clash _ (consumer_is life k es tag (calls life es heard.1) found) (not_true _ (and_left (not (bytes_eq (tag_asked life k es) tag)) _ f)))
      by x f old = (calm_same k (delivery_events s x) ds (others_calm s x refl)).1 ∙ old f

-- ---- the delivery with this number

-- it is taken so
abbrev HasTerms : ℕ → ℕ → List PathEvent → Type 0
HasTerms life number es =
    IsTaken (deliveries_of life es) number → IsTakenBy life (coming_in life number es) (fate_of number (deliveries_of life es)).taker

none_in : (life number : ℕ) (es : List PathEvent) (x : PathEvent) → arrives x ≡ false → coming_in life number (x ∷ es) ≡ coming_in life number es
none_in life number es (event.TransferCame peer part payload image again) e = absurd cc
none_in life number es x e = refl

other_terms : (life number : ℕ) (es : List PathEvent) (x : PathEvent) → arrives x ≡ false → HasTerms life number es → HasTerms life number (x ∷ es)
other_terms life number es x e old taken =
    let xs : List DeliveryEvent = delivery_events (after_events life es) x in
    let ds : List DeliveryEvent = deliveries_of life es in
    let none : list_any comes xs ≡ false = event_none (after_events life es) x e in
    let many : numbers_of (xs ++ ds) ≡ numbers_of ds = counted xs ds none in
    subst (IsTakenBy life (coming_in life number (x ∷ es))) (sym (all_leave number xs ds none).taker)
    (subst (λ (o : Option Coming). IsTakenBy life o (fate_of number ds).taker) (sym (none_in life number es x e)) (old (taken.0, subst (λ (i : ℕ). number ≤ i) many taken.1)))

module _ (deliveries : DeliveriesAre) (calls : CallsAre) (queues : QueuesAre) where
  -- a transfer on a link that takes it
  module _ (life number : ℕ) (es : List PathEvent) (part : Part) (payload : List ℕ) (image : Option Content) (again : Bool) (l : PathLink)
      (heard : AreHeard life es) (old : HasTerms life number es) where
    abbrev s : PathState
    s = after_events life es

    abbrev ds : List DeliveryEvent
    ds = deliveries_of life es

    abbrev came : DeliveryEvent
    came = on.TransferCame l.link part payload

    abbrev whole : DeliveryEvent
    whole = arrival_on l.link image again (on.after_event came s.deliveries)

    -- its link after it
    abbrev after : DeliveryState → Option ReceivingLink
    after d = link_of (on.after_event came d).links l.link

    spared : (b : Bool) → consumes_on life l.link es ≡ b → consumes_by l.link ds ≡ false → b ≡ false
    spared true e f = absurd (clash _ (consumes_too deliveries calls queues life l.link es heard e) f)
    spared false e f = refl

    own_taker : (o : Option ReceivingLink) → in_link (λ (m : ReceivingLink). is_whole m.partial) o ≡ true → IfSome o (Fits l.link (came ∷ ds))
        → IsTakenBy life (coming_on (Some l) es) (arriving_in l.link o).taker
    own_taker None e w = absurd cc
    own_taker (Some m) e w = record {
      coming = record { link = l.link; before = es };
      is = refl;
      terms = λ z. terms_same queues life l.link es ∙ w.terms z;
      nobody = λ z. spared (consumes_on life l.link es) refl (w.spares (lacks m.kind m.cancelled m.limit m.get z));
    }

    arrived : AreCalls life (whole ∷ came ∷ ds) → (1 ≤ number) × (number ≤ numbers_of ds + 1)
        → IsTakenBy life (if true && (number == numbers_of ds + 1) then coming_on (Some l) es else coming_in life number es) (fate_of number (whole ∷ came ∷ ds)).taker
    arrived c taken = by (number == numbers_of ds + 1) refl
      where
        same_after : after s.deliveries ≡ after (on.after_events life ds)
        same_after = ap after (deliveries life es)

        there : in_link (λ (m : ReceivingLink). is_whole m.partial) (after s.deliveries) ≡ true
        there =
            ap (in_link (λ (m : ReceivingLink). is_whole m.partial)) same_after
            ∙ subst (λ (k : ℕ). in_link (λ (m : ReceivingLink). is_whole m.partial) (link_of (on.after_events life (came ∷ ds)).links k) ≡ true) (arriving_link l.link (after s.deliveries)) c.0.0

        by : (b : Bool) → (number == numbers_of ds + 1) ≡ b
            → IsTakenBy life (if true && b then coming_on (Some l) es else coming_in life number es)
            (if b then new_fate (is_closed (came ∷ ds)) (arriving_in l.link (link_of (on.after_event came s.deliveries).links l.link)) image again else fate_of number ds).taker
        by true e = own_taker (after s.deliveries) there (subst (λ (o : Option ReceivingLink). IfSome o (Fits l.link (came ∷ ds))) (sym same_after) (fits life (came ∷ ds) c.1 l.link))
        by false e = let less : number ≤ numbers_of ds = (let most : number ≤ numbers_of ds + 1 = taken.1 in grind (arith, nat_tests, e, most)) in old (taken.0, less)

    abbrev events : Bool → Bool → List DeliveryEvent
    events last drained = ((if drained then on.Emptied l.link ∷ [] else []) ++ ((if last then whole ∷ [] else []) ++ came ∷ [])) ++ ds

    on_link : (last drained : Bool) → AreCalls life (events last drained) → IsTaken (events last drained) number
        → IsTakenBy life (if last && (number == numbers_of ds + 1) then coming_on (Some l) es else coming_in life number es) (fate_of number (events last drained)).taker
    on_link false true c taken = old taken
    on_link false false c taken = old taken
    on_link true true c taken = arrived c.1 taken
    on_link true false c taken = arrived c taken

  transfer_terms : (life number : ℕ) (es : List PathEvent) (peer : ℕ) (part : Part) (payload : List ℕ) (image : Option Content) (again : Bool)
      → let x : PathEvent = event.TransferCame peer part payload image again in
      AreHeard life es → AreCalls life (deliveries_of life (x ∷ es)) → HasTerms life number es → HasTerms life number (x ∷ es)
  transfer_terms life number es peer part payload image again heard all old taken = by (taking peer s) all taken
    where
      s : PathState
      s = after_events life es

      ds : List DeliveryEvent
      ds = deliveries_of life es

      passed : (last b : Bool) → b ≡ false → coming_in life number es ≡ (if last && b then None else coming_in life number es)
      passed true b e = sym (ap (λ (c : Bool). if c then None else coming_in life number es) e)
      passed false b e = refl

      by : (o : Option PathLink) → AreCalls life (transfers o part payload image again s.deliveries ++ ds) → IsTaken (transfers o part payload image again s.deliveries ++ ds) number
          → IsTakenBy life (if is_last part && (number == numbers_of ds + 1) then coming_on o es else coming_in life number es)
          (fate_of number (transfers o part payload image again s.deliveries ++ ds)).taker
      by None c t = subst (λ (o : Option Coming). IsTakenBy life o (fate_of number ds).taker) (passed (is_last part) (number == numbers_of ds + 1) (not_new ds number t)) (old t)
      by (Some l) c t =
          on_link life number es part payload image again l heard old (is_last part) (is_drained l.link (transferred l.link part payload image again s.deliveries).links) c t

  event_terms : (life number : ℕ) (es : List PathEvent) (x : PathEvent) → AreHeard life es → AreCalls life (deliveries_of life (x ∷ es)) → HasTerms life number es
      → HasTerms life number (x ∷ es)
  event_terms life number es (event.TransferCame peer part payload image again) heard all old = transfer_terms life number es peer part payload image again heard all old
  event_terms life number es x heard all old = other_terms life number es x refl old

  has_terms : (life number : ℕ) (es : List PathEvent) → AreHeard life es → HasTerms life number es
  has_terms life number [] heard taken = absurd (let least : 1 ≤ number = taken.0 in let most : number ≤ 0 = taken.1 in omega (arith, least, most))
  has_terms life number (x ∷ es) heard taken = event_terms life number es x heard.1 (calls life (x ∷ es) heard) (has_terms life number es heard.1) taken

-- ---- the law

module _ (deliveries : DeliveriesAre) (closed : ClosedAre) (calls : CallsAre) (queues : QueuesAre) (below : LivesBelow) where
  are_taken : (h : List Step) → ArePicks h → AreTaken h
  are_taken h p n life number l goes_on taken =
      has_terms deliveries calls queues life number (path_events h n) (open_heard deliveries closed h n life p (below h n life l) l goes_on) taken

  pub takes_as_asked : (h : List Step) → ArePicks h → TakesAsAsked h
  takes_as_asked [] p = tt
  takes_as_asked (s ∷ h) p = (are_taken (s ∷ h) p, takes_as_asked h p.1)
