-- The gets of a path are taken up where none waits on their links, and its cancels are of consumers.
use Rattle.std.proofs.Common.{◌≡◌, ◌∙◌, ℕ, ◌==◌, not, Bool, true, false, if◌then◌else◌, cond, List, [], ◌∷◌, ◌++◌, Option, None, Some}
use Rattle.std.proofs.Common.{refl, sym, ap, subst}
use Rattle.std.specs.Option.{option_map, option_or}
use Rattle.std.specs.Prelude.{find}
use Rattle.consume_path.specs.Deliveries as on
use Rattle.consume_path.specs.Deliveries.{DeliveryEvent, DeliveryState}
use Rattle.consume_path.specs.Laws.{AreCalls}
use Rattle.consume_path.specs.Links.{consumer_link, has_tag, in_link, is_tagged, link_of, new_link}
use Rattle.consume_path.specs.Offers.{is_drained, is_for_gets, is_free_for_get, takes_get}
use Rattle.consume_path.specs.declared.receiving.ReceivingLink.{ReceivingLink}
use Rattle.consume_path.specs.declared.receiving.RecvKind.{RecvKind}
use Rattle.consume_path.specs.declared.receiving.RecvKind.TheVariants.{Consumer, Get, Probe}
use Rattle.session_path.specs.Events as event
use Rattle.session_path.specs.Events.{PathEvent, after_events, arrivals, cancels, counts, deliveries_of, delivery_events, echoes, flows, gets, prefetches, transfers}
use Rattle.session_path.specs.Links.{free_number, named}
use Rattle.session_path.specs.Path.{PathState, arrived_on, flow_in, get_link, is_get_link, is_last, is_serving, queue_or, receiver_in, taking, transferred}
use Rattle.session_path.specs.declared.path.PathLink.{PathLink}
use Rattle.session_path.specs.declared.path.PathOk.{PathOk}
use Rattle.session_path.specs.declared.path.PathOk.TheVariants as ok
use Rattle.session_path.proofs.Ties.{eq_to, found_passes}
use Rattle.gate_model.proofs.Awaiting.{AreGetCalls, IsGetCall}
use Rattle.gate_model.proofs.Basics.{and_left, and_right}
use Rattle.gate_model.proofs.Granting.{DeliveriesAre}
use Rattle.gate_model.proofs.Linking.{AreApart, apart, counted_anew, linked, not_first}
use Rattle.gate_model.proofs.Quotas.{AreSimple, is_simple, simple_events}

-- ---- events that ask for nothing

simple_calls : (life : ℕ) (xs ds : List DeliveryEvent) → AreSimple xs → AreGetCalls life ds → AreGetCalls life (xs ++ ds)
simple_calls life [] ds a g = g
simple_calls life (x ∷ xs) ds a g = (by x a.0, simple_calls life xs ds a.1 g)
  where
    by : (x : DeliveryEvent) → is_simple x ≡ true → IsGetCall (on.after_events life (xs ++ ds)) x
    by (on.GetCame link no_ack) e = absurd cc
    by (on.Cancelled link) e = absurd cc
    by (on.Emptied link) e = absurd cc
    by x e = tt

behind : (life : ℕ) (xs ds : List DeliveryEvent) → AreCalls life (xs ++ ds) → AreCalls life ds
behind life [] ds c = c
behind life (x ∷ xs) ds c = behind life xs ds c.1

-- ---- a consumer that is cancelled

-- a link that is found is that of its number
pub own : (p : ReceivingLink → Bool) (links : List ReceivingLink) (x : ReceivingLink) → AreApart links → find p links ≡ Some x → (link_of links x.link ≡ Some x) × (p x ≡ true)
own p [] x a e = absurd cc
own p (y ∷ ys) x a e = by (p y) refl e (λ f. own p ys x a.1 f)
  where
    by : (b : Bool) → p y ≡ b → cond b (Some y) (find p ys) ≡ Some x → (find p ys ≡ Some x → (link_of ys x.link ≡ Some x) × (p x ≡ true)) → (link_of (y ∷ ys) x.link ≡ Some x) × (p x ≡ true)
    by true i f rest =
        let same : y ≡ x = cc in
        subst (λ (z : ReceivingLink). (link_of (y ∷ ys) z.link ≡ Some z) × (p z ≡ true)) same
        (ap (λ (b : Bool). cond b (Some y) (link_of ys y.link)) (eq_to y.link y.link refl), i)
    by false i f rest =
        let r = rest f in
        (ap (λ (b : Bool). cond b (Some y) (link_of ys x.link)) (not_first y.link x.link ys x a.0 r.0) ∙ r.0, r.1)

tagged : (tag : List ℕ) (kind : RecvKind) → is_tagged tag kind ≡ true → is_for_gets kind ≡ false
tagged tag (Consumer own no_ack) e = refl
tagged tag Get e = absurd cc
tagged tag Probe e = absurd cc

pub consumes : (tag : List ℕ) (links : List ReceivingLink) (link : ℕ) → AreApart links → consumer_link tag links ≡ Some link → in_link (λ l. is_for_gets l.kind) (link_of links link) ≡ false
consumes tag links link a e = by (find (has_tag tag) links) refl e
  where
    by : (o : Option ReceivingLink) → find (has_tag tag) links ≡ o → option_map (λ (l : ReceivingLink). l.link) o ≡ Some link → in_link (λ l. is_for_gets l.kind) (link_of links link) ≡ false
    by None f g = absurd cc
    by (Some x) f g =
        let here : x.link ≡ link = cc in
        let r = own (has_tag tag) links x a f in
        ap (in_link (λ (l : ReceivingLink). is_for_gets l.kind)) (ap (link_of links) (sym here) ∙ r.0) ∙ tagged tag x.kind (and_left (is_tagged tag x.kind) (not x.cancelled) r.1)

-- ---- all events

module _ (deliveries : DeliveriesAre) where
  step : (life : ℕ) (es : List PathEvent) (x : PathEvent) → AreCalls life (delivery_events (after_events life es) x ++ deliveries_of life es) → AreGetCalls life (deliveries_of life es)
      → AreGetCalls life (delivery_events (after_events life es) x ++ deliveries_of life es)
  step life es (event.Owed x) c old = by x
    where
      by : (x : PathOk) → AreGetCalls life (prefetches x ++ deliveries_of life es)
      by (ok.Qos count true) = old
      by (ok.Qos count false) = (tt, old)
      by x = old
  step life es (event.Consumed queue tag no_ack no_wait) c old = (tt, old)
  step life es (event.Declared queue no_wait) c old = (tt, old)
  step life es (event.CancelCame tag no_wait) c old = by (consumer_link tag (after_events life es).deliveries.links) refl c
    where
      by : (o : Option ℕ) → consumer_link tag (after_events life es).deliveries.links ≡ o → AreCalls life (cancels o ++ deliveries_of life es)
          → AreGetCalls life (cancels o ++ deliveries_of life es)
      by None f c = old
      by (Some link) f c = (
        consumes tag (on.after_events life (deliveries_of life es)).links link (apart life (deliveries_of life es) c.1) (ap (λ (d : DeliveryState). consumer_link tag d.links) (sym (deliveries life es)) ∙ f),
        old,
      )
  step life es (event.GetAsked queue no_ack) c old = by (get_link address s) refl c
    where
      s : PathState
      s = after_events life es

      address : List ℕ
      address = queue_or s.queue queue

      by : (o : Option PathLink) → get_link address s ≡ o → AreCalls life (gets o no_ack s ++ deliveries_of life es) → AreGetCalls life (gets o no_ack s ++ deliveries_of life es)
      by None f c =
          let m = free_number s.links.links in
          let d = on.after_events life (deliveries_of life es) in
          let added = on.LinkAdded m Get in (
            ap (in_link is_free_for_get)
                (linked added d m
                ∙ ap (λ (o : Option ReceivingLink). counted_anew true (on.after_event added d) (option_or o (if m == m then Some (new_link m Get d.prefetch) else None))) c.1.0
                ∙ ap (λ (b : Bool). counted_anew true (on.after_event added d) (option_or None (if b then Some (new_link m Get d.prefetch) else None))) (eq_to m m refl)),
            (tt, old),
          )
      by (Some l) f c =
          let passes = found_passes (is_get_link address s.deliveries s.sources) s.links.links l f in (
            ap (λ (d : DeliveryState). takes_get l.link d.links) (sym (deliveries life es)) ∙ and_left (takes_get l.link s.deliveries.links) _ (and_right (is_serving l) _ passes),
            old,
          )
  step life es (event.FlowCame peer count credit drain echo) c old = by (receiver_in (named peer (after_events life es).links))
    where
      d : DeliveryState
      d = on.after_events life (deliveries_of life es)

      flowed : (link : ℕ) (e : Bool) (n : Option ℕ) (b : Bool) → is_drained link (flow_in link n e d).links ≡ b
          → AreGetCalls life (((if b then on.Emptied link ∷ [] else []) ++ (echoes e link ++ counts n link)) ++ deliveries_of life es)
      flowed link true None true f = (f, (tt, old))
      flowed link true (Some n) true f = (f, (tt, (tt, old)))
      flowed link false None true f = (f, old)
      flowed link false (Some n) true f = (f, (tt, old))
      flowed link true None false f = (tt, old)
      flowed link true (Some n) false f = (tt, (tt, old))
      flowed link false None false f = old
      flowed link false (Some n) false f = (tt, old)

      by : (o : Option PathLink) → AreGetCalls life (flows o count echo (after_events life es).deliveries ++ deliveries_of life es)
      by None = old
      by (Some l) = flowed l.link echo count _ (ap (λ (z : DeliveryState). is_drained l.link (flow_in l.link count echo z).links) (sym (deliveries life es)))
  step life es (event.TransferCame peer part payload image again) c old = by (taking peer (after_events life es))
    where
      d : DeliveryState
      d = on.after_events life (deliveries_of life es)

      came : (link : ℕ) (last b : Bool)
          → is_drained link (if last then arrived_on link image again (on.after_event (on.TransferCame link part payload) d) else on.after_event (on.TransferCame link part payload) d).links ≡ b
          → AreGetCalls life (((if b then on.Emptied link ∷ [] else []) ++ (arrivals last link image again (on.after_event (on.TransferCame link part payload) d)
          ++ on.TransferCame link part payload ∷ [])) ++ deliveries_of life es)
      came link true true f = (f, (tt, (tt, old)))
      came link true false f = (tt, (tt, old))
      came link false true f = (f, (tt, old))
      came link false false f = (tt, old)

      by : (o : Option PathLink) → AreGetCalls life (transfers o part payload image again (after_events life es).deliveries ++ deliveries_of life es)
      by None = old
      by (Some l) =
          subst (λ (z : DeliveryState). AreGetCalls life (transfers (Some l) part payload image again z ++ deliveries_of life es)) (sym (deliveries life es))
          (came l.link (is_last part) (is_drained l.link (transferred l.link part payload image again d).links) refl)
  step life es x c old = simple_calls life (delivery_events (after_events life es) x) (deliveries_of life es) (simple_events (after_events life es) x refl) old

  pub get_calls : (life : ℕ) (es : List PathEvent) → AreCalls life (deliveries_of life es) → AreGetCalls life (deliveries_of life es)
  get_calls life [] c = tt
  get_calls life (x ∷ es) c = step life es x c (get_calls life es (behind life (delivery_events (after_events life es) x) (deliveries_of life es) c))
