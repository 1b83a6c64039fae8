-- The delivery events among a path's events are those of calls whose conditions hold. For that the
-- receiving links that the gateway didn't detach have links of the deliveries, and until the closing
-- event no other numbers have.
use Rattle.std.proofs.Common.{◌≡◌, ◌∙◌, ℕ, ◌<◌, List, [], ◌∷◌, ◌++◌, Bool, true, false, Option, Some}
use Rattle.std.proofs.Common.{None, refl, sym, ap, cond, map, subst, inl, inr, length}
use Rattle.std.specs.Prelude.{◌⊎◌, ◌==◌, ◌&&◌, ◌||◌, ◌^◌, not, filter, is_some, IfSome}
use Rattle.consume_path.specs.Deliveries.{DeliveryEvent, DeliveryState}
use Rattle.consume_path.specs.Deliveries.{after_event as delivery_event}
use Rattle.consume_path.specs.Deliveries.{after_events as deliveries_after}
use Rattle.consume_path.specs.Deliveries as on
use Rattle.consume_path.specs.Laws.{AreCalls, IsCall}
use Rattle.consume_path.specs.Links.{change_first, consumer_link, id_or, in_link, is_whole, joined}
use Rattle.consume_path.specs.Links.{has_number as is_numbered, link_of, new_link, recount}
use Rattle.consume_path.specs.Links.{transfer_came}
use Rattle.consume_path.specs.Offers.{arriving_in, is_drained, is_for_gets, next_settle_of}
use Rattle.consume_path.specs.Offers.{takes_get}
use Rattle.consume_path.specs.declared.delivery.Content.{Content}
use Rattle.consume_path.specs.declared.delivery.Delivery.{Delivery}
use Rattle.consume_path.specs.declared.delivery.NextSettle.{NextSettle}
use Rattle.consume_path.specs.declared.receiving.NextGrant.{NextGrant}
use Rattle.consume_path.specs.declared.receiving.Part.{Part}
use Rattle.consume_path.specs.declared.receiving.Partial.{Partial}
use Rattle.consume_path.specs.declared.receiving.ReceivingLink.{ReceivingLink}
use Rattle.consume_path.specs.declared.receiving.RecvKind.{RecvKind}
use Rattle.consume_path.specs.declared.receiving.RecvKind.TheVariants.{Consumer, Get, Probe}
use Rattle.session_path.specs.declared.path.AttachHeard.{AttachHeard}
use Rattle.session_path.specs.declared.path.PathLink.{PathLink}
use Rattle.session_path.specs.declared.path.PathOk.{PathOk}
use Rattle.session_path.specs.declared.path.PathOk.TheVariants as ok
use Rattle.session_path.specs.Links.{LinksState, Rises, asked_by, attached, free_number, has_number}
use Rattle.session_path.specs.Links.{is_given, is_wanted, is_wanted_receiver, link_asked, link_detached}
use Rattle.session_path.specs.Links.{link_failed, linked_to, named, parted, told_on, with_receiver}
use Rattle.session_path.specs.Links.{with_wanted}
use Rattle.session_path.specs.Path.{IsThere, PathState, arrival_on, detaching_of, fault_on, first_of}
use Rattle.session_path.specs.Path.{flow_in, flow_of, get_link, grant_in, is_get_link}
use Rattle.session_path.specs.Path.{is_grant_next, is_last, is_serving, queue_or, receiver_in}
use Rattle.session_path.specs.Path.{tag_for, taking, transferred}
use Rattle.session_path.specs.Events.{PathEvent, Began, Published, Selected, Owed, Consumed}
use Rattle.session_path.specs.Events.{AnswerCame, CancelCame, Declared, GetAsked, AttachCame}
use Rattle.session_path.specs.Events.{FlowCame, DetachCame, TransferCame}
use Rattle.session_path.specs.Events.{LinkFailed, DispositionCame, AttachSent, LinkFlowSent}
use Rattle.session_path.specs.Events.{TransferSent, SettleSent, DisposeSent, DetachSent}
use Rattle.session_path.specs.Events.{ConfirmWent, ReturnWent, DeliverSent, ContentSent}
use Rattle.session_path.specs.Events.{ContentWhole, OkSent, LinesWent, LifeClosed, SessionLost}
use Rattle.session_path.specs.Events.{SessionEnded, UpLost, after_event, after_events, arrivals, begins}
use Rattle.session_path.specs.Events.{cancels, counts, deliveries_of, delivery_events, disposes}
use Rattle.session_path.specs.Events.{drops, echoes, empties, flows, gets, globals, grants}
use Rattle.session_path.specs.Events.{prefetches, transfers}
use Rattle.session_path.specs.Laws.{AreHeard, IsHeard}
use Rattle.session_path.proofs.Idle.{detaching_there}
use Rattle.session_path.proofs.Numbers.{added_knows, any_less, closed_before, dropped_knows}
use Rattle.session_path.proofs.Numbers.{find_none, free_takes, knows, moves, other_takes}
use Rattle.session_path.proofs.Numbers.{same_knows, takes, takes_one, wanted_takes}
use Rattle.session_path.proofs.PathLaws.{deliveries_are}
use Rattle.session_path.proofs.SameLinks.{attach_same, disposed_same, dropped_same, flow_sent_same}
use Rattle.session_path.proofs.SameLinks.{flowed_if, flowed_same, got_links, got_same}
use Rattle.session_path.proofs.SameLinks.{transfer_same}
use Rattle.session_path.proofs.Takes.{takes_asked, takes_attached, takes_detached, takes_failed}
use Rattle.session_path.proofs.Takes.{takes_flowed, takes_linked, takes_parted, takes_told}
use Rattle.session_path.proofs.Takes.{taking_takes, unless_lost}
use Rattle.session_path.proofs.Tied.{Tied, tied_after}
use Rattle.session_path.proofs.Ties.{and_left, and_right, eq_to, found_passes, no_clash, or_left}
use Rattle.session_path.proofs.Ties.{or_right, or_true}

-- ---- the calls so far, and the links whose numbers agree

record Goes (life : ℕ) (ls : List PathLink) (g : List DeliveryEvent) : Type 0 where
  calls : AreCalls life g
  there : (n : ℕ) → takes n ls ≡ true → knows n (deliveries_after life g).links ≡ true
  known : (deliveries_after life g).closed ≡ false → (n : ℕ) → knows n (deliveries_after life g).links ≡ true → takes n ls ≡ true

module _ (life : ℕ) where
  alike : (ls ks : List PathLink) (g : List DeliveryEvent) → ((n : ℕ) → takes n ks ≡ takes n ls) → Goes life ls g → Goes life ks g
  alike ls ks g same r = record {
    calls = r.calls;
    there = λ n t. r.there n (sym (same n) ∙ t);
    known = λ c n k. same n ∙ r.known c n k;
  }

  -- an event that leaves the numbers, after which the deliveries are these
  more : (ls : List PathLink) (g : List DeliveryEvent) (d : DeliveryState) (x : DeliveryEvent) → d ≡ deliveries_after life g → moves x ≡ false → IsCall d x → Goes life ls g → Goes life ls (x ∷ g)
  more ls g d x e off call r = record {
    calls = (subst (λ (z : DeliveryState). IsCall z x) e call, r.calls);
    there = λ n t. same_knows x off n (deliveries_after life g) ∙ r.there n t;
    known = λ c n k. r.known (closed_before x (deliveries_after life g) c) n (sym (same_knows x off n (deliveries_after life g)) ∙ k);
  }

  -- one that asks for nothing
  calm : (ls : List PathLink) (g : List DeliveryEvent) (x : DeliveryEvent) → moves x ≡ false → IsCall (deliveries_after life g) x → Goes life ls g → Goes life ls (x ∷ g)
  calm ls g x off call r = more ls g (deliveries_after life g) x refl off call r

  -- a receiving link is wanted
  no_number : (ls : List PathLink) (g : List DeliveryEvent) (m : ℕ) → takes m ls ≡ false → (deliveries_after life g).closed ≡ false → Goes life ls g → knows m (deliveries_after life g).links ≡ false
  no_number ls g m free open_yet r = by (knows m (deliveries_after life g).links) refl
    where
      by : (b : Bool) → knows m (deliveries_after life g).links ≡ b → b ≡ false
      by true e = absurd (no_clash (takes m ls) (r.known open_yet m e) free)
      by false e = refl

  wanted : (ls : List PathLink) (g : List DeliveryEvent) (kind : RecvKind) → Rises 0 ls → (deliveries_after life g).closed ≡ false → Goes life ls g
      → Goes life (with_wanted (free_number ls) true ls) (on.LinkAdded (free_number ls) kind ∷ g)
  wanted ls g kind rises open_yet r = record {
    calls = (find_none (is_numbered m) d.links (no_number ls g m (free_takes ls rises) open_yet r), r.calls);
    there = λ n t. added_knows n m kind d ∙ into n (or_true _ _ (sym (wanted_takes n m ls) ∙ t));
    known = λ c n k. wanted_takes n m ls ∙ back n (or_true _ _ (sym (added_knows n m kind d) ∙ k));
  }
    where
      m : ℕ
      m = free_number ls

      d : DeliveryState
      d = deliveries_after life g

      into : (n : ℕ) → (((m == n) && true) ≡ true) ⊎ (takes n ls ≡ true) → (knows n d.links || ((m == n) || false)) ≡ true
      into n (inl h) = or_right (knows n d.links) _ (or_left (m == n) false (and_left (m == n) true h))
      into n (inr h) = or_left (knows n d.links) _ (r.there n h)

      back : (n : ℕ) → (knows n d.links ≡ true) ⊎ (((m == n) || false) ≡ true) → (((m == n) && true) || takes n ls) ≡ true
      back n (inl h) = or_right ((m == n) && true) _ (r.known open_yet n h)
      back n (inr h) = or_left ((m == n) && true) _ (one (m == n) h)
        where
          one : (b : Bool) → (b || false) ≡ true → (b && true) ≡ true
          one true e = refl
          one false e = e

  -- one is no more for the deliveries
  gone : (ls ks : List PathLink) (g : List DeliveryEvent) (m : ℕ) → ((n : ℕ) → takes n ks ≡ (not (n == m) && takes n ls)) → Goes life ls g → Goes life ks (on.LinkDropped m ∷ g)
  gone ls ks g m without r = record {
    calls = (tt, r.calls);
    there = λ n t. dropped_knows n m d ∙ both (not (n == m)) (takes n ls) (knows n d.links) (r.there n) (sym (without n) ∙ t);
    known = λ c n k. without n ∙ both (not (n == m)) (knows n d.links) (takes n ls) (r.known c n) (sym (dropped_knows n m d) ∙ k);
  }
    where
      d : DeliveryState
      d = deliveries_after life g

      both : (a b c : Bool) → (b ≡ true → c ≡ true) → (a && b) ≡ true → (a && c) ≡ true
      both true b c f e = f e
      both false b c f e = e

  -- the closing event
  shut : (ls ks : List PathLink) (g : List DeliveryEvent) → ((n : ℕ) → takes n ks ≡ true → takes n ls ≡ true) → Goes life ls g → Goes life ks (on.Closed ∷ g)
  shut ls ks g less r = record {
    calls = (tt, r.calls);
    there = λ n t. same_knows on.Closed refl n (deliveries_after life g) ∙ r.there n (less n t);
    known = λ c. absurd (cc);
  }

-- ---- what a call asks for

-- a get waits on a link for gets: on the one that is there, or on a new one
added_gets : (list : List Delivery) (m prefetch : ℕ) (links : List ReceivingLink) → knows m links ≡ false → in_link (λ l. is_for_gets l.kind) (link_of (map (recount list) (links ++ new_link m Get prefetch ∷ [])) m) ≡ true
added_gets list m prefetch [] e = ap (λ b. in_link (λ l. is_for_gets l.kind) (cond b (Some (recount list (new_link m Get prefetch))) None)) (eq_to m m refl)
added_gets list m prefetch (x ∷ xs) e = by (x.link == m) e (added_gets list m prefetch xs)
  where
    rest : List ReceivingLink
    rest = map (recount list) (xs ++ new_link m Get prefetch ∷ [])

    by : (b : Bool) → (b || knows m xs) ≡ false → (knows m xs ≡ false → in_link (λ l. is_for_gets l.kind) (link_of rest m) ≡ true)
        → in_link (λ l. is_for_gets l.kind) (cond b (Some (recount list x)) (link_of rest m)) ≡ true
    by true e ih = absurd (cc)
    by false e ih = ih e

there_gets : (link : ℕ) (links : List ReceivingLink) → takes_get link links ≡ true → in_link (λ l. is_for_gets l.kind) (link_of links link) ≡ true
there_gets link links e = by (link_of links link) e
  where
    by : (o : Option ReceivingLink) → in_link (λ l. is_for_gets l.kind && not (is_some l.get)) o ≡ true → in_link (λ l. is_for_gets l.kind) o ≡ true
    by None e = e
    by (Some l) e = and_left _ _ e

-- the last transfer of a delivery leaves it whole
last_joined : (part : Part) (payload : List ℕ) (before : Option Partial) → is_last part ≡ true → is_whole (joined part payload before) ≡ true
last_joined part payload before e = by part.more part.aborted e
  where
    by : (m a : Bool) → is_last (record part { more = m; aborted = a }) ≡ true → is_whole (joined (record part { more = m; aborted = a }) payload before) ≡ true
    by false false e = refl
    by true a e = absurd (cc)
    by false true e = absurd (cc)

last_whole : (list : List Delivery) (link : ℕ) (part : Part) (payload : List ℕ) (links : List ReceivingLink) → is_last part ≡ true → knows link links ≡ true
    → (k : ReceivingLink) × (link_of (map (recount list) (change_first (is_numbered link) (transfer_came part payload) links)) link ≡ Some k) × (is_whole k.partial ≡ true)
last_whole list link part payload [] last e = absurd (cc)
last_whole list link part payload (x ∷ xs) last e = by (x.link == link) refl e (last_whole list link part payload xs last)
  where
    changed : List ReceivingLink → List ReceivingLink
    changed ls = change_first (is_numbered link) (transfer_came part payload) ls

    by : (b : Bool) → (x.link == link) ≡ b → (b || knows link xs) ≡ true
        → (knows link xs ≡ true → (k : ReceivingLink) × (link_of (map (recount list) (changed xs)) link ≡ Some k) × (is_whole k.partial ≡ true))
        → (k : ReceivingLink) × (link_of (map (recount list) (cond b (transfer_came part payload x ∷ xs) (x ∷ changed xs))) link ≡ Some k) × (is_whole k.partial ≡ true)
    by true is e ih =
        let y = recount list (transfer_came part payload x) in
        (y, ap (λ b. cond b (Some y) (link_of (map (recount list) xs) link)) is, last_joined part payload x.partial last)
    by false is e ih =
        let found = ih e in
        (found.0, ap (λ b. cond b (Some (recount list x)) (link_of (map (recount list) (changed xs)) link)) is ∙ found.1, found.2)

arrival_call : (link : ℕ) (image : Option Content) (again : Bool) (d : DeliveryState) (k : ReceivingLink) → link_of d.links link ≡ Some k → is_whole k.partial ≡ true → IsCall d (arrival_on link image again d)
arrival_call link image again d k e whole =
    subst (λ o. (in_link (λ l. is_whole l.partial) (link_of d.links (arriving_in link o).link) ≡ true) × (arriving_in link o ≡ arriving_in (arriving_in link o).link (link_of d.links (arriving_in link o).link))) (sym e)
    (ap (in_link (λ (l : ReceivingLink). is_whole l.partial)) e ∙ whole, ap (arriving_in link) (sym e))

-- ---- the events

module _ (life : ℕ) where
  prefetched : (ls : List PathLink) (g : List DeliveryEvent) (x : PathOk) → Goes life ls g → Goes life ls (prefetches x ++ g)
  prefetched ls g (ok.Qos count false) r = calm life ls g (on.PrefetchSet count) refl tt r
  prefetched ls g (ok.Qos count true) r = r
  prefetched ls g x r = r

  globalled : (ls : List PathLink) (g : List DeliveryEvent) (o : Option PathOk) → Goes life ls g → Goes life ls (globals o ++ g)
  globalled ls g None r = r
  globalled ls g (Some (ok.Qos count true)) r = calm life ls g (on.GlobalSet count) refl tt r
  globalled ls g (Some (ok.Qos count false)) r = r
  globalled ls g (Some x) r = r

  cancelled : (ls : List PathLink) (g : List DeliveryEvent) (o : Option ℕ) → Goes life ls g → Goes life ls (cancels o ++ g)
  cancelled ls g None r = r
  cancelled ls g (Some link) r = calm life ls g (on.Cancelled link) refl tt r

  begun : (ls : List PathLink) (g : List DeliveryEvent) (o : Option PathLink) (a : AttachHeard) → Goes life ls g → Goes life ls (begins o a ++ g)
  begun ls g None a r = r
  begun ls g (Some l) a r = by (l.receives && a.there)
    where
      by : (b : Bool) → Goes life ls (cond b (on.LinkAttached l.link a.count ∷ []) [] ++ g)
      by true = calm life ls g (on.LinkAttached l.link a.count) refl tt r
      by false = r

  emptied : (ls : List PathLink) (link : ℕ) (d : DeliveryState) (new g : List DeliveryEvent) → Goes life ls (new ++ g) → Goes life ls ((empties link d ++ new) ++ g)
  emptied ls link d new g r = by (is_drained link d.links)
    where
      by : (b : Bool) → Goes life ls ((cond b (on.Emptied link ∷ []) [] ++ new) ++ g)
      by true = calm life ls (new ++ g) (on.Emptied link) refl tt r
      by false = r

  told : (ls : List PathLink) (g : List DeliveryEvent) (link : ℕ) (count : Option ℕ) (echo : Bool) → Goes life ls g → Goes life ls ((echoes echo link ++ counts count link) ++ g)
  told ls g link None false r = r
  told ls g link None true r = calm life ls g (on.LinkEchoed link) refl tt r
  told ls g link (Some n) false r = calm life ls g (on.LinkFlowed link n) refl tt r
  told ls g link (Some n) true r = calm life ls (on.LinkFlowed link n ∷ g) (on.LinkEchoed link) refl tt (calm life ls g (on.LinkFlowed link n) refl tt r)

  flowed : (ls : List PathLink) (g : List DeliveryEvent) (o : Option PathLink) (count : Option ℕ) (echo : Bool) (d : DeliveryState) → Goes life ls g → Goes life ls (flows o count echo d ++ g)
  flowed ls g None count echo d r = r
  flowed ls g (Some l) count echo d r = emptied ls l.link (flow_in l.link count echo d) (echoes echo l.link ++ counts count l.link) g (told ls g l.link count echo r)

  disposed : (ls : List PathLink) (g : List DeliveryEvent) (o : Option NextSettle) → Goes life ls g → Goes life ls (disposes o ++ g)
  disposed ls g None r = r
  disposed ls g (Some x) r = calm life ls g (on.SettleSent x) refl tt r

  -- where these are the deliveries of a path
  module _ (s : PathState) (g : List DeliveryEvent) (tied : Tied s.links) (e : s.deliveries ≡ deliveries_after life g) (r : Goes life s.links.links g) where
    still_open : s.deliveries.closed ≡ false → (deliveries_after life g).closed ≡ false
    still_open open_yet = sym (ap (λ (d : DeliveryState). d.closed) e) ∙ open_yet

    added : (kind : RecvKind) → s.deliveries.closed ≡ false → Goes life (with_receiver s.links).links (on.LinkAdded (free_number s.links.links) kind ∷ g)
    added kind open_yet = wanted life s.links.links g kind tied.rising (still_open open_yet) r

    got : (o : Option PathLink) (address : List ℕ) (no_ack : Bool) → get_link address s ≡ o → s.deliveries.closed ≡ false → Goes life (got_links o s.links).links (gets o no_ack s ++ g)
    got None address no_ack f open_yet =
        let m = free_number s.links.links in
        let d = deliveries_after life g in
        calm life (with_receiver s.links).links (on.LinkAdded m Get ∷ g) (on.GetCame m no_ack) refl
        (added_gets d.list m d.prefetch d.links (no_number life s.links.links g m (free_takes s.links.links tied.rising) (still_open open_yet) r))
        (added Get open_yet)
    got (Some l) address no_ack f open_yet =
        let passes = found_passes (is_get_link address s.deliveries s.sources) s.links.links l f in
        more life s.links.links g s.deliveries (on.GetCame l.link no_ack) e refl
        (there_gets l.link s.deliveries.links (and_left _ _ (and_right (is_serving l) _ passes))) r

    transferred_goes : (peer : ℕ) (o : Option PathLink) (part : Part) (payload : List ℕ) (image : Option Content) (again : Bool) → taking peer s ≡ o → id_or 0 part.id < 2 ^ 32
        → fault_on o part (length payload) s.deliveries ≡ None → Goes life s.links.links (transfers o part payload image again s.deliveries ++ g)
    transferred_goes peer None part payload image again f range right = r
    transferred_goes peer (Some l) part payload image again f range right =
        emptied s.links.links l.link (transferred l.link part payload image again s.deliveries) (arrivals (is_last part) l.link image again (delivery_event came s.deliveries) ++ came ∷ []) g (by (is_last part) refl)
      where
        came : DeliveryEvent
        came = on.TransferCame l.link part payload

        came_goes : Goes life s.links.links (came ∷ g)
        came_goes = more life s.links.links g s.deliveries came e refl (range, right) r

        known : knows l.link s.deliveries.links ≡ true
        known = ap (λ (d : DeliveryState). knows l.link d.links) e ∙ r.there l.link (taking_takes peer s.links l (unless_lost s.lost _ l f))

        by : (b : Bool) → is_last part ≡ b → Goes life s.links.links ((arrivals b l.link image again (delivery_event came s.deliveries) ++ came ∷ []) ++ g)
        by true last =
            let found = last_whole s.deliveries.list l.link part payload s.deliveries.links last known in
            more life s.links.links (came ∷ g) (delivery_event came s.deliveries) (arrival_on l.link image again (delivery_event came s.deliveries)) (ap (delivery_event came) e) refl
            (arrival_call l.link image again (delivery_event came s.deliveries) found.0 found.1 found.2) came_goes
        by false last = came_goes

    granted : (b : Bool) (o : Option NextGrant) → grant_in s ≡ o → Goes life s.links.links (cond b (grants o) [] ++ g)
    granted true None f = r
    granted true (Some x) f = more life s.links.links g s.deliveries (on.GrantSent x) e refl f r
    granted false o f = r

    flow_sent : Goes life (after_event LinkFlowSent s).links.links (delivery_events s LinkFlowSent ++ g)
    flow_sent =
        alike life s.links.links (after_event LinkFlowSent s).links.links (delivery_events s LinkFlowSent ++ g)
        (λ n. ap (λ (z : LinksState). takes n z.links) (flow_sent_same s) ∙ by n (is_grant_next s)) (granted (is_grant_next s) (grant_in s) refl)
      where
        by : (n : ℕ) (b : Bool) → takes n (cond b s.links (told_on (flow_of s.publishes.list s.links) s.links)).links ≡ takes n s.links.links
        by n true = refl
        by n false = takes_told n s.publishes.list s.links tied

    flow_came : (peer : ℕ) (count : Option ℕ) (credit : ℕ) (drain echo : Bool)
        → Goes life (after_event (FlowCame peer count credit drain echo) s).links.links (flows (receiver_in (named peer s.links)) count echo s.deliveries ++ g)
    flow_came peer count credit drain echo =
        alike life s.links.links (after_event (FlowCame peer count credit drain echo) s).links.links (flows (receiver_in (named peer s.links)) count echo s.deliveries ++ g)
        (λ n. ap (λ (z : LinksState). takes n z.links) (flowed_same (receiver_in (named peer s.links)) peer count credit drain echo s) ∙ by n (receiver_in (named peer s.links)))
        (flowed s.links.links g (receiver_in (named peer s.links)) count echo s.deliveries r)
      where
        by : (n : ℕ) (o : Option PathLink) → takes n (flowed_if o peer count credit drain echo s.links).links ≡ takes n s.links.links
        by n None = takes_flowed n peer count credit drain echo s.links tied
        by n (Some l) = refl

    parted_goes : (o : Option PathLink) → IfSome o (IsThere s.links) → Goes life (parted o s.links).links (drops o ++ g)
    parted_goes None there = r
    parted_goes (Some l) there = by l.receives refl
      where
        by : (b : Bool) → l.receives ≡ b → Goes life (parted (Some l) s.links).links (cond b (on.LinkDropped l.link ∷ []) [] ++ g)
        by true is = gone life s.links.links (parted (Some l) s.links).links g l.link (λ n. takes_parted n s.links l tied there.0) r
        by false is =
            alike life s.links.links (parted (Some l) s.links).links g
            (λ n. takes_parted n s.links l tied there.0 ∙ other_takes (has_number l.link) n s.links.links l tied.rising there.0 (ap (λ b. b && not (is_given l)) is)) r

  step : (x : PathEvent) (s : PathState) (g : List DeliveryEvent) → Tied s.links → s.deliveries ≡ deliveries_after life g → IsHeard s x → Goes life s.links.links g
      → Goes life (after_event x s).links.links (delivery_events s x ++ g)
  step (Began handle_max) s g t e heard r = r
  step (Published address payload back) s g t e heard r = alike life s.links.links (linked_to address s.links).links g (λ n. takes_linked n address s.links) r
  step Selected s g t e heard r = r
  step (Owed ok) s g t e heard r = prefetched s.links.links g ok r
  step (Consumed address tag no_ack no_wait) s g t e heard r = added s g t e r (Consumer (tag_for tag s.deliveries.links) no_ack) heard
  step (CancelCame tag no_wait) s g t e heard r = cancelled s.links.links g (consumer_link tag s.deliveries.links) r
  step (Declared queue no_wait) s g t e heard r = added s g t e r Probe heard
  step (GetAsked queue no_ack) s g t e heard r =
      subst (λ (z : LinksState). Goes life z.links (gets (get_link (queue_or s.queue queue) s) no_ack s ++ g)) (sym (got_same (get_link (queue_or s.queue queue) s) (queue_or s.queue queue) no_ack s))
      (got s g t e r (get_link (queue_or s.queue queue) s) (queue_or s.queue queue) no_ack refl heard)
  step (AnswerCame tag multiple settle) s g t e heard r = calm life s.links.links g (on.Answered tag multiple settle) refl tt r
  step (AttachCame attach) s g t e heard r =
      alike life s.links.links (after_event (AttachCame attach) s).links.links (begins (asked_by attach s.links) attach ++ g)
      (λ n. ap (λ (z : LinksState). takes n z.links) (attach_same (asked_by attach s.links) attach (record s { links = attached attach s.links })) ∙ takes_attached n attach s.links t)
      (begun s.links.links g (asked_by attach s.links) attach r)
  step (FlowCame peer count credit drain echo) s g t e heard r = flow_came s g t e r peer count credit drain echo
  step (DetachCame peer not_found) s g t e heard r = alike life s.links.links (link_detached peer s.links).links g (λ n. takes_detached n peer s.links t) r
  step (TransferCame peer part payload image again) s g t e heard r =
      subst (λ (z : LinksState). Goes life z.links (transfers (taking peer s) part payload image again s.deliveries ++ g)) (sym (transfer_same (taking peer s) part payload image again s))
      (transferred_goes s g t e r peer (taking peer s) part payload image again refl heard.0 heard.1)
  step (LinkFailed peer fault) s g t e heard r = alike life s.links.links (link_failed peer fault s.links).links g (λ n. takes_failed n peer fault s.links t) r
  step (DispositionCame first last outcome settled) s g t e heard r = r
  step (AttachSent name) s g t e heard r = alike life s.links.links (link_asked name s.links).links g (λ n. takes_asked n name s.links t) r
  step LinkFlowSent s g t e heard r = flow_sent s g t e r
  step (TransferSent frame count) s g t e heard r = r
  step (SettleSent settling) s g t e heard r = r
  step DisposeSent s g t e heard r =
      subst (λ (z : LinksState). Goes life z.links (disposes (next_settle_of s.deliveries.list) ++ g)) (sym (disposed_same (next_settle_of s.deliveries.list) s))
      (disposed s.links.links g (next_settle_of s.deliveries.list) r)
  step DetachSent s g t e heard r =
      subst (λ (z : LinksState). Goes life z.links (drops (detaching_of s) ++ g)) (sym (dropped_same (detaching_of s) (record s { links = parted (detaching_of s) s.links })))
      (parted_goes s g t e r (detaching_of s) (detaching_there s.publishes.list s.deliveries s.oks s.links t.rising))
  step (ConfirmWent confirm) s g t e heard r = r
  step (ReturnWent number) s g t e heard r = r
  step (DeliverSent due) s g t e heard r = calm life s.links.links g (on.Delivered due.next.number) refl tt r
  step ContentSent s g t e heard r = r
  step (ContentWhole tag) s g t e heard r = calm life s.links.links g (on.Written tag) refl tt r
  step (OkSent ok) s g t e heard r = globalled s.links.links g (first_of s.oks) r
  step LinesWent s g t e heard r = calm life s.links.links g on.LinesTold refl tt r
  step LifeClosed s g t e heard r = shut life s.links.links (filter (λ l. not (is_wanted_receiver l)) s.links.links) g (λ n. any_less (takes_one n) (λ l. not (is_wanted_receiver l)) s.links.links) r
  step SessionLost s g t e heard r =
      shut life s.links.links (filter (λ l. not (is_wanted l)) (filter (λ l. not (is_wanted_receiver l)) s.links.links)) g
      (λ n b. any_less (takes_one n) (λ l. not (is_wanted_receiver l)) s.links.links (any_less (takes_one n) (λ l. not (is_wanted l)) _ b)) r
  step SessionEnded s g t e heard r = shut life s.links.links [] g (λ n none. absurd (cc)) r
  step UpLost s g t e heard r = calm life [] (on.Closed ∷ g) on.EndLost refl tt (shut life s.links.links [] g (λ n none. absurd (cc)) r)

  goes : (h : List PathEvent) → AreHeard life h → Goes life (after_events life h).links.links (deliveries_of life h)
  goes [] heard = record { calls = tt; there = λ n none. absurd (cc); known = λ open_yet n none. absurd (cc) }
  goes (x ∷ h) heard = step x (after_events life h) (deliveries_of life h) (tied_after life h) (deliveries_are life h) heard.0 (goes h heard.1)

pub calls_are : (life : ℕ) (h : List PathEvent) → AreHeard life h → AreCalls life (deliveries_of life h)
calls_are life h heard = (goes life h heard).calls
