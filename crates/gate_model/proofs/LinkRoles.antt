-- A flow that the deliveries ask for is of a receiving link: no sending one has the number of one of theirs.
use Rattle.std.proofs.Common.{◌≡◌, ◌∙◌, ℕ, List, [], ◌∷◌, ◌++◌, Bool, true, false, if◌then◌else◌}
use Rattle.std.proofs.Common.{Option, Some, None, refl, sym, subst, ap, cond}
use Rattle.std.specs.Prelude.{filter, find, is_some, not, ◌==◌, ◌&&◌, IfSome}
use Rattle.std.specs.List.{AllByRecursion}
use Rattle.std.specs.Option.{option_map}
use Rattle.link_table.specs.Table.{free_of, named_by}
use Rattle.publish_path.specs.Links.{link_to}
use Rattle.publish_path.specs.declared.publish.Publish.{Publish}
use Rattle.consume_path.specs.Deliveries as on
use Rattle.consume_path.specs.Deliveries.{DeliveryEvent, DeliveryState}
use Rattle.consume_path.specs.Deliveries.{after_events as deliveries_after}
use Rattle.consume_path.specs.Links.{link_of, new_link, transfer_came}
use Rattle.consume_path.specs.Offers.{next_grant_of, next_settle_of}
use Rattle.consume_path.specs.declared.receiving.NextGrant.{NextGrant}
use Rattle.consume_path.specs.declared.receiving.ReceivingLink.{ReceivingLink}
use Rattle.consume_path.specs.declared.receiving.TransferFault.{TransferFault}
use Rattle.session_path.specs.Events as event
use Rattle.session_path.specs.Events.{PathEvent, after_event, after_events, deliveries_of, delivery_events}
use Rattle.session_path.specs.Links.{LinksState, Rises, answered, asked_as, asked_by, asked_on, at_handle, attach_fault, attached, attached_as, detached_on}
use Rattle.session_path.specs.Links.{failed_by, failed_on, flowed_on, free_number, given_by, given_on, gone_on, has_number, is_asked_as, is_at, is_given, is_left}
use Rattle.session_path.specs.Links.{is_stage_whole, is_wanted, is_wanted_receiver, left_by, link_asked, link_detached, link_failed, link_flowed, linked_to, named}
use Rattle.session_path.specs.Links.{parted, put, told_by, told_on, told_once, wanted_link, with_link_to, with_receiver}
use Rattle.session_path.specs.Path.{IsThere, PathState, detaching_of, flow_of, get_link, grant_in, granting, granting_on, is_grant_next, owes_flow, queue_or, receiver_in, taking}
use Rattle.session_path.specs.declared.path.AttachHeard.{AttachHeard}
use Rattle.session_path.specs.declared.path.PathLink.{PathLink}
use Rattle.session_path.proofs.Idle.{detaching_there}
use Rattle.session_path.proofs.SameLinks.{attach_same, disposed_same, dropped_same, flow_sent_same}
use Rattle.session_path.proofs.SameLinks.{flowed_if, flowed_same, got_links, got_same, transfer_same}
use Rattle.session_path.proofs.Tied.{Tied, tied_after}
use Rattle.session_path.proofs.Ties.{dropped, eq_of, found_number, found_passes, no_clash}
use Rattle.session_path.proofs.Wanted.{absent}
use Rattle.gate_model.proofs.Brought.{OfEvent, event_all, is_mild}
use Rattle.gate_model.proofs.Granting.{DeliveriesAre, grant_there}
use Rattle.gate_model.proofs.Heard.{AllHold}
use Rattle.gate_model.proofs.LinkCredits.{found_before, inserted_here, inserted_other, none_there, placed_here, placed_other}
use Rattle.gate_model.proofs.Linking.{counted_anew, link_after, linked as found_after, recounts}
use Rattle.session_path.specs.Links.{without_receivers}
use Rattle.session_path.proofs.Ties.{rises_filter}

-- ---- the sending link with a number

abbrev sends_in : Option PathLink → Bool
sends_in None = false
sends_in (Some l) = not l.receives

abbrev sends : ℕ → List PathLink → Bool
sends n ls = sends_in (find (has_number n) ls)

put_sends : (n : ℕ) (p : PathLink → Bool) (ls : List PathLink) (l x : PathLink) → Rises 0 ls → find p ls ≡ Some l → x.link ≡ l.link → x.receives ≡ l.receives
    → sends n (put x ls) ≡ true → sends n ls ≡ true
put_sends n p ls l x r e number role = by (l.link == n) refl
  where
    by : (b : Bool) → (l.link == n) ≡ b → sends n (put x ls) ≡ true → sends n ls ≡ true
    by false ne f = ap sends_in (sym (placed_other n x ls (ap (λ (m : ℕ). m == n) number ∙ ne))) ∙ f
    by true is f =
        let same : l.link ≡ n = eq_of l.link n is in
        let own : find (has_number n) ls ≡ Some l = subst (λ (m : ℕ). find (has_number m) ls ≡ Some l) same (found_number p ls l r e) in
        ap sends_in own ∙ sym (ap not role) ∙ ap sends_in (sym (placed_here n x l ls (number ∙ same) own)) ∙ f

left_sends : (n : ℕ) (stay : PathLink → Bool) (ls : List PathLink) → Rises 0 ls → sends n (filter stay ls) ≡ true → sends n ls ≡ true
left_sends n stay ls r = by (find (has_number n) (filter stay ls)) refl
  where
    by : (o : Option PathLink) → find (has_number n) (filter stay ls) ≡ o → sends_in o ≡ true → sends n ls ≡ true
    by None e f = absurd cc
    by (Some k) e f = ap sends_in (found_before stay n ls k r e) ∙ f

-- ---- links

module _ (n : ℕ) where
  -- one that sends did before
  abbrev Before : LinksState → LinksState → Type 0
  Before s z = sends n z.links ≡ true → sends n s.links ≡ true

  linked : (address : List ℕ) (s : LinksState) → (free_number s.links == n) ≡ false → Before s (linked_to address s)
  linked address s ne = by (is_some (link_to s.sending address))
    where
      by : (b : Bool) → Before s (cond b s (with_link_to address s))
      by true f = f
      by false f = ap sends_in (sym (inserted_other n (free_number s.links) (free_number s.links) false s.links ne)) ∙ f

  received : (s : LinksState) → Tied s → Before s (with_receiver s)
  received s t = by (free_number s.links == n) refl
    where
      k : ℕ
      k = free_number s.links

      by : (b : Bool) → (k == n) ≡ b → Before s (with_receiver s)
      by true e f =
          let is : find (has_number k) (with_receiver s).links ≡ Some (wanted_link k true) = inserted_here k k true s.links (absent s.links t.rising) in
          absurd (no_clash (sends n (with_receiver s).links) f (subst (λ (m : ℕ). sends m (with_receiver s).links ≡ false) (eq_of k n e) (ap sends_in is)))
      by false e f = ap sends_in (sym (inserted_other n k k true s.links e)) ∙ f

  attaches : (a : AttachHeard) (s : LinksState) → Tied s → Before s (attached a s)
  attaches a s t = by (is_some (attach_fault a.name a.role a.peer s)) (find (is_asked_as a.name a.role) s.links) refl
    where
      by : (b : Bool) (o : Option PathLink) → find (is_asked_as a.name a.role) s.links ≡ o → Before s (attached_as (cond b None o) a.peer a.there s)
      by true o e f = f
      by false None e f = f
      by false (Some l) e f = put_sends n (is_asked_as a.name a.role) s.links l (answered a.there l) t.rising e refl refl f

  flowed : (peer : ℕ) (count : Option ℕ) (credit : ℕ) (drain echo : Bool) (s : LinksState) → Tied s → Before s (link_flowed peer count credit drain echo s)
  flowed peer count credit drain echo s t = by (named_by s.handles peer)
    where
      at : (h : ℕ) (o : Option PathLink) → find (is_at h) s.links ≡ o → Before s (flowed_on o count credit drain echo s)
      at h None e f = f
      at h (Some l) e f = put_sends n (is_at h) s.links l (told_by drain echo l) t.rising e refl refl f

      by : (o : Option ℕ) → Before s (flowed_on (at_handle o s.links) count credit drain echo s)
      by None f = f
      by (Some h) f = at h (find (is_at h) s.links) refl f

  detaches : (peer : ℕ) (s : LinksState) → Tied s → Before s (link_detached peer s)
  detaches peer s t = by (named_by s.handles peer)
    where
      at : (h : ℕ) (o : Option PathLink) → find (is_at h) s.links ≡ o → Before s (detached_on o s)
      at h None e f = f
      at h (Some l) e f = either (is_given l) f
        where
          either : (b : Bool) → sends n (cond b (dropped l.link s.links) (put (left_by s.sending l) s.links)) ≡ true → sends n s.links ≡ true
          either true g = left_sends n (λ k. not (has_number l.link k)) s.links t.rising g
          either false g = put_sends n (is_at h) s.links l (left_by s.sending l) t.rising e refl refl g

      by : (o : Option ℕ) → Before s (detached_on (at_handle o s.links) s)
      by None f = f
      by (Some h) f = at h (find (is_at h) s.links) refl f

  fails : (peer : ℕ) (fault : TransferFault) (s : LinksState) → Tied s → Before s (link_failed peer fault s)
  fails peer fault s t = by (named_by s.handles peer)
    where
      at : (h : ℕ) (o : Option PathLink) → find (is_at h) s.links ≡ o → Before s (failed_on o fault s)
      at h None e f = f
      at h (Some l) e f = either (is_stage_whole l.stage && l.receives) f
        where
          either : (b : Bool) → sends n (cond b (record s { links = put (failed_by fault l) s.links }) s).links ≡ true → sends n s.links ≡ true
          either true g = put_sends n (is_at h) s.links l (failed_by fault l) t.rising e refl refl g
          either false g = g

      by : (o : Option ℕ) → Before s (failed_on (at_handle o s.links) fault s)
      by None f = f
      by (Some h) f = at h (find (is_at h) s.links) refl f

  asks : (name : ℕ) (s : LinksState) → Tied s → Before s (link_asked name s)
  asks name s t = by (find is_wanted s.links) refl (free_of s.handles)
    where
      by : (o : Option PathLink) → find is_wanted s.links ≡ o → (q : Option ℕ) → Before s (asked_on o q name s)
      by None e q f = f
      by (Some l) e None f = f
      by (Some l) e (Some h) f = put_sends n is_wanted s.links l (asked_as h name l) t.rising e refl refl f

  told : (list : List Publish) (s : LinksState) → Tied s → Before s (told_on (flow_of list s) s)
  told list s t = by (flow_of list s) refl
    where
      by : (o : Option PathLink) → find (owes_flow list s.sending) s.links ≡ o → Before s (told_on o s)
      by None e f = f
      by (Some l) e f = put_sends n (owes_flow list s.sending) s.links l (told_once l) t.rising e refl refl f

  parts : (s : LinksState) (o : Option PathLink) → Tied s → IfSome o (IsThere s) → Before s (parted o s)
  parts s None t there f = f
  parts s (Some l) t there f = by (is_left l) f
    where
      by : (b : Bool) → sends n (cond b (gone_on (Some l) s) (given_on (Some l) s)).links ≡ true → sends n s.links ≡ true
      by true g = left_sends n _ s.links t.rising g
      by false g = put_sends n (has_number l.link) s.links l (given_by l) t.rising there.0 refl refl g

  gets : (o : Option PathLink) (s : LinksState) → Tied s → Before s (got_links o s)
  gets None s t f = received s t f
  gets (Some l) s t f = f

  -- ---- events

  flow_came : (peer : ℕ) (count : Option ℕ) (credit : ℕ) (drain echo : Bool) (s : PathState) → Tied s.links
      → Before s.links (after_event (event.FlowCame peer count credit drain echo) s).links
  flow_came peer count credit drain echo s t f =
      by (receiver_in (named peer s.links)) (ap (λ (z : LinksState). sends n z.links) (sym (flowed_same (receiver_in (named peer s.links)) peer count credit drain echo s)) ∙ f)
    where
      by : (o : Option PathLink) → Before s.links (flowed_if o peer count credit drain echo s.links)
      by None g = flowed peer count credit drain echo s.links t g
      by (Some l) g = g

  flow_went : (s : PathState) → Tied s.links → Before s.links (after_event event.LinkFlowSent s).links
  flow_went s t f = by (is_grant_next s) (ap (λ (z : LinksState). sends n z.links) (sym (flow_sent_same s)) ∙ f)
    where
      by : (b : Bool) → Before s.links (cond b s.links (told_on (flow_of s.publishes.list s.links) s.links))
      by true g = g
      by false g = told s.publishes.list s.links t g

  -- it may ask for a sending link
  abbrev publishes : PathEvent → Bool
  publishes (event.Published address payload back) = true
  publishes x = false

  sent_before : (x : PathEvent) (s : PathState) → Tied s.links → (publishes x ≡ true → (free_number s.links.links == n) ≡ false) → Before s.links (after_event x s).links
  sent_before (event.Published address payload back) s t ne f = linked address s.links (ne refl) f
  sent_before (event.Consumed address tag no_ack no_wait) s t ne f = received s.links t f
  sent_before (event.Declared queue no_wait) s t ne f = received s.links t f
  sent_before (event.GetAsked queue no_ack) s t ne f =
      gets (get_link (queue_or s.queue queue) s) s.links t
      (ap (λ (z : LinksState). sends n z.links) (sym (got_same (get_link (queue_or s.queue queue) s) (queue_or s.queue queue) no_ack s)) ∙ f)
  sent_before (event.AttachCame a) s t ne f =
      attaches a s.links t (ap (λ (z : LinksState). sends n z.links) (sym (attach_same (asked_by a s.links) a (record s { links = attached a s.links }))) ∙ f)
  sent_before (event.FlowCame peer count credit drain echo) s t ne f = flow_came peer count credit drain echo s t f
  sent_before (event.DetachCame peer not_found) s t ne f = detaches peer s.links t f
  sent_before (event.TransferCame peer part payload image again) s t ne f =
      ap (λ (z : LinksState). sends n z.links) (sym (transfer_same (taking peer s) part payload image again s)) ∙ f
  sent_before (event.LinkFailed peer fault) s t ne f = fails peer fault s.links t f
  sent_before (event.AttachSent name) s t ne f = asks name s.links t f
  sent_before event.LinkFlowSent s t ne f = flow_went s t f
  sent_before event.DisposeSent s t ne f = ap (λ (z : LinksState). sends n z.links) (sym (disposed_same (next_settle_of s.deliveries.list) s)) ∙ f
  sent_before event.DetachSent s t ne f =
      parts s.links (detaching_of s) t (detaching_there s.publishes.list s.deliveries s.oks s.links t.rising)
      (ap (λ (z : LinksState). sends n z.links) (sym (dropped_same (detaching_of s) (record s { links = parted (detaching_of s) s.links }))) ∙ f)
  sent_before event.LifeClosed s t ne f = left_sends n (λ l. not (is_wanted_receiver l)) s.links.links t.rising f
  sent_before event.SessionLost s t ne f =
      left_sends n (λ l. not (is_wanted_receiver l)) s.links.links t.rising
      (left_sends n (λ l. not (is_wanted l)) (without_receivers s.links).links (rises_filter _ 0 s.links.links t.rising) f)
  sent_before event.SessionEnded s t ne f = absurd cc
  sent_before event.UpLost s t ne f = absurd cc
  sent_before x s t ne f = f

  -- ---- the links of the deliveries

  abbrev is_added : DeliveryEvent → Bool
  is_added (on.LinkAdded link kind) = link == n
  is_added x = false

  mild_adds : (x : DeliveryEvent) → is_mild x ≡ true → is_added x ≡ false
  mild_adds (on.LinkAdded link kind) e = absurd cc
  mild_adds x e = refl

  none_if : (b : Bool) (f : ReceivingLink → ReceivingLink) → (if b then option_map f None else None) ≡ None
  none_if true f = refl
  none_if false f = refl

  none_after : (x : DeliveryEvent) (d : DeliveryState) → is_added x ≡ false → link_after x d n None ≡ None
  none_after (on.LinkAdded link kind) d e = ap (λ (b : Bool). if b then Some (new_link link kind d.prefetch) else None) e
  none_after (on.TransferCame link part payload) d e = none_if (n == link) (transfer_came part payload)
  none_after (on.LinkDropped link) d e = none_if (n == link) (λ l. l)
  none_after x d e = refl

  none_counted : (b : Bool) (d : DeliveryState) → counted_anew b d None ≡ None
  none_counted true d = refl
  none_counted false d = refl

  none_more : (life : ℕ) (ys ds : List DeliveryEvent) → AllByRecursion (λ y. is_added y ≡ false) ys → link_of (deliveries_after life ds).links n ≡ None
      → link_of (deliveries_after life (ys ++ ds)).links n ≡ None
  none_more life [] ds a e = e
  none_more life (y ∷ ys) ds a e =
      let d : DeliveryState = deliveries_after life (ys ++ ds) in
      let rest : link_of d.links n ≡ None = none_more life ys ds a.1 e in
      found_after y d n ∙ ap (λ (o : Option ReceivingLink). counted_anew (recounts y) (on.after_event y d) (link_after y d n o)) rest
      ∙ ap (counted_anew (recounts y) (on.after_event y d)) (none_after y d a.0) ∙ none_counted (recounts y) (on.after_event y d)

  of_event : (x : PathEvent) (s : PathState) → (free_number s.links.links == n) ≡ false → OfEvent (λ y. is_added y ≡ false) s x
  of_event (event.Consumed address tag no_ack no_wait) s ne = ne
  of_event (event.Declared queue no_wait) s ne = ne
  of_event (event.GetAsked queue no_ack) s ne = ne
  of_event (event.TransferCame peer part payload image again) s ne = λ link d. refl
  of_event (event.ContentWhole tag) s ne = refl
  of_event event.LifeClosed s ne = refl
  of_event event.SessionLost s ne = refl
  of_event event.SessionEnded s ne = refl
  of_event event.UpLost s ne = (refl, refl)
  of_event x s ne = tt

-- ---- no number is of both

-- a sending link that is asked for gets the number of none of the deliveries
abbrev pub HasRoom : PathState → PathEvent → Type 0
HasRoom s (event.Published address payload back) = link_of s.deliveries.links (free_number s.links.links) ≡ None
HasRoom s x = Unit {0}

abbrev HaveRoom : ℕ → List PathEvent → Type 0
HaveRoom life es = AllHold HasRoom life es

module _ (deliveries : DeliveriesAre) (life : ℕ) where
  abbrev Owns : ℕ → PathState → Type 0
  Owns n s = sends n s.links.links ≡ true → link_of s.deliveries.links n ≡ None

  -- another number than that of a link that is asked for now
  others : (n : ℕ) (x : PathEvent) (es : List PathEvent) → (free_number (after_events life es).links.links == n) ≡ false → Owns n (after_events life es)
      → Owns n (after_events life (x ∷ es))
  others n x es ne old e =
      let s : PathState = after_events life es in
      let there : link_of s.deliveries.links n ≡ None = old (sent_before n x s (tied_after life es) (λ p. ne) e) in
      ap (λ (d : DeliveryState). link_of d.links n) (deliveries life (x ∷ es))
      ∙ none_more n life (delivery_events s x) (deliveries_of life es) (event_all (λ y. is_added n y ≡ false) (mild_adds n) s x (of_event n x s ne))
      (ap (λ (d : DeliveryState). link_of d.links n) (sym (deliveries life es)) ∙ there)

  -- that number
  free_sends : (es : List PathEvent) → sends (free_number (after_events life es).links.links) (after_events life es).links.links ≡ false
  free_sends es = ap sends_in (none_there _ (after_events life es).links.links (absent (after_events life es).links.links (tied_after life es).rising))

  new : (n : ℕ) (x : PathEvent) (es : List PathEvent) → HasRoom (after_events life es) x → free_number (after_events life es).links.links ≡ n → Owns n (after_events life (x ∷ es))
  new n (event.Published address payload back) es room same e = subst (λ (m : ℕ). link_of (after_events life es).deliveries.links m ≡ None) same room
  new n x es room same e =
      absurd (no_clash (sends n (after_events life es).links.links) (sent_before n x (after_events life es) (tied_after life es) (λ p. absurd (no_clash (publishes n x) p refl)) e)
      (subst (λ (m : ℕ). sends m (after_events life es).links.links ≡ false) same (free_sends es)))

  own : (es : List PathEvent) → HaveRoom life es → (n : ℕ) → Owns n (after_events life es)
  own [] r n e = absurd cc
  own (x ∷ es) r n e = by (free_number (after_events life es).links.links == n) refl (own es r.1 n)
    where
      by : (b : Bool) → (free_number (after_events life es).links.links == n) ≡ b → Owns n (after_events life es) → link_of (after_events life (x ∷ es)).deliveries.links n ≡ None
      by true f old = new n x es r.0 (eq_of _ n f) e
      by false f old = others n x es f old e

  pub grants_receive : (es : List PathEvent) → HaveRoom life es → (l k : PathLink) → granting (after_events life es) ≡ Some l
      → find (has_number l.link) (after_events life es).links.links ≡ Some k → k.receives ≡ true
  grants_receive es r l k e is = by (grant_in (after_events life es)) refl e
    where
      s : PathState
      s = after_events life es

      none_some : (o : Option ReceivingLink) (x : ReceivingLink) → o ≡ None → o ≡ Some x → ⊥
      none_some o x f g = cc

      at : (g : NextGrant) → next_grant_of s.deliveries.closed s.deliveries.links ≡ Some g → l.link ≡ g.link → (b : Bool) → k.receives ≡ b → b ≡ true
      at g due number true role = refl
      at g due number false role =
          let there = grant_there s.deliveries.closed s.deliveries.links g due in
          let none : link_of s.deliveries.links l.link ≡ None = own es r l.link (ap sends_in is ∙ ap not role) in
          absurd (none_some _ there.link (subst (λ (m : ℕ). link_of s.deliveries.links m ≡ None) number none) there.is)

      by : (o : Option NextGrant) → grant_in s ≡ o → granting_on o s.links ≡ Some l → k.receives ≡ true
      by None due f = absurd cc
      by (Some g) due f = at g due (eq_of l.link g.link (found_passes (has_number g.link) s.links.links l f)) k.receives refl
