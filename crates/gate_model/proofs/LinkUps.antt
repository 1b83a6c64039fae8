-- A link on which the deliveries ask for a flow, or a transfer may begin, is one that both ends attached and the gateway didn't detach.
use Rattle.std.proofs.Common.{◌≡◌, ◌∙◌, ℕ, ◌==◌, ◌&&◌, ◌||◌, not, List, [], ◌∷◌, ◌++◌, Bool, true, false, if◌then◌else◌}
use Rattle.std.proofs.Common.{Option, Some, None, refl, sym, subst, ap, cond, map}
use Rattle.std.specs.Prelude.{filter, find, is_some, IfSome}
use Rattle.std.specs.List.{AllByRecursion}
use Rattle.std.specs.Option.{option_map, option_or}
use Rattle.link_table.specs.Table.{free_of, named_by}
use Rattle.publish_path.specs.Links.{asked_link, begun_on, drained, flowed as flowed_link, link_of as sender_of, link_to, now_attached, without}
use Rattle.publish_path.specs.declared.publish.Publish.{Publish}
use Rattle.publish_path.specs.declared.send_links.SendingLink.{SendingLink}
use Rattle.consume_path.specs.Deliveries as on
use Rattle.consume_path.specs.Deliveries.{DeliveryEvent, DeliveryState}
use Rattle.consume_path.specs.Deliveries.{after_events as deliveries_after}
use Rattle.consume_path.specs.Laws.{AreCalls}
use Rattle.consume_path.specs.Links.{has_number as is_number, link_of}
use Rattle.consume_path.specs.Offers.{next_grant_of, next_settle_of}
use Rattle.consume_path.specs.declared.receiving.NextGrant.{NextGrant}
use Rattle.consume_path.specs.declared.receiving.ReceivingLink.{ReceivingLink}
use Rattle.consume_path.specs.declared.receiving.TransferFault.{TransferFault}
use Rattle.session_path.specs.Events as event
use Rattle.session_path.specs.Events.{PathEvent, after_event, after_events, begins, deliveries_of, delivery_events, drops, gets}
use Rattle.session_path.specs.Laws.{AreHeard}
use Rattle.session_path.specs.Links.{LinksState, Rises, answered, asked_as, asked_by, asked_on, at_handle, attach_fault, attached, attached_as, detached_on, drained_if}
use Rattle.session_path.specs.Links.{failed_by, failed_on, flowed_on, free_number, given_by, given_on, gone_on, has_number, is_asked_as, is_at, is_given, is_left, is_stage_asked}
use Rattle.session_path.specs.Links.{is_stage_wanted, is_stage_whole, is_wanted, is_wanted_receiver, left_by, link_asked, link_detached, link_failed, link_flowed, linked_to, named}
use Rattle.session_path.specs.Links.{parted, put, told_by, told_on, told_once, with_link_to, with_receiver}
use Rattle.session_path.specs.Path.{IsThere, PathState, detaching_of, flow_of, get_link, grant_in, granting, granting_on, is_grant_next, owes_flow, queue_or, receiver_in, taking}
use Rattle.session_path.specs.declared.path.AttachHeard.{AttachHeard}
use Rattle.session_path.specs.declared.path.PathLink.{PathLink}
use Rattle.session_path.specs.declared.path.Stage.{Stage}
use Rattle.session_path.specs.declared.path.Stage.TheVariants as stage
use Rattle.session_path.proofs.Idle.{detaching_there}
use Rattle.session_path.proofs.SameLinks.{attach_same, disposed_same, dropped_same, flow_sent_same}
use Rattle.session_path.proofs.SameLinks.{flowed_if, flowed_same, got_links, got_same, transfer_same}
use Rattle.session_path.proofs.Tied.{Tied, tied_after}
use Rattle.session_path.proofs.Ties.{and_left, and_right, dropped, eq_of, eq_to, found_number, found_passes, ne_to, no_clash}
use Rattle.session_path.proofs.Wanted.{free_none}
use Rattle.gate_model.proofs.Brought.{OfEach, each_all, is_plain}
use Rattle.gate_model.proofs.Granting.{DeliveriesAre}
use Rattle.gate_model.proofs.Heard.{AllHold}
use Rattle.gate_model.proofs.LinkCredits.{found_before, found_sender, inserted_other, mapped_here, placed_here, placed_other, pushed, without_here, without_other}
use Rattle.gate_model.proofs.LinkRoles.{HasRoom}
use Rattle.gate_model.proofs.Linking.{apart, counted_anew, link_after, linked as found_after, recounts, source}
use Rattle.gate_model.proofs.Quotas.{number_is}
use Rattle.gate_model.proofs.Settles.{CallsAre}
use Rattle.gate_model.proofs.Standing.{flows_attached}
use Rattle.session_path.specs.Links.{without_receivers}
use Rattle.session_path.specs.Links.{without_wanted}
use Rattle.session_path.proofs.Ties.{rises_filter}
use Rattle.session_path.proofs.Tied.{tied_without}
use Rattle.session_path.proofs.Unwanted.{are_left}
use Rattle.std.proofs.Common.{inl}
use Rattle.std.proofs.Common.{inr}

-- ---- links that are up

-- both ends attached it, with a source or a target, and the gateway didn't detach
abbrev pub is_up : Stage → Bool
is_up stage.Wanted = false
is_up (stage.Asked h) = false
is_up (stage.Open h) = true
is_up (stage.Refused h) = false
is_up (stage.Left h) = true
is_up (stage.Given h) = false
is_up (stage.Failed h fault) = true

-- so it is of a link, which is a receiving one where that is asked for
abbrev pub serves : Bool → PathLink → Bool
serves receives l = is_up l.stage && (not receives || l.receives)

abbrev pub serves_in : Bool → Option PathLink → Bool
serves_in receives None = true
serves_in receives (Some l) = serves receives l

-- the link with this number, if there is one
abbrev pub is_fit : Bool → ℕ → List PathLink → Bool
is_fit receives n ls = serves_in receives (find (has_number n) ls)

serves_as : (r : Bool) (x l : PathLink) → x.receives ≡ l.receives → (is_up l.stage ≡ true → is_up x.stage ≡ true) → serves r l ≡ true → serves r x ≡ true
serves_as r x l role more e = both (is_up x.stage) (not r || x.receives) (more (and_left _ _ e)) (ap (λ (b : Bool). not r || b) role ∙ and_right (is_up l.stage) _ e)
  where
    both : (a b : Bool) → a ≡ true → b ≡ true → (a && b) ≡ true
    both true b e f = f
    both false b e f = absurd cc

module _ (r : Bool) (n : ℕ) where
  abbrev Fit : List PathLink → Type 0
  Fit ls = is_fit r n ls ≡ true

  put_fit : (p : PathLink → Bool) (ls : List PathLink) (l x : PathLink) → Rises 0 ls → find p ls ≡ Some l → x.link ≡ l.link → x.receives ≡ l.receives
      → (is_up l.stage ≡ true → is_up x.stage ≡ true) → Fit ls → Fit (put x ls)
  put_fit p ls l x rises e number role more f = by (l.link == n) refl
    where
      by : (b : Bool) → (l.link == n) ≡ b → Fit (put x ls)
      by false ne = ap (serves_in r) (placed_other n x ls (ap (λ (m : ℕ). m == n) number ∙ ne)) ∙ f
      by true is =
          let same : l.link ≡ n = eq_of l.link n is in
          let own : find (has_number n) ls ≡ Some l = subst (λ (m : ℕ). find (has_number m) ls ≡ Some l) same (found_number p ls l rises e) in
          ap (serves_in r) (placed_here n x l ls (number ∙ same) own) ∙ serves_as r x l role more (sym (ap (serves_in r) own) ∙ f)

  left_fit : (stay : PathLink → Bool) (ls : List PathLink) → Rises 0 ls → Fit ls → Fit (filter stay ls)
  left_fit stay ls rises f = by (find (has_number n) (filter stay ls)) refl
    where
      by : (o : Option PathLink) → find (has_number n) (filter stay ls) ≡ o → serves_in r o ≡ true
      by None e = refl
      by (Some k) e = ap (serves_in r) (sym (found_before stay n ls k rises e)) ∙ f

  -- ---- links

  linked : (address : List ℕ) (s : LinksState) → (free_number s.links == n) ≡ false → Fit s.links → Fit (linked_to address s).links
  linked address s ne f = by (is_some (link_to s.sending address))
    where
      by : (b : Bool) → Fit (cond b s (with_link_to address s)).links
      by true = f
      by false = ap (serves_in r) (inserted_other n (free_number s.links) (free_number s.links) false s.links ne) ∙ f

  received : (s : LinksState) → (free_number s.links == n) ≡ false → Fit s.links → Fit (with_receiver s).links
  received s ne f = ap (serves_in r) (inserted_other n (free_number s.links) (free_number s.links) true s.links ne) ∙ f

  attaches : (a : AttachHeard) (s : LinksState) → Tied s → Fit s.links → Fit (attached a s).links
  attaches a s t f = by (is_some (attach_fault a.name a.role a.peer s)) (find (is_asked_as a.name a.role) s.links) refl
    where
      down : (g : Stage) → is_stage_asked g ≡ true → is_up g ≡ true → ⊥
      down (stage.Asked h) e u = cc
      down g e u = absurd cc

      by : (b : Bool) (o : Option PathLink) → find (is_asked_as a.name a.role) s.links ≡ o → Fit (attached_as (cond b None o) a.peer a.there s).links
      by true o e = f
      by false None e = f
      by false (Some l) e =
          let asked : is_stage_asked l.stage ≡ true = and_left _ _ (and_left _ _ (found_passes (is_asked_as a.name a.role) s.links l e)) in
          put_fit (is_asked_as a.name a.role) s.links l (answered a.there l) t.rising e refl refl (λ u. absurd (down l.stage asked u)) f

  flowed : (peer : ℕ) (count : Option ℕ) (credit : ℕ) (drain echo : Bool) (s : LinksState) → Tied s → Fit s.links → Fit (link_flowed peer count credit drain echo s).links
  flowed peer count credit drain echo s t f = by (named_by s.handles peer)
    where
      at : (h : ℕ) (o : Option PathLink) → find (is_at h) s.links ≡ o → Fit (flowed_on o count credit drain echo s).links
      at h None e = f
      at h (Some l) e = put_fit (is_at h) s.links l (told_by drain echo l) t.rising e refl refl (λ u. u) f

      by : (o : Option ℕ) → Fit (flowed_on (at_handle o s.links) count credit drain echo s).links
      by None = f
      by (Some h) = at h (find (is_at h) s.links) refl

  detaches : (peer : ℕ) (s : LinksState) → Tied s → Fit s.links → Fit (link_detached peer s).links
  detaches peer s t f = by (named_by s.handles peer)
    where
      at : (h : ℕ) (o : Option PathLink) → find (is_at h) s.links ≡ o → Fit (detached_on o s).links
      at h None e = f
      at h (Some l) e = either (is_given l)
        where
          either : (b : Bool) → Fit (cond b (dropped l.link s.links) (put (left_by s.sending l) s.links))
          either true = left_fit (λ k. not (has_number l.link k)) s.links t.rising f
          either false = put_fit (is_at h) s.links l (left_by s.sending l) t.rising e refl refl (λ u. refl) f

      by : (o : Option ℕ) → Fit (detached_on (at_handle o s.links) s).links
      by None = f
      by (Some h) = at h (find (is_at h) s.links) refl

  fails : (peer : ℕ) (fault : TransferFault) (s : LinksState) → Tied s → Fit s.links → Fit (link_failed peer fault s).links
  fails peer fault s t f = by (named_by s.handles peer)
    where
      at : (h : ℕ) (o : Option PathLink) → find (is_at h) s.links ≡ o → Fit (failed_on o fault s).links
      at h None e = f
      at h (Some l) e = either (is_stage_whole l.stage && l.receives)
        where
          either : (b : Bool) → Fit (cond b (record s { links = put (failed_by fault l) s.links }) s).links
          either true = put_fit (is_at h) s.links l (failed_by fault l) t.rising e refl refl (λ u. refl) f
          either false = f

      by : (o : Option ℕ) → Fit (failed_on (at_handle o s.links) fault s).links
      by None = f
      by (Some h) = at h (find (is_at h) s.links) refl

  asks : (name : ℕ) (s : LinksState) → Tied s → Fit s.links → Fit (link_asked name s).links
  asks name s t f = by (find is_wanted s.links) refl (free_of s.handles)
    where
      down : (g : Stage) → is_stage_wanted g ≡ true → is_up g ≡ true → ⊥
      down stage.Wanted e u = cc
      down g e u = absurd cc

      by : (o : Option PathLink) → find is_wanted s.links ≡ o → (q : Option ℕ) → Fit (asked_on o q name s).links
      by None e q = f
      by (Some l) e None = f
      by (Some l) e (Some h) = put_fit is_wanted s.links l (asked_as h name l) t.rising e refl refl (λ u. absurd (down l.stage (found_passes is_wanted s.links l e) u)) f

  told : (list : List Publish) (s : LinksState) → Tied s → Fit s.links → Fit (told_on (flow_of list s) s).links
  told list s t f = by (flow_of list s) refl
    where
      by : (o : Option PathLink) → find (owes_flow list s.sending) s.links ≡ o → Fit (told_on o s).links
      by None e = f
      by (Some l) e = put_fit (owes_flow list s.sending) s.links l (told_once l) t.rising e refl refl (λ u. u) f

  -- the detach of another
  parts : (s : LinksState) (l : PathLink) → Tied s → IsThere s l → (is_left l ≡ false → (l.link == n) ≡ false) → Fit s.links → Fit (parted (Some l) s).links
  parts s l t there ne f = by (is_left l) refl
    where
      by : (b : Bool) → is_left l ≡ b → Fit (cond b (gone_on (Some l) s) (given_on (Some l) s)).links
      by true e = left_fit _ s.links t.rising f
      by false e = ap (serves_in r) (placed_other n (given_by l) s.links (ne e)) ∙ f

  got : (o : Option PathLink) (s : LinksState) → (o ≡ None → (free_number s.links == n) ≡ false) → Fit s.links → Fit (got_links o s).links
  got None s ne f = received s (ne refl) f
  got (Some l) s ne f = f

  -- ---- events

  -- it asks for a link
  abbrev pub IsApart : PathEvent → PathState → Type 0
  IsApart (event.Published address payload back) s = (free_number s.links.links == n) ≡ false
  IsApart (event.Consumed address tag no_ack no_wait) s = (free_number s.links.links == n) ≡ false
  IsApart (event.Declared queue no_wait) s = (free_number s.links.links == n) ≡ false
  IsApart (event.GetAsked queue no_ack) s = get_link (queue_or s.queue queue) s ≡ None → (free_number s.links.links == n) ≡ false
  IsApart event.DetachSent s = IfSome (detaching_of s) (λ l. is_left l ≡ false → (l.link == n) ≡ false)
  IsApart x s = Unit {0}

  flow_came : (peer : ℕ) (count : Option ℕ) (credit : ℕ) (drain echo : Bool) (s : PathState) → Tied s.links → Fit s.links.links
      → Fit (after_event (event.FlowCame peer count credit drain echo) s).links.links
  flow_came peer count credit drain echo s t f =
      subst (λ (z : LinksState). Fit z.links) (sym (flowed_same (receiver_in (named peer s.links)) peer count credit drain echo s)) (by (receiver_in (named peer s.links)))
    where
      by : (o : Option PathLink) → Fit (flowed_if o peer count credit drain echo s.links).links
      by None = flowed peer count credit drain echo s.links t f
      by (Some l) = f

  flow_went : (s : PathState) → Tied s.links → Fit s.links.links → Fit (after_event event.LinkFlowSent s).links.links
  flow_went s t f = subst (λ (z : LinksState). Fit z.links) (sym (flow_sent_same s)) (by (is_grant_next s))
    where
      by : (b : Bool) → Fit (cond b s.links (told_on (flow_of s.publishes.list s.links) s.links)).links
      by true = f
      by false = told s.publishes.list s.links t f

  detach_went : (s : PathState) → Tied s.links → IsApart event.DetachSent s → Fit s.links.links → Fit (after_event event.DetachSent s).links.links
  detach_went s t ne f =
      subst (λ (z : LinksState). Fit z.links) (sym (dropped_same (detaching_of s) (record s { links = parted (detaching_of s) s.links })))
      (by (detaching_of s) (detaching_there s.publishes.list s.deliveries s.oks s.links t.rising) ne)
    where
      by : (o : Option PathLink) → IfSome o (IsThere s.links) → IfSome o (λ l. is_left l ≡ false → (l.link == n) ≡ false) → Fit (parted o s.links).links
      by None there ne = f
      by (Some l) there ne = parts s.links l t there ne f

  pub fit_after : (x : PathEvent) (s : PathState) → Tied s.links → IsApart x s → Fit s.links.links → Fit (after_event x s).links.links
  fit_after (event.Published address payload back) s t ne f = linked address s.links ne f
  fit_after (event.Consumed address tag no_ack no_wait) s t ne f = received s.links ne f
  fit_after (event.Declared queue no_wait) s t ne f = received s.links ne f
  fit_after (event.GetAsked queue no_ack) s t ne f =
      subst (λ (z : LinksState). Fit z.links) (sym (got_same (get_link (queue_or s.queue queue) s) (queue_or s.queue queue) no_ack s)) (got (get_link (queue_or s.queue queue) s) s.links ne f)
  fit_after (event.AttachCame a) s t ne f =
      subst (λ (z : LinksState). Fit z.links) (sym (attach_same (asked_by a s.links) a (record s { links = attached a s.links }))) (attaches a s.links t f)
  fit_after (event.FlowCame peer count credit drain echo) s t ne f = flow_came peer count credit drain echo s t f
  fit_after (event.DetachCame peer not_found) s t ne f = detaches peer s.links t f
  fit_after (event.TransferCame peer part payload image again) s t ne f =
      subst (λ (z : LinksState). Fit z.links) (sym (transfer_same (taking peer s) part payload image again s)) f
  fit_after (event.LinkFailed peer fault) s t ne f = fails peer fault s.links t f
  fit_after (event.AttachSent name) s t ne f = asks name s.links t f
  fit_after event.LinkFlowSent s t ne f = flow_went s t f
  fit_after event.DisposeSent s t ne f = subst (λ (z : LinksState). Fit z.links) (sym (disposed_same (next_settle_of s.deliveries.list) s)) f
  fit_after event.DetachSent s t ne f = detach_went s t ne f
  fit_after event.LifeClosed s t ne f = left_fit (λ l. not (is_wanted_receiver l)) s.links.links t.rising f
  fit_after event.SessionLost s t ne f =
      left_fit (λ l. not (is_wanted l)) (without_receivers s.links).links (rises_filter _ 0 s.links.links t.rising)
      (left_fit (λ l. not (is_wanted_receiver l)) s.links.links t.rising f)
  fit_after event.SessionEnded s t ne f = refl
  fit_after event.UpLost s t ne f = refl
  fit_after x s t ne f = f

-- the attach of one that is asked for, with a source or a target
answered_fit : (r : Bool) (n : ℕ) (a : AttachHeard) (s : LinksState) (l : PathLink) → Tied s → asked_by a s ≡ Some l → l.link ≡ n → (not r || l.receives) ≡ true
    → a.there ≡ true → is_fit r n (attached a s).links ≡ true
answered_fit r n a s l t e number role there =
    subst (λ (o : Option PathLink). is_fit r n (attached_as o a.peer a.there s).links ≡ true) (sym e)
    (ap (serves_in r) (placed_here n (answered a.there l) l s.links number own) ∙ up a.there there)
  where
    by : (b : Bool) → (if b then None else find (is_asked_as a.name a.role) s.links) ≡ Some l → find (is_asked_as a.name a.role) s.links ≡ Some l
    by true f = absurd cc
    by false f = f

    own : find (has_number n) s.links ≡ Some l
    own = subst (λ (m : ℕ). find (has_number m) s.links ≡ Some l) number (found_number (is_asked_as a.name a.role) s.links l t.rising (by (is_some (attach_fault a.name a.role a.peer s)) e))

    up : (b : Bool) → b ≡ true → serves r (answered b l) ≡ true
    up true i = role
    up false i = absurd cc

came_links : (a : AttachHeard) (s : PathState) → (after_event (event.AttachCame a) s).links ≡ attached a s.links
came_links a s = attach_same (asked_by a s.links) a (record s { links = attached a s.links })

-- ---- the links of the deliveries

-- the container attached it
abbrev pub is_met : Option ReceivingLink → Bool
is_met None = false
is_met (Some l) = l.attached

module _ (n : ℕ) where
  abbrev Met : DeliveryState → Type 0
  Met d = is_met (link_of d.links n) ≡ true

  abbrev is_meeting : DeliveryEvent → Bool
  is_meeting (on.LinkAttached link count) = link == n
  is_meeting y = false

  mapped : (h : ReceivingLink → ReceivingLink) → ((l : ReceivingLink) → (h l).attached ≡ l.attached) → (o : Option ReceivingLink) → is_met (option_map h o) ≡ true → is_met o ≡ true
  mapped h same None f = f
  mapped h same (Some l) f = sym (same l) ∙ f

  if_so : (b : Bool) (h : ReceivingLink → ReceivingLink) → ((l : ReceivingLink) → (h l).attached ≡ l.attached) → (o : Option ReceivingLink)
      → is_met (if b then option_map h o else o) ≡ true → is_met o ≡ true
  if_so true h same o f = mapped h same o f
  if_so false h same o f = f

  met_before : (y : DeliveryEvent) (d : DeliveryState) → is_meeting y ≡ false → Met (on.after_event y d) → Met d
  met_before y d e f = before y (link_of d.links n) refl e (counted (recounts y) (link_after y d n (link_of d.links n)) (ap is_met (sym (found_after y d n)) ∙ f))
    where
      counted : (b : Bool) (o : Option ReceivingLink) → is_met (counted_anew b (on.after_event y d) o) ≡ true → is_met o ≡ true
      counted true None g = g
      counted true (Some l) g = g
      counted false o g = g

      added : (b : Bool) (x : ReceivingLink) → x.attached ≡ false → is_met (if b then Some x else None) ≡ true → is_met None ≡ true
      added true x off g = absurd (no_clash x.attached g off)
      added false x off g = g

      gone : (b : Bool) (o : Option ReceivingLink) → is_met (if b then None else o) ≡ true → is_met o ≡ true
      gone true o g = absurd cc
      gone false o g = g

      before : (y : DeliveryEvent) (o : Option ReceivingLink) → link_of d.links n ≡ o → is_meeting y ≡ false → is_met (link_after y d n o) ≡ true → is_met o ≡ true
      before (on.LinkAdded link kind) None i e g = added (link == n) _ refl g
      before (on.LinkAdded link kind) (Some l) i e g = g
      before (on.LinkAttached link count) None i e g = g
      before (on.LinkAttached link count) (Some l) i e g =
          let number : l.link ≡ n = number_is d.links n l i in
          let off : is_number link l ≡ false = ne_to l.link link (λ same. no_clash (link == n) (eq_to link n (sym same ∙ number)) e) in
          sym (ap (λ (b : Bool). if b then true else l.attached) off) ∙ g
      before (on.LinkFlowed link count) o i e g = mapped _ (λ l. refl) o g
      before (on.LinkEchoed link) o i e g = mapped _ (λ l. refl) o g
      before (on.GetCame link no_ack) o i e g = mapped _ (λ l. refl) o g
      before (on.TransferCame link part payload) o i e g = if_so (n == link) _ (λ l. refl) o g
      before (on.Arrived a content again) o i e g = mapped _ (λ l. refl) o g
      before (on.LinkDropped link) o i e g = gone (n == link) o g
      before (on.Cancelled link) o i e g = mapped _ (λ l. refl) o g
      before on.Closed o i e g = mapped _ (λ l. refl) o g
      before (on.GrantSent grant) o i e g = mapped _ (λ l. refl) o g
      before (on.Emptied link) o i e g = mapped _ (λ l. refl) o g
      before y o i e g = g

  all_before : (life : ℕ) (ys ds : List DeliveryEvent) → AllByRecursion (λ y. is_meeting y ≡ false) ys → Met (deliveries_after life (ys ++ ds)) → Met (deliveries_after life ds)
  all_before life [] ds a f = f
  all_before life (y ∷ ys) ds a f = all_before life ys ds a.1 (met_before y (deliveries_after life (ys ++ ds)) a.0 f)

  -- one that is no more
  not_dropped : (d : DeliveryState) (link : ℕ) → Met (on.after_event (on.LinkDropped link) d) → (link == n) ≡ false
  not_dropped d link f = by (link == n) refl
    where
      none : (b : Bool) → b ≡ true → is_met (counted_anew true (on.after_event (on.LinkDropped link) d) (if b then None else link_of d.links n)) ≡ false
      none true e = refl
      none false e = absurd cc

      by : (b : Bool) → (link == n) ≡ b → b ≡ false
      by true e =
          absurd (no_clash (is_met (link_of (on.after_event (on.LinkDropped link) d).links n)) f
          (ap is_met (found_after (on.LinkDropped link) d n) ∙ none (n == link) (eq_to n link (sym (eq_of link n e)))))
      by false e = refl

  plain_off : (y : DeliveryEvent) → is_plain y ≡ true → is_meeting y ≡ false
  plain_off (on.LinkAttached link count) e = absurd cc
  plain_off y e = refl

  -- an attach of the container
  abbrev is_coming : PathEvent → Bool
  is_coming (event.AttachCame a) = true
  is_coming x = false

  of_each : (x : PathEvent) (s : PathState) → is_coming x ≡ false → OfEach (λ y. is_meeting y ≡ false) s x
  of_each (event.AttachCame a) s e = absurd cc
  of_each (event.CancelCame tag no_wait) s e = λ link. refl
  of_each event.DetachSent s e = λ link. refl
  of_each (event.DeliverSent due) s e = refl
  of_each (event.Consumed address tag no_ack no_wait) s e = refl
  of_each (event.Declared queue no_wait) s e = refl
  of_each (event.GetAsked queue no_ack) s e = refl
  of_each (event.TransferCame peer part payload image again) s e = λ link d. refl
  of_each (event.ContentWhole tag) s e = refl
  of_each event.LifeClosed s e = refl
  of_each event.SessionLost s e = refl
  of_each event.SessionEnded s e = refl
  of_each event.UpLost s e = (refl, refl)
  of_each x s e = tt

module _ (arrives : DeliveriesAre) (calls : CallsAre) (life n : ℕ) where
  abbrev at : List PathEvent → PathState
  at es = after_events life es

  abbrev Owns : List PathEvent → Type 0
  Owns es = Met n (at es).deliveries → is_fit true n (at es).links.links ≡ true

  none_met : (o : Option ReceivingLink) → is_met o ≡ true → o ≡ None → ⊥
  none_met None f e = cc
  none_met (Some l) f e = cc

  -- no such number is free
  not_free : (es : List PathEvent) → link_of (deliveries_after life (deliveries_of life es)).links (free_number (at es).links.links) ≡ None → Met n (at es).deliveries
      → (free_number (at es).links.links == n) ≡ false
  not_free es none met = by (free_number (at es).links.links == n) refl
    where
      by : (b : Bool) → (free_number (at es).links.links == n) ≡ b → b ≡ false
      by true e =
          absurd (none_met (link_of (at es).deliveries.links n) met
          (ap (λ (d : DeliveryState). link_of d.links n) (arrives life es)
          ∙ subst (λ (k : ℕ). link_of (deliveries_after life (deliveries_of life es)).links k ≡ None) (eq_of (free_number (at es).links.links) n e) none))
      by false e = refl

  asked_none : (queue : List ℕ) (no_ack : Bool) (es : List PathEvent) → AreHeard life (event.GetAsked queue no_ack ∷ es) → get_link (queue_or (at es).queue queue) (at es) ≡ None
      → link_of (deliveries_after life (deliveries_of life es)).links (free_number (at es).links.links) ≡ None
  asked_none queue no_ack es heard e = (subst (λ (o : Option PathLink). AreCalls life (gets o no_ack (at es) ++ deliveries_of life es)) e (calls life (event.GetAsked queue no_ack ∷ es) heard)).1.0

  -- the detach is of another link
  other : (es : List PathEvent) (o : Option PathLink) → IfSome o (IsThere (at es).links) → Owns es → Met n (deliveries_after life (drops o ++ deliveries_of life es))
      → IfSome o (λ l. is_left l ≡ false → (l.link == n) ≡ false)
  other es None there old met = tt
  other es (Some l) there old met = λ left. role l.receives refl met
    where
      role : (b : Bool) → l.receives ≡ b → Met n (deliveries_after life ((if b then on.LinkDropped l.link ∷ [] else []) ++ deliveries_of life es)) → (l.link == n) ≡ false
      role true e f = not_dropped n (deliveries_after life (deliveries_of life es)) l.link f
      role false e f = by (l.link == n) refl
        where
          by : (b : Bool) → (l.link == n) ≡ b → b ≡ false
          by true g =
              let own : find (has_number n) (at es).links.links ≡ Some l = subst (λ (m : ℕ). find (has_number m) (at es).links.links ≡ Some l) (eq_of l.link n g) there.0 in
              let met_now : Met n (at es).deliveries = ap (λ (d : DeliveryState). is_met (link_of d.links n)) (arrives life es) ∙ f in
              absurd (no_clash l.receives (and_right (is_up l.stage) _ (sym (ap (serves_in true) own) ∙ old met_now)) e)
          by false g = refl

  apart_from : (x : PathEvent) (es : List PathEvent) → AreHeard life (x ∷ es) → HasRoom (at es) x → Owns es → Met n (deliveries_after life (deliveries_of life (x ∷ es)))
      → Met n (at es).deliveries → IsApart true n x (at es)
  apart_from (event.Published address payload back) es heard room old f met = not_free es (ap (λ (d : DeliveryState). link_of d.links (free_number (at es).links.links)) (sym (arrives life es)) ∙ room) met
  apart_from (event.Consumed address tag no_ack no_wait) es heard room old f met = not_free es (calls life (event.Consumed address tag no_ack no_wait ∷ es) heard).0 met
  apart_from (event.Declared queue no_wait) es heard room old f met = not_free es (calls life (event.Declared queue no_wait ∷ es) heard).0 met
  apart_from (event.GetAsked queue no_ack) es heard room old f met = λ e. not_free es (asked_none queue no_ack es heard e) met
  apart_from event.DetachSent es heard room old f met =
      other es (detaching_of (at es)) (detaching_there (at es).publishes.list (at es).deliveries (at es).oks (at es).links (tied_after life es).rising) old f
  apart_from x es heard room old f met = tt

  rest : (x : PathEvent) (es : List PathEvent) → AreHeard life (x ∷ es) → HasRoom (at es) x → Owns es → Met n (deliveries_after life (deliveries_of life (x ∷ es)))
      → Met n (deliveries_after life (deliveries_of life es)) → is_fit true n (at (x ∷ es)).links.links ≡ true
  rest x es heard room old f was =
      let met : Met n (at es).deliveries = ap (λ (d : DeliveryState). is_met (link_of d.links n)) (arrives life es) ∙ was in
      fit_after true n x (at es) (tied_after life es) (apart_from x es heard room old f met) (old met)

  came : (a : AttachHeard) (es : List PathEvent) → AreHeard life (event.AttachCame a ∷ es) → Owns es → Met n (deliveries_after life (deliveries_of life (event.AttachCame a ∷ es)))
      → is_fit true n (at (event.AttachCame a ∷ es)).links.links ≡ true
  came a es heard old f = by (asked_by a (at es).links) refl f
    where
      ds : List DeliveryEvent
      ds = deliveries_of life es

      on_before : Met n (deliveries_after life ds) → is_fit true n (at (event.AttachCame a ∷ es)).links.links ≡ true
      on_before was = rest (event.AttachCame a) es heard tt old f was

      by : (o : Option PathLink) → asked_by a (at es).links ≡ o → Met n (deliveries_after life (begins o a ++ ds)) → is_fit true n (at (event.AttachCame a ∷ es)).links.links ≡ true
      by None e g = on_before g
      by (Some l) e g = role (l.link == n) refl l.receives refl a.there refl g
        where
          role : (b : Bool) → (l.link == n) ≡ b → (c : Bool) → l.receives ≡ c → (t : Bool) → a.there ≡ t
              → Met n (deliveries_after life ((if c && t then on.LinkAttached l.link a.count ∷ [] else []) ++ ds)) → is_fit true n (at (event.AttachCame a ∷ es)).links.links ≡ true
          role true i true r true there g =
              subst (λ (z : LinksState). is_fit true n z.links ≡ true) (sym (came_links a (at es)))
              (answered_fit true n a (at es).links l (tied_after life es) e (eq_of l.link n i) r there)
          role true i true r false there g = on_before g
          role false i true r true there g = on_before (met_before n (on.LinkAttached l.link a.count) (deliveries_after life ds) i g)
          role false i true r false there g = on_before g
          role b i false r t there g = on_before g

  pub owns : (es : List PathEvent) → AreHeard life es → AllHold HasRoom life es → Owns es
  owns [] heard room f = absurd cc
  owns (x ∷ es) heard room f = by (is_coming n x) refl (owns es heard.1 room.1) (ap (λ (d : DeliveryState). is_met (link_of d.links n)) (sym (arrives life (x ∷ es))) ∙ f)
    where
      by : (b : Bool) → is_coming n x ≡ b → Owns es → Met n (deliveries_after life (deliveries_of life (x ∷ es))) → is_fit true n (at (x ∷ es)).links.links ≡ true
      by true e old g = coming x e heard g
        where
          coming : (x : PathEvent) → is_coming n x ≡ true → AreHeard life (x ∷ es) → Met n (deliveries_after life (deliveries_of life (x ∷ es))) → is_fit true n (at (x ∷ es)).links.links ≡ true
          coming (event.AttachCame a) e heard g = came a es heard old g
          coming x e heard g = absurd cc
      by false e old g =
          rest x es heard room.0 old g
          (all_before n life (delivery_events (at es) x) (deliveries_of life es) (each_all (λ y. is_meeting n y ≡ false) (plain_off n) (at es) x (of_each n x (at es) e)) g)

-- the flow that is due is of a link that is up
pub grants_up : DeliveriesAre → CallsAre → (life : ℕ) (es : List PathEvent) → AreHeard life es → AllHold HasRoom life es → (l : PathLink)
    → granting (after_events life es) ≡ Some l → is_up l.stage ≡ true
grants_up arrives calls life es heard room l e = by (grant_in s) refl e
  where
    s : PathState
    s = after_events life es

    by : (o : Option NextGrant) → grant_in s ≡ o → granting_on o s.links ≡ Some l → is_up l.stage ≡ true
    by None due f = absurd cc
    by (Some g) due f =
        let d : DeliveryState = deliveries_after life (deliveries_of life es) in
        let from : next_grant_of d.closed d.links ≡ Some g = ap (λ (z : DeliveryState). next_grant_of z.closed z.links) (sym (arrives life es)) ∙ due in
        let x = source d.closed d.links g (apart life (deliveries_of life es) (calls life es heard)) from in
        let met : Met g.link s.deliveries = ap (λ (z : DeliveryState). is_met (link_of z.links g.link)) (arrives life es) ∙ ap is_met x.is ∙ flows_attached d.closed x.link g x.offers in
        and_left _ _ (sym (ap (serves_in true) f) ∙ owns arrives calls life g.link es heard room met)

-- ---- sending links

abbrev pub is_sent : Option SendingLink → Bool
is_sent None = false
is_sent (Some x) = x.attached

module _ (n : ℕ) where
  abbrev Sent : List SendingLink → Type 0
  Sent xs = is_sent (sender_of xs n) ≡ true

  map_sent : (f : SendingLink → SendingLink) → ((x : SendingLink) → (f x).link ≡ x.link) → ((x : SendingLink) → x.link ≡ n → (f x).attached ≡ x.attached) → (xs : List SendingLink) → Sent (map f xs)
      → Sent xs
  map_sent f number same xs e = by (sender_of xs n) refl (ap is_sent (sym (mapped_here n f number xs)) ∙ e)
    where
      by : (o : Option SendingLink) → sender_of xs n ≡ o → is_sent (option_map f o) ≡ true → is_sent o ≡ true
      by None i g = g
      by (Some x) i g = sym (same x (found_sender n xs x i)) ∙ g

  filter_sent : (m : ℕ) (xs : List SendingLink) → Sent (without m xs) → ((m == n) ≡ false) × Sent xs
  filter_sent m xs e = by (m == n) refl
    where
      by : (b : Bool) → (m == n) ≡ b → (b ≡ false) × Sent xs
      by true i = absurd (no_clash _ e (subst (λ (k : ℕ). is_sent (sender_of (without k xs) n) ≡ false) (sym (eq_of m n i)) (ap is_sent (without_here n xs))))
      by false i = (refl, ap is_sent (sym (without_other n m xs i)) ∙ e)

  unwanted_sent : (s : LinksState) → Tied s → Sent (without_wanted s).sending → Sent s.sending
  unwanted_sent s t e = elim (are_left n s t.rising) [
    | inl (f, g) ↦ absurd (no_clash _ e (ap is_sent f))
    | inr (f, g) ↦ ap is_sent (sym f) ∙ e
  ]

  pushed_sent : (xs : List SendingLink) (x : SendingLink) → x.attached ≡ false → Sent (xs ++ x ∷ []) → Sent xs
  pushed_sent xs x off e = by (sender_of xs n) (x.link == n) (ap is_sent (sym (pushed n xs x (x.link == n) refl)) ∙ e)
    where
      by : (o : Option SendingLink) (b : Bool) → is_sent (option_or o (cond b (Some x) None)) ≡ true → is_sent o ≡ true
      by (Some y) b f = f
      by None true f = absurd (no_clash x.attached f off)
      by None false f = absurd cc

  linked_sent : (address : List ℕ) (s : LinksState) → Sent (linked_to address s).sending → Sent s.sending
  linked_sent address s = by (is_some (link_to s.sending address))
    where
      by : (b : Bool) → Sent (cond b s (with_link_to address s)).sending → Sent s.sending
      by true e = e
      by false e = pushed_sent s.sending (asked_link (free_number s.links) address) refl e

  -- of another link
  answered_sent : (l : PathLink) (peer : ℕ) (there : Bool) (s : LinksState) → (l.link == n) ≡ false → Sent (attached_as (Some l) peer there s).sending → Sent s.sending
  answered_sent l peer false s ne e = e
  answered_sent l peer true s ne e =
      map_sent (now_attached l.link) (λ x. refl)
      (λ x i. ap (λ (b : Bool). cond b true x.attached) (ne_to x.link l.link (λ same. no_clash (l.link == n) (eq_to l.link n (sym same ∙ i)) ne))) s.sending e

  flowed_sent : (o : Option PathLink) (count : Option ℕ) (credit : ℕ) (drain echo : Bool) (s : LinksState) → Sent (flowed_on o count credit drain echo s).sending → Sent s.sending
  flowed_sent None count credit drain echo s e = e
  flowed_sent (Some l) count credit drain echo s e = map_sent (flowed_link l.link count credit) (λ x. refl) (λ x i. refl) s.sending e

  told_sent : (o : Option PathLink) (s : LinksState) → Sent (told_on o s).sending → Sent s.sending
  told_sent None s e = e
  told_sent (Some l) s e = by (l.echoes == 0) e
    where
      by : (b : Bool) → Sent (drained_if b l.link s.sending) → Sent s.sending
      by true f = map_sent (drained l.link) (λ x. refl) (λ x i. refl) s.sending f
      by false f = f

  detached_sent : (o : Option PathLink) (s : LinksState) → Sent (detached_on o s).sending → Sent s.sending
  detached_sent None s e = e
  detached_sent (Some l) s e = (filter_sent l.link s.sending e).1

  failed_sent : (o : Option PathLink) (fault : TransferFault) (s : LinksState) → Sent (failed_on o fault s).sending → Sent s.sending
  failed_sent None fault s e = e
  failed_sent (Some l) fault s e = by (is_stage_whole l.stage && l.receives) e
    where
      by : (b : Bool) → Sent (cond b (record s { links = put (failed_by fault l) s.links }) s).sending → Sent s.sending
      by true f = f
      by false f = f

  asked_sent : (o : Option PathLink) (q : Option ℕ) (name : ℕ) (s : LinksState) → Sent (asked_on o q name s).sending → Sent s.sending
  asked_sent None q name s e = e
  asked_sent (Some l) None name s e = e
  asked_sent (Some l) (Some h) name s e = e

  parted_sent : (o : Option PathLink) (s : LinksState) → Sent (parted o s).sending → IfSome o (λ l. is_left l ≡ false → (l.link == n) ≡ false) × Sent s.sending
  parted_sent None s e = (tt, e)
  parted_sent (Some l) s e = by (is_left l) refl e
    where
      by : (b : Bool) → is_left l ≡ b → Sent (cond b (gone_on (Some l) s) (given_on (Some l) s)).sending → (is_left l ≡ false → (l.link == n) ≡ false) × Sent s.sending
      by true i f = ((λ off. absurd (no_clash (is_left l) i off)), f)
      by false i f = let r = filter_sent l.link s.sending f in ((λ off. r.0), r.1)

  framed_sent : (b : Bool) (link : ℕ) (xs : List SendingLink) → Sent (if b then map (begun_on link) xs else xs) → Sent xs
  framed_sent true link xs e = map_sent (begun_on link) (λ x. refl) (λ x i. refl) xs e
  framed_sent false link xs e = e

  got_sent : (o : Option PathLink) (s : LinksState) → Sent (got_links o s).sending → Sent s.sending
  got_sent None s e = e
  got_sent (Some l) s e = e

  flow_came_sent : (o : Option PathLink) (peer : ℕ) (count : Option ℕ) (credit : ℕ) (drain echo : Bool) (s : LinksState) → Sent (flowed_if o peer count credit drain echo s).sending → Sent s.sending
  flow_came_sent None peer count credit drain echo s e = flowed_sent (named peer s) count credit drain echo s e
  flow_came_sent (Some l) peer count credit drain echo s e = e

  flow_went_sent : (b : Bool) (o : Option PathLink) (s : LinksState) → Sent (cond b s (told_on o s)).sending → Sent s.sending
  flow_went_sent true o s e = e
  flow_went_sent false o s e = told_sent o s e

  none_sent : (o : Option SendingLink) → is_sent o ≡ true → o ≡ None → ⊥
  none_sent None f e = cc
  none_sent (Some x) f e = cc

  -- no such number is free
  sent_free : (s : LinksState) → Tied s → Sent s.sending → (free_number s.links == n) ≡ false
  sent_free s t sent = by (free_number s.links == n) refl
    where
      by : (b : Bool) → (free_number s.links == n) ≡ b → b ≡ false
      by true e =
          absurd (none_sent (sender_of s.sending n) sent
          (subst (λ (k : ℕ). sender_of s.sending k ≡ None) (eq_of (free_number s.links) n e) (free_none s.sending s.links s.handles t)))
      by false e = refl

  -- it was so before
  abbrev Was : PathEvent → PathState → Type 0
  Was x s = IsApart false n x s × Sent s.links.sending

  free_was : (x : PathEvent) (s : PathState) → Tied s.links → ((free_number s.links.links == n) ≡ false → IsApart false n x s) → Sent s.links.sending → Was x s
  free_was x s t is e = (is (sent_free s.links t e), e)

  sent_before : (x : PathEvent) (s : PathState) → Tied s.links → is_coming n x ≡ false → Sent (after_event x s).links.sending → Was x s
  sent_before (event.AttachCame a) s t c e = absurd cc
  sent_before (event.Published address payload back) s t c e = free_was (event.Published address payload back) s t (λ ne. ne) (linked_sent address s.links e)
  sent_before (event.Consumed address tag no_ack no_wait) s t c e = free_was (event.Consumed address tag no_ack no_wait) s t (λ ne. ne) e
  sent_before (event.Declared queue no_wait) s t c e = free_was (event.Declared queue no_wait) s t (λ ne. ne) e
  sent_before (event.GetAsked queue no_ack) s t c e =
      free_was (event.GetAsked queue no_ack) s t (λ ne none. ne)
      (got_sent (get_link (queue_or s.queue queue) s) s.links (subst (λ (z : LinksState). Sent z.sending) (got_same (get_link (queue_or s.queue queue) s) (queue_or s.queue queue) no_ack s) e))
  sent_before (event.FlowCame peer count credit drain echo) s t c e = (
    tt,
    flow_came_sent (receiver_in (named peer s.links)) peer count credit drain echo s.links
        (subst (λ (z : LinksState). Sent z.sending) (flowed_same (receiver_in (named peer s.links)) peer count credit drain echo s) e),
  )
  sent_before (event.DetachCame peer not_found) s t c e = (tt, detached_sent (named peer s.links) s.links e)
  sent_before (event.TransferCame peer part payload image again) s t c e =
      (tt, subst (λ (z : LinksState). Sent z.sending) (transfer_same (taking peer s) part payload image again s) e)
  sent_before (event.LinkFailed peer fault) s t c e = (tt, failed_sent (named peer s.links) fault s.links e)
  sent_before (event.AttachSent name) s t c e = (tt, asked_sent (find is_wanted s.links.links) (free_of s.links.handles) name s.links e)
  sent_before event.LinkFlowSent s t c e =
      (tt, flow_went_sent (is_grant_next s) (flow_of s.publishes.list s.links) s.links (subst (λ (z : LinksState). Sent z.sending) (flow_sent_same s) e))
  sent_before (event.TransferSent frame count) s t c e = (tt, framed_sent frame.first frame.link s.links.sending e)
  sent_before event.DisposeSent s t c e = (tt, subst (λ (z : LinksState). Sent z.sending) (disposed_same (next_settle_of s.deliveries.list) s) e)
  sent_before event.DetachSent s t c e =
      parted_sent (detaching_of s) s.links
      (subst (λ (z : LinksState). Sent z.sending) (dropped_same (detaching_of s) (record s { links = parted (detaching_of s) s.links })) e)
  sent_before event.SessionLost s t c e = (tt, unwanted_sent (without_receivers s.links) (tied_without s.links t) e)
  sent_before event.SessionEnded s t c e = absurd cc
  sent_before event.UpLost s t c e = absurd cc
  sent_before x s t c e = (tt, e)

  came_sent : (a : AttachHeard) (s : PathState) → Tied s.links → (Sent s.links.sending → is_fit false n s.links.links ≡ true) → Sent (after_event (event.AttachCame a) s).links.sending
      → is_fit false n (after_event (event.AttachCame a) s).links.links ≡ true
  came_sent a s t old e = by (asked_by a s.links) refl (subst (λ (z : LinksState). Sent z.sending) (came_links a s) e)
    where
      on_before : Sent s.links.sending → is_fit false n (after_event (event.AttachCame a) s).links.links ≡ true
      on_before was = fit_after false n (event.AttachCame a) s t tt (old was)

      by : (o : Option PathLink) → asked_by a s.links ≡ o → Sent (attached_as o a.peer a.there s.links).sending → is_fit false n (after_event (event.AttachCame a) s).links.links ≡ true
      by None i f = on_before f
      by (Some l) i f = one (l.link == n) refl a.there refl f
        where
          one : (b : Bool) → (l.link == n) ≡ b → (t : Bool) → a.there ≡ t → Sent (attached_as (Some l) a.peer t s.links).sending
              → is_fit false n (after_event (event.AttachCame a) s).links.links ≡ true
          one true g true there f =
              subst (λ (z : LinksState). is_fit false n z.links ≡ true) (sym (came_links a s)) (answered_fit false n a s.links l t i (eq_of l.link n g) refl there)
          one true g false there f = on_before f
          one false g there is f = on_before (answered_sent l a.peer there s.links g f)

  pub sends_up : (life : ℕ) (es : List PathEvent) → Sent (after_events life es).links.sending → is_fit false n (after_events life es).links.links ≡ true
  sends_up life [] e = absurd cc
  sends_up life (x ∷ es) e = by (is_coming n x) refl (sends_up life es)
    where
      s : PathState
      s = after_events life es

      coming : (x : PathEvent) → is_coming n x ≡ true → (Sent s.links.sending → is_fit false n s.links.links ≡ true) → Sent (after_event x s).links.sending
          → is_fit false n (after_event x s).links.links ≡ true
      coming (event.AttachCame a) c old f = came_sent a s (tied_after life es) old f
      coming x c old f = absurd cc

      by : (b : Bool) → is_coming n x ≡ b → (Sent s.links.sending → is_fit false n s.links.links ≡ true) → is_fit false n (after_event x s).links.links ≡ true
      by true c old = coming x c old e
      by false c old = let was = sent_before x s (tied_after life es) c e in fit_after false n x s (tied_after life es) was.0 (old was.1)
