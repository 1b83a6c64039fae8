-- On a receiving link no flow is owed but those that its deliveries ask for.
use Rattle.std.proofs.Common.{◌≡◌, ℕ, ◌+◌, ◌-◌, List, [], ◌∷◌, Bool, true, false, Option, Some, None, refl, sym, subst, arith, cond}
use Rattle.std.specs.Prelude.{◌==◌, ◌&&◌, find, is_some, IfSome}
use Rattle.std.specs.List.{AllByRecursion}
use Rattle.open_items.proofs.Filtered.{all_filter, all_find, all_map}
use Rattle.publish_path.specs.Links.{link_to}
use Rattle.publish_path.specs.declared.publish.Publish.{Publish}
use Rattle.consume_path.specs.Offers.{next_settle_of}
use Rattle.consume_path.specs.declared.receiving.TransferFault.{TransferFault}
use Rattle.session_path.specs.declared.path.AttachHeard.{AttachHeard}
use Rattle.session_path.specs.declared.path.PathLink.{PathLink}
use Rattle.session_path.specs.Links.{AreTied, LinksState, answered, asked_as, asked_by, asked_on}
use Rattle.session_path.specs.Links.{at_handle, attach_fault, attached, attached_as, detached_on}
use Rattle.session_path.specs.Links.{failed_by, failed_on, flowed_on, free_number, given_by}
use Rattle.session_path.specs.Links.{given_on, gone_on, has_number, is_asked_as, is_at, is_given}
use Rattle.session_path.specs.Links.{is_left, is_stage_whole, is_wanted, left_by, link_asked}
use Rattle.session_path.specs.Links.{link_detached, link_failed, link_flowed, linked_to, named}
use Rattle.session_path.specs.Links.{parted, put, put_for, told_by, told_on, told_once, wanted_link, with_link_to, with_receiver}
use Rattle.session_path.specs.Path.{IsThere, PathState, detaching_of, flow_of, get_link}
use Rattle.session_path.specs.Path.{is_grant_next, owes_flow, queue_or, receiver_in, taking}
use Rattle.session_path.specs.Events as event
use Rattle.session_path.specs.Events.{PathEvent, after_event, after_events}
use Rattle.session_path.proofs.Idle.{detaching_there}
use Rattle.session_path.proofs.SameLinks.{attach_same, disposed_same, dropped_same, flow_sent_same}
use Rattle.session_path.proofs.SameLinks.{flowed_if, flowed_same, got_links, got_same, transfer_same}
use Rattle.session_path.proofs.Ties.{dropped}
use Rattle.session_path.proofs.Wanted.{all_insert}

abbrev pub IsUnowed : PathLink → Type 0
IsUnowed l = l.receives ≡ true → l.echoes + l.drains ≡ 0

abbrev pub AreUnowed : LinksState → Type 0
AreUnowed s = AllByRecursion IsUnowed s.links

-- what session_path says of the links of a life
abbrev pub LinksAre : Type 0
LinksAre = (life : ℕ) (h : List PathEvent)
    → AreTied (after_events life h).links.sending (after_events life h).links.links (after_events life h).links.handles

put_unowed : (x : PathLink) (ls : List PathLink) → IsUnowed x → AllByRecursion IsUnowed ls → AllByRecursion IsUnowed (put x ls)
put_unowed x ls new old = all_map (put_for x) IsUnowed IsUnowed (λ k h. one k (k.link == x.link) h) ls old
  where
    one : (k : PathLink) (b : Bool) → IsUnowed k → IsUnowed (cond b x k)
    one k true h = new
    one k false h = h

-- what is found is unowed
found : (p : PathLink → Bool) (ls : List PathLink) (l : PathLink) → AllByRecursion IsUnowed ls → find p ls ≡ Some l → IsUnowed l
found p ls l a e = (all_find IsUnowed p ls l a e).0

at_unowed : (o : Option ℕ) (s : LinksState) (l : PathLink) → AreUnowed s → at_handle o s.links ≡ Some l → IsUnowed l
at_unowed None s l a e = absurd cc
at_unowed (Some h) s l a e = found (is_at h) s.links l a e

named_unowed : (peer : ℕ) (s : LinksState) (l : PathLink) → AreUnowed s → named peer s ≡ Some l → IsUnowed l
named_unowed peer s l a e = at_unowed _ s l a e

linked : (address : List ℕ) (s : LinksState) → AreUnowed s → AreUnowed (linked_to address s)
linked address s a = by (is_some (link_to s.sending address))
  where
    by : (b : Bool) → AreUnowed (cond b s (with_link_to address s))
    by true = a
    by false = all_insert IsUnowed s.links (free_number s.links) (wanted_link (free_number s.links) false) a (λ is. refl)

received : (s : LinksState) → AreUnowed s → AreUnowed (with_receiver s)
received s a = all_insert IsUnowed s.links (free_number s.links) (wanted_link (free_number s.links) true) a (λ is. refl)

attaches : (a : AttachHeard) (s : LinksState) → AreUnowed s → AreUnowed (attached a s)
attaches a s u = by (is_some (attach_fault a.name a.role a.peer s)) (find (is_asked_as a.name a.role) s.links) refl
  where
    by : (b : Bool) (o : Option PathLink) → find (is_asked_as a.name a.role) s.links ≡ o → AreUnowed (attached_as (cond b None o) a.peer a.there s)
    by true o e = u
    by false None e = u
    by false (Some l) e = put_unowed (answered a.there l) s.links (found (is_asked_as a.name a.role) s.links l u e) u

-- one comes on a sending link
flowed : (peer : ℕ) (count : Option ℕ) (credit : ℕ) (drain echo : Bool) (s : LinksState) → AreUnowed s → receiver_in (named peer s) ≡ None
    → AreUnowed (link_flowed peer count credit drain echo s)
flowed peer count credit drain echo s a e = by (named peer s) e
  where
    sends : (l : PathLink) (b : Bool) → cond b (Some l) None ≡ None → b ≡ true → (l.echoes + cond echo 1 0) + (l.drains + cond drain 1 0) ≡ 0
    sends l true f g = absurd cc
    sends l false f g = absurd cc

    by : (o : Option PathLink) → receiver_in o ≡ None → AreUnowed (flowed_on o count credit drain echo s)
    by None f = a
    by (Some l) f = put_unowed (told_by drain echo l) s.links (sends l l.receives f) a

detaches : (peer : ℕ) (s : LinksState) → AreUnowed s → AreUnowed (link_detached peer s)
detaches peer s a = by (named peer s) refl
  where
    by : (o : Option PathLink) → named peer s ≡ o → AreUnowed (detached_on o s)
    by None e = a
    by (Some l) e = either (is_given l)
      where
        either : (b : Bool) → AllByRecursion IsUnowed (cond b (dropped l.link s.links) (put (left_by s.sending l) s.links))
        either true = all_filter _ IsUnowed s.links a
        either false = put_unowed (left_by s.sending l) s.links (λ is. let none = named_unowed peer s l a e is in omega (arith, none)) a

fails : (peer : ℕ) (fault : TransferFault) (s : LinksState) → AreUnowed s → AreUnowed (link_failed peer fault s)
fails peer fault s a = by (named peer s) refl
  where
    by : (o : Option PathLink) → named peer s ≡ o → AreUnowed (failed_on o fault s)
    by None e = a
    by (Some l) e = either (is_stage_whole l.stage && l.receives)
      where
        either : (b : Bool) → AreUnowed (cond b (record s { links = put (failed_by fault l) s.links }) s)
        either true = put_unowed (failed_by fault l) s.links (named_unowed peer s l a e) a
        either false = a

asks : (name : ℕ) (s : LinksState) → AreUnowed s → AreUnowed (link_asked name s)
asks name s a = by (find is_wanted s.links) refl _
  where
    by : (o : Option PathLink) → find is_wanted s.links ≡ o → (f : Option ℕ) → AreUnowed (asked_on o f name s)
    by None e f = a
    by (Some l) e None = a
    by (Some l) e (Some h) = put_unowed (asked_as h name l) s.links (found is_wanted s.links l a e) a

told : (list : List Publish) (s : LinksState) → AreUnowed s → AreUnowed (told_on (flow_of list s) s)
told list s a = by (flow_of list s) refl
  where
    less : (e d : ℕ) (b : Bool) → e + d ≡ 0 → (e - 1) + cond b (d - 1) d ≡ 0
    less e d true h = omega (arith, h)
    less e d false h = omega (arith, h)

    by : (o : Option PathLink) → find (owes_flow list s.sending) s.links ≡ o → AreUnowed (told_on o s)
    by None e = a
    by (Some l) e =
        put_unowed (told_once l) s.links (λ is. less l.echoes l.drains (l.echoes == 0) (found (owes_flow list s.sending) s.links l a e is)) a

parts : (s : LinksState) (o : Option PathLink) → IfSome o (IsThere s) → AreUnowed s → AreUnowed (parted o s)
parts s None there a = a
parts s (Some l) there a = by (is_left l)
  where
    by : (b : Bool) → AreUnowed (cond b (gone_on (Some l) s) (given_on (Some l) s))
    by true = all_filter _ IsUnowed s.links a
    by false = put_unowed (given_by l) s.links (found (has_number l.link) s.links l a there.0) a

gets : (o : Option PathLink) (s : LinksState) → AreUnowed s → AreUnowed (got_links o s)
gets None s a = received s a
gets (Some l) s a = a

flow_came : (peer : ℕ) (count : Option ℕ) (credit : ℕ) (drain echo : Bool) (s : PathState) → AreUnowed s.links
    → AreUnowed (after_event (event.FlowCame peer count credit drain echo) s).links
flow_came peer count credit drain echo s a =
    subst AreUnowed (sym (flowed_same (receiver_in (named peer s.links)) peer count credit drain echo s)) (by (receiver_in (named peer s.links)) refl)
  where
    by : (o : Option PathLink) → receiver_in (named peer s.links) ≡ o → AreUnowed (flowed_if o peer count credit drain echo s.links)
    by None e = flowed peer count credit drain echo s.links a e
    by (Some l) e = a

flow_went : (s : PathState) → AreUnowed s.links → AreUnowed (after_event event.LinkFlowSent s).links
flow_went s a = subst AreUnowed (sym (flow_sent_same s)) (by (is_grant_next s))
  where
    by : (b : Bool) → AreUnowed (cond b s.links (told_on (flow_of s.publishes.list s.links) s.links))
    by true = a
    by false = told s.publishes.list s.links a

step : (x : PathEvent) (s : PathState) → AreTied s.links.sending s.links.links s.links.handles → AreUnowed s.links → AreUnowed (after_event x s).links
step (event.Published address payload back) s t a = linked address s.links a
step (event.Consumed address tag no_ack no_wait) s t a = received s.links a
step (event.Declared queue no_wait) s t a = received s.links a
step (event.GetAsked queue no_ack) s t a =
    subst AreUnowed (sym (got_same (get_link (queue_or s.queue queue) s) (queue_or s.queue queue) no_ack s)) (gets (get_link (queue_or s.queue queue) s) s.links a)
step (event.AttachCame attach) s t a =
    subst AreUnowed (sym (attach_same (asked_by attach s.links) attach (record s { links = attached attach s.links }))) (attaches attach s.links a)
step (event.FlowCame peer count credit drain echo) s t a = flow_came peer count credit drain echo s a
step (event.DetachCame peer not_found) s t a = detaches peer s.links a
step (event.TransferCame peer part payload image again) s t a = subst AreUnowed (sym (transfer_same (taking peer s) part payload image again s)) a
step (event.LinkFailed peer fault) s t a = fails peer fault s.links a
step (event.AttachSent name) s t a = asks name s.links a
step event.LinkFlowSent s t a = flow_went s a
step event.DisposeSent s t a = subst AreUnowed (sym (disposed_same (next_settle_of s.deliveries.list) s)) a
step event.DetachSent s t a =
    subst AreUnowed (sym (dropped_same (detaching_of s) (record s { links = parted (detaching_of s) s.links })))
    (parts s.links (detaching_of s) (detaching_there s.publishes.list s.deliveries s.oks s.links t.rising) a)
step event.LifeClosed s t a = all_filter _ IsUnowed s.links.links a
step event.SessionLost s t a = all_filter _ IsUnowed _ (all_filter _ IsUnowed s.links.links a)
step event.SessionEnded s t a = tt
step event.UpLost s t a = tt
step x s t a = a

pub are_unowed : LinksAre → (life : ℕ) (h : List PathEvent) → AreUnowed (after_events life h).links
are_unowed tied life [] = tt
are_unowed tied life (x ∷ h) = step x (after_events life h) (tied life h) (are_unowed tied life h)
