-- After any events of a path its links are tied.
use Rattle.std.proofs.Common.{◌≡◌, ℕ, List, [], ◌∷◌, Bool, true, false, Option, Some, None}
use Rattle.std.proofs.Common.{refl, sym, cond, not, subst}
use Rattle.std.specs.Prelude.{◌==◌, ◌&&◌, ◌||◌, find, is_some, IfSome}
use Rattle.link_table.specs.Table.{free_of, named_by}
use Rattle.publish_path.specs.Links.{link_to}
use Rattle.publish_path.specs.declared.publish.Publish.{Publish}
use Rattle.consume_path.specs.Offers.{next_settle_of}
use Rattle.consume_path.specs.declared.receiving.TransferFault.{TransferFault}
use Rattle.session_path.specs.declared.path.AttachHeard.{AttachHeard}
use Rattle.session_path.specs.declared.path.PathLink.{PathLink}
use Rattle.session_path.specs.Links.{LinksState, AreTied, all_lost, asked_by, asked_on, at_handle}
use Rattle.session_path.specs.Links.{attach_fault, attached, attached_as, detached_on, failed_by}
use Rattle.session_path.specs.Links.{failed_on, flowed_on, given_on, gone_on, has_number}
use Rattle.session_path.specs.Links.{is_asked_as, is_at, is_left, is_stage_failed}
use Rattle.session_path.specs.Links.{is_stage_open, is_stage_whole, is_wanted}
use Rattle.session_path.specs.Links.{is_wanted_receiver, link_asked, link_detached, link_failed}
use Rattle.session_path.specs.Links.{link_flowed, linked_to, named, parted, put, told_on}
use Rattle.session_path.specs.Links.{with_link_to, with_receiver, without_receivers}
use Rattle.session_path.specs.Path.{IsThere, PathState, detaching_of, flow_of, get_link}
use Rattle.session_path.specs.Path.{is_grant_next, owes_flow, queue_or, receiver_in, taking}
use Rattle.session_path.specs.Events.{PathEvent, Began, Published, Selected, Owed, Consumed}
use Rattle.session_path.specs.Events.{AnswerCame, CancelCame, Declared, GetAsked, AttachCame}
use Rattle.session_path.specs.Events.{FlowCame, DetachCame, TransferCame}
use Rattle.session_path.specs.Events.{LinkFailed, DispositionCame, AttachSent, LinkFlowSent}
use Rattle.session_path.specs.Events.{TransferSent, SettleSent, DisposeSent, DetachSent}
use Rattle.session_path.specs.Events.{ConfirmWent, ReturnWent, DeliverSent, ContentSent}
use Rattle.session_path.specs.Events.{ContentWhole, OkSent, LinesWent, LifeClosed, SessionLost}
use Rattle.session_path.specs.Events.{SessionEnded, UpLost, after_event, after_events}
use Rattle.session_path.proofs.Idle.{detaching_there}
use Rattle.session_path.proofs.SameLinks.{attach_same, disposed_same, dropped_same, flow_sent_same}
use Rattle.session_path.proofs.SameLinks.{flowed_if, flowed_same, got_links, got_same}
use Rattle.session_path.proofs.SameLinks.{transfer_same}
use Rattle.session_path.proofs.Ties.{answered_tied, asked_tied, detached_tied, failed_tied}
use Rattle.session_path.proofs.Ties.{filtered_tied, flowed_tied, framed_tied}
use Rattle.session_path.proofs.Ties.{given_tied, gone_tied}
use Rattle.session_path.proofs.Ties.{told_once_tied}
use Rattle.session_path.proofs.Unwanted.{unwanted_tied}
use Rattle.session_path.proofs.Wanted.{inserted_tied, wanted_receives, wanted_tied}

abbrev pub Tied : LinksState → Type 0
Tied s = AreTied s.sending s.links s.handles

tied_linked : (address : List ℕ) (s : LinksState) → Tied s → Tied (linked_to address s)
tied_linked address s t = by (is_some (link_to s.sending address))
  where
    by : (b : Bool) → Tied (cond b s (with_link_to address s))
    by true = t
    by false = wanted_tied address s.sending s.links s.handles t

tied_received : (s : LinksState) → Tied s → Tied (with_receiver s)
tied_received s t = inserted_tied true s.sending s.links s.handles t

pub tied_without : (s : LinksState) → Tied s → Tied (without_receivers s)
tied_without s t = filtered_tied (λ l. not (is_wanted_receiver l)) s.sending s.links s.handles wanted_receives t

tied_attached : (a : AttachHeard) (s : LinksState) → Tied s → Tied (attached a s)
tied_attached a s t = by (is_some (attach_fault a.name a.role a.peer s)) (find (is_asked_as a.name a.role) s.links) refl
  where
    by : (b : Bool) (o : Option PathLink) → find (is_asked_as a.name a.role) s.links ≡ o → Tied (attached_as (cond b None o) a.peer a.there s)
    by true o e = t
    by false None e = t
    by false (Some l) e = answered_tied a.name a.role a.peer a.there s.sending s.links s.handles l t e

flowed_one : (h : ℕ) (count : Option ℕ) (credit : ℕ) (drain echo : Bool) (s : LinksState) (o : Option PathLink) → Tied s → find (is_at h) s.links ≡ o → Tied (flowed_on o count credit drain echo s)
flowed_one h count credit drain echo s None t e = t
flowed_one h count credit drain echo s (Some l) t e = flowed_tied h count credit drain echo s.sending s.links s.handles l t e

tied_flowed : (peer : ℕ) (count : Option ℕ) (credit : ℕ) (drain echo : Bool) (s : LinksState) → Tied s → Tied (link_flowed peer count credit drain echo s)
tied_flowed peer count credit drain echo s t = by (named_by s.handles peer)
  where
    by : (o : Option ℕ) → Tied (flowed_on (at_handle o s.links) count credit drain echo s)
    by None = t
    by (Some h) = flowed_one h count credit drain echo s (find (is_at h) s.links) t refl

detached_one : (h : ℕ) (s : LinksState) (o : Option PathLink) → Tied s → find (is_at h) s.links ≡ o → Tied (detached_on o s)
detached_one h s None t e = t
detached_one h s (Some l) t e = detached_tied h s.sending s.links s.handles l t e

tied_detached : (peer : ℕ) (s : LinksState) → Tied s → Tied (link_detached peer s)
tied_detached peer s t = by (named_by s.handles peer)
  where
    by : (o : Option ℕ) → Tied (detached_on (at_handle o s.links) s)
    by None = t
    by (Some h) = detached_one h s (find (is_at h) s.links) t refl

failed_one : (h : ℕ) (fault : TransferFault) (s : LinksState) (o : Option PathLink) → Tied s → find (is_at h) s.links ≡ o → Tied (failed_on o fault s)
failed_one h fault s None t e = t
failed_one h fault s (Some l) t e = by (is_stage_whole l.stage && l.receives) refl
  where
    by : (b : Bool) → (is_stage_whole l.stage && l.receives) ≡ b → Tied (cond b (record s { links = put (failed_by fault l) s.links }) s)
    by true is = failed_tied (is_at h) fault s.sending s.links s.handles l t e is
    by false is = t

tied_failed : (peer : ℕ) (fault : TransferFault) (s : LinksState) → Tied s → Tied (link_failed peer fault s)
tied_failed peer fault s t = by (named_by s.handles peer)
  where
    by : (o : Option ℕ) → Tied (failed_on (at_handle o s.links) fault s)
    by None = t
    by (Some h) = failed_one h fault s (find (is_at h) s.links) t refl

tied_asked : (name : ℕ) (s : LinksState) → Tied s → Tied (link_asked name s)
tied_asked name s t = by (find is_wanted s.links) refl (free_of s.handles) refl
  where
    by : (o : Option PathLink) → find is_wanted s.links ≡ o → (f : Option ℕ) → free_of s.handles ≡ f → Tied (asked_on o f name s)
    by None is f e = t
    by (Some l) is None e = t
    by (Some l) is (Some h) e = asked_tied is_wanted s.sending s.links s.handles l h name t is e

tied_told : (list : List Publish) (s : LinksState) → Tied s → Tied (told_on (flow_of list s) s)
tied_told list s t = by (flow_of list s) refl
  where
    by : (o : Option PathLink) → find (owes_flow list s.sending) s.links ≡ o → Tied (told_on o s)
    by None e = t
    by (Some l) e = told_once_tied (owes_flow list s.sending) (l.echoes == 0) s.sending s.links s.handles l t e

-- the detach of one that is found, and whose detach is due or that is given up
pub tied_given_up : (p : PathLink → Bool) (s : LinksState) (l : PathLink) → Tied s → find p s.links ≡ Some l → (is_stage_open l.stage || is_stage_failed l.stage) ≡ true → Tied (given_on (Some l) s)
tied_given_up p s l t e up = given_tied p s.sending s.links s.handles l t e up

pub tied_gone : (p : PathLink → Bool) (s : LinksState) (l : PathLink) → Tied s → find p s.links ≡ Some l → is_left l ≡ true → Tied (gone_on (Some l) s)
tied_gone p s l t e left = gone_tied p s.sending s.links s.handles l t e left

tied_parted : (s : LinksState) (o : Option PathLink) → Tied s → IfSome o (IsThere s) → Tied (parted o s)
tied_parted s None t there = t
tied_parted s (Some l) t there = by (is_left l) refl
  where
    by : (b : Bool) → is_left l ≡ b → Tied (cond b (gone_on (Some l) s) (given_on (Some l) s))
    by true e = tied_gone (has_number l.link) s l t there.0 e
    by false e = tied_given_up (has_number l.link) s l t there.0 (there.1 e)

tied_got : (o : Option PathLink) (s : LinksState) → Tied s → Tied (got_links o s)
tied_got None s t = tied_received s t
tied_got (Some l) s t = t

tied_flow_came : (peer : ℕ) (count : Option ℕ) (credit : ℕ) (drain echo : Bool) (s : PathState) → Tied s.links → Tied (after_event (FlowCame peer count credit drain echo) s).links
tied_flow_came peer count credit drain echo s t =
    subst Tied (sym (flowed_same (receiver_in (named peer s.links)) peer count credit drain echo s)) (by (receiver_in (named peer s.links)))
  where
    by : (o : Option PathLink) → Tied (flowed_if o peer count credit drain echo s.links)
    by None = tied_flowed peer count credit drain echo s.links t
    by (Some l) = t

tied_flow_sent : (s : PathState) → Tied s.links → Tied (after_event LinkFlowSent s).links
tied_flow_sent s t = subst Tied (sym (flow_sent_same s)) (by (is_grant_next s))
  where
    by : (b : Bool) → Tied (cond b s.links (told_on (flow_of s.publishes.list s.links) s.links))
    by true = t
    by false = tied_told s.publishes.list s.links t

none_tied : (s : LinksState) → Tied (all_lost s)
none_tied s = record { rising = tt; apart = tt; standing = tt; kept = tt }

tied_step : (x : PathEvent) (s : PathState) → Tied s.links → Tied (after_event x s).links
tied_step (Began handle_max) s t = record { rising = t.rising; apart = t.apart; standing = t.standing; kept = t.kept }
tied_step (Published address payload back) s t = tied_linked address s.links t
tied_step Selected s t = t
tied_step (Owed ok) s t = t
tied_step (Consumed address tag no_ack no_wait) s t = tied_received s.links t
tied_step (CancelCame tag no_wait) s t = t
tied_step (Declared queue no_wait) s t = tied_received s.links t
tied_step (GetAsked queue no_ack) s t = subst Tied (sym (got_same (get_link (queue_or s.queue queue) s) (queue_or s.queue queue) no_ack s)) (tied_got (get_link (queue_or s.queue queue) s) s.links t)
tied_step (AnswerCame tag multiple settle) s t = t
tied_step (AttachCame attach) s t = subst Tied (sym (attach_same (asked_by attach s.links) attach (record s { links = attached attach s.links }))) (tied_attached attach s.links t)
tied_step (FlowCame peer count credit drain echo) s t = tied_flow_came peer count credit drain echo s t
tied_step (DetachCame peer not_found) s t = tied_detached peer s.links t
tied_step (TransferCame peer part payload image again) s t = subst Tied (sym (transfer_same (taking peer s) part payload image again s)) t
tied_step (LinkFailed peer fault) s t = tied_failed peer fault s.links t
tied_step (DispositionCame first last outcome settled) s t = t
tied_step (AttachSent name) s t = tied_asked name s.links t
tied_step LinkFlowSent s t = tied_flow_sent s t
tied_step (TransferSent frame count) s t = framed_tied frame s.links.sending s.links.links s.links.handles t
tied_step (SettleSent settling) s t = t
tied_step DisposeSent s t = subst Tied (sym (disposed_same (next_settle_of s.deliveries.list) s)) t
tied_step DetachSent s t =
    subst Tied (sym (dropped_same (detaching_of s) (record s { links = parted (detaching_of s) s.links })))
    (tied_parted s.links (detaching_of s) t (detaching_there s.publishes.list s.deliveries s.oks s.links t.rising))
tied_step (ConfirmWent confirm) s t = t
tied_step (ReturnWent number) s t = t
tied_step (DeliverSent due) s t = t
tied_step ContentSent s t = t
tied_step (ContentWhole tag) s t = t
tied_step (OkSent ok) s t = t
tied_step LinesWent s t = t
tied_step LifeClosed s t = tied_without s.links t
tied_step SessionLost s t = unwanted_tied (without_receivers s.links) (tied_without s.links t)
tied_step SessionEnded s t = none_tied (without_receivers s.links)
tied_step UpLost s t = none_tied (without_receivers s.links)

pub tied_after : (life : ℕ) (h : List PathEvent) → Tied (after_events life h).links
tied_after life [] = record { rising = tt; apart = tt; standing = tt; kept = tt }
tied_after life (x ∷ h) = tied_step x (after_events life h) (tied_after life h)

pub links_are_tied : (life : ℕ) (h : List PathEvent) → AreTied (after_events life h).links.sending (after_events life h).links.links (after_events life h).links.handles
links_are_tied life h = tied_after life h
