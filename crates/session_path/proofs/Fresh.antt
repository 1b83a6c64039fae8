-- A link that is wanted is owed no flow: none came on it.
use Rattle.std.proofs.Common.{◌≡◌, ℕ, ◌+◌, ◌-◌, List, [], ◌∷◌, Bool, true, false, Option, Some}
use Rattle.std.proofs.Common.{None}
use Rattle.std.proofs.Common.{refl, sym, subst, arith, cond}
use Rattle.std.specs.Prelude.{◌==◌, ◌&&◌, find, is_some}
use Rattle.std.specs.List.{AllByRecursion}
use Rattle.open_items.proofs.Filtered.{all_filter, all_find, all_map}
use Rattle.link_table.specs.Table.{free_of, named_by}
use Rattle.publish_path.specs.Links.{link_to}
use Rattle.publish_path.specs.declared.publish.Publish.{Publish}
use Rattle.consume_path.specs.Offers.{next_settle_of}
use Rattle.consume_path.specs.declared.receiving.TransferFault.{TransferFault}
use Rattle.session_path.specs.declared.path.AttachHeard.{AttachHeard}
use Rattle.session_path.specs.declared.path.PathLink.{PathLink}
use Rattle.session_path.specs.declared.path.Stage.{Stage}
use Rattle.session_path.specs.declared.path.Stage.TheVariants.{Wanted, Asked, Open, Refused, Left}
use Rattle.session_path.specs.declared.path.Stage.TheVariants.{Given, Failed}
use Rattle.session_path.specs.Links.{LinksState, answered, asked_as, asked_by, asked_on, at_handle}
use Rattle.session_path.specs.Links.{attach_fault, attached, attached_as, detached_on, failed_by}
use Rattle.session_path.specs.Links.{failed_on, flowed_on, free_number, given_by, given_on, gone_on}
use Rattle.session_path.specs.Links.{is_asked_as, is_at, is_given, is_left, is_stage_at}
use Rattle.session_path.specs.Links.{is_stage_wanted, is_stage_whole, is_wanted, left_by}
use Rattle.session_path.specs.Links.{link_asked, link_detached, link_failed, link_flowed, linked_to}
use Rattle.session_path.specs.Links.{named, parted, put, put_for, told_by, told_on, told_once}
use Rattle.session_path.specs.Links.{wanted_link, with_link_to, with_receiver}
use Rattle.session_path.specs.Path.{PathState, detaching_of, flow_of, get_link, is_grant_next}
use Rattle.session_path.specs.Path.{owes_flow, queue_or, receiver_in, taking}
use Rattle.session_path.specs.Events.{PathEvent, Began, Published, Selected, Owed, Consumed}
use Rattle.session_path.specs.Events.{AnswerCame, CancelCame, Declared, GetAsked, AttachCame}
use Rattle.session_path.specs.Events.{FlowCame, DetachCame, TransferCame}
use Rattle.session_path.specs.Events.{LinkFailed, DispositionCame, AttachSent, LinkFlowSent}
use Rattle.session_path.specs.Events.{TransferSent, SettleSent, DisposeSent, DetachSent}
use Rattle.session_path.specs.Events.{ConfirmWent, ReturnWent, DeliverSent, ContentSent}
use Rattle.session_path.specs.Events.{ContentWhole, OkSent, LinesWent, LifeClosed, SessionLost}
use Rattle.session_path.specs.Events.{SessionEnded, UpLost, after_event, after_events}
use Rattle.session_path.proofs.SameLinks.{attach_same, disposed_same, dropped_same, flow_sent_same}
use Rattle.session_path.proofs.SameLinks.{got_links, got_same}
use Rattle.session_path.proofs.SameLinks.{flowed_if, flowed_same, transfer_same}
use Rattle.session_path.proofs.Ties.{dropped, found_passes, no_clash}
use Rattle.session_path.proofs.Wanted.{all_insert}

abbrev pub IsFresh : PathLink → Type 0
IsFresh l = is_wanted l ≡ true → l.echoes + l.drains ≡ 0

abbrev pub AreFresh : LinksState → Type 0
AreFresh s = AllByRecursion IsFresh s.links

stale : (l : PathLink) → is_wanted l ≡ false → IsFresh l
stale l off is = absurd (no_clash (is_wanted l) is off)

fresh_put : (x : PathLink) (ls : List PathLink) → IsFresh x → AllByRecursion IsFresh ls → AllByRecursion IsFresh (put x ls)
fresh_put x ls new old = all_map (put_for x) IsFresh IsFresh (λ k h. one k (k.link == x.link) h) ls old
  where
    one : (k : PathLink) (b : Bool) → IsFresh k → IsFresh (cond b x k)
    one k true h = new
    one k false h = h

fresh_linked : (address : List ℕ) (s : LinksState) → AreFresh s → AreFresh (linked_to address s)
fresh_linked address s a = by (is_some (link_to s.sending address))
  where
    by : (b : Bool) → AreFresh (cond b s (with_link_to address s))
    by true = a
    by false = all_insert IsFresh s.links (free_number s.links) (wanted_link (free_number s.links) false) a (λ is. refl)

fresh_received : (s : LinksState) → AreFresh s → AreFresh (with_receiver s)
fresh_received s a = all_insert IsFresh s.links (free_number s.links) (wanted_link (free_number s.links) true) a (λ is. refl)

fresh_attached : (a : AttachHeard) (s : LinksState) → AreFresh s → AreFresh (attached a s)
fresh_attached a s f = by (is_some (attach_fault a.name a.role a.peer s)) (find (is_asked_as a.name a.role) s.links)
  where
    answer : (l : PathLink) (b : Bool) → is_wanted (answered b l) ≡ false
    answer l true = refl
    answer l false = refl

    by : (b : Bool) (o : Option PathLink) → AreFresh (attached_as (cond b None o) a.peer a.there s)
    by true o = f
    by false None = f
    by false (Some l) = fresh_put (answered a.there l) s.links (stale (answered a.there l) (answer l a.there)) f

-- a link that a handle of the container names isn't wanted
not_wanted : (h : ℕ) (s : Stage) → is_stage_at h s ≡ true → is_stage_wanted s ≡ false
not_wanted h Wanted e = absurd (cc)
not_wanted h (Asked k) e = refl
not_wanted h (Open k) e = refl
not_wanted h (Refused k) e = refl
not_wanted h (Left k) e = refl
not_wanted h (Given k) e = refl
not_wanted h (Failed k fault) e = refl

flowed_one : (h : ℕ) (count : Option ℕ) (credit : ℕ) (drain echo : Bool) (s : LinksState) (o : Option PathLink) → AreFresh s → find (is_at h) s.links ≡ o → AreFresh (flowed_on o count credit drain echo s)
flowed_one h count credit drain echo s None a e = a
flowed_one h count credit drain echo s (Some l) a e = fresh_put (told_by drain echo l) s.links (stale (told_by drain echo l) (not_wanted h l.stage (found_passes (is_at h) s.links l e))) a

fresh_flowed : (peer : ℕ) (count : Option ℕ) (credit : ℕ) (drain echo : Bool) (s : LinksState) → AreFresh s → AreFresh (link_flowed peer count credit drain echo s)
fresh_flowed peer count credit drain echo s a = by (named_by s.handles peer)
  where
    by : (o : Option ℕ) → AreFresh (flowed_on (at_handle o s.links) count credit drain echo s)
    by None = a
    by (Some h) = flowed_one h count credit drain echo s (find (is_at h) s.links) a refl

fresh_detached : (peer : ℕ) (s : LinksState) → AreFresh s → AreFresh (link_detached peer s)
fresh_detached peer s a = by (named peer s)
  where
    by : (o : Option PathLink) → AreFresh (detached_on o s)
    by None = a
    by (Some l) = either (is_given l)
      where
        either : (b : Bool) → AllByRecursion IsFresh (cond b (dropped l.link s.links) (put (left_by s.sending l) s.links))
        either true = all_filter _ IsFresh s.links a
        either false = fresh_put (left_by s.sending l) s.links (stale (left_by s.sending l) refl) a

fresh_failed : (peer : ℕ) (fault : TransferFault) (s : LinksState) → AreFresh s → AreFresh (link_failed peer fault s)
fresh_failed peer fault s a = by (named peer s)
  where
    by : (o : Option PathLink) → AreFresh (failed_on o fault s)
    by None = a
    by (Some l) = either (is_stage_whole l.stage && l.receives)
      where
        either : (b : Bool) → AreFresh (cond b (record s { links = put (failed_by fault l) s.links }) s)
        either true = fresh_put (failed_by fault l) s.links (stale (failed_by fault l) refl) a
        either false = a

fresh_asked : (name : ℕ) (s : LinksState) → AreFresh s → AreFresh (link_asked name s)
fresh_asked name s a = by (find is_wanted s.links) (free_of s.handles)
  where
    by : (o : Option PathLink) (f : Option ℕ) → AreFresh (asked_on o f name s)
    by None f = a
    by (Some l) None = a
    by (Some l) (Some h) = fresh_put (asked_as h name l) s.links (stale (asked_as h name l) refl) a

fresh_told : (list : List Publish) (s : LinksState) → AreFresh s → AreFresh (told_on (flow_of list s) s)
fresh_told list s a = by (flow_of list s) refl
  where
    less : (e d : ℕ) (b : Bool) → e + d ≡ 0 → (e - 1) + cond b (d - 1) d ≡ 0
    less e d true h = omega arith
    less e d false h = omega arith

    by : (o : Option PathLink) → find (owes_flow list s.sending) s.links ≡ o → AreFresh (told_on o s)
    by None e = a
    by (Some l) e = fresh_put (told_once l) s.links (λ is. less l.echoes l.drains (l.echoes == 0) ((all_find IsFresh (owes_flow list s.sending) s.links l a e).0 is)) a

fresh_given : (s : LinksState) (o : Option PathLink) → AreFresh s → AreFresh (given_on o s)
fresh_given s None a = a
fresh_given s (Some l) a = fresh_put (given_by l) s.links (stale (given_by l) refl) a

fresh_parted : (s : LinksState) (o : Option PathLink) → AreFresh s → AreFresh (parted o s)
fresh_parted s None a = a
fresh_parted s (Some l) a = by (is_left l)
  where
    by : (b : Bool) → AreFresh (cond b (gone_on (Some l) s) (given_on (Some l) s))
    by true = all_filter _ IsFresh s.links a
    by false = fresh_given s (Some l) a

fresh_got : (o : Option PathLink) (s : LinksState) → AreFresh s → AreFresh (got_links o s)
fresh_got None s a = fresh_received s a
fresh_got (Some l) s a = a

fresh_flow_came : (peer : ℕ) (count : Option ℕ) (credit : ℕ) (drain echo : Bool) (s : PathState) → AreFresh s.links → AreFresh (after_event (FlowCame peer count credit drain echo) s).links
fresh_flow_came peer count credit drain echo s a =
    subst AreFresh (sym (flowed_same (receiver_in (named peer s.links)) peer count credit drain echo s)) (by (receiver_in (named peer s.links)))
  where
    by : (o : Option PathLink) → AreFresh (flowed_if o peer count credit drain echo s.links)
    by None = fresh_flowed peer count credit drain echo s.links a
    by (Some l) = a

fresh_flow_sent : (s : PathState) → AreFresh s.links → AreFresh (after_event LinkFlowSent s).links
fresh_flow_sent s a = subst AreFresh (sym (flow_sent_same s)) (by (is_grant_next s))
  where
    by : (b : Bool) → AreFresh (cond b s.links (told_on (flow_of s.publishes.list s.links) s.links))
    by true = a
    by false = fresh_told s.publishes.list s.links a

fresh_step : (x : PathEvent) (s : PathState) → AreFresh s.links → AreFresh (after_event x s).links
fresh_step (Began handle_max) s a = a
fresh_step (Published address payload back) s a = fresh_linked address s.links a
fresh_step Selected s a = a
fresh_step (Owed ok) s a = a
fresh_step (Consumed address tag no_ack no_wait) s a = fresh_received s.links a
fresh_step (CancelCame tag no_wait) s a = a
fresh_step (Declared queue no_wait) s a = fresh_received s.links a
fresh_step (GetAsked queue no_ack) s a = subst AreFresh (sym (got_same (get_link (queue_or s.queue queue) s) (queue_or s.queue queue) no_ack s)) (fresh_got (get_link (queue_or s.queue queue) s) s.links a)
fresh_step (AnswerCame tag multiple settle) s a = a
fresh_step (AttachCame attach) s a = subst AreFresh (sym (attach_same (asked_by attach s.links) attach (record s { links = attached attach s.links }))) (fresh_attached attach s.links a)
fresh_step (FlowCame peer count credit drain echo) s a = fresh_flow_came peer count credit drain echo s a
fresh_step (DetachCame peer not_found) s a = fresh_detached peer s.links a
fresh_step (TransferCame peer part payload image again) s a = subst AreFresh (sym (transfer_same (taking peer s) part payload image again s)) a
fresh_step (LinkFailed peer fault) s a = fresh_failed peer fault s.links a
fresh_step (DispositionCame first last outcome settled) s a = a
fresh_step (AttachSent name) s a = fresh_asked name s.links a
fresh_step LinkFlowSent s a = fresh_flow_sent s a
fresh_step (TransferSent frame count) s a = a
fresh_step (SettleSent settling) s a = a
fresh_step DisposeSent s a = subst AreFresh (sym (disposed_same (next_settle_of s.deliveries.list) s)) a
fresh_step DetachSent s a =
    subst AreFresh (sym (dropped_same (detaching_of s) (record s { links = parted (detaching_of s) s.links })))
    (fresh_parted s.links (detaching_of s) a)
fresh_step (ConfirmWent confirm) s a = a
fresh_step (ReturnWent number) s a = a
fresh_step (DeliverSent due) s a = a
fresh_step ContentSent s a = a
fresh_step (ContentWhole tag) s a = a
fresh_step (OkSent ok) s a = a
fresh_step LinesWent s a = a
fresh_step LifeClosed s a = all_filter _ IsFresh s.links.links a
fresh_step SessionLost s a = all_filter _ IsFresh _ (all_filter _ IsFresh s.links.links a)
fresh_step SessionEnded s a = tt
fresh_step UpLost s a = tt

pub fresh_after : (life : ℕ) (h : List PathEvent) → AreFresh (after_events life h).links
fresh_after life [] = tt
fresh_after life (x ∷ h) = fresh_step x (after_events life h) (fresh_after life h)
