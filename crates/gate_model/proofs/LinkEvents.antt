-- What an event of a path leaves of the credit of its links, by the fold.
use Rattle.std.proofs.Common.{◌≡◌, ℕ, List, [], ◌∷◌, ◌++◌, Bool, true, false}
use Rattle.std.proofs.Common.{if◌then◌else◌, Option, Some, None, refl, sym, subst, cond, map}
use Rattle.std.specs.Prelude.{find, is_some, IfSome}
use Rattle.std.specs.List.{AllByRecursion}
use Rattle.open_items.proofs.Filtered.{all_find}
use Rattle.link_table.specs.Table.{free_of, named_by}
use Rattle.publish_path.specs.Links.{begun_on, can_send, link_of}
use Rattle.publish_path.specs.declared.publish.NextFrame.{NextFrame}
use Rattle.consume_path.specs.Offers.{next_settle_of}
use Rattle.consume_path.specs.declared.receiving.NextGrant.{NextGrant}
use Rattle.session_path.specs.Due.{attach_of, due_in, grant_due, next_attach, next_flow}
use Rattle.session_path.specs.Events as event
use Rattle.session_path.specs.Events.{PathEvent, after_event, after_events}
use Rattle.session_path.specs.Links.{LinksState, asked_by, asked_on, attach_fault, attached, attached_as, handle_at, has_number, is_asked_as}
use Rattle.session_path.specs.Links.{is_stage_wanted, is_wanted, limited, named, parted, told_on}
use Rattle.session_path.specs.Path.{PathState, detaching_of, flow_of, get_link, grant_in, granting, is_grant_next, owes_flow, queue_or, receiver_in, taking}
use Rattle.session_path.specs.declared.path.AttachDue.{AttachDue}
use Rattle.session_path.specs.declared.path.AttachFault.TheVariants.{HandleInUse, NotAsked}
use Rattle.session_path.specs.declared.path.AttachHeard.{AttachHeard}
use Rattle.session_path.specs.declared.path.FlowDue.{FlowDue}
use Rattle.session_path.specs.declared.path.PathLink.{PathLink}
use Rattle.session_path.proofs.Fresh.{AreFresh, IsFresh}
use Rattle.session_path.proofs.Idle.{detaching_there}
use Rattle.session_path.proofs.SameLinks.{attach_same, disposed_same, dropped_same, flow_sent_same}
use Rattle.session_path.proofs.SameLinks.{flowed_same, got_links, got_same, transfer_same}
use Rattle.session_path.proofs.Tied.{Tied, tied_after}
use Rattle.session_path.proofs.Ties.{found_passes}
use Rattle.gate_model.specs.LinkCredits.{Answered, Asked, Begun, Credit, Detached, Flowed, LinkStep, Told, after_step, credit_by}
use Rattle.gate_model.proofs.Granting.{owes_none}
use Rattle.gate_model.proofs.LinkCredits.{AllAgree, AreDistinct, agree_on, attached_agree, flow_agree, link_detached_agree, link_failed_agree}
use Rattle.gate_model.proofs.LinkCredits.{linked_to_agree, parted_agree, received_agree, unwanted_agree, without_agree}
use Rattle.gate_model.proofs.LinkRules.{Rules, count_of, is_mute}
use Rattle.gate_model.proofs.LinkSends.{asked_agree, begun_agree, grant_agree, told_agree}
use Rattle.session_path.proofs.Tied.{tied_without}
use Rattle.session_path.specs.Links.{without_receivers}

-- ---- the fold

-- newest first
abbrev pub folded : List LinkStep → (ℕ → Option Credit) → ℕ → Option Credit
folded [] f = f
folded (x ∷ xs) f = λ k. after_step k x (folded xs f k)

-- ---- events that the fold doesn't see

module _ (f : ℕ → Option Credit) where
  limited_agree : (most : ℕ) (s : LinksState) → AllAgree f s → AllAgree f (limited most s)
  limited_agree most s all n =
      agree_on f f s.handles (limited most s).handles (link_of s.sending n) (find (has_number n) s.links)
      (λ k is j at. record { fold = refl; names = λ peer e. record { here = e.here; only = e.only } }) (all n)

  got_agree : (o : Option PathLink) (s : LinksState) → Tied s → AllAgree f s → AllAgree f (got_links o s)
  got_agree None s t all = received_agree f s t all
  got_agree (Some l) s t all = all

  pub mute_agree : (x : PathEvent) (s : PathState) → is_mute x ≡ true → Tied s.links → AllAgree f s.links → AllAgree f (after_event x s).links
  mute_agree (event.AttachCame attach) s e t all = absurd cc
  mute_agree (event.FlowCame peer count credit drain echo) s e t all = absurd cc
  mute_agree (event.AttachSent name) s e t all = absurd cc
  mute_agree event.LinkFlowSent s e t all = absurd cc
  mute_agree (event.TransferSent frame count) s e t all = absurd cc
  mute_agree (event.Began handle_max) s e t all = limited_agree _ s.links all
  mute_agree (event.Published address payload back) s e t all = linked_to_agree f address s.links t all
  mute_agree (event.Consumed address tag no_ack no_wait) s e t all = received_agree f s.links t all
  mute_agree (event.Declared queue no_wait) s e t all = received_agree f s.links t all
  mute_agree (event.GetAsked queue no_ack) s e t all =
      subst (AllAgree f) (sym (got_same (get_link (queue_or s.queue queue) s) (queue_or s.queue queue) no_ack s)) (got_agree (get_link (queue_or s.queue queue) s) s.links t all)
  mute_agree (event.DetachCame peer not_found) s e t all = absurd cc
  mute_agree (event.TransferCame peer part payload image again) s e t all = subst (AllAgree f) (sym (transfer_same (taking peer s) part payload image again s)) all
  mute_agree (event.LinkFailed peer fault) s e t all = link_failed_agree f peer fault s.links t all
  mute_agree event.DisposeSent s e t all = subst (AllAgree f) (sym (disposed_same (next_settle_of s.deliveries.list) s)) all
  mute_agree event.DetachSent s e t all =
      subst (AllAgree f) (sym (dropped_same (detaching_of s) (record s { links = parted (detaching_of s) s.links })))
      (parted_agree f s.links (detaching_of s) t all (detaching_there s.publishes.list s.deliveries s.oks s.links t.rising))
  mute_agree event.LifeClosed s e t all = without_agree f s.links t all
  mute_agree event.SessionLost s e t all = unwanted_agree f (without_receivers s.links) (tied_without s.links t) (without_agree f s.links t all)
  mute_agree event.SessionEnded s e t all = λ n. refl
  mute_agree event.UpLost s e t all = λ n. refl
  mute_agree x s e t all = all

  pub mutes_agree : (life : ℕ) (xs es : List PathEvent) → AllByRecursion (λ x. is_mute x ≡ true) xs → AllAgree f (after_events life es).links
      → AllAgree f (after_events life (xs ++ es)).links
  mutes_agree life [] es m all = all
  mutes_agree life (x ∷ xs) es m all = mute_agree x (after_events life (xs ++ es)) m.0 (tied_after life (xs ++ es)) (mutes_agree life xs es m.1 all)

  -- ---- what the container sends

  pub came_agree : (a : AttachHeard) (s : PathState) → Tied s.links → AreDistinct f → attach_fault a.name a.role a.peer s.links ≡ None → AllAgree f s.links
      → AllAgree (folded (Answered a.name a.peer ∷ []) f) (after_event (event.AttachCame a) s).links
  came_agree a s t distinct fine all =
      subst (AllAgree (folded (Answered a.name a.peer ∷ []) f)) (sym (attach_same (asked_by a s.links) a (record s { links = attached a s.links })))
      (by (named_by s.links.handles a.peer) refl (find (is_asked_as a.name a.role) s.links.links) refl fine)
    where
      by : (o : Option ℕ) → named_by s.links.handles a.peer ≡ o → (q : Option PathLink) → find (is_asked_as a.name a.role) s.links.links ≡ q
          → (if is_some o then Some HandleInUse else if is_some q then None else Some NotAsked) ≡ None
          → AllAgree (folded (Answered a.name a.peer ∷ []) f)
          (attached_as (if is_some (if is_some o then Some HandleInUse else if is_some q then None else Some NotAsked) then None else q) a.peer a.there s.links)
      by (Some h) e q g i = absurd cc
      by None e None g i = absurd cc
      by None e (Some l) g i = attached_agree f a s.links l t all distinct e g

  pub flow_came_agree : (peer : ℕ) (count : Option ℕ) (credit : ℕ) (drain echo : Bool) (s : PathState) → Tied s.links → AllAgree f s.links
      → AllAgree (folded (Flowed peer count credit ∷ []) f) (after_event (event.FlowCame peer count credit drain echo) s).links
  flow_came_agree peer count credit drain echo s t all =
      subst (AllAgree (folded (Flowed peer count credit ∷ []) f)) (sym (flowed_same (receiver_in (named peer s.links)) peer count credit drain echo s))
      (flow_agree f peer count credit s.links t all drain echo)

  pub detach_came_agree : (peer : ℕ) (not_found : Bool) (s : PathState) → Tied s.links → AllAgree f s.links
      → AllAgree (folded (Detached peer ∷ []) f) (after_event (event.DetachCame peer not_found) s).links
  detach_came_agree peer not_found s t all = link_detached_agree f peer s.links t all

  -- ---- what the gateway sends

  pub attach_sent_agree : (name : ℕ) (a : AttachDue) (s : PathState) → Tied s.links → next_attach s ≡ Some a → AllAgree f s.links
      → AllAgree (folded (Asked a.link a.handle name a.receives ∷ []) f) (after_event (event.AttachSent name) s).links
  attach_sent_agree name a s t due all = by (find is_wanted s.links.links) refl (free_of s.links.handles) refl due
    where
      by : (o : Option PathLink) → find is_wanted s.links.links ≡ o → (q : Option ℕ) → free_of s.links.handles ≡ q → attach_of o q ≡ Some a
          → AllAgree (folded (Asked a.link a.handle name a.receives ∷ []) f) (asked_on o q name s.links)
      by None e q g i = absurd cc
      by (Some l) e None g i = absurd cc
      by (Some l) e (Some h) g i =
          let link : l.link ≡ a.link = cc in
          let handle : h ≡ a.handle = cc in
          let role : l.receives ≡ a.receives = cc in
          subst (λ (k : ℕ). AllAgree (folded (Asked k a.handle name a.receives ∷ []) f) (asked_on (Some l) (Some h) name s.links)) link
          (subst (λ (k : ℕ). AllAgree (folded (Asked l.link k name a.receives ∷ []) f) (asked_on (Some l) (Some h) name s.links)) handle
          (subst (λ (b : Bool). AllAgree (folded (Asked l.link h name b ∷ []) f) (asked_on (Some l) (Some h) name s.links)) role
          (asked_agree f s.links l h name t all e g)))

  abbrev After : FlowDue → LinksState → Type 0
  After d z = AllAgree (folded (Told d.link d.handle (count_of d) ∷ []) f) z

  pub flow_sent_agree : (d : FlowDue) (s : PathState) → Tied s.links → AreFresh s.links
      → ((l k : PathLink) → granting s ≡ Some l → find (has_number l.link) s.links.links ≡ Some k → k.receives ≡ true)
      → next_flow s ≡ Some d → AllAgree f s.links → After d (after_event event.LinkFlowSent s).links
  flow_sent_agree d s t fresh receives due all =
      subst (After d) (sym (flow_sent_same s)) (by (is_grant_next s) due)
    where
      grants : (o : Option PathLink) → granting s ≡ o → (g : Option NextGrant) → grant_due o g s.deliveries ≡ Some d → After d s.links
      grants None e g i = absurd cc
      grants (Some l) e None i = absurd cc
      grants (Some l) e (Some g) i = same (grant_due (Some l) (Some g) s.deliveries) i (grant_agree f s.links l.link _ _ (λ k is. receives l k e is) all)
        where
          same : (o : Option FlowDue) → o ≡ Some d → IfSome o (λ x. After x s.links) → After d s.links
          same o q k = subst (λ (z : Option FlowDue). IfSome z (λ x. After x s.links)) q k

      sends : (o : Option PathLink) → flow_of s.publishes.list s.links ≡ o → due_in s.links.sending o ≡ Some d → After d (told_on o s.links)
      sends None e i = absurd cc
      sends (Some l) e i = same (due_in s.links.sending (Some l)) i (told_agree f s.links l (owes_flow s.publishes.list s.links.sending) t all e (there (is_stage_wanted l.stage) refl))
        where
          same : (o : Option FlowDue) → o ≡ Some d → IfSome o (λ x. After x (told_on (Some l) s.links)) → After d (told_on (Some l) s.links)
          same o q k = subst (λ (z : Option FlowDue). IfSome z (λ x. After x (told_on (Some l) s.links))) q k

          there : (b : Bool) → is_stage_wanted l.stage ≡ b → b ≡ false
          there true w =
              absurd (owes_none s.publishes.list s.links.sending l ((all_find IsFresh (owes_flow s.publishes.list s.links.sending) s.links.links l fresh e).0 w)
              (found_passes (owes_flow s.publishes.list s.links.sending) s.links.links l e))
          there false w = refl

      by : (b : Bool) → (if b then grant_due (granting s) (grant_in s) s.deliveries else due_in s.links.sending (flow_of s.publishes.list s.links)) ≡ Some d
          → After d (cond b s.links (told_on (flow_of s.publishes.list s.links) s.links))
      by true i = grants (granting s) refl (grant_in s) i
      by false i = sends (flow_of s.publishes.list s.links) refl i

  -- the first frame of a transfer, and a later one
  pub first_sent_agree : (frame : NextFrame) (count : ℕ) (s : PathState) → Tied s.links → frame.first ≡ true → can_send (link_of s.links.sending frame.link) ≡ true
      → AllAgree f s.links → AllAgree (folded (Begun (handle_at frame.link s.links.links) ∷ []) f) (after_event (event.TransferSent frame count) s).links
  first_sent_agree frame count s t e can all =
      subst (λ (b : Bool). AllAgree (folded (Begun (handle_at frame.link s.links.links) ∷ []) f)
      (record s.links { sending = if b then map (begun_on frame.link) s.links.sending else s.links.sending })) (sym e) (begun_agree f s.links frame.link t all can)

  pub later_sent_agree : (frame : NextFrame) (count : ℕ) (s : PathState) → frame.first ≡ false → AllAgree f s.links → AllAgree f (after_event (event.TransferSent frame count) s).links
  later_sent_agree frame count s e all =
      subst (λ (b : Bool). AllAgree f (record s.links { sending = if b then map (begun_on frame.link) s.links.sending else s.links.sending })) (sym e) all

-- ---- all of them

pub credit_rules : Rules (λ xs s. AllAgree (λ k. credit_by k xs) s)
credit_rules = record {
  none = λ xs t n. refl;
  mute = λ xs x s m t all. mute_agree (λ k. credit_by k xs) x s m t all;
  came = λ xs a s t distinct fine all. came_agree (λ k. credit_by k xs) a s t distinct fine all;
  flow_came = λ xs peer count credit drain echo s t all. flow_came_agree (λ k. credit_by k xs) peer count credit drain echo s t all;
  detach_came = λ xs peer not_found s t all. detach_came_agree (λ k. credit_by k xs) peer not_found s t all;
  attach_sent = λ xs name a s t new due all. attach_sent_agree (λ k. credit_by k xs) name a s t due all;
  flow_sent = λ xs d s t fresh receives due all. flow_sent_agree (λ k. credit_by k xs) d s t fresh receives due all;
  first_sent = λ xs frame count s t e can all. first_sent_agree (λ k. credit_by k xs) frame count s t e can all;
  later_sent = λ xs frame count s e all. later_sent_agree (λ k. credit_by k xs) frame count s e all;
}
