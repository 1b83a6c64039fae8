-- A transfer that goes on is on a sending link that both ends attached, and neither detached.
use Rattle.std.proofs.Common.{◌≡◌, ◌∙◌, ◌≢◌, ℕ, ◌+◌, ◌≤◌, ◌<◌, ◌==◌, nat_lt, not, ◌&&◌, ◌||◌, length, Bool, true, false, if◌then◌else◌, List, [], ◌∷◌, ◌++◌}
use Rattle.std.proofs.Common.{Option, Some, None, option_map, refl, sym, ap, subst, cond, arith}
use Rattle.std.specs.Prelude.{IfSome, filter, find, is_some}
use Rattle.std.specs.List.{AllByRecursion}
use Rattle.std.specs.Option.{option_or}
use Rattle.std.proofs.lemmas.Bool.Decides.{nat_tests}
use Rattle.std.proofs.lemmas.List.{length-append}
use Rattle.open_items.specs.Numbers.{least}
use Rattle.open_items.proofs.Counted.{least_is}
use Rattle.link_table.specs.Table.{free_of, named_by}
use Rattle.machine_091.specs.declared.limits.TheConstants.{CHANNEL_MAX}
use Rattle.publish_path.specs.Journal.{Fate, IsTaken, confirms_of, fate_of, goes_on, new_fate, numbers_of}
use Rattle.publish_path.specs.Laws.{frame_at, frame_by, may_begin}
use Rattle.publish_path.specs.Links.{can_send, link_of, link_to}
use Rattle.publish_path.specs.Offers.{frame_sent}
use Rattle.publish_path.specs.Publishes as on
use Rattle.publish_path.specs.Publishes.{PublishEvent, is_on}
use Rattle.publish_path.specs.declared.publish.NextFrame.{NextFrame}
use Rattle.publish_path.specs.declared.publish.Publish.{Publish}
use Rattle.publish_path.specs.declared.send_links.SendingLink.{SendingLink}
use Rattle.consume_path.specs.Offers.{next_settle_of}
use Rattle.consume_path.specs.declared.receiving.TransferFault.{TransferFault}
use Rattle.session_path.specs.Events as event
use Rattle.session_path.specs.Events.{PathEvent, after_event, after_events, losses, publishes_of}
use Rattle.session_path.specs.Links.{LinksState, Rises, answered, asked_as, asked_by, asked_on, at_handle, attach_fault, attached, attached_as, detached_on}
use Rattle.session_path.specs.Links.{failed_by, failed_on, flowed_on, free_number, given_by, given_on, gone_on, handle_of, has_number, is_asked_as, is_at, is_given, is_kept, is_left, is_left_at}
use Rattle.session_path.specs.Links.{is_parting, is_stage_failed, is_stage_given, is_stage_left, is_stage_open, is_stage_wanted, is_stage_whole, is_wanted, is_wanted_receiver, left_by, link_asked, link_failed}
use Rattle.session_path.specs.Links.{link_flowed, linked_to, named, parted, put, told_by, told_on, told_once, with_link_to, with_receiver}
use Rattle.session_path.specs.Path.{IsThere, PathState, detaching_of, flow_of, get_link, is_grant_next, owes_flow, queue_or, receiver_in, sender_in, taking}
use Rattle.session_path.specs.declared.path.AttachHeard.{AttachHeard}
use Rattle.session_path.specs.declared.path.PathLink.{PathLink}
use Rattle.session_path.specs.declared.path.Stage.{Stage}
use Rattle.session_path.specs.declared.path.Stage.TheVariants as stage
use Rattle.session_path.proofs.Idle.{detaching_there}
use Rattle.session_path.proofs.SameLinks.{attach_same, disposed_same, dropped_same, flow_sent_same}
use Rattle.session_path.proofs.SameLinks.{flowed_if, flowed_same, got_links, got_same, transfer_same}
use Rattle.session_path.proofs.Tied.{Tied, tied_after}
use Rattle.session_path.proofs.Ties.{and_left, and_right, dropped, eq_of, eq_to, found_number, found_passes, keeps, keeps_number, ne_to, no_clash, numbers_found}
use Rattle.session_path.proofs.Wanted.{absent}
use Rattle.gate_model.specs.Folds.{connection, peers}
use Rattle.gate_model.specs.Giving.{AreDoneOn, MayGive}
use Rattle.gate_model.specs.Paths.{path_at}
use Rattle.gate_model.specs.Picks.{ArePicks}
use Rattle.gate_model.specs.Publishing.{MayCarry, given_event, opens_channel, path_events, path_life, step_events, up_events}
use Rattle.gate_model.specs.State.{Gave, Step, before, is_later}
use Rattle.gate_model.specs.declared.channel.SessionUnit.{SessionUnit}
use Rattle.gate_model.specs.declared.channel.SessionUnit.TheVariants as unit
use Rattle.gate_model.specs.declared.outgoing.Outgoing.TheVariants.{ToUp}
use Rattle.gate_model.specs.declared.outgoing.UpUnit.{UpUnit}
use Rattle.gate_model.specs.declared.outgoing.UpUnit.TheVariants as up
use Rattle.gate_model.proofs.Fates.{FramesAre, PublishesAre, RestsAre, carry_is, on_goes, path_of}
use Rattle.gate_model.proofs.Firsts.{OfSession, goes_up_as}
use Rattle.gate_model.proofs.Giving.{gives_up_idle}
use Rattle.gate_model.proofs.Givings.{end_all, gives_up, is_given as is_sent_event, step_all}
use Rattle.gate_model.proofs.LinkCredits.{found_filter, found_sender, inserted_other, none_there, placed_here, placed_other}
use Rattle.gate_model.proofs.LinkSteps.{IsDue, is_due}
use Rattle.gate_model.proofs.LinkUps.{is_sent, is_up, sends_up, serves_in}
use Rattle.gate_model.proofs.Receivers.{LinksAre}
use Rattle.gate_model.proofs.Releases.{life_same}

-- ---- links that carry transfers

abbrev pub is_carrier : PathLink → Bool
is_carrier l = is_stage_whole l.stage && not l.receives

abbrev pub carrier_in : Option PathLink → Bool
carrier_in None = false
carrier_in (Some l) = is_carrier l

-- the link with this number
abbrev pub carries : ℕ → List PathLink → Bool
carries n ls = carrier_in (find (has_number n) ls)

module _ (n : ℕ) where
  abbrev Whole : List PathLink → Type 0
  Whole ls = carries n ls ≡ true

  put_whole : (p : PathLink → Bool) (ls : List PathLink) (l x : PathLink) → Rises 0 ls → find p ls ≡ Some l → x.link ≡ l.link
      → (l.link ≡ n → is_carrier l ≡ true → is_carrier x ≡ true) → Whole ls → Whole (put x ls)
  put_whole p ls l x rises e number more w = by (l.link == n) refl
    where
      by : (b : Bool) → (l.link == n) ≡ b → Whole (put x ls)
      by false ne = ap carrier_in (placed_other n x ls (ap (λ (m : ℕ). m == n) number ∙ ne)) ∙ w
      by true is =
          let same : l.link ≡ n = eq_of l.link n is in
          let own : find (has_number n) ls ≡ Some l = subst (λ (m : ℕ). find (has_number m) ls ≡ Some l) same (found_number p ls l rises e) in
          ap carrier_in (placed_here n x l ls (number ∙ same) own) ∙ more same (sym (ap carrier_in own) ∙ w)

  left_whole : (stay : PathLink → Bool) (ls : List PathLink) → ((l : PathLink) → l.link ≡ n → is_carrier l ≡ true → stay l ≡ true) → Whole ls → Whole (filter stay ls)
  left_whole stay ls keep w = by (find (has_number n) ls) refl w
    where
      by : (o : Option PathLink) → find (has_number n) ls ≡ o → carrier_in o ≡ true → Whole (filter stay ls)
      by None e g = absurd cc
      by (Some l) e g = ap carrier_in (found_filter (has_number n) stay ls l e (keep l (eq_of l.link n (found_passes (has_number n) ls l e)) g)) ∙ g

  not_free : (s : LinksState) → Tied s → Whole s.links → (free_number s.links == n) ≡ false
  not_free s t w = by (free_number s.links == n) refl
    where
      by : (b : Bool) → (free_number s.links == n) ≡ b → b ≡ false
      by true e =
          absurd (no_clash (carries n s.links) w
          (subst (λ (k : ℕ). carries k s.links ≡ false) (eq_of (free_number s.links) n e) (ap carrier_in (none_there (free_number s.links) s.links (absent s.links t.rising)))))
      by false e = refl

  sends_not : (l : PathLink) → is_carrier l ≡ true → l.receives ≡ true → ⊥
  sends_not l c r = by l.receives r (and_right (is_stage_whole l.stage) (not l.receives) c)
    where
      by : (b : Bool) → b ≡ true → not b ≡ true → ⊥
      by true e f = cc
      by false e f = cc

  -- ---- links

  linked : (address : List ℕ) (s : LinksState) → Tied s → Whole s.links → Whole (linked_to address s).links
  linked address s t w = by (is_some (link_to s.sending address))
    where
      by : (b : Bool) → Whole (cond b s (with_link_to address s)).links
      by true = w
      by false = ap carrier_in (inserted_other n (free_number s.links) (free_number s.links) false s.links (not_free s t w)) ∙ w

  received : (s : LinksState) → Tied s → Whole s.links → Whole (with_receiver s).links
  received s t w = ap carrier_in (inserted_other n (free_number s.links) (free_number s.links) true s.links (not_free s t w)) ∙ w

  got : (o : Option PathLink) (s : LinksState) → Tied s → Whole s.links → Whole (got_links o s).links
  got None s t w = received s t w
  got (Some l) s t w = w

  attaches : (a : AttachHeard) (s : LinksState) → Tied s → Whole s.links → Whole (attached a s).links
  attaches a s t w = by (is_some (attach_fault a.name a.role a.peer s)) (find (is_asked_as a.name a.role) s.links) refl
    where
      up : (there : Bool) (l : PathLink) → is_carrier l ≡ true → is_carrier (answered there l) ≡ true
      up true l c = and_right (is_stage_whole l.stage) (not l.receives) c
      up false l c = and_right (is_stage_whole l.stage) (not l.receives) c

      by : (b : Bool) (o : Option PathLink) → find (is_asked_as a.name a.role) s.links ≡ o → Whole (attached_as (cond b None o) a.peer a.there s).links
      by true o e = w
      by false None e = w
      by false (Some l) e = put_whole (is_asked_as a.name a.role) s.links l (answered a.there l) t.rising e refl (λ same. up a.there l) w

  flowed : (peer : ℕ) (count : Option ℕ) (credit : ℕ) (drain echo : Bool) (s : LinksState) → Tied s → Whole s.links → Whole (link_flowed peer count credit drain echo s).links
  flowed peer count credit drain echo s t w = by (named_by s.handles peer)
    where
      at : (h : ℕ) (o : Option PathLink) → find (is_at h) s.links ≡ o → Whole (flowed_on o count credit drain echo s).links
      at h None e = w
      at h (Some l) e = put_whole (is_at h) s.links l (told_by drain echo l) t.rising e refl (λ same c. c) w

      by : (o : Option ℕ) → Whole (flowed_on (at_handle o s.links) count credit drain echo s).links
      by None = w
      by (Some h) = at h (find (is_at h) s.links) refl

  -- the detach of another
  detaches : (o : Option PathLink) (s : LinksState) → Tied s → IfSome o (λ l. (l.link == n) ≡ false) → Whole s.links → Whole (detached_on o s).links
  detaches None s t ne w = w
  detaches (Some l) s t ne w = by (is_given l)
    where
      by : (b : Bool) → Whole (cond b (dropped l.link s.links) (put (left_by s.sending l) s.links))
      by true = left_whole (λ k. not (has_number l.link k)) s.links (λ k same c. ap not (ne_to k.link l.link (λ i. no_clash (l.link == n) (eq_to l.link n (sym i ∙ same)) ne))) w
      by false = ap carrier_in (placed_other n (left_by s.sending l) s.links ne) ∙ w

  fails : (peer : ℕ) (fault : TransferFault) (s : LinksState) → Tied s → Whole s.links → Whole (link_failed peer fault s).links
  fails peer fault s t w = by (named_by s.handles peer)
    where
      at : (h : ℕ) (o : Option PathLink) → find (is_at h) s.links ≡ o → Whole (failed_on o fault s).links
      at h None e = w
      at h (Some l) e = either (is_stage_whole l.stage && l.receives) refl
        where
          either : (b : Bool) → (is_stage_whole l.stage && l.receives) ≡ b → Whole (cond b (record s { links = put (failed_by fault l) s.links }) s).links
          either true f = put_whole (is_at h) s.links l (failed_by fault l) t.rising e refl (λ same c. absurd (sends_not l c (and_right (is_stage_whole l.stage) l.receives f))) w
          either false f = w

      by : (o : Option ℕ) → Whole (failed_on (at_handle o s.links) fault s).links
      by None = w
      by (Some h) = at h (find (is_at h) s.links) refl

  asks : (name : ℕ) (s : LinksState) → Tied s → Whole s.links → Whole (link_asked name s).links
  asks name s t w = by (find is_wanted s.links) refl (free_of s.handles)
    where
      down : (g : Stage) (r : Bool) → is_stage_wanted g ≡ true → (is_stage_whole g && r) ≡ true → ⊥
      down stage.Wanted r e c = cc
      down g r e c = absurd cc

      by : (o : Option PathLink) → find is_wanted s.links ≡ o → (q : Option ℕ) → Whole (asked_on o q name s).links
      by None e q = w
      by (Some l) e None = w
      by (Some l) e (Some h) =
          put_whole is_wanted s.links l (asked_as h name l) t.rising e refl (λ same c. absurd (down l.stage (not l.receives) (found_passes is_wanted s.links l e) c)) w

  told : (list : List Publish) (s : LinksState) → Tied s → Whole s.links → Whole (told_on (flow_of list s) s).links
  told list s t w = by (flow_of list s) refl
    where
      by : (o : Option PathLink) → find (owes_flow list s.sending) s.links ≡ o → Whole (told_on o s).links
      by None e = w
      by (Some l) e = put_whole (owes_flow list s.sending) s.links l (told_once l) t.rising e refl (λ same c. c) w

  parts : (o : Option PathLink) (s : LinksState) → IfSome o (λ l. (l.link == n) ≡ false) → Whole s.links → Whole (parted o s).links
  parts None s ne w = w
  parts (Some l) s ne w = by (is_left l)
    where
      stays : (h : ℕ) (g : Stage) (r : Bool) → (is_stage_whole g && r) ≡ true → not (is_left_at h g) ≡ true
      stays h (stage.Open k) r c = refl
      stays h (stage.Refused k) r c = refl
      stays h g r c = absurd cc

      by : (b : Bool) → Whole (cond b (gone_on (Some l) s) (given_on (Some l) s)).links
      by true = left_whole (λ k. not (is_left_at (handle_of l.stage) k.stage)) s.links (λ k same c. stays (handle_of l.stage) k.stage (not k.receives) c) w
      by false = ap carrier_in (placed_other n (given_by l) s.links ne) ∙ w

  -- ---- events

  -- it doesn't detach the link, or lose all
  abbrev pub Spares : PathEvent → PathState → Type 0
  Spares (event.DetachCame peer not_found) s = IfSome (named peer s.links) (λ l. (l.link == n) ≡ false)
  Spares event.DetachSent s = IfSome (detaching_of s) (λ l. (l.link == n) ≡ false)
  Spares event.SessionLost s = ⊥
  Spares event.SessionEnded s = ⊥
  Spares event.UpLost s = ⊥
  Spares x s = Unit {0}

  flow_came : (peer : ℕ) (count : Option ℕ) (credit : ℕ) (drain echo : Bool) (s : PathState) → Tied s.links → Whole s.links.links
      → Whole (after_event (event.FlowCame peer count credit drain echo) s).links.links
  flow_came peer count credit drain echo s t w =
      subst (λ (z : LinksState). Whole z.links) (sym (flowed_same (receiver_in (named peer s.links)) peer count credit drain echo s)) (by (receiver_in (named peer s.links)))
    where
      by : (o : Option PathLink) → Whole (flowed_if o peer count credit drain echo s.links).links
      by None = flowed peer count credit drain echo s.links t w
      by (Some l) = w

  flow_went : (s : PathState) → Tied s.links → Whole s.links.links → Whole (after_event event.LinkFlowSent s).links.links
  flow_went s t w = subst (λ (z : LinksState). Whole z.links) (sym (flow_sent_same s)) (by (is_grant_next s))
    where
      by : (b : Bool) → Whole (cond b s.links (told_on (flow_of s.publishes.list s.links) s.links)).links
      by true = w
      by false = told s.publishes.list s.links t w

  pub whole_after : (x : PathEvent) (s : PathState) → Tied s.links → Spares x s → Whole s.links.links → Whole (after_event x s).links.links
  whole_after (event.Published address payload back) s t ne w = linked address s.links t w
  whole_after (event.Consumed address tag no_ack no_wait) s t ne w = received s.links t w
  whole_after (event.Declared queue no_wait) s t ne w = received s.links t w
  whole_after (event.GetAsked queue no_ack) s t ne w =
      subst (λ (z : LinksState). Whole z.links) (sym (got_same (get_link (queue_or s.queue queue) s) (queue_or s.queue queue) no_ack s)) (got (get_link (queue_or s.queue queue) s) s.links t w)
  whole_after (event.AttachCame a) s t ne w =
      subst (λ (z : LinksState). Whole z.links) (sym (attach_same (asked_by a s.links) a (record s { links = attached a s.links }))) (attaches a s.links t w)
  whole_after (event.FlowCame peer count credit drain echo) s t ne w = flow_came peer count credit drain echo s t w
  whole_after (event.DetachCame peer not_found) s t ne w = detaches (named peer s.links) s.links t ne w
  whole_after (event.TransferCame peer part payload image again) s t ne w =
      subst (λ (z : LinksState). Whole z.links) (sym (transfer_same (taking peer s) part payload image again s)) w
  whole_after (event.LinkFailed peer fault) s t ne w = fails peer fault s.links t w
  whole_after (event.AttachSent name) s t ne w = asks name s.links t w
  whole_after event.LinkFlowSent s t ne w = flow_went s t w
  whole_after event.DisposeSent s t ne w = subst (λ (z : LinksState). Whole z.links) (sym (disposed_same (next_settle_of s.deliveries.list) s)) w
  whole_after event.DetachSent s t ne w =
      subst (λ (z : LinksState). Whole z.links) (sym (dropped_same (detaching_of s) (record s { links = parted (detaching_of s) s.links }))) (parts (detaching_of s) s.links ne w)
  whole_after event.LifeClosed s t ne w = left_whole (λ l. not (is_wanted_receiver l)) s.links.links (λ l same c. stays l.stage l.receives c) w
    where
      stays : (g : Stage) (r : Bool) → (is_stage_whole g && not r) ≡ true → not (is_stage_wanted g && r) ≡ true
      stays (stage.Open k) r c = refl
      stays (stage.Refused k) r c = refl
      stays g r c = absurd cc
  whole_after event.SessionLost s t ne w = absurd ne
  whole_after event.SessionEnded s t ne w = absurd ne
  whole_after event.UpLost s t ne w = absurd ne
  whole_after x s t ne w = w

-- ---- a sending link that can send

up_whole : (g : Stage) → is_up g ≡ true → ((is_stage_left g || is_stage_failed g) || is_stage_given g) ≡ false → is_stage_whole g ≡ true
up_whole (stage.Open h) u p = refl
up_whole (stage.Refused h) u p = refl
up_whole g u p = absurd cc

kept_there : (x : SendingLink) (ls : List PathLink) → Rises 0 ls → is_kept ls x ≡ true → (l : PathLink) × (find (has_number l.link) ls ≡ Some l) × (keeps x l ≡ true)
kept_there x ls r e = at ls (numbers_found 0 ls r) e
  where
    at : (ks : List PathLink) → AllByRecursion (λ k. find (has_number k.link) ls ≡ Some k) ks → is_kept ks x ≡ true → (l : PathLink) × (find (has_number l.link) ls ≡ Some l) × (keeps x l ≡ true)
    at [] a e = absurd cc
    at (k ∷ ks) a e = by (keeps x k) refl e (at ks a.1)
      where
        by : (b : Bool) → keeps x k ≡ b → (b || is_kept ks x) ≡ true → (is_kept ks x ≡ true → (l : PathLink) × (find (has_number l.link) ls ≡ Some l) × (keeps x l ≡ true))
            → (l : PathLink) × (find (has_number l.link) ls ≡ Some l) × (keeps x l ≡ true)
        by true i f rest = (k, a.0, i)
        by false i f rest = rest f

can_carry : (life n : ℕ) (es : List PathEvent) → can_send (link_of (after_events life es).links.sending n) ≡ true → carries n (after_events life es).links.links ≡ true
can_carry life n es can = by (link_of s.sending n) refl can
  where
    s : LinksState
    s = (after_events life es).links

    t : Tied s
    t = tied_after life es

    by : (o : Option SendingLink) → link_of s.sending n ≡ o → can_send o ≡ true → carries n s.links ≡ true
    by None e c = absurd cc
    by (Some x) e c =
        let number : x.link ≡ n = found_sender n s.sending x e in
        let fit = sends_up n life es (ap is_sent e ∙ and_left x.attached _ c) in
        let k = kept_there x s.links t.rising (all_kept x e) in
        let same : k.0.link ≡ n = keeps_number x k.0 k.2 ∙ number in
        let own : find (has_number n) s.links ≡ Some k.0 = subst (λ (m : ℕ). find (has_number m) s.links ≡ Some k.0) same k.1 in
        ap carrier_in own
        ∙ both (is_stage_whole k.0.stage) (not k.0.receives) (up_whole k.0.stage (and_left _ _ (sym (ap (serves_in false) own) ∙ fit)) (not_parting (k.0.link == x.link) (is_parting k.0) (not k.0.receives) k.2))
        (and_right ((k.0.link == x.link) && not (is_parting k.0)) (not k.0.receives) k.2)
      where
        both : (a b : Bool) → a ≡ true → b ≡ true → (a && b) ≡ true
        both true b e f = f
        both false b e f = absurd cc

        not_parting : (a b c : Bool) → (a && not b && c) ≡ true → b ≡ false
        not_parting a true c f = absurd (out a f)
          where
            out : (a : Bool) → (a && not true && c) ≡ true → ⊥
            out true f = cc
            out false f = cc
        not_parting a false c f = refl

        all_kept : (x : SendingLink) → link_of s.sending n ≡ Some x → is_kept s.links x ≡ true
        all_kept x e = found (s.sending) t.kept e
          where
            found : (xs : List SendingLink) → AllByRecursion (λ y. is_kept s.links y ≡ true) xs → link_of xs n ≡ Some x → is_kept s.links x ≡ true
            found [] a e = absurd cc
            found (y ∷ ys) a e = one (y.link == n) e (found ys a.1)
              where
                one : (b : Bool) → cond b (Some y) (link_of ys n) ≡ Some x → (link_of ys n ≡ Some x → is_kept s.links x ≡ true) → is_kept s.links x ≡ true
                one true f rest = let same : y ≡ x = cc in subst (λ (z : SendingLink). is_kept s.links z ≡ true) same a.0
                one false f rest = rest f

-- ---- what goes on went on before

record Back (y : PublishEvent) (h : List PublishEvent) (k : ℕ) : Type 0 where
  taken : IsTaken h k
  goes : goes_on (fate_of k h) ≡ true
  link : (fate_of k (y ∷ h)).link ≡ (fate_of k h).link
  apart : (o : Option ℕ) (b : Bool) → y ≡ on.LinkGone o b → is_on o (fate_of k h).link ≡ false

-- a frame that goes of it is no first one
abbrev IsLater : PublishEvent → List PublishEvent → ℕ → Type 0
IsLater (on.FrameSent number first part) h k = (k == number) ≡ true → (fate_of k h).begun ≡ true
IsLater y h k = Unit {0}

back : (y : PublishEvent) (h : List PublishEvent) (k : ℕ) → IsLater y h k → IsTaken (y ∷ h) k → goes_on (fate_of k (y ∷ h)) ≡ true → Back y h k
back (on.TakenUp link confirm payload frames) h k late t g = by (k == (numbers_of h + 1)) refl g
  where
    by : (b : Bool) → (k == (numbers_of h + 1)) ≡ b → goes_on (if b then new_fate link (on.next_number confirm (confirms_of h)) payload frames else fate_of k h) ≡ true → Back (on.TakenUp link confirm payload frames) h k
    by true e f = absurd cc
    by false e f = record {
      taken = (let a : 1 ≤ k = t.0 in a, (let b : k ≤ numbers_of h + 1 = t.1 in let ne : k ≢ numbers_of h + 1 = (λ i. no_clash (k == (numbers_of h + 1)) (eq_to k (numbers_of h + 1) i) e) in omega (arith, b, ne)));
      goes = f;
      link = ap (λ (c : Bool). (if c then new_fate link (on.next_number confirm (confirms_of h)) payload frames else fate_of k h).link) e;
      apart = λ o b same. absurd cc;
    }
back (on.FrameSent number first part) h k late t g = record { taken = t; goes = by f.cut f.begun (k == number) late g; link = refl; apart = λ o b same. absurd cc }
  where
    f : Fate
    f = fate_of k h

    less : (b : Bool) → nat_lt (length (if b then f.sent ++ part else f.sent)) (length f.payload) ≡ true → nat_lt (length f.sent) (length f.payload) ≡ true
    less true e =
        let long : length (f.sent ++ part) ≡ length f.sent + length part = length-append f.sent part in
        let under : length (f.sent ++ part) < length f.payload = grind (arith, nat_tests, e) in
        let so : length f.sent < length f.payload = omega (arith, long, under) in
        grind (arith, nat_tests, so)
    less false e = e

    by : (cut begun same : Bool) → (same ≡ true → begun ≡ true) → (not cut && (begun || same) && nat_lt (length (if same then f.sent ++ part else f.sent)) (length f.payload)) ≡ true
        → (not cut && begun && nat_lt (length f.sent) (length f.payload)) ≡ true
    by true begun same l e = absurd (out begun same e)
      where
        out : (b s : Bool) → (false && (b || s) && nat_lt (length (if s then f.sent ++ part else f.sent)) (length f.payload)) ≡ true → ⊥
        out b s e = cc
    by false true same l e = less same e
    by false false true l e = absurd (let no : false ≡ true = l refl in cc)
    by false false false l e = absurd cc
back (on.OutcomeCame first last outcome) h k late t g = record { taken = t; goes = g; link = refl; apart = λ o b same. absurd cc }
back (on.LinkGone link not_found) h k late t g = record {
  taken = t;
  goes = (by f.cut (is_on link f.link) _ g).0;
  link = refl;
  apart = λ o b same. subst (λ (q : Option ℕ). is_on q f.link ≡ false) (gone same) (by f.cut (is_on link f.link) _ g).1;
}
  where
    f : Fate
    f = fate_of k h

    gone : {o q : Option ℕ} {b c : Bool} → on.LinkGone o b ≡ on.LinkGone q c → o ≡ q
    gone e = cc

    by : (cut here rest : Bool) → (not (cut || here) && f.begun && rest) ≡ true → ((not cut && f.begun && rest) ≡ true) × (here ≡ false)
    by true here rest e = absurd (out f.begun rest e)
      where
        out : (b r : Bool) → (false && b && r) ≡ true → ⊥
        out b r e = cc
    by false true rest e = absurd (out f.begun rest e)
      where
        out : (b r : Bool) → (false && b && r) ≡ true → ⊥
        out b r e = cc
    by false false rest e = (e, refl)
back (on.ReturnSent number) h k late t g = record { taken = t; goes = g; link = refl; apart = λ o b same. absurd cc }
back (on.ConfirmSent c) h k late t g = record { taken = t; goes = g; link = refl; apart = λ o b same. absurd cc }
back on.LinesTold h k late t g = record { taken = t; goes = g; link = refl; apart = λ o b same. absurd cc }

-- ---- the events of a life

module _ (life : ℕ) where
  abbrev at : List PathEvent → PathState
  at es = after_events life es

  abbrev ps : List PathEvent → List PublishEvent
  ps es = publishes_of life es

  -- each that goes on is on such a link
  abbrev pub Carries : List PathEvent → Type 0
  Carries es = (k : ℕ) → IsTaken (ps es) k → goes_on (fate_of k (ps es)) ≡ true → carries (fate_of k (ps es)).link (at es).links.links ≡ true

  -- what a frame and a detach that go owe
  abbrev pub Owes : PathEvent → List PathEvent → Type 0
  Owes (event.TransferSent frame count) es = frame_by (at es).links.sending (ps es) ≡ Some frame
  Owes event.DetachSent es = (k : ℕ) → IsTaken (ps es) k → goes_on (fate_of k (ps es)) ≡ true → carries (fate_of k (ps es)).link (at es).links.links ≡ true
      → IfSome (detaching_of (at es)) (λ l. (l.link == (fate_of k (ps es)).link) ≡ false)
  Owes x es = Unit {0}

  one : (x : PathEvent) (y : PublishEvent) (es : List PathEvent) → Carries es → publishes_of life (x ∷ es) ≡ y ∷ ps es
      → ((k : ℕ) → IsLater y (ps es) k) → ((k : ℕ) → Back y (ps es) k → carries (fate_of k (ps es)).link (at es).links.links ≡ true → Spares (fate_of k (ps es)).link x (at es)) → Carries (x ∷ es)
  one x y es old is late spares k t g =
      let b = back y (ps es) k (late k) (subst (λ (h : List PublishEvent). IsTaken h k) is t) (subst (λ (h : List PublishEvent). goes_on (fate_of k h) ≡ true) is g) in
      let was = old k b.taken b.goes in
      subst (λ (m : ℕ). carries m (at (x ∷ es)).links.links ≡ true) (sym b.link ∙ ap (λ (h : List PublishEvent). (fate_of k h).link) (sym is))
      (whole_after (fate_of k (ps es)).link x (at es) (tied_after life es) (spares k b was) was)

  -- the container's detach
  parted_apart : (n peer : ℕ) (o : Option PathLink) (es : List PathEvent) → named peer (at es).links ≡ o → carries n (at es).links.links ≡ true
      → ((l : PathLink) → o ≡ Some l → l.receives ≡ false → (l.link == n) ≡ false) → IfSome o (λ l. (l.link == n) ≡ false)
  parted_apart n peer None es e w f = tt
  parted_apart n peer (Some l) es e w f = role l.receives refl
    where
      found_at : (q : Option ℕ) → at_handle q (at es).links.links ≡ Some l → find (has_number l.link) (at es).links.links ≡ Some l
      found_at None i = absurd cc
      found_at (Some h) i = found_number (is_at h) (at es).links.links l (tied_after life es).rising i

      role : (b : Bool) → l.receives ≡ b → (l.link == n) ≡ false
      role false r = f l refl r
      role true r = by (l.link == n) refl
        where
          by : (b : Bool) → (l.link == n) ≡ b → b ≡ false
          by true i =
              let own : find (has_number n) (at es).links.links ≡ Some l = subst (λ (m : ℕ). find (has_number m) (at es).links.links ≡ Some l) (eq_of l.link n i) (found_at (named_by (at es).links.handles peer) e) in
              absurd (sends_not n l (sym (ap carrier_in own) ∙ w) r)
          by false i = refl

  detached : (peer : ℕ) (not_found : Bool) (es : List PathEvent) → Carries es → Carries (event.DetachCame peer not_found ∷ es)
  detached peer not_found es old = by (named peer (at es).links) refl
    where
      x : PathEvent
      x = event.DetachCame peer not_found

      turned : (i j : ℕ) → (i == j) ≡ false → (j == i) ≡ false
      turned i j e = ne_to j i (λ same. no_clash (i == j) (eq_to i j (sym same)) e)

      none : (o : Option PathLink) → named peer (at es).links ≡ o → losses not_found (sender_in o) ≡ [] → ((l : PathLink) → o ≡ Some l → l.receives ≡ false → ⊥) → Carries (x ∷ es)
      none o e lost never k t g =
          let is : ps (x ∷ es) ≡ ps es = ap (λ (q : Option PathLink). losses not_found (sender_in q) ++ ps es) e ∙ ap (λ (ys : List PublishEvent). ys ++ ps es) lost in
          let was = old k (subst (λ (h : List PublishEvent). IsTaken h k) is t) (subst (λ (h : List PublishEvent). goes_on (fate_of k h) ≡ true) is g) in
          subst (λ (m : ℕ). carries m (at (x ∷ es)).links.links ≡ true) (ap (λ (h : List PublishEvent). (fate_of k h).link) (sym is))
          (whole_after (fate_of k (ps es)).link x (at es) (tied_after life es)
          (subst (λ (q : Option PathLink). IfSome q (λ l. (l.link == (fate_of k (ps es)).link) ≡ false)) (sym e)
          (parted_apart (fate_of k (ps es)).link peer o es e was (λ l i r. absurd (never l i r)))) was)

      by : (o : Option PathLink) → named peer (at es).links ≡ o → Carries (x ∷ es)
      by None e = none None e refl (λ l i r. absurd cc)
      by (Some l) e = role l.receives refl
        where
          role : (b : Bool) → l.receives ≡ b → Carries (x ∷ es)
          role true r =
              none (Some l) e (ap (λ (b : Bool). losses not_found (if b then None else Some l)) r)
              (λ m i s. no_clash l.receives r (let same : l ≡ m = cc in ap (λ (z : PathLink). z.receives) same ∙ s))
          role false r =
              one x (on.LinkGone (Some l.link) not_found) es old
              (ap (λ (q : Option PathLink). losses not_found (sender_in q) ++ ps es) e ∙ ap (λ (b : Bool). losses not_found (if b then None else Some l) ++ ps es) r)
              (λ k. tt)
              (λ k b w. subst (λ (q : Option PathLink). IfSome q (λ m. (m.link == (fate_of k (ps es)).link) ≡ false)) (sym e)
              (turned (fate_of k (ps es)).link l.link (b.apart (Some l.link) not_found refl)))

  -- a frame goes of one that goes on, or of one whose link has credit
  framed : (frame : NextFrame) (count : ℕ) (es : List PathEvent) → frame_by (at es).links.sending (ps es) ≡ Some frame → Carries es → Carries (event.TransferSent frame count ∷ es)
  framed frame count es due old k t g = by ((k == frame.publish) && not (fate_of k (ps es)).begun) refl
    where
      x : PathEvent
      x = event.TransferSent frame count

      later : (a b : Bool) → (a && not b) ≡ false → a ≡ true → b ≡ true
      later true true e f = refl
      later true false e f = absurd cc
      later false b e f = absurd cc

      off : (b : Bool) → not b ≡ true → b ≡ false
      off true e = absurd cc
      off false e = refl

      links_same : carries (fate_of k (ps es)).link (at es).links.links ≡ true → carries (fate_of k (ps (x ∷ es))).link (at (x ∷ es)).links.links ≡ true
      links_same w = w

      begun_on : goes_on (fate_of k (ps es)) ≡ true → (fate_of k (ps es)).begun ≡ true
      begun_on e = out (fate_of k (ps es)).cut (fate_of k (ps es)).begun _ e
        where
          out : (a b c : Bool) → (not a && b && c) ≡ true → b ≡ true
          out false true c f = refl
          out false false c f = absurd cc
          out true b c f = absurd (no b c f)
            where
              no : (b c : Bool) → (false && b && c) ≡ true → ⊥
              no b c f = cc

      new : (k ≡ frame.publish) → (fate_of k (ps es)).begun ≡ false → carries (fate_of k (ps es)).link (at es).links.links ≡ true
      new same begun = first (least (λ m. goes_on (fate_of m (ps es))) (numbers_of (ps es))) (least (λ m. may_begin (at es).links.sending (fate_of m (ps es))) (numbers_of (ps es))) refl refl due
        where
          first : (a b : Option ℕ) → least (λ m. goes_on (fate_of m (ps es))) (numbers_of (ps es)) ≡ a → least (λ m. may_begin (at es).links.sending (fate_of m (ps es))) (numbers_of (ps es)) ≡ b
              → option_or (option_map (frame_at false (ps es)) a) (option_map (frame_at true (ps es)) b) ≡ Some frame → carries (fate_of k (ps es)).link (at es).links.links ≡ true
          first (Some m) b i j e =
              let is : frame_at false (ps es) m ≡ frame = cc in
              let number : m ≡ k = ap (λ (f : NextFrame). f.publish) is ∙ sym same in
              let goes : goes_on (fate_of m (ps es)) ≡ true = (least_is (λ m. goes_on (fate_of m (ps es))) (numbers_of (ps es)) m i).2 in
              absurd (no_clash (fate_of k (ps es)).begun (begun_on (subst (λ (q : ℕ). goes_on (fate_of q (ps es)) ≡ true) number goes)) begun)
          first None (Some m) i j e =
              let is : frame_at true (ps es) m ≡ frame = cc in
              let number : m ≡ k = ap (λ (f : NextFrame). f.publish) is ∙ sym same in
              let may : may_begin (at es).links.sending (fate_of m (ps es)) ≡ true = (least_is (λ m. may_begin (at es).links.sending (fate_of m (ps es))) (numbers_of (ps es)) m j).2 in
              can_carry life (fate_of k (ps es)).link es
              (subst (λ (q : ℕ). can_send (link_of (at es).links.sending (fate_of q (ps es)).link) ≡ true) number (and_right _ (can_send (link_of (at es).links.sending (fate_of m (ps es)).link)) may))
          first None None i j e = absurd cc

      by : (b : Bool) → ((k == frame.publish) && not (fate_of k (ps es)).begun) ≡ b → carries (fate_of k (ps (x ∷ es))).link (at (x ∷ es)).links.links ≡ true
      by true e = links_same (new (eq_of k frame.publish (and_left _ _ e)) (off (fate_of k (ps es)).begun (and_right (k == frame.publish) _ e)))
      by false e = let b = back (frame_sent frame count (at es).publishes.list) (ps es) k (later (k == frame.publish) (fate_of k (ps es)).begun e) t g in links_same (old k b.taken b.goes)

  pub carries_after : (x : PathEvent) (es : List PathEvent) → Owes x es → Carries es → Carries (x ∷ es)
  carries_after (event.Published address payload back) es o old = one (event.Published address payload back) _ es old refl (λ k. tt) (λ k b w. tt)
  carries_after (event.DetachCame peer not_found) es o old = detached peer not_found es old
  carries_after (event.DispositionCame first last outcome settled) es o old = one (event.DispositionCame first last outcome settled) _ es old refl (λ k. tt) (λ k b w. tt)
  carries_after (event.TransferSent frame count) es o old = framed frame count es o old
  carries_after event.DetachSent es o old = λ k t g. let w = old k t g in whole_after (fate_of k (ps es)).link event.DetachSent (at es) (tied_after life es) (o k t g w) w
  carries_after (event.ConfirmWent confirm) es o old = one (event.ConfirmWent confirm) _ es old refl (λ k. tt) (λ k b w. tt)
  carries_after (event.ReturnWent number) es o old = one (event.ReturnWent number) _ es old refl (λ k. tt) (λ k b w. tt)
  carries_after event.LinesWent es o old = one event.LinesWent _ es old refl (λ k. tt) (λ k b w. tt)
  carries_after event.SessionLost es o old = one event.SessionLost _ es old refl (λ k. tt) (λ k b w. let no : true ≡ false = b.apart None false refl in absurd cc)
  carries_after event.SessionEnded es o old = one event.SessionEnded _ es old refl (λ k. tt) (λ k b w. let no : true ≡ false = b.apart None false refl in absurd cc)
  carries_after event.UpLost es o old = one event.UpLost _ es old refl (λ k. tt) (λ k b w. let no : true ≡ false = b.apart None false refl in absurd cc)
  carries_after x es o old = λ k t g. whole_after (fate_of k (ps es)).link x (at es) (tied_after life es) tt (old k t g)

  owes_none : (x : PathEvent) (es : List PathEvent) → is_sent_event x ≡ false → Owes x es
  owes_none (event.TransferSent frame count) es e = absurd cc
  owes_none event.DetachSent es e = absurd cc
  owes_none x es e = tt

  pub all_carry : (xs es : List PathEvent) → AllByRecursion (λ x. is_sent_event x ≡ false) xs → Carries es → Carries (xs ++ es)
  all_carry [] es a old = old
  all_carry (x ∷ xs) es a old = carries_after x (xs ++ es) (owes_none x (xs ++ es) a.0) (all_carry xs es a.1 old)

-- ---- all steps

module _ (publishes : PublishesAre) (frames : FramesAre) (rests : RestsAre) (tied : LinksAre) (n life : ℕ) (below : n ≤ CHANNEL_MAX) where
  abbrev On : List PathEvent → Type 0
  On es = Carries life es

  module _ (h : List Step) (p : ArePicks h) (lives : path_life h n ≡ Some life) (old : On (path_events h n)) where
    abbrev es : List PathEvent
    es = path_events h n

    abbrev s : PathState
    s = after_events life es

    -- none goes on on a link that is detached
    gone : (link : ℕ) → AreDoneOn h n link → (x : PathLink) → detaching_of s ≡ Some x → link ≡ x.link → Owes life event.DetachSent es
    gone link done x e same k t g w = subst (λ (o : Option PathLink). IfSome o (λ l. (l.link == m) ≡ false)) (sym e) (by (x.link == m) refl)
      where
        m : ℕ
        m = (fate_of k (publishes_of life es)).link

        there : IsThere s.links x
        there = subst (λ (o : Option PathLink). IfSome o (IsThere s.links)) e (detaching_there s.publishes.list s.deliveries s.oks s.links (tied_after life es).rising)

        up : (g : Stage) → is_stage_whole g ≡ true → (is_stage_left g ≡ false → (is_stage_open g || is_stage_failed g) ≡ true) → is_stage_open g ≡ true
        up (stage.Open i) c f = refl
        up (stage.Refused i) c f = f refl
        up g c f = absurd cc

        off : (b : Bool) → not b ≡ true → b ≡ false
        off true f = absurd cc
        off false f = refl

        by : (b : Bool) → (x.link == m) ≡ b → b ≡ false
        by true i =
            let number : x.link ≡ m = eq_of x.link m i in
            let carrier : is_carrier x ≡ true = sym (ap carrier_in (subst (λ (j : ℕ). find (has_number j) s.links.links ≡ Some x) number there.0)) ∙ w in
            let found : find (has_number link) s.links.links ≡ Some x = ap (λ (j : ℕ). find (has_number j) s.links.links) same ∙ there.0 in
            let all = done life x lives found (off x.receives (and_right (is_stage_whole x.stage) (not x.receives) carrier)) (up x.stage (and_left (is_stage_whole x.stage) _ carrier) there.1) in
            absurd (no_clash _ (on_goes (fate_of k (publishes_of life es)) g) (all k t (sym number ∙ sym same)).0)
        by false i = refl

    now : path_at (before h).paths n ≡ s
    now = path_of h n life p below lives

    unit_carries : (u : SessionUnit) (text : List ℕ) → MayCarry h (up.OnSession n u) text → MayGive h (up.OnSession n u) → IsDue (before h) n u → On (given_event u ∷ es)
    unit_carries (unit.Transfer t) text may give d =
        carries_after life (event.TransferSent t.frame t.bytes) es
        (subst (λ (j : ℕ). frame_by (after_events j es).links.sending (publishes_of j es) ≡ Some t.frame) (life_same (sym may.lives ∙ lives)) may.frame) old
    unit_carries (unit.Detach link handle why) text may give d = carries_after life event.DetachSent es (gone link give d.0 (ap detaching_of (sym now) ∙ d.1) d.2.0) old
    unit_carries (unit.Attach a) text may give d = carries_after life (event.AttachSent a.name) es tt old
    unit_carries (unit.Flow f) text may give d = carries_after life event.LinkFlowSent es tt old
    unit_carries (unit.Dispose x) text may give d = carries_after life event.DisposeSent es tt old
    unit_carries (unit.Settle x) text may give d = carries_after life (event.SettleSent x) es tt old

    up_carries : (later : Bool) (u : UpUnit) (text : List ℕ) → MayCarry h u text → MayGive h u → OfSession (IsDue (before h)) u → On (up_events later n u ++ es)
    up_carries later (up.OnSession m u) text may give d = by (m == n) refl
      where
        by : (b : Bool) → (m == n) ≡ b → On ((if b then given_event u ∷ [] else []) ++ es)
        by true e =
            let same : m ≡ n = eq_of m n e in
            unit_carries u text (subst (λ (i : ℕ). MayCarry h (up.OnSession i u) text) same may) (subst (λ (i : ℕ). MayGive h (up.OnSession i u)) same give) (subst (λ (i : ℕ). IsDue (before h) i u) same d)
        by false e = old
    up_carries later (up.End m why) text may give d = all_carry life (up_events later n (up.End m why)) es (end_all (λ x. is_sent_event x ≡ false) (λ x e. e) later n m why) old
    up_carries later u text may give d = old

  other_carries : (step : Step) (h : List Step) → gives_up step ≡ false → (path_life h n ≡ Some life → On (path_events h n)) → path_life (step ∷ h) n ≡ Some life
      → On (path_events (step ∷ h) n)
  other_carries step h e old l = by (opens_channel n h step) l
    where
      none : (k : ℕ) → IsTaken [] k → ⊥
      none k t = let a : 1 ≤ k = t.0 in let b : k ≤ 0 = t.1 in omega (arith, a, b)

      by : (b : Bool) → (if b then Some ((peers h).opened + 1) else path_life h n) ≡ Some life → On (if b then [] else step_events n h step ++ path_events h n)
      by true l = λ k t g. absurd (none k t)
      by false l = all_carry life (step_events n h step) (path_events h n) (step_all (λ x. is_sent_event x ≡ false) (λ x e. e) n h step e) (old l)

  pub all_carried : (h : List Step) → ArePicks h → path_life h n ≡ Some life → On (path_events h n)
  all_carried [] p l = absurd cc
  all_carried (Gave (ToUp u) text ∷ h) p l =
      up_carries h p.1 l (all_carried h p.1 l) (is_later (connection h) u) u text (carry_is publishes frames rests h u text p.1 p.0.1 p.0.2)
      (gives_up_idle publishes tied (Gave (ToUp u) text ∷ h) p).0 (goes_up_as (IsDue (before h)) (before h) u (is_due (before h)) p.0.1)
  all_carried (s ∷ h) p l = other_carries s h refl (all_carried h p.1) l

  -- the frame that goes is on such a link
  pub frame_carried : (h : List Step) → ArePicks h → path_life h n ≡ Some life → (frame : NextFrame)
      → frame_by (after_events life (path_events h n)).links.sending (publishes_of life (path_events h n)) ≡ Some frame
      → carries frame.link (after_events life (path_events h n)).links.links ≡ true
  frame_carried h p l frame e = by (least (λ m. goes_on (fate_of m ds)) (numbers_of ds)) (least (λ m. may_begin sending (fate_of m ds)) (numbers_of ds)) refl refl e
    where
      es : List PathEvent
      es = path_events h n

      ds : List PublishEvent
      ds = publishes_of life es

      sending : List SendingLink
      sending = (after_events life es).links.sending

      by : (a b : Option ℕ) → least (λ m. goes_on (fate_of m ds)) (numbers_of ds) ≡ a → least (λ m. may_begin sending (fate_of m ds)) (numbers_of ds) ≡ b
          → option_or (option_map (frame_at false ds) a) (option_map (frame_at true ds) b) ≡ Some frame → carries frame.link (after_events life es).links.links ≡ true
      by (Some m) b i j f =
          let is : frame_at false ds m ≡ frame = cc in
          let r = least_is (λ m. goes_on (fate_of m ds)) (numbers_of ds) m i in
          subst (λ (z : NextFrame). carries z.link (after_events life es).links.links ≡ true) is (all_carried h p l m (r.0, r.1) r.2)
      by None (Some m) i j f =
          let is : frame_at true ds m ≡ frame = cc in
          let r = least_is (λ m. may_begin sending (fate_of m ds)) (numbers_of ds) m j in
          subst (λ (z : NextFrame). carries z.link (after_events life es).links.links ≡ true) is (can_carry life (fate_of m ds).link es (and_right _ (can_send (link_of sending (fate_of m ds).link)) r.2))
      by None None i j f = absurd cc
