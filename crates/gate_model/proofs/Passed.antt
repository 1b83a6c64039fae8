-- The stage of a link is failed exactly while a transfer passed a limit of it, and the container didn't detach it.
use Rattle.std.proofs.Common.{◌≡◌, ◌∙◌, ℕ, ◌==◌, not, ◌&&◌, ◌||◌, Bool, true, false, if◌then◌else◌, cond, List, [], ◌∷◌, Option, None, Some}
use Rattle.std.proofs.Common.{refl, sym, ap, subst}
use Rattle.std.specs.List.{AllByRecursion}
use Rattle.std.specs.Prelude.{IfSome, find, is_some}
use Rattle.open_items.proofs.Filtered.{all_both, all_filter, all_find, all_map, all_weaker}
use Rattle.consume_path.specs.Offers.{next_settle_of}
use Rattle.consume_path.specs.declared.receiving.TransferFault.{TransferFault}
use Rattle.performatives_10.specs.declared.condition.Condition.{Condition}
use Rattle.publish_path.specs.Links.{link_to}
use Rattle.publish_path.specs.declared.publish.Publish.{Publish}
use Rattle.session_path.specs.Due.{next_detach}
use Rattle.session_path.specs.Events as event
use Rattle.session_path.specs.Events.{PathEvent, after_event, after_events}
use Rattle.session_path.specs.Links.{LinksState, Rises, answered, asked_as, asked_by, asked_on, at_handle, attach_fault}
use Rattle.session_path.specs.Links.{attached, attached_as, detached_on, error_of, failed_by, failed_on, link_failed}
use Rattle.session_path.specs.Links.{flowed_on, free_number, given_by, given_on, gone_on, has_number, is_asked_as, is_at, is_given, is_left}
use Rattle.session_path.specs.Links.{is_stage_asked, is_stage_failed, is_stage_given, is_stage_left, is_stage_open, is_stage_wanted, is_stage_whole, is_wanted, left_by, link_asked, link_detached}
use Rattle.session_path.specs.Links.{link_flowed, linked_to, named, parted, put, put_for, told_by, told_on, told_once, wanted_link, with_link_to}
use Rattle.session_path.specs.Links.{with_receiver}
use Rattle.session_path.specs.Path.{IsThere, PathState, detaching_of, flow_of, get_link, is_grant_next, owes_flow, queue_or, receiver_in, taking}
use Rattle.session_path.specs.Path.{taking_in}
use Rattle.session_path.specs.declared.path.AttachHeard.{AttachHeard}
use Rattle.session_path.specs.declared.path.PathLink.{PathLink}
use Rattle.session_path.specs.declared.path.Stage.{Stage}
use Rattle.session_path.specs.declared.path.Stage.TheVariants.{Asked, Given, Wanted}
use Rattle.session_path.proofs.Idle.{detaching_there}
use Rattle.session_path.proofs.SameLinks.{attach_same, disposed_same, dropped_same, flow_sent_same, flowed_if, flowed_same, got_links, got_same}
use Rattle.session_path.proofs.SameLinks.{transfer_same}
use Rattle.session_path.proofs.Ties.{dropped, eq_to, found_number, found_passes, numbers_found}
use Rattle.session_path.proofs.Wanted.{absent, all_insert}
use Rattle.gate_model.specs.declared.channel.SessionUnit.TheVariants as unit
use Rattle.gate_model.specs.declared.outgoing.Outgoing.TheVariants.{ToUp}
use Rattle.gate_model.specs.declared.outgoing.UpUnit.{UpUnit}
use Rattle.gate_model.specs.declared.outgoing.UpUnit.TheVariants as up
use Rattle.gate_model.specs.Passed.{MayPart, StatesPassed, is_that_link, passed_by, passed_in}
use Rattle.gate_model.specs.Paths.{error_for}
use Rattle.gate_model.specs.Picks.{ArePicks}
use Rattle.gate_model.specs.Publishing.{path_events, path_life}
use Rattle.gate_model.specs.State.{Gave, Step, before}
use Rattle.gate_model.proofs.Basics.{and_left}
use Rattle.gate_model.proofs.Detaching.{DetachGoes, MayDetach, may_detach}
use Rattle.gate_model.proofs.Fates.{path_of}
use Rattle.gate_model.proofs.Quotas.{turned}
use Rattle.gate_model.proofs.Receivers.{LinksAre}
use Rattle.gate_model.proofs.Rests.{LivesBelow}

-- ---- lists

find_none : {A : Type 0} (p : A → Bool) (xs : List A) → AllByRecursion (λ (x : A). p x ≡ false) xs → find p xs ≡ None
find_none p [] a = refl
find_none p (x ∷ xs) a = ap (λ (b : Bool). cond b (Some x) (find p xs)) a.0 ∙ find_none p xs a.1

-- ---- stages

asked_none : (x : Stage) → is_stage_asked x ≡ true → (is_stage_given x ≡ false) × (error_of x ≡ None)
asked_none (Asked h) e = (refl, refl)
asked_none x e = absurd cc

wanted_none : (x : Stage) → is_stage_wanted x ≡ true → (is_stage_given x ≡ false) × (error_of x ≡ None)
wanted_none Wanted e = (refl, refl)
wanted_none x e = absurd cc

-- ---- what is said of each link that the gateway didn't detach, before an event and after it

module _ (F : ℕ → Option TransferFault) where
  abbrev Fine : PathLink → Type 0
  Fine l = is_given l ≡ false → error_of l.stage ≡ F l.link

  abbrev AreFine : List PathLink → Type 0
  AreFine ls = AllByRecursion Fine ls

  -- all but the link with this number
  abbrev AreElse : ℕ → List PathLink → Type 0
  AreElse n ls = AllByRecursion (λ l. (l.link == n) ≡ false → Fine l) ls

  put_fine : (x : PathLink) (ls : List PathLink) → Fine x → AreElse x.link ls → AreFine (put x ls)
  put_fine x ls new old = all_map (put_for x) (λ l. (l.link == x.link) ≡ false → Fine l) Fine (λ k h. one k (k.link == x.link) refl h) ls old
    where
      one : (k : PathLink) (b : Bool) → (k.link == x.link) ≡ b → ((k.link == x.link) ≡ false → Fine k) → Fine (cond b x k)
      one k true e h = new
      one k false e h = h e

  put_over : (x : PathLink) (ls : List PathLink) → Fine x → AreFine ls → AreFine (put x ls)
  put_over x ls new old = put_fine x ls new (all_weaker Fine _ (λ l f e. f) ls old)

  without : (n : ℕ) (ls : List PathLink) → AreElse n ls → AreFine (dropped n ls)
  without n [] a = tt
  without n (l ∷ ls) a = by (l.link == n) refl (without n ls a.1)
    where
      by : (b : Bool) → (l.link == n) ≡ b → AreFine (dropped n ls) → AreFine (cond (not b) (l ∷ dropped n ls) (dropped n ls))
      by true e rest = rest
      by false e rest = (a.0 e, rest)

  found : (p : PathLink → Bool) (ls : List PathLink) (l : PathLink) → AreFine ls → find p ls ≡ Some l → Fine l
  found p ls l a e = (all_find Fine p ls l a e).0

  at_fine : (o : Option ℕ) (s : LinksState) (l : PathLink) → AreFine s.links → at_handle o s.links ≡ Some l → Fine l
  at_fine None s l a e = absurd cc
  at_fine (Some h) s l a e = found (is_at h) s.links l a e

  -- a new one
  new_fine : (n : ℕ) (receives : Bool) → F n ≡ None → Fine (wanted_link n receives)
  new_fine n receives e = λ g. sym e

  -- one without an error stays without
  calm : (l k : PathLink) → k.link ≡ l.link → is_given l ≡ false → error_of l.stage ≡ None → error_of k.stage ≡ None → Fine l → Fine k
  calm l k same given none still f = λ g. still ∙ sym none ∙ f given ∙ ap F (sym same)

  module _ (s : LinksState) (free : F (free_number s.links) ≡ None) where
    linked : (address : List ℕ) → AreFine s.links → AreFine (linked_to address s).links
    linked address a = by (is_some (link_to s.sending address))
      where
        by : (b : Bool) → AreFine (cond b s (with_link_to address s)).links
        by true = a
        by false = all_insert Fine s.links (free_number s.links) (wanted_link (free_number s.links) false) a (new_fine (free_number s.links) false free)

    received : AreFine s.links → AreFine (with_receiver s).links
    received a = all_insert Fine s.links (free_number s.links) (wanted_link (free_number s.links) true) a (new_fine (free_number s.links) true free)

    gets : (o : Option PathLink) → AreFine s.links → AreFine (got_links o s).links
    gets None a = received a
    gets (Some l) a = a

  attaches : (a : AttachHeard) (s : LinksState) → AreFine s.links → AreFine (attached a s).links
  attaches a s u = by (is_some (attach_fault a.name a.role a.peer s)) (find (is_asked_as a.name a.role) s.links) refl
    where
      there : (b : Bool) (l : PathLink) → error_of (answered b l).stage ≡ None
      there true l = refl
      there false l = refl

      by : (b : Bool) (o : Option PathLink) → find (is_asked_as a.name a.role) s.links ≡ o → AreFine (attached_as (cond b None o) a.peer a.there s).links
      by true o e = u
      by false None e = u
      by false (Some l) e =
          let asked = asked_none l.stage (and_left _ _ (and_left _ _ (found_passes (is_asked_as a.name a.role) s.links l e))) in
          put_over (answered a.there l) s.links (calm l (answered a.there l) refl asked.0 asked.1 (there a.there l) (found (is_asked_as a.name a.role) s.links l u e)) u

  flowed : (peer : ℕ) (count : Option ℕ) (credit : ℕ) (drain echo : Bool) (s : LinksState) → AreFine s.links → AreFine (link_flowed peer count credit drain echo s).links
  flowed peer count credit drain echo s a = by (named peer s) refl
    where
      by : (o : Option PathLink) → named peer s ≡ o → AreFine (flowed_on o count credit drain echo s).links
      by None e = a
      by (Some l) e = put_over (told_by drain echo l) s.links (at_fine _ s l a e) a

  asks : (name : ℕ) (s : LinksState) → AreFine s.links → AreFine (link_asked name s).links
  asks name s a = by (find is_wanted s.links) _ refl
    where
      by : (o : Option PathLink) (f : Option ℕ) → find is_wanted s.links ≡ o → AreFine (asked_on o f name s).links
      by None f e = a
      by (Some l) None e = a
      by (Some l) (Some h) e =
          let wanted = wanted_none l.stage (found_passes is_wanted s.links l e) in
          put_over (asked_as h name l) s.links (calm l (asked_as h name l) refl wanted.0 wanted.1 refl (found is_wanted s.links l a e)) a

  told : (list : List Publish) (s : LinksState) → AreFine s.links → AreFine (told_on (flow_of list s) s).links
  told list s a = by (flow_of list s) refl
    where
      by : (o : Option PathLink) → find (owes_flow list s.sending) s.links ≡ o → AreFine (told_on o s).links
      by None e = a
      by (Some l) e = put_over (told_once l) s.links (found (owes_flow list s.sending) s.links l a e) a

  parts : (s : LinksState) (o : Option PathLink) → AreFine s.links → AreFine (parted o s).links
  parts s None a = a
  parts s (Some l) a = by (is_left l)
    where
      by : (b : Bool) → AreFine (cond b (gone_on (Some l) s) (given_on (Some l) s)).links
      by true = all_filter _ Fine s.links a
      by false = put_over (given_by l) s.links (λ g. absurd cc) a

  flow_came : (peer : ℕ) (count : Option ℕ) (credit : ℕ) (drain echo : Bool) (s : PathState) → AreFine s.links.links
      → AreFine (after_event (event.FlowCame peer count credit drain echo) s).links.links
  flow_came peer count credit drain echo s a =
      subst (λ (x : LinksState). AreFine x.links) (sym (flowed_same (receiver_in (named peer s.links)) peer count credit drain echo s)) (by (receiver_in (named peer s.links)))
    where
      by : (o : Option PathLink) → AreFine (flowed_if o peer count credit drain echo s.links).links
      by None = flowed peer count credit drain echo s.links a
      by (Some l) = a

  flow_went : (s : PathState) → AreFine s.links.links → AreFine (after_event event.LinkFlowSent s).links.links
  flow_went s a = subst (λ (x : LinksState). AreFine x.links) (sym (flow_sent_same s)) (by (is_grant_next s))
    where
      by : (b : Bool) → AreFine (cond b s.links (told_on (flow_of s.publishes.list s.links) s.links)).links
      by true = a
      by false = told s.publishes.list s.links a

  -- the container detaches a link, or a transfer passes a limit of one
  detaches : (peer : ℕ) (s : LinksState) → ((l : PathLink) → named peer s ≡ Some l → (F l.link ≡ None) × AreElse l.link s.links) → (named peer s ≡ None → AreFine s.links)
      → AreFine (link_detached peer s).links
  detaches peer s there none = by (named peer s) refl
    where
      by : (o : Option PathLink) → named peer s ≡ o → AreFine (detached_on o s).links
      by None e = none e
      by (Some l) e = either (is_given l)
        where
          either : (b : Bool) → AreFine (cond b (dropped l.link s.links) (put (left_by s.sending l) s.links))
          either true = without l.link s.links (there l e).1
          either false = put_fine (left_by s.sending l) s.links (λ g. sym (there l e).0) (there l e).1

  fails : (peer : ℕ) (fault : TransferFault) (s : LinksState) → ((l : PathLink) → taking_in (named peer s) ≡ Some l → (F l.link ≡ Some fault) × AreElse l.link s.links)
      → (taking_in (named peer s) ≡ None → AreFine s.links) → AreFine (link_failed peer fault s).links
  fails peer fault s there none = by (named peer s) there none
    where
      by : (o : Option PathLink) → ((l : PathLink) → taking_in o ≡ Some l → (F l.link ≡ Some fault) × AreElse l.link s.links) → (taking_in o ≡ None → AreFine s.links)
          → AreFine (failed_on o fault s).links
      by None t n = n refl
      by (Some l) t n = either (is_stage_whole l.stage) l.receives t n
        where
          either : (w r : Bool) → ((k : PathLink) → (if r && w then Some l else None) ≡ Some k → (F k.link ≡ Some fault) × AreElse k.link s.links)
              → ((if r && w then Some l else None) ≡ None → AreFine s.links) → AreFine (if w && r then record s { links = put (failed_by fault l) s.links } else s).links
          either true true t n = put_fine (failed_by fault l) s.links (λ g. sym (t l refl).0) (t l refl).1
          either true false t n = n refl
          either false true t n = n refl
          either false false t n = n refl

-- ---- the folds

abbrev IsSaid : ℕ → List PathEvent → PathLink → Type 0
IsSaid life es l = is_given l ≡ false → error_of l.stage ≡ passed_in life l.link es

module _ (tied : LinksAre) (life : ℕ) (es : List PathEvent) (x : PathEvent) where
  abbrev s : PathState
  s = after_events life es

  abbrev F : ℕ → Option TransferFault
  F k = passed_in life k (x ∷ es)

  -- a link that is there is told of by the event
  there : (l : PathLink) → find (has_number l.link) s.links.links ≡ Some l → F l.link ≡ passed_by l.link s x (passed_in life l.link es)
  there l e = ap (λ (o : Option PathLink). if is_some o then passed_by l.link s x (passed_in life l.link es) else None) e

  free : F (free_number s.links.links) ≡ None
  free =
      ap (λ (o : Option PathLink). if is_some o then passed_by (free_number s.links.links) s x (passed_in life (free_number s.links.links) es) else None)
      (find_none (has_number (free_number s.links.links)) s.links.links (absent s.links.links (tied life es).rising))

  -- all links of which the event says nothing
  unsaid : (t : ℕ → Bool) → ((k : ℕ) → t k ≡ false → passed_by k s x (passed_in life k es) ≡ passed_in life k es) → AllByRecursion (IsSaid life es) s.links.links
      → AllByRecursion (λ l. t l.link ≡ false → Fine F l) s.links.links
  unsaid t same a =
      all_weaker (λ l. IsSaid life es l × (find (has_number l.link) s.links.links ≡ Some l)) (λ l. t l.link ≡ false → Fine F l)
      (λ l both e g. both.0 g ∙ sym (there l both.1 ∙ same l.link e)) s.links.links
      (all_both _ _ s.links.links a (numbers_found 0 s.links.links (tied life es).rising))

  untold : ((k : ℕ) → passed_by k s x (passed_in life k es) ≡ passed_in life k es) → AllByRecursion (IsSaid life es) s.links.links → AreFine F s.links.links
  untold same a = all_weaker _ (Fine F) (λ l f. f refl) s.links.links (unsaid (λ k. false) (λ k e. same k) a)

named_found : (peer : ℕ) (s : LinksState) (l : PathLink) → Rises 0 s.links → named peer s ≡ Some l → find (has_number l.link) s.links ≡ Some l
named_found peer s l r e = by _ e
  where
    by : (o : Option ℕ) → at_handle o s.links ≡ Some l → find (has_number l.link) s.links ≡ Some l
    by None f = absurd cc
    by (Some h) f = found_number (is_at h) s.links l r f

took : (o : Option PathLink) (l : PathLink) → taking_in o ≡ Some l → o ≡ Some l
took None l e = absurd cc
took (Some k) l e = by (k.receives && is_stage_whole k.stage) e
  where
    by : (b : Bool) → (if b then Some k else None) ≡ Some l → Some k ≡ Some l
    by true f = f
    by false f = absurd cc

-- what an event says of the link with number k, and of no other
here_by : (k : ℕ) (new old : Option TransferFault) (l : PathLink) (m : Option PathLink) → m ≡ Some l → l.link ≡ k → (if is_that_link k m then new else old) ≡ new
here_by k new old l m e same = ap (λ (z : Option PathLink). if is_that_link k z then new else old) e ∙ ap (λ (b : Bool). if b then new else old) (eq_to l.link k same)

else_by : (k : ℕ) (new old : Option TransferFault) (l : PathLink) (m : Option PathLink) → m ≡ Some l → (k == l.link) ≡ false → (if is_that_link k m then new else old) ≡ old
else_by k new old l m e off = ap (λ (z : Option PathLink). if is_that_link k z then new else old) e ∙ ap (λ (b : Bool). if b then new else old) (turned k l.link false off)

none_by : (k : ℕ) (new old : Option TransferFault) (m : Option PathLink) → m ≡ None → (if is_that_link k m then new else old) ≡ old
none_by k new old m e = ap (λ (z : Option PathLink). if is_that_link k z then new else old) e

step : (tied : LinksAre) (life : ℕ) (es : List PathEvent) (x : PathEvent) → AllByRecursion (IsSaid life es) (after_events life es).links.links
    → AllByRecursion (IsSaid life (x ∷ es)) (after_events life (x ∷ es)).links.links
step tied life es x a = by x
  where
    s : PathState
    s = after_events life es

    by : (x : PathEvent) → AllByRecursion (IsSaid life (x ∷ es)) (after_event x s).links.links
    by (event.Published address payload back) =
        let y = event.Published address payload back in linked (F tied life es y) s.links (free tied life es y) address (untold tied life es y (λ k. refl) a)
    by (event.Consumed address tag no_ack no_wait) =
        let y = event.Consumed address tag no_ack no_wait in received (F tied life es y) s.links (free tied life es y) (untold tied life es y (λ k. refl) a)
    by (event.Declared queue no_wait) =
        let y = event.Declared queue no_wait in received (F tied life es y) s.links (free tied life es y) (untold tied life es y (λ k. refl) a)
    by (event.GetAsked queue no_ack) =
        let y = event.GetAsked queue no_ack in
        subst (λ (z : LinksState). AreFine (F tied life es y) z.links) (sym (got_same (get_link (queue_or s.queue queue) s) (queue_or s.queue queue) no_ack s))
        (gets (F tied life es y) s.links (free tied life es y) (get_link (queue_or s.queue queue) s) (untold tied life es y (λ k. refl) a))
    by (event.AttachCame attach) =
        let y = event.AttachCame attach in
        subst (λ (z : LinksState). AreFine (F tied life es y) z.links) (sym (attach_same (asked_by attach s.links) attach (record s { links = attached attach s.links })))
        (attaches (F tied life es y) attach s.links (untold tied life es y (λ k. refl) a))
    by (event.FlowCame peer count credit drain echo) =
        let y = event.FlowCame peer count credit drain echo in flow_came (F tied life es y) peer count credit drain echo s (untold tied life es y (λ k. refl) a)
    by (event.DetachCame peer not_found) =
        let y = event.DetachCame peer not_found in
        detaches (F tied life es y) peer s.links
        (λ l e. (
          there tied life es y l (named_found peer s.links l (tied life es).rising e) ∙ here_by l.link None _ l _ e refl,
          unsaid tied life es y (λ k. k == l.link) (λ k off. else_by k None _ l _ e off) a,
        ))
        (λ e. untold tied life es y (λ k. none_by k None _ _ e) a)
    by (event.TransferCame peer part payload image again) =
        let y = event.TransferCame peer part payload image again in
        subst (λ (z : LinksState). AreFine (F tied life es y) z.links) (sym (transfer_same (taking peer s) part payload image again s)) (untold tied life es y (λ k. refl) a)
    by (event.LinkFailed peer fault) =
        let y = event.LinkFailed peer fault in
        fails (F tied life es y) peer fault s.links
        (λ l e. (
          there tied life es y l (named_found peer s.links l (tied life es).rising (took (named peer s.links) l e)) ∙ here_by l.link (Some fault) _ l _ e refl,
          unsaid tied life es y (λ k. k == l.link) (λ k off. else_by k (Some fault) _ l _ e off) a,
        ))
        (λ e. untold tied life es y (λ k. none_by k (Some fault) _ _ e) a)
    by (event.AttachSent name) = let y = event.AttachSent name in asks (F tied life es y) name s.links (untold tied life es y (λ k. refl) a)
    by event.LinkFlowSent = let y = event.LinkFlowSent in flow_went (F tied life es y) s (untold tied life es y (λ k. refl) a)
    by event.DisposeSent =
        let y = event.DisposeSent in
        subst (λ (z : LinksState). AreFine (F tied life es y) z.links) (sym (disposed_same (next_settle_of s.deliveries.list) s)) (untold tied life es y (λ k. refl) a)
    by event.DetachSent =
        let y = event.DetachSent in
        subst (λ (z : LinksState). AreFine (F tied life es y) z.links) (sym (dropped_same (detaching_of s) (record s { links = parted (detaching_of s) s.links })))
        (parts (F tied life es y) s.links (detaching_of s) (untold tied life es y (λ k. refl) a))
    by event.LifeClosed = let y = event.LifeClosed in all_filter _ (Fine (F tied life es y)) s.links.links (untold tied life es y (λ k. refl) a)
    by event.SessionLost =
        let y = event.SessionLost in all_filter _ (Fine (F tied life es y)) _ (all_filter _ (Fine (F tied life es y)) s.links.links (untold tied life es y (λ k. refl) a))
    by event.SessionEnded = tt
    by event.UpLost = tt
    by y = untold tied life es y (λ k. refl) a

said : LinksAre → (life : ℕ) (es : List PathEvent) → AllByRecursion (IsSaid life es) (after_events life es).links.links
said tied life [] = tt
said tied life (x ∷ es) = step tied life es x (said tied life es)

-- ---- a detach that goes

-- it is of a link that the gateway didn't detach
not_given : (x : Stage) → (is_stage_left x ≡ false → (is_stage_open x || is_stage_failed x) ≡ true) → is_stage_given x ≡ false
not_given (Given h) e = absurd (let wrong : false ≡ true = e refl in cc)
not_given x e = refl

module _ (tied : LinksAre) (below : LivesBelow) where
  said_of : (life : ℕ) (es : List PathEvent) (l : PathLink) → next_detach (after_events life es) ≡ Some l → error_of l.stage ≡ passed_in life l.link es
  said_of life es l e =
      let all = detaching_there (after_events life es).publishes.list (after_events life es).deliveries (after_events life es).oks (after_events life es).links
      (tied life es).rising in
      let here : IsThere (after_events life es).links l = subst (λ (o : Option PathLink). IfSome o (IsThere (after_events life es).links)) e all in
      (all_find (IsSaid life es) (has_number l.link) (after_events life es).links.links l (said tied life es) here.0).0 (not_given l.stage here.1)

  states_on : (h : List Step) (n link : ℕ) (why : Option Condition) (life : ℕ) → ArePicks h → DetachGoes (before h) n link why → path_life h n ≡ Some life
      → why ≡ error_for (passed_in life link (path_events h n))
  states_on h n link why life p d l =
      d.why_is
      ∙ ap error_for (said_of life (path_events h n) d.gone (ap next_detach (sym (path_of h n life p (below h n life l) l)) ∙ d.due))
      ∙ ap (λ (k : ℕ). error_for (passed_in life k (path_events h n))) d.is

  may_part : (h : List Step) (u : UpUnit) → ArePicks h → MayDetach (before h) u → MayPart h u
  may_part h (up.OnSession n (unit.Detach link handle why)) p d = λ life l. states_on h n link why life p d l
  may_part h (up.OnSession n (unit.Attach a)) p d = tt
  may_part h (up.OnSession n (unit.Flow f)) p d = tt
  may_part h (up.OnSession n (unit.Transfer t)) p d = tt
  may_part h (up.OnSession n (unit.Dispose x)) p d = tt
  may_part h (up.OnSession n (unit.Settle x)) p d = tt
  may_part h u p d = tt

  pub states_passed : (h : List Step) → ArePicks h → StatesPassed h
  states_passed [] p = tt
  states_passed (Gave (ToUp u) text ∷ h) p = (may_part h u p.1 (may_detach (before h) u p.0.1), states_passed h p.1)
  states_passed (s ∷ h) p = states_passed h p.1
