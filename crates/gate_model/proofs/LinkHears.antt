-- The link that a handle of the container names is that which its attach with that handle answered, by the fold over the attaches.
use Rattle.std.proofs.Common.{◌≡◌, ◌∙◌, ℕ, ◌==◌, ◌&&◌, ◌||◌, not, List, [], ◌∷◌, Bool, true, false, if◌then◌else◌}
use Rattle.std.proofs.Common.{Option, Some, None, inl, inr, refl, sym, subst, ap, cond}
use Rattle.std.specs.Prelude.{◌⊎◌, find, is_some, IfSome}
use Rattle.std.specs.List.{AllByRecursion}
use Rattle.std.proofs.lemmas.List.Quantifiers.{position-Some}
use Rattle.open_items.proofs.Filtered.{all_filter, all_find, all_map}
use Rattle.link_table.specs.declared.handles.HandleState.{HandleState}
use Rattle.link_table.specs.declared.handles.HandleState.TheVariants as state
use Rattle.link_table.specs.Table.{HandleTable, after_attach, after_attached, free_of, is_asked, is_named, named_by, state_of, with_read, with_sent, with_state}
use Rattle.publish_path.specs.Links.{link_to}
use Rattle.publish_path.specs.declared.publish.Publish.{Publish}
use Rattle.consume_path.specs.Offers.{next_settle_of}
use Rattle.consume_path.specs.declared.receiving.TransferFault.{TransferFault}
use Rattle.session_path.specs.Due.{attach_of, next_attach}
use Rattle.session_path.specs.Events as event
use Rattle.session_path.specs.Events.{PathEvent, after_event}
use Rattle.session_path.specs.Links.{LinksState, answered, asked_as as asked_link_as, asked_by, asked_on, at_handle, attach_fault, attached, attached_as, detached_on}
use Rattle.session_path.specs.Links.{failed_by, failed_on, flowed_on, free_number, given_by, given_on, gone_from, gone_on, handle_at, handle_in, handle_of, has_number, is_asked_as, is_at}
use Rattle.session_path.specs.Links.{is_given, is_given_back, is_half, is_left, is_stage_asked, is_stage_at, is_stage_failed, is_stage_open, is_stage_whole, is_wanted, is_wanted_receiver, is_whole, left_by, limited, link_detached, link_failed, link_flowed}
use Rattle.session_path.specs.Links.{linked_to, named, parted, put, put_for, stands, told_by, told_on, told_once, wanted_link, with_link_to, with_receiver}
use Rattle.session_path.specs.Path.{IsThere, PathState, detaching_of, flow_of, get_link, is_grant_next, owes_flow, queue_or, receiver_in, taking}
use Rattle.session_path.specs.declared.path.AttachDue.{AttachDue}
use Rattle.session_path.specs.declared.path.AttachFault.TheVariants.{HandleInUse, NotAsked}
use Rattle.session_path.specs.declared.path.AttachHeard.{AttachHeard}
use Rattle.session_path.specs.declared.path.PathLink.{PathLink}
use Rattle.session_path.specs.declared.path.Stage.{Stage}
use Rattle.session_path.specs.declared.path.Stage.TheVariants as stage
use Rattle.session_path.proofs.Idle.{detaching_there}
use Rattle.session_path.proofs.SameLinks.{attach_same, disposed_same, dropped_same, flow_sent_same}
use Rattle.session_path.proofs.SameLinks.{flowed_if, flowed_same, got_links, got_same, transfer_same}
use Rattle.session_path.proofs.Tied.{Tied}
use Rattle.session_path.proofs.Ties.{and_left, and_right, dropped, eq_of, eq_to, found_passes, is_asked_for, ne_to, state_other, state_same}
use Rattle.session_path.proofs.Wanted.{all_insert}
use Rattle.gate_model.specs.Hears.{asked_as, heard_on}
use Rattle.gate_model.specs.LinkCredits.{Answered, Asked, Begun, Detached, Flowed, LinkStep, Told}
use Rattle.gate_model.proofs.LinkRules.{IsNewName, Rules, count_of, is_mute}
use Rattle.gate_model.proofs.LinkCredits.{free_unnamed, has_handle, is_at_handle, none_named, read_named, sent_named, some_is, written}

-- ---- one link

-- by the fold the name that it was asked for under is its own, and so is each handle of the
-- container that its own handle stands for
abbrev pub Hears : List LinkStep → HandleTable → ℕ → ℕ → Stage → Type 0
Hears xs t link name stage.Wanted = Unit {0}
Hears xs t link name (stage.Asked j) = asked_as name xs ≡ Some link
Hears xs t link name (stage.Open j) = (p : ℕ) → is_named p (state_of t j) ≡ true → heard_on p xs ≡ Some link
Hears xs t link name (stage.Refused j) = (p : ℕ) → is_named p (state_of t j) ≡ true → heard_on p xs ≡ Some link
Hears xs t link name (stage.Left j) = (p : ℕ) → is_named p (state_of t j) ≡ true → heard_on p xs ≡ Some link
Hears xs t link name (stage.Given j) = (p : ℕ) → is_named p (state_of t j) ≡ true → heard_on p xs ≡ Some link
Hears xs t link name (stage.Failed j fault) = (p : ℕ) → is_named p (state_of t j) ≡ true → heard_on p xs ≡ Some link

abbrev IsHeard : List LinkStep → HandleTable → PathLink → Type 0
IsHeard xs t l = Hears xs t l.link l.name l.stage

abbrev pub AllHear : List LinkStep → LinksState → Type 0
AllHear xs s = AllByRecursion (IsHeard xs s.handles) s.links

-- the same of more steps, and of another table, that say no more of it
moved : (xs ys : List LinkStep) (t u : HandleTable) (link name : ℕ) (g : Stage) → (g ≡ stage.Asked (handle_of g) → asked_as name xs ≡ Some link → asked_as name ys ≡ Some link)
    → ((j p : ℕ) → handle_in g ≡ Some j → (is_stage_asked g ≡ false) → is_named p (state_of u j) ≡ true → (is_named p (state_of t j) ≡ true) × (heard_on p ys ≡ heard_on p xs))
    → Hears xs t link name g → Hears ys u link name g
moved xs ys t u link name stage.Wanted asks more is = tt
moved xs ys t u link name (stage.Asked j) asks more is = asks refl is
moved xs ys t u link name (stage.Open j) asks more is = λ p e. let m = more j p refl refl e in m.1 ∙ is p m.0
moved xs ys t u link name (stage.Refused j) asks more is = λ p e. let m = more j p refl refl e in m.1 ∙ is p m.0
moved xs ys t u link name (stage.Left j) asks more is = λ p e. let m = more j p refl refl e in m.1 ∙ is p m.0
moved xs ys t u link name (stage.Given j) asks more is = λ p e. let m = more j p refl refl e in m.1 ∙ is p m.0
moved xs ys t u link name (stage.Failed j fault) asks more is = λ p e. let m = more j p refl refl e in m.1 ∙ is p m.0

-- steps that are no attaches
pub all_as : (xs ys : List LinkStep) (s : LinksState) → ((name : ℕ) → asked_as name ys ≡ asked_as name xs) → ((p : ℕ) → heard_on p ys ≡ heard_on p xs) → AllHear xs s → AllHear ys s
all_as xs ys s asks hears all = by s.links all
  where
    by : (ls : List PathLink) → AllByRecursion (IsHeard xs s.handles) ls → AllByRecursion (IsHeard ys s.handles) ls
    by [] a = tt
    by (l ∷ ls) a = (moved xs ys s.handles s.handles l.link l.name l.stage (λ g is. asks l.name ∙ is) (λ j p has g is. (is, hears p)) a.0, by ls a.1)

-- where the state of a handle is written that names no more
named_before : (t : HandleTable) (h : ℕ) (st : HandleState) → ((p : ℕ) → is_named p st ≡ true → is_named p (state_of t h) ≡ true) → (j p : ℕ)
    → is_named p (state_of (with_state h st t) j) ≡ true → is_named p (state_of t j) ≡ true
named_before t h st less j p is = by (h == j) refl
  where
    at : (state_of (with_state h st t) h ≡ st) ⊎ (state_of (with_state h st t) h ≡ state.Free) → is_named p (state_of (with_state h st t) h) ≡ true → is_named p (state_of t h) ≡ true
    at (inl e) f = less p (ap (is_named p) (sym e) ∙ f)
    at (inr e) f = absurd (free_unnamed p _ e f)

    by : (b : Bool) → (h == j) ≡ b → is_named p (state_of t j) ≡ true
    by true e =
        let same : h ≡ j = eq_of h j e in
        subst (λ (k : ℕ). is_named p (state_of t k) ≡ true) same (at (written t h st) (subst (λ (k : ℕ). is_named p (state_of (with_state h st t) k) ≡ true) (sym same) is))
    by false e = ap (is_named p) (sym (state_other t h j st e)) ∙ is

module _ (xs : List LinkStep) where
  -- in another table that names no more
  all_in : (t u : HandleTable) (ls : List PathLink) → ((j p : ℕ) → is_named p (state_of u j) ≡ true → is_named p (state_of t j) ≡ true) → AllByRecursion (IsHeard xs t) ls
      → AllByRecursion (IsHeard xs u) ls
  all_in t u [] less a = tt
  all_in t u (l ∷ ls) less a = (moved xs xs t u l.link l.name l.stage (λ g is. is) (λ j p has g is. (less j p is, refl)) a.0, all_in t u ls less a.1)

  put_heard : (x : PathLink) (t : HandleTable) (ls : List PathLink) → IsHeard xs t x → AllByRecursion (IsHeard xs t) ls → AllByRecursion (IsHeard xs t) (put x ls)
  put_heard x t ls new old = all_map (put_for x) (IsHeard xs t) (IsHeard xs t) (λ k h. one k (k.link == x.link) h) ls old
    where
      one : (k : PathLink) (b : Bool) → IsHeard xs t k → IsHeard xs t (cond b x k)
      one k true h = new
      one k false h = h

  found : (p : PathLink → Bool) (s : LinksState) (l : PathLink) → AllHear xs s → find p s.links ≡ Some l → IsHeard xs s.handles l
  found p s l a e = (all_find (IsHeard xs s.handles) p s.links l a e).0

  -- with its handle at another stage
  at_stage : (h : ℕ) (t : HandleTable) (link name : ℕ) (g : Stage) → is_stage_at h g ≡ true → Hears xs t link name g → (p : ℕ) → is_named p (state_of t (handle_of g)) ≡ true → heard_on p xs ≡ Some link
  at_stage h t link name (stage.Open j) e is = is
  at_stage h t link name (stage.Refused j) e is = is
  at_stage h t link name (stage.Given j) e is = is
  at_stage h t link name (stage.Failed j fault) e is = is
  at_stage h t link name g e is = absurd cc

  whole_stage : (t : HandleTable) (link name : ℕ) (g : Stage) → is_stage_whole g ≡ true → Hears xs t link name g → (p : ℕ) → is_named p (state_of t (handle_of g)) ≡ true → heard_on p xs ≡ Some link
  whole_stage t link name (stage.Open j) e is = is
  whole_stage t link name (stage.Refused j) e is = is
  whole_stage t link name g e is = absurd cc

  up_stage : (t : HandleTable) (link name : ℕ) (g : Stage) → (is_stage_open g || is_stage_failed g) ≡ true → Hears xs t link name g → (p : ℕ) → is_named p (state_of t (handle_of g)) ≡ true
      → heard_on p xs ≡ Some link
  up_stage t link name (stage.Open j) e is = is
  up_stage t link name (stage.Failed j fault) e is = is
  up_stage t link name g e is = absurd cc

  linked : (address : List ℕ) (s : LinksState) → AllHear xs s → AllHear xs (linked_to address s)
  linked address s a = by (is_some (link_to s.sending address))
    where
      by : (b : Bool) → AllHear xs (cond b s (with_link_to address s))
      by true = a
      by false = all_insert (IsHeard xs s.handles) s.links (free_number s.links) (wanted_link (free_number s.links) false) a tt

  received : (s : LinksState) → AllHear xs s → AllHear xs (with_receiver s)
  received s a = all_insert (IsHeard xs s.handles) s.links (free_number s.links) (wanted_link (free_number s.links) true) a tt

  gets : (o : Option PathLink) (s : LinksState) → AllHear xs s → AllHear xs (got_links o s)
  gets None s a = received s a
  gets (Some l) s a = a

  flowed : (peer : ℕ) (count : Option ℕ) (credit : ℕ) (drain echo : Bool) (s : LinksState) → AllHear xs s → AllHear xs (link_flowed peer count credit drain echo s)
  flowed peer count credit drain echo s a = by (named_by s.handles peer)
    where
      at : (h : ℕ) (o : Option PathLink) → find (is_at h) s.links ≡ o → AllHear xs (flowed_on o count credit drain echo s)
      at h None e = a
      at h (Some l) e = put_heard (told_by drain echo l) s.handles s.links (found (is_at h) s l a e) a

      by : (o : Option ℕ) → AllHear xs (flowed_on (at_handle o s.links) count credit drain echo s)
      by None = a
      by (Some h) = at h (find (is_at h) s.links) refl

  detaches : (peer : ℕ) (s : LinksState) → AllHear xs s → AllHear xs (link_detached peer s)
  detaches peer s a = by (named_by s.handles peer)
    where
      at : (h : ℕ) (o : Option PathLink) → find (is_at h) s.links ≡ o → AllHear xs (detached_on o s)
      at h None e = a
      at h (Some l) e =
          all_in s.handles (with_state (handle_of l.stage) (with_read (state_of s.handles (handle_of l.stage))) s.handles) (cond (is_given l) (dropped l.link s.links) (put (left_by s.sending l) s.links))
          (named_before s.handles (handle_of l.stage) (with_read (state_of s.handles (handle_of l.stage))) (λ p is. read_named (state_of s.handles (handle_of l.stage)) p is)) (either (is_given l))
        where
          either : (b : Bool) → AllByRecursion (IsHeard xs s.handles) (cond b (dropped l.link s.links) (put (left_by s.sending l) s.links))
          either true = all_filter _ (IsHeard xs s.handles) s.links a
          either false = put_heard (left_by s.sending l) s.handles s.links (at_stage h s.handles l.link l.name l.stage (found_passes (is_at h) s.links l e) (found (is_at h) s l a e)) a

      by : (o : Option ℕ) → AllHear xs (detached_on (at_handle o s.links) s)
      by None = a
      by (Some h) = at h (find (is_at h) s.links) refl

  fails : (peer : ℕ) (fault : TransferFault) (s : LinksState) → AllHear xs s → AllHear xs (link_failed peer fault s)
  fails peer fault s a = by (named_by s.handles peer)
    where
      at : (h : ℕ) (o : Option PathLink) → find (is_at h) s.links ≡ o → AllHear xs (failed_on o fault s)
      at h None e = a
      at h (Some l) e = either (is_stage_whole l.stage && l.receives) refl
        where
          either : (b : Bool) → (is_stage_whole l.stage && l.receives) ≡ b → AllHear xs (cond b (record s { links = put (failed_by fault l) s.links }) s)
          either true g = put_heard (failed_by fault l) s.handles s.links (whole_stage s.handles l.link l.name l.stage (and_left _ l.receives g) (found (is_at h) s l a e)) a
          either false g = a

      by : (o : Option ℕ) → AllHear xs (failed_on (at_handle o s.links) fault s)
      by None = a
      by (Some h) = at h (find (is_at h) s.links) refl

  told : (list : List Publish) (s : LinksState) → AllHear xs s → AllHear xs (told_on (flow_of list s) s)
  told list s a = by (flow_of list s) refl
    where
      by : (o : Option PathLink) → find (owes_flow list s.sending) s.links ≡ o → AllHear xs (told_on o s)
      by None e = a
      by (Some l) e = put_heard (told_once l) s.handles s.links (found (owes_flow list s.sending) s l a e) a

  parts : (o : Option PathLink) (s : LinksState) → IfSome o (IsThere s) → AllHear xs s → AllHear xs (parted o s)
  parts None s there a = a
  parts (Some l) s there a = by (is_left l) refl
    where
      u : HandleTable
      u = with_state (handle_of l.stage) (with_sent (state_of s.handles (handle_of l.stage))) s.handles

      less : (j p : ℕ) → is_named p (state_of u j) ≡ true → is_named p (state_of s.handles j) ≡ true
      less = named_before s.handles (handle_of l.stage) (with_sent (state_of s.handles (handle_of l.stage))) (λ p is. sent_named (state_of s.handles (handle_of l.stage)) p is)

      by : (b : Bool) → is_left l ≡ b → AllHear xs (cond b (gone_on (Some l) s) (given_on (Some l) s))
      by true e = all_in s.handles u (gone_from (handle_of l.stage) s.links) less (all_filter _ (IsHeard xs s.handles) s.links a)
      by false e =
          all_in s.handles u (put (given_by l) s.links) less (put_heard (given_by l) s.handles s.links (up_stage s.handles l.link l.name l.stage (there.1 e) (found (has_number l.link) s l a there.0)) a)

  -- ---- events

  flow_came : (peer : ℕ) (count : Option ℕ) (credit : ℕ) (drain echo : Bool) (s : PathState) → AllHear xs s.links
      → AllHear xs (after_event (event.FlowCame peer count credit drain echo) s).links
  flow_came peer count credit drain echo s a =
      subst (AllHear xs) (sym (flowed_same (receiver_in (named peer s.links)) peer count credit drain echo s)) (by (receiver_in (named peer s.links)))
    where
      by : (o : Option PathLink) → AllHear xs (flowed_if o peer count credit drain echo s.links)
      by None = flowed peer count credit drain echo s.links a
      by (Some l) = a

  flow_went : (s : PathState) → AllHear xs s.links → AllHear xs (after_event event.LinkFlowSent s).links
  flow_went s a = subst (AllHear xs) (sym (flow_sent_same s)) (by (is_grant_next s))
    where
      by : (b : Bool) → AllHear xs (cond b s.links (told_on (flow_of s.publishes.list s.links) s.links))
      by true = a
      by false = told s.publishes.list s.links a

  -- neither an attach that goes nor one that comes
  abbrev pub is_attach : PathEvent → Bool
  is_attach (event.AttachSent name) = true
  is_attach (event.AttachCame a) = true
  is_attach x = false

  pub hear_on : (x : PathEvent) (s : PathState) → is_attach x ≡ false → Tied s.links → AllHear xs s.links → AllHear xs (after_event x s).links
  hear_on (event.AttachSent name) s e t a = absurd cc
  hear_on (event.AttachCame attach) s e t a = absurd cc
  hear_on (event.Began handle_max) s e t a = all_in s.links.handles (limited handle_max s.links).handles s.links.links (λ j p is. is) a
  hear_on (event.Published address payload back) s e t a = linked address s.links a
  hear_on (event.Consumed address tag no_ack no_wait) s e t a = received s.links a
  hear_on (event.Declared queue no_wait) s e t a = received s.links a
  hear_on (event.GetAsked queue no_ack) s e t a =
      subst (AllHear xs) (sym (got_same (get_link (queue_or s.queue queue) s) (queue_or s.queue queue) no_ack s)) (gets (get_link (queue_or s.queue queue) s) s.links a)
  hear_on (event.FlowCame peer count credit drain echo) s e t a = flow_came peer count credit drain echo s a
  hear_on (event.DetachCame peer not_found) s e t a = detaches peer s.links a
  hear_on (event.TransferCame peer part payload image again) s e t a = subst (AllHear xs) (sym (transfer_same (taking peer s) part payload image again s)) a
  hear_on (event.LinkFailed peer fault) s e t a = fails peer fault s.links a
  hear_on event.LinkFlowSent s e t a = flow_went s a
  hear_on event.DisposeSent s e t a = subst (AllHear xs) (sym (disposed_same (next_settle_of s.deliveries.list) s)) a
  hear_on event.DetachSent s e t a =
      subst (AllHear xs) (sym (dropped_same (detaching_of s) (record s { links = parted (detaching_of s) s.links })))
      (parts (detaching_of s) s.links (detaching_there s.publishes.list s.deliveries s.oks s.links t.rising) a)
  hear_on event.LifeClosed s e t a = all_filter (λ l. not (is_wanted_receiver l)) (IsHeard xs s.links.handles) s.links.links a
  hear_on event.SessionLost s e t a =
      all_filter (λ l. not (is_wanted l)) (IsHeard xs s.links.handles) _ (all_filter (λ l. not (is_wanted_receiver l)) (IsHeard xs s.links.handles) s.links.links a)
  hear_on event.SessionEnded s e t a = tt
  hear_on event.UpLost s e t a = tt
  hear_on x s e t a = a

-- ---- the gateway's attach

module _ (xs : List LinkStep) (s : LinksState) (a : AllHear xs s) where
  pub asked_hear : (l : PathLink) (h name : ℕ) (role : Bool) → IsNewName name xs → AllHear (Asked l.link h name role ∷ xs) (asked_on (Some l) (Some h) name s)
  asked_hear l h name role new = all_map (put_for (asked_link_as h name l)) (IsHeard xs s.handles) (IsHeard ys u) (λ k is. one k (k.link == l.link) is) s.links a
    where
      ys : List LinkStep
      ys = Asked l.link h name role ∷ xs

      u : HandleTable
      u = after_attach h s.handles

      one : (k : PathLink) (b : Bool) → IsHeard xs s.handles k → IsHeard (Asked l.link h name role ∷ xs) (after_attach h s.handles) (cond b (asked_link_as h name l) k)
      one k true is = ap (λ (b : Bool). if b then Some l.link else asked_as name xs) (eq_to name name refl)
      one k false is =
          moved xs (Asked l.link h name role ∷ xs) s.handles (after_attach h s.handles) k.link k.name k.stage
          (λ g e. ap (λ (b : Bool). if b then Some l.link else asked_as k.name xs) (new k.name k.link e) ∙ e)
          (λ j p has g e. (named_before s.handles h state.Asked (λ p i. absurd cc) j p e, refl)) is

-- ---- the container's attach

asked_state : (g : Stage) → is_stage_asked g ≡ true → g ≡ stage.Asked (handle_of g)
asked_state (stage.Asked h) e = refl
asked_state g e = absurd cc

-- the state of the handle of a link that isn't asked for
not_asked : (t : HandleTable) (g : Stage) (j : ℕ) → stands t g ≡ true → handle_in g ≡ Some j → is_stage_asked g ≡ false → is_asked (state_of t j) ≡ true → ⊥
not_asked t g j is has off e = by g has off is
  where
    out : (s : HandleState) → is_asked s ≡ true → (is_whole s || (is_half s || is_given_back s)) ≡ true → ⊥
    out state.Free e f = cc
    out state.Asked e f = cc
    out (state.Attached x) e f = cc

    left : (a b : Bool) → a ≡ true → (a || b) ≡ true
    left true b e = refl
    left false b e = absurd cc

    right : (a b : Bool) → b ≡ true → (a || b) ≡ true
    right true b e = refl
    right false b e = e

    at : (i : ℕ) → Some i ≡ Some j → is_asked (state_of t i) ≡ true
    at i h = subst (λ (k : ℕ). is_asked (state_of t k) ≡ true) (sym (some_is i j h)) e

    by : (g : Stage) → handle_in g ≡ Some j → is_stage_asked g ≡ false → stands t g ≡ true → ⊥
    by stage.Wanted h o s = cc
    by (stage.Asked i) h o s = cc
    by (stage.Open i) h o s = out (state_of t i) (at i h) (left _ _ s)
    by (stage.Refused i) h o s = out (state_of t i) (at i h) (left _ _ s)
    by (stage.Left i) h o s = out (state_of t i) (at i h) (right (is_whole (state_of t i)) _ (left _ _ s))
    by (stage.Given i) h o s = out (state_of t i) (at i h) (right (is_whole (state_of t i)) _ (right (is_half (state_of t i)) _ s))
    by (stage.Failed i fault) h o s = out (state_of t i) (at i h) (left _ _ s)

module _ (xs : List LinkStep) (a : AttachHeard) (s : LinksState) (l : PathLink) (t : Tied s) (all : AllHear xs s) (unused : named_by s.handles a.peer ≡ None)
    (found_it : find (is_asked_as a.name a.role) s.links ≡ Some l) where
  abbrev h : ℕ
  h = handle_of l.stage

  abbrev ys : List LinkStep
  ys = Answered a.name a.peer ∷ xs

  abbrev u : HandleTable
  u = after_attached h a.peer s.handles

  passes : is_asked_as a.name a.role l ≡ true
  passes = found_passes (is_asked_as a.name a.role) s.links l found_it

  is_asked_now : is_asked (state_of s.handles h) ≡ true
  is_asked_now = is_asked_for a.name a.role s.sending s.links s.handles l t found_it

  there_now : state_of u h ≡ state.Attached (record { peer = a.peer; detach_sent = false; detach_read = false })
  there_now = state_same is_asked s.handles h _ refl is_asked_now

  -- it was asked for under that name
  was_asked : asked_as a.name xs ≡ Some l.link
  was_asked =
      subst (λ (name : ℕ). asked_as name xs ≡ Some l.link) (eq_of l.name a.name (and_right (is_stage_asked l.stage) (l.name == a.name) (and_left _ _ passes)))
      (subst (Hears xs s.handles l.link l.name) (asked_state l.stage (and_left _ _ (and_left _ _ passes))) (found xs (is_asked_as a.name a.role) s l all found_it))

  own : (p : ℕ) → is_named p (state_of u h) ≡ true → heard_on p ys ≡ Some l.link
  own p e = ap (λ (b : Bool). if b then asked_as a.name xs else heard_on p xs) (ap (is_named p) (sym there_now) ∙ e) ∙ was_asked

  new : (there : Bool) → IsHeard ys u (answered there l)
  new true = own
  new false = own

  other : (k : PathLink) → stands s.handles k.stage ≡ true → IsHeard xs s.handles k → IsHeard ys u k
  other k stood is = moved xs ys s.handles u k.link k.name k.stage (λ g e. e) more is
    where
      more : (j p : ℕ) → handle_in k.stage ≡ Some j → is_stage_asked k.stage ≡ false → is_named p (state_of u j) ≡ true → (is_named p (state_of s.handles j) ≡ true) × (heard_on p ys ≡ heard_on p xs)
      more j p has off e = by (h == j) refl
        where
          by : (b : Bool) → (h == j) ≡ b → (is_named p (state_of s.handles j) ≡ true) × (heard_on p ys ≡ heard_on p xs)
          by true i = absurd (not_asked s.handles k.stage j stood has off (subst (λ (m : ℕ). is_asked (state_of s.handles m) ≡ true) (eq_of h j i) is_asked_now))
          by false i =
              let old : is_named p (state_of s.handles j) ≡ true = ap (is_named p) (sym (state_other s.handles h j _ i)) ∙ e in (
                old,
                ap (λ (b : Bool). if b then asked_as a.name xs else heard_on p xs)
                    (ne_to a.peer p (λ same. none_named s.handles a.peer unused j (subst (λ (q : ℕ). is_named q (state_of s.handles j) ≡ true) (sym same) old))),
              )

  pub came_hear : AllHear ys (attached_as (Some l) a.peer a.there s)
  came_hear = each s.links t.standing all
    where
      one : (k : PathLink) (b : Bool) → stands s.handles k.stage ≡ true → IsHeard xs s.handles k → IsHeard ys u (cond b (answered a.there l) k)
      one k true stood is = new a.there
      one k false stood is = other k stood is

      each : (ls : List PathLink) → AllByRecursion (λ k. stands s.handles k.stage ≡ true) ls → AllByRecursion (IsHeard xs s.handles) ls → AllByRecursion (IsHeard ys u) (put (answered a.there l) ls)
      each [] b c = tt
      each (k ∷ ls) b c = (one k (k.link == (answered a.there l).link) b.0 c.0, each ls b.1 c.1)

-- ---- the link that is named

pub named_heard : (xs : List LinkStep) (s : LinksState) (peer : ℕ) (l : PathLink) → AllHear xs s → named peer s ≡ Some l → heard_on peer xs ≡ Some l.link
named_heard xs s peer l all e = by (named_by s.handles peer) refl e
  where
    by : (o : Option ℕ) → named_by s.handles peer ≡ o → at_handle o s.links ≡ Some l → heard_on peer xs ≡ Some l.link
    by None i f = absurd cc
    by (Some j) i f =
        let at : is_at j l ≡ true = found_passes (is_at j) s.links l f in
        let hand : handle_of l.stage ≡ j = some_is (handle_of l.stage) j (sym (has_handle l.stage j (is_at_handle j l.stage at)) ∙ is_at_handle j l.stage at) in
        at_stage xs j s.handles l.link l.name l.stage at (found xs (is_at j) s l all f) peer
        (subst (λ (m : ℕ). is_named peer (state_of s.handles m) ≡ true) (sym hand) (position-Some (is_named peer) s.handles.states j state.Free i).1)

-- ---- all of them

mute_is : (x : PathEvent) → is_mute x ≡ true → is_attach [] x ≡ false
mute_is (event.AttachSent name) e = absurd cc
mute_is (event.AttachCame attach) e = absurd cc
mute_is x e = refl

-- a step that is no attach, and its event
other_step : (xs : List LinkStep) (x : LinkStep) (e : PathEvent) (s : PathState) → is_attach xs e ≡ false → ((name : ℕ) → asked_as name (x ∷ xs) ≡ asked_as name xs)
    → ((p : ℕ) → heard_on p (x ∷ xs) ≡ heard_on p xs) → Tied s.links → AllHear xs s.links → AllHear (x ∷ xs) (after_event e s).links
other_step xs x e s off asks hears t all = all_as xs (x ∷ xs) (after_event e s).links asks hears (hear_on xs e s off t all)

attach_came : (xs : List LinkStep) (a : AttachHeard) (s : PathState) → Tied s.links → attach_fault a.name a.role a.peer s.links ≡ None → AllHear xs s.links
    → AllHear (Answered a.name a.peer ∷ xs) (after_event (event.AttachCame a) s).links
attach_came xs a s t fine all =
    subst (AllHear (Answered a.name a.peer ∷ xs)) (sym (attach_same (asked_by a s.links) a (record s { links = attached a s.links })))
    (by (named_by s.links.handles a.peer) refl (find (is_asked_as a.name a.role) s.links.links) refl fine)
  where
    by : (o : Option ℕ) → named_by s.links.handles a.peer ≡ o → (q : Option PathLink) → find (is_asked_as a.name a.role) s.links.links ≡ q
        → (if is_some o then Some HandleInUse else if is_some q then None else Some NotAsked) ≡ None
        → AllHear (Answered a.name a.peer ∷ xs)
        (attached_as (if is_some (if is_some o then Some HandleInUse else if is_some q then None else Some NotAsked) then None else q) a.peer a.there s.links)
    by (Some h) e q g i = absurd cc
    by None e None g i = absurd cc
    by None e (Some l) g i = came_hear xs a s.links l t all e g

attach_went : (xs : List LinkStep) (name : ℕ) (a : AttachDue) (s : PathState) → IsNewName name xs → next_attach s ≡ Some a → AllHear xs s.links
    → AllHear (Asked a.link a.handle name a.receives ∷ xs) (after_event (event.AttachSent name) s).links
attach_went xs name a s new due all = by (find is_wanted s.links.links) (free_of s.links.handles) due
  where
    by : (o : Option PathLink) (q : Option ℕ) → attach_of o q ≡ Some a → AllHear (Asked a.link a.handle name a.receives ∷ xs) (asked_on o q name s.links)
    by None q i = absurd cc
    by (Some l) None i = absurd cc
    by (Some l) (Some h) i =
        let link : l.link ≡ a.link = cc in
        let handle : h ≡ a.handle = cc in
        subst (λ (k : ℕ). AllHear (Asked k a.handle name a.receives ∷ xs) (asked_on (Some l) (Some h) name s.links)) link
        (subst (λ (k : ℕ). AllHear (Asked l.link k name a.receives ∷ xs) (asked_on (Some l) (Some h) name s.links)) handle (asked_hear xs s.links all l h name a.receives new))

pub hear_rules : Rules AllHear
hear_rules = record {
  none = λ xs t. tt;
  mute = λ xs x s m t all. hear_on xs x s (mute_is x m) t all;
  came = λ xs a s t distinct fine all. attach_came xs a s t fine all;
  flow_came = λ xs peer count credit drain echo s t all. other_step xs (Flowed peer count credit) (event.FlowCame peer count credit drain echo) s refl (λ name. refl) (λ p. refl) t all;
  detach_came = λ xs peer not_found s t all. other_step xs (Detached peer) (event.DetachCame peer not_found) s refl (λ name. refl) (λ p. refl) t all;
  attach_sent = λ xs name a s t new due all. attach_went xs name a s new due all;
  flow_sent = λ xs d s t fresh receives due all. other_step xs (Told d.link d.handle (count_of d)) event.LinkFlowSent s refl (λ name. refl) (λ p. refl) t all;
  first_sent = λ xs frame count s t e can all.
      other_step xs (Begun (handle_at frame.link s.links.links)) (event.TransferSent frame count) s refl (λ name. refl) (λ p. refl) t all;
  later_sent = λ xs frame count s e all. all;
}
