-- The handles that links have stand for what the fold over the steps says of them: each link until its detach, no other, and none twice.
use Rattle.std.proofs.Common.{◌≡◌, ◌∙◌, ℕ, ◌==◌, ◌&&◌, ◌||◌, not, List, [], ◌∷◌, ◌++◌, Bool, true, false, if◌then◌else◌}
use Rattle.std.proofs.Common.{Option, Some, None, refl, sym, subst, ap, cond}
use Rattle.std.specs.Prelude.{filter, find, is_some}
use Rattle.std.specs.List.{AllByRecursion}
use Rattle.std.proofs.lemmas.List.{get_or-set_same}
use Rattle.open_items.proofs.Filtered.{all_filter, all_find, all_map}
use Rattle.link_table.specs.declared.handles.HandleState.{HandleState}
use Rattle.link_table.specs.declared.handles.HandleState.TheVariants as state
use Rattle.link_table.specs.Table.{HandleTable, after_attach, free_of, is_free, named_by, state_of, with_read, with_sent, with_state}
use Rattle.publish_path.specs.Links.{link_to}
use Rattle.publish_path.specs.declared.publish.Publish.{Publish}
use Rattle.consume_path.specs.Offers.{next_settle_of}
use Rattle.consume_path.specs.declared.receiving.TransferFault.{TransferFault}
use Rattle.session_path.specs.Events as event
use Rattle.session_path.specs.Events.{PathEvent, after_event, after_events}
use Rattle.session_path.specs.Links.{LinksState, answered, answered_stage, asked_as, asked_by, at_handle, attach_fault, attached, attached_as, detached_on}
use Rattle.session_path.specs.Links.{failed_by, failed_on, flowed_on, free_number, given_by, given_on, gone_from, gone_on, handle_of, has_number, is_asked_as, is_at}
use Rattle.session_path.specs.Links.{is_given, is_left, is_stage_asked, is_stage_at, is_stage_failed, is_stage_given, is_stage_left, is_stage_open, is_stage_whole, is_wanted, is_wanted_receiver, left_by, link_detached, link_failed, link_flowed}
use Rattle.session_path.specs.Links.{linked_to, named, parted, put, put_for, told_by, told_on, told_once, wanted_link, with_link_to, with_receiver, with_wanted}
use Rattle.session_path.specs.Path.{IsThere, PathState, flow_of, get_link, is_grant_next, owes_flow, queue_or, receiver_in, taking}
use Rattle.session_path.specs.declared.path.AttachHeard.{AttachHeard}
use Rattle.session_path.specs.declared.path.PathLink.{PathLink}
use Rattle.session_path.specs.declared.path.Stage.{Stage}
use Rattle.session_path.specs.declared.path.Stage.TheVariants as stage
use Rattle.session_path.proofs.SameLinks.{attach_same, disposed_same, flow_sent_same}
use Rattle.session_path.proofs.SameLinks.{flowed_if, flowed_same, got_links, got_same, transfer_same}
use Rattle.session_path.proofs.Tied.{Tied}
use Rattle.session_path.proofs.Ties.{and_left, dropped, eq_of, eq_to, found_passes, gone_is, ne_to, no_clash, state_other, state_same}
use Rattle.session_path.proofs.Wanted.{all_insert}
use Rattle.gate_model.proofs.LinkCredits.{some_is}
use Rattle.gate_model.proofs.LinkSends.{free_at}

-- ---- what they stand for

-- the handle of a link, until its detach went
abbrev pub held_by : Stage → Option ℕ
held_by stage.Wanted = None
held_by (stage.Asked h) = Some h
held_by (stage.Open h) = Some h
held_by (stage.Refused h) = Some h
held_by (stage.Left h) = Some h
held_by (stage.Given h) = None
held_by (stage.Failed h fault) = Some h

-- the gateway attached it, and didn't detach
abbrev is_mine : HandleState → Bool
is_mine state.Free = false
is_mine state.Asked = true
is_mine (state.Attached a) = not a.detach_sent

abbrev pub IsNamed : (ℕ → Option ℕ) → PathLink → Type 0
IsNamed f l = (j : ℕ) → held_by l.stage ≡ Some j → f l.link ≡ Some j

pub record Names (f : ℕ → Option ℕ) (ls : List PathLink) (t : HandleTable) : Type 0 where
  pub each : AllByRecursion (IsNamed f) ls
  pub held : (k j : ℕ) → f k ≡ Some j → is_mine (state_of t j) ≡ true
  pub one : (k m j : ℕ) → f k ≡ Some j → f m ≡ Some j → k ≡ m

abbrev pub NamesIn : (ℕ → Option ℕ) → LinksState → Type 0
NamesIn f s = Names f s.links s.handles

-- none has one
pub none_named : (ls : List PathLink) (t : HandleTable) → ls ≡ [] → Names (λ k. None) ls t
none_named [] t e = record { each = tt; held = λ k j f. absurd cc; one = λ k m j f g. absurd cc }
none_named (l ∷ ls) t e = absurd cc

pub names_as : (f g : ℕ → Option ℕ) (s : LinksState) → ((k : ℕ) → g k ≡ f k) → NamesIn f s → NamesIn g s
names_as f g s same n = record {
  each = each s.links n.each;
  held = λ k j e. n.held k j (sym (same k) ∙ e);
  one = λ k m j e i. n.one k m j (sym (same k) ∙ e) (sym (same m) ∙ i);
}
  where
    each : (ls : List PathLink) → AllByRecursion (IsNamed f) ls → AllByRecursion (IsNamed g) ls
    each [] a = tt
    each (l ∷ ls) a = (λ j e. same l.link ∙ a.0 j e, each ls a.1)

-- a handle that is free is none's
pub free_is : (f : ℕ → Option ℕ) (s : LinksState) (h k : ℕ) → NamesIn f s → free_of s.handles ≡ Some h → f k ≡ Some h → ⊥
free_is f s h k n e i = by (state_of s.handles h) (free_at s.handles h e).1 (n.held k h i)
  where
    by : (x : HandleState) → is_free x ≡ true → is_mine x ≡ true → ⊥
    by state.Free a b = cc
    by state.Asked a b = cc
    by (state.Attached x) a b = cc

-- ---- stages

asked_held : (g : Stage) → is_stage_asked g ≡ true → held_by g ≡ Some (handle_of g)
asked_held (stage.Asked h) e = refl
asked_held g e = absurd cc

whole_held : (g : Stage) → is_stage_whole g ≡ true → held_by g ≡ Some (handle_of g)
whole_held (stage.Open h) e = refl
whole_held (stage.Refused h) e = refl
whole_held g e = absurd cc

left_held : (g : Stage) → is_stage_left g ≡ true → held_by g ≡ Some (handle_of g)
left_held (stage.Left h) e = refl
left_held g e = absurd cc

up_held : (g : Stage) → (is_stage_open g || is_stage_failed g) ≡ true → held_by g ≡ Some (handle_of g)
up_held (stage.Open h) e = refl
up_held (stage.Failed h fault) e = refl
up_held g e = absurd cc

at_held : (h : ℕ) (g : Stage) → is_stage_at h g ≡ true → is_stage_given g ≡ false → held_by g ≡ Some (handle_of g)
at_held h (stage.Open k) e f = refl
at_held h (stage.Refused k) e f = refl
at_held h (stage.Failed k fault) e f = refl
at_held h g e f = absurd cc

-- an event of the gateway's attach or detach
abbrev pub is_renaming : PathEvent → Bool
is_renaming (event.AttachSent name) = true
is_renaming event.DetachSent = true
is_renaming x = false

-- ---- where a state is written

mine_stays : (t : HandleTable) (h : ℕ) (st : HandleState) → (is_mine (state_of t h) ≡ true → is_mine st ≡ true) → (j : ℕ) → is_mine (state_of t j) ≡ true
    → is_mine (state_of (with_state h st t) j) ≡ true
mine_stays t h st more j m = by (h == j) refl
  where
    by : (b : Bool) → (h == j) ≡ b → is_mine (state_of (with_state h st t) j) ≡ true
    by false e = ap is_mine (state_other t h j st e) ∙ m
    by true e =
        let same : h ≡ j = eq_of h j e in
        let mine : is_mine (state_of t h) ≡ true = subst (λ (k : ℕ). is_mine (state_of t k) ≡ true) (sym same) m in
        subst (λ (k : ℕ). is_mine (state_of (with_state h st t) k) ≡ true) same (ap is_mine (state_same is_mine t h st refl mine) ∙ more mine)

read_mine : (s : HandleState) → is_mine s ≡ true → is_mine (with_read s) ≡ true
read_mine state.Free e = e
read_mine state.Asked e = e
read_mine (state.Attached a) e = by a.detach_sent e
  where
    by : (b : Bool) → not b ≡ true → is_mine (cond (b && true) state.Free (state.Attached (record a { detach_read = true }))) ≡ true
    by true f = absurd cc
    by false f = e

-- ---- links that change under their handles

module _ (f : ℕ → Option ℕ) where
  put_named : (x l : PathLink) (ls : List PathLink) → x.link ≡ l.link → ((j : ℕ) → held_by x.stage ≡ Some j → held_by l.stage ≡ Some j) → IsNamed f l
      → AllByRecursion (IsNamed f) ls → AllByRecursion (IsNamed f) (put x ls)
  put_named x l ls number less is old = all_map (put_for x) (IsNamed f) (IsNamed f) (λ k h. one k (k.link == x.link) h) ls old
    where
      one : (k : PathLink) (b : Bool) → IsNamed f k → IsNamed f (cond b x k)
      one k true h = λ j e. ap f number ∙ is j (less j e)
      one k false h = h

  found : (p : PathLink → Bool) (ls : List PathLink) (l : PathLink) → AllByRecursion (IsNamed f) ls → find p ls ≡ Some l → IsNamed f l
  found p ls l a e = (all_find (IsNamed f) p ls l a e).0

  -- a link in the place of the one that is found
  placed : (p : PathLink → Bool) (x l : PathLink) (s : LinksState) → find p s.links ≡ Some l → x.link ≡ l.link
      → ((j : ℕ) → held_by x.stage ≡ Some j → held_by l.stage ≡ Some j) → NamesIn f s → Names f (put x s.links) s.handles
  placed p x l s e number less n = record { each = put_named x l s.links number less (found p s.links l n.each e) n.each; held = n.held; one = n.one }

  -- and the state of a handle that is written
  written : (h : ℕ) (st : HandleState) (ls : List PathLink) (s : LinksState) → (is_mine (state_of s.handles h) ≡ true → is_mine st ≡ true) → Names f ls s.handles
      → Names f ls (with_state h st s.handles)
  written h st ls s more n = record { each = n.each; held = λ k j e. mine_stays s.handles h st more j (n.held k j e); one = n.one }

  kept : (keep : PathLink → Bool) (s : LinksState) → NamesIn f s → Names f (filter keep s.links) s.handles
  kept keep s n = record { each = all_filter keep (IsNamed f) s.links n.each; held = n.held; one = n.one }

  wanted : (receives : Bool) (s : LinksState) → NamesIn f s → AllByRecursion (IsNamed f) (with_wanted (free_number s.links) receives s.links)
  wanted receives s n = all_insert (IsNamed f) s.links (free_number s.links) (wanted_link (free_number s.links) receives) n.each (λ j e. absurd cc)

  linked : (address : List ℕ) (s : LinksState) → NamesIn f s → NamesIn f (linked_to address s)
  linked address s n = by (is_some (link_to s.sending address))
    where
      by : (b : Bool) → NamesIn f (cond b s (with_link_to address s))
      by true = n
      by false = record { each = wanted false s n; held = n.held; one = n.one }

  received : (s : LinksState) → NamesIn f s → NamesIn f (with_receiver s)
  received s n = record { each = wanted true s n; held = n.held; one = n.one }

  gets : (o : Option PathLink) (s : LinksState) → NamesIn f s → NamesIn f (got_links o s)
  gets None s n = received s n
  gets (Some l) s n = n

  attaches : (a : AttachHeard) (s : LinksState) → NamesIn f s → NamesIn f (attached a s)
  attaches a s n = by (is_some (attach_fault a.name a.role a.peer s)) (find (is_asked_as a.name a.role) s.links) refl
    where
      there : (b : Bool) (h : ℕ) → held_by (answered_stage b h) ≡ Some h
      there true h = refl
      there false h = refl

      by : (b : Bool) (o : Option PathLink) → find (is_asked_as a.name a.role) s.links ≡ o → NamesIn f (attached_as (cond b None o) a.peer a.there s)
      by true o e = n
      by false None e = n
      by false (Some l) e =
          let held = asked_held l.stage (and_left _ _ (and_left _ _ (found_passes (is_asked_as a.name a.role) s.links l e))) in
          written (handle_of l.stage) _ _ s (λ m. refl)
          (placed (is_asked_as a.name a.role) (answered a.there l) l s e refl (λ j g. held ∙ sym (there a.there (handle_of l.stage)) ∙ g) n)

  flowed : (peer : ℕ) (count : Option ℕ) (credit : ℕ) (drain echo : Bool) (s : LinksState) → NamesIn f s → NamesIn f (link_flowed peer count credit drain echo s)
  flowed peer count credit drain echo s n = by (named_by s.handles peer)
    where
      at : (h : ℕ) (o : Option PathLink) → find (is_at h) s.links ≡ o → NamesIn f (flowed_on o count credit drain echo s)
      at h None e = n
      at h (Some l) e =
          let p = placed (is_at h) (told_by drain echo l) l s e refl (λ j g. g) n in
          record { each = p.each; held = p.held; one = p.one }

      by : (o : Option ℕ) → NamesIn f (flowed_on (at_handle o s.links) count credit drain echo s)
      by None = n
      by (Some h) = at h (find (is_at h) s.links) refl

  detaches : (peer : ℕ) (s : LinksState) → NamesIn f s → NamesIn f (link_detached peer s)
  detaches peer s n = by (named_by s.handles peer)
    where
      at : (h : ℕ) (o : Option PathLink) → find (is_at h) s.links ≡ o → NamesIn f (detached_on o s)
      at h None e = n
      at h (Some l) e = written (handle_of l.stage) _ _ s (read_mine (state_of s.handles (handle_of l.stage))) (either (is_given l) refl)
        where
          either : (b : Bool) → is_given l ≡ b → Names f (cond b (dropped l.link s.links) (put (left_by s.sending l) s.links)) s.handles
          either true g = kept _ s n
          either false g = placed (is_at h) (left_by s.sending l) l s e refl (λ j i. at_held h l.stage (found_passes (is_at h) s.links l e) g ∙ i) n

      by : (o : Option ℕ) → NamesIn f (detached_on (at_handle o s.links) s)
      by None = n
      by (Some h) = at h (find (is_at h) s.links) refl

  fails : (peer : ℕ) (fault : TransferFault) (s : LinksState) → NamesIn f s → NamesIn f (link_failed peer fault s)
  fails peer fault s n = by (named_by s.handles peer)
    where
      at : (h : ℕ) (o : Option PathLink) → find (is_at h) s.links ≡ o → NamesIn f (failed_on o fault s)
      at h None e = n
      at h (Some l) e = either (is_stage_whole l.stage && l.receives) refl
        where
          either : (b : Bool) → (is_stage_whole l.stage && l.receives) ≡ b → NamesIn f (cond b (record s { links = put (failed_by fault l) s.links }) s)
          either true g =
              let p = placed (is_at h) (failed_by fault l) l s e refl (λ j i. whole_held l.stage (and_left _ l.receives g) ∙ i) n in
              record { each = p.each; held = p.held; one = p.one }
          either false g = n

      by : (o : Option ℕ) → NamesIn f (failed_on (at_handle o s.links) fault s)
      by None = n
      by (Some h) = at h (find (is_at h) s.links) refl

  told : (list : List Publish) (s : LinksState) → NamesIn f s → NamesIn f (told_on (flow_of list s) s)
  told list s n = by (flow_of list s) refl
    where
      by : (o : Option PathLink) → find (owes_flow list s.sending) s.links ≡ o → NamesIn f (told_on o s)
      by None e = n
      by (Some l) e =
          let p = placed (owes_flow list s.sending) (told_once l) l s e refl (λ j g. g) n in
          record { each = p.each; held = p.held; one = p.one }

  -- ---- events

  flow_came : (peer : ℕ) (count : Option ℕ) (credit : ℕ) (drain echo : Bool) (s : PathState) → NamesIn f s.links
      → NamesIn f (after_event (event.FlowCame peer count credit drain echo) s).links
  flow_came peer count credit drain echo s n =
      subst (NamesIn f) (sym (flowed_same (receiver_in (named peer s.links)) peer count credit drain echo s)) (by (receiver_in (named peer s.links)))
    where
      by : (o : Option PathLink) → NamesIn f (flowed_if o peer count credit drain echo s.links)
      by None = flowed peer count credit drain echo s.links n
      by (Some l) = n

  flow_went : (s : PathState) → NamesIn f s.links → NamesIn f (after_event event.LinkFlowSent s).links
  flow_went s n = subst (NamesIn f) (sym (flow_sent_same s)) (by (is_grant_next s))
    where
      by : (b : Bool) → NamesIn f (cond b s.links (told_on (flow_of s.publishes.list s.links) s.links))
      by true = n
      by false = told s.publishes.list s.links n

  -- one that leaves the fold as it is
  pub stays : (x : PathEvent) (s : PathState) → is_renaming x ≡ false → NamesIn f s.links → NamesIn f (after_event x s).links
  stays (event.AttachSent name) s e n = absurd cc
  stays event.DetachSent s e n = absurd cc
  stays (event.Began handle_max) s e n = record { each = n.each; held = n.held; one = n.one }
  stays (event.Published address payload back) s e n = linked address s.links n
  stays (event.Consumed address tag no_ack no_wait) s e n = received s.links n
  stays (event.Declared queue no_wait) s e n = received s.links n
  stays (event.GetAsked queue no_ack) s e n =
      subst (NamesIn f) (sym (got_same (get_link (queue_or s.queue queue) s) (queue_or s.queue queue) no_ack s)) (gets (get_link (queue_or s.queue queue) s) s.links n)
  stays (event.AttachCame a) s e n = subst (NamesIn f) (sym (attach_same (asked_by a s.links) a (record s { links = attached a s.links }))) (attaches a s.links n)
  stays (event.FlowCame peer count credit drain echo) s e n = flow_came peer count credit drain echo s n
  stays (event.DetachCame peer not_found) s e n = detaches peer s.links n
  stays (event.TransferCame peer part payload image again) s e n = subst (NamesIn f) (sym (transfer_same (taking peer s) part payload image again s)) n
  stays (event.LinkFailed peer fault) s e n = fails peer fault s.links n
  stays event.LinkFlowSent s e n = flow_went s n
  stays (event.TransferSent frame count) s e n = record { each = n.each; held = n.held; one = n.one }
  stays event.DisposeSent s e n = subst (NamesIn f) (sym (disposed_same (next_settle_of s.deliveries.list) s)) n
  stays event.LifeClosed s e n = let k = kept (λ l. not (is_wanted_receiver l)) s.links n in record { each = k.each; held = k.held; one = k.one }
  stays event.SessionLost s e n = record {
    each = all_filter (λ l. not (is_wanted l)) (IsNamed f) _ (all_filter (λ l. not (is_wanted_receiver l)) (IsNamed f) s.links.links n.each);
    held = n.held;
    one = n.one;
  }
  stays event.SessionEnded s e n = record { each = tt; held = n.held; one = n.one }
  stays event.UpLost s e n = record { each = tt; held = n.held; one = n.one }
  stays x s e n = n

  pub all_stay : (life : ℕ) (xs es : List PathEvent) → AllByRecursion (λ x. is_renaming x ≡ false) xs → NamesIn f (after_events life es).links
      → NamesIn f (after_events life (xs ++ es)).links
  all_stay life [] es m n = n
  all_stay life (x ∷ xs) es m n = stays x (after_events life (xs ++ es)) m.0 (all_stay life xs es m.1 n)

-- ---- the gateway's attach and detach

module _ (f : ℕ → Option ℕ) (s : LinksState) (n : NamesIn f s) where
  module _ (l : PathLink) (h name : ℕ) (found_it : find is_wanted s.links ≡ Some l) (free : free_of s.handles ≡ Some h) where
    abbrev asked : ℕ → Option ℕ
    asked k = if k == l.link then Some h else f k

    pub asked_names : Names asked (put (asked_as h name l) s.links) (after_attach h s.handles)
    asked_names = record {
      each = all_map (put_for (asked_as h name l)) (IsNamed f) (IsNamed asked) (λ k is. each k (k.link == l.link) refl is) s.links n.each;
      held = λ k j e. held k j (k == l.link) e;
      one = λ k m j e g. one k m j (k == l.link) refl (m == l.link) refl e g;
    }
      where
        each : (k : PathLink) (b : Bool) → (k.link == l.link) ≡ b → IsNamed f k → IsNamed asked (cond b (asked_as h name l) k)
        each k true e is j g = ap (λ (b : Bool). if b then Some h else f l.link) (eq_to l.link l.link refl) ∙ g
        each k false e is j g = ap (λ (b : Bool). if b then Some h else f k.link) e ∙ is j g

        at : free_of s.handles ≡ Some h → is_mine (state_of (after_attach h s.handles) h) ≡ true
        at e = ap is_mine (get_or-set_same s.handles.states h state.Asked state.Free (free_at s.handles h e).0)

        held : (k j : ℕ) (b : Bool) → (if b then Some h else f k) ≡ Some j → is_mine (state_of (after_attach h s.handles) j) ≡ true
        held k j true e = subst (λ (i : ℕ). is_mine (state_of (after_attach h s.handles) i) ≡ true) (some_is h j e) (at free)
        held k j false e = mine_stays s.handles h state.Asked (λ m. refl) j (n.held k j e)

        one : (k m j : ℕ) (b : Bool) → (k == l.link) ≡ b → (c : Bool) → (m == l.link) ≡ c → (if b then Some h else f k) ≡ Some j → (if c then Some h else f m) ≡ Some j → k ≡ m
        one k m j true e true g x y = eq_of k l.link e ∙ sym (eq_of m l.link g)
        one k m j true e false g x y = absurd (free_is f s h m n free (y ∙ sym x))
        one k m j false e true g x y = absurd (free_is f s h k n free (x ∙ sym y))
        one k m j false e false g x y = n.one k m j x y

  module _ (l : PathLink) (t : Tied s) (there : IsThere s l) where
    abbrev hand : ℕ
    hand = handle_of l.stage

    abbrev parted_fold : ℕ → Option ℕ
    parted_fold k = if k == l.link then None else f k

    -- it has its handle until then
    pub held_now : held_by l.stage ≡ Some hand
    held_now = by (is_left l) refl
      where
        by : (b : Bool) → is_left l ≡ b → held_by l.stage ≡ Some hand
        by true e = left_held l.stage e
        by false e = up_held l.stage (there.1 e)

    pub own : f l.link ≡ Some hand
    own = found f (has_number l.link) s.links l n.each there.0 hand held_now

    dropped_named : (ls : List PathLink) → AllByRecursion (IsNamed f) ls → AllByRecursion (IsNamed parted_fold) (dropped l.link ls)
    dropped_named [] a = tt
    dropped_named (k ∷ ls) a = by (k.link == l.link) refl (dropped_named ls a.1)
      where
        by : (b : Bool) → (k.link == l.link) ≡ b → AllByRecursion (IsNamed parted_fold) (dropped l.link ls)
            → AllByRecursion (IsNamed parted_fold) (cond (not b) (k ∷ dropped l.link ls) (dropped l.link ls))
        by true e ih = ih
        by false e ih = (λ j g. ap (λ (b : Bool). if b then None else f k.link) e ∙ a.0 j g, ih)

    without : (ls : List PathLink) → AllByRecursion (IsNamed parted_fold) ls → Names parted_fold ls (with_state hand (with_sent (state_of s.handles hand)) s.handles)
    without ls each = record {
      each = each;
      held = λ k j e. held k j (k == l.link) refl e;
      one = λ k m j e g. one k m j (k == l.link) (m == l.link) e g;
    }
      where
        held : (k j : ℕ) (b : Bool) → (k == l.link) ≡ b → (if b then None else f k) ≡ Some j → is_mine (state_of (with_state hand (with_sent (state_of s.handles hand)) s.handles) j) ≡ true
        held k j true e g = absurd cc
        held k j false e g =
            ap is_mine (state_other s.handles hand j (with_sent (state_of s.handles hand)) (ne_to hand j (λ same. no_clash (k == l.link) (eq_to k l.link (n.one k l.link j g (own ∙ ap Some same))) e)))
            ∙ n.held k j g

        one : (k m j : ℕ) (b c : Bool) → (if b then None else f k) ≡ Some j → (if c then None else f m) ≡ Some j → k ≡ m
        one k m j false false x y = n.one k m j x y
        one k m j true c x y = absurd cc
        one k m j false true x y = absurd cc

    pub parted_names : NamesIn parted_fold (parted (Some l) s)
    parted_names = by (is_left l) refl
      where
        by : (b : Bool) → is_left l ≡ b → NamesIn parted_fold (cond b (gone_on (Some l) s) (given_on (Some l) s))
        by true e =
            without (gone_from hand s.links)
            (subst (AllByRecursion (IsNamed parted_fold)) (sym (gone_is (has_number l.link) s.sending s.links s.handles l t there.0 e)) (dropped_named s.links n.each))
        by false e = without (put (given_by l) s.links) (all_map (put_for (given_by l)) (IsNamed f) (IsNamed parted_fold) (λ k is. one k (k.link == l.link) refl is) s.links n.each)
          where
            one : (k : PathLink) (b : Bool) → (k.link == l.link) ≡ b → IsNamed f k → IsNamed parted_fold (cond b (given_by l) k)
            one k true g is j i = absurd cc
            one k false g is j i = ap (λ (b : Bool). if b then None else f k.link) g ∙ is j i
