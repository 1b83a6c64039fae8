-- What goes on a link goes under its handle, by the fold over the steps; and no attach goes under a handle that a link has.
use Rattle.std.proofs.Common.{◌≡◌, ◌∙◌, ℕ, ◌+◌, ◌≤◌, ◌==◌, not, ◌&&◌, Bool, true, false, if◌then◌else◌, List, [], ◌∷◌, ◌++◌, Option, Some, None, refl, sym, ap, subst}
use Rattle.std.specs.Prelude.{IfSome, find}
use Rattle.std.specs.List.{AllByRecursion}
use Rattle.open_items.proofs.Filtered.{all_find}
use Rattle.link_table.specs.Table.{free_of, new_table}
use Rattle.consume_path.specs.declared.receiving.NextGrant.{NextGrant}
use Rattle.machine_091.specs.declared.limits.TheConstants.{CHANNEL_MAX}
use Rattle.publish_path.specs.declared.publish.NextFrame.{NextFrame}
use Rattle.session_path.specs.Due.{attach_of, due_in, grant_due, next_attach, next_detach, next_flow, next_frame}
use Rattle.session_path.specs.Events as event
use Rattle.session_path.specs.Events.{PathEvent, after_event, after_events}
use Rattle.session_path.specs.Links.{asked_on, handle_in_link, handle_of, has_number, is_stage_given, is_stage_wanted, is_stage_whole, is_wanted, parted}
use Rattle.session_path.specs.Path.{IsThere, PathState, detaching_of, flow_of, grant_in, granting, granting_on, is_grant_next, owes_flow}
use Rattle.session_path.specs.declared.path.AttachDue.{AttachDue}
use Rattle.session_path.specs.declared.path.FlowDue.{FlowDue}
use Rattle.session_path.specs.declared.path.PathLink.{PathLink}
use Rattle.session_path.specs.declared.path.Stage.{Stage}
use Rattle.session_path.specs.declared.path.Stage.TheVariants as stage
use Rattle.session_path.proofs.Fresh.{IsFresh, fresh_after}
use Rattle.session_path.proofs.Idle.{detaching_there}
use Rattle.session_path.proofs.SameLinks.{dropped_same}
use Rattle.session_path.proofs.Tied.{Tied, tied_after}
use Rattle.session_path.proofs.Ties.{eq_of, found_passes}
use Rattle.gate_model.specs.Folds.{connection, peers, side_in}
use Rattle.gate_model.specs.Handles.{MayName, NamesItsHandles, handle_by, handle_in, handle_step, handle_up}
use Rattle.gate_model.specs.Paths.{or_no_path, path_at, slot_at}
use Rattle.gate_model.specs.Picks.{ArePicks}
use Rattle.gate_model.specs.Publishing.{MayCarry, MayTransfer, given_event, opens_channel, path_events, path_life, step_events, up_events}
use Rattle.gate_model.specs.State.{Gave, Step, before, is_later}
use Rattle.gate_model.specs.declared.channel.AttachOut.{AttachOut}
use Rattle.gate_model.specs.declared.channel.LinkFlow.{LinkFlow}
use Rattle.gate_model.specs.declared.channel.SessionUnit.{SessionUnit}
use Rattle.gate_model.specs.declared.channel.SessionUnit.TheVariants as unit
use Rattle.gate_model.specs.declared.channel.TransferOut.{TransferOut}
use Rattle.gate_model.specs.declared.outgoing.Outgoing.TheVariants.{ToUp}
use Rattle.gate_model.specs.declared.outgoing.UpUnit.{UpUnit}
use Rattle.gate_model.specs.declared.outgoing.UpUnit.TheVariants as up
use Rattle.gate_model.proofs.Fates.{FramesAre, IsLived, PublishesAre, RestsAre, carry_is, lived, path_of}
use Rattle.gate_model.proofs.Firsts.{OfSession, goes_up_as}
use Rattle.gate_model.proofs.Framed.{carrier_in, frame_carried}
use Rattle.gate_model.proofs.Givings.{end_all, gives_up, is_given, step_all}
use Rattle.gate_model.proofs.Granting.{DeliveriesAre, owes_none}
use Rattle.gate_model.proofs.Heard.{ClosedAre, are_heard, is_kept}
use Rattle.gate_model.proofs.LinkHandles.{IsNamed, NamesIn, all_stay, asked_names, free_is, held_by, is_renaming, names_as, none_named, own, parted_names, stays}
use Rattle.gate_model.proofs.LinkRooms.{have_room}
use Rattle.gate_model.proofs.LinkSteps.{IsDue, is_due}
use Rattle.gate_model.proofs.LinkUps.{grants_up, is_up}
use Rattle.gate_model.proofs.Receivers.{LinksAre}
use Rattle.gate_model.proofs.Settles.{CallsAre, is_there, open_goes_on}

-- ---- the fold

abbrev names_of : ℕ → List Step → ℕ → Option ℕ
names_of n h k = handle_in n k h

-- only a unit of the gateway moves it
step_same : (n k : ℕ) (s : Step) (old : Option ℕ) → gives_up s ≡ false → handle_step n k s old ≡ old
step_same n k (Gave (ToUp u) text) old e = absurd cc
step_same n k s old e = refl

still : (x : PathEvent) → is_given x ≡ false → is_renaming x ≡ false
still (event.AttachSent name) e = absurd cc
still event.DetachSent e = absurd cc
still x e = refl

-- ---- the handle of a link

up_held : (g : Stage) → is_up g ≡ true → held_by g ≡ Some (handle_of g)
up_held (stage.Open h) e = refl
up_held (stage.Refused h) e = refl
up_held (stage.Left h) e = refl
up_held (stage.Failed h fault) e = refl
up_held g e = absurd cc

-- one that neither is wanted nor goes
pub there_held : (g : Stage) → is_stage_wanted g ≡ false → is_stage_given g ≡ false → held_by g ≡ Some (handle_of g)
there_held stage.Wanted e i = absurd cc
there_held (stage.Given h) e i = absurd cc
there_held (stage.Asked h) e i = refl
there_held (stage.Open h) e i = refl
there_held (stage.Refused h) e i = refl
there_held (stage.Left h) e i = refl
there_held (stage.Failed h fault) e i = refl

-- ---- what an attach and a detach leave of it

module _ (f : ℕ → Option ℕ) (s : PathState) (n : NamesIn f s.links) where
  attach_names : (name : ℕ) (a : AttachDue) → next_attach s ≡ Some a → NamesIn (λ k. if k == a.link then Some a.handle else f k) (after_event (event.AttachSent name) s).links
  attach_names name a e = by (find is_wanted s.links.links) refl (free_of s.links.handles) refl e
    where
      by : (o : Option PathLink) → find is_wanted s.links.links ≡ o → (q : Option ℕ) → free_of s.links.handles ≡ q → attach_of o q ≡ Some a
          → NamesIn (λ k. if k == a.link then Some a.handle else f k) (asked_on o q name s.links)
      by None i q j g = absurd cc
      by (Some l) i None j g = absurd cc
      by (Some l) i (Some h) j g =
          let link : l.link ≡ a.link = cc in
          let handle : h ≡ a.handle = cc in
          subst (λ (m : ℕ). NamesIn (λ k. if k == m then Some a.handle else f k) (asked_on (Some l) (Some h) name s.links)) link
          (subst (λ (m : ℕ). NamesIn (λ k. if k == l.link then Some m else f k) (asked_on (Some l) (Some h) name s.links)) handle
          (let r = asked_names f s.links n l h name i j in record { each = r.each; held = r.held; one = r.one }))

  detach_names : (l : PathLink) → Tied s.links → next_detach s ≡ Some l → NamesIn (λ k. if k == l.link then None else f k) (after_event event.DetachSent s).links
  detach_names l t e =
      subst (NamesIn (λ k. if k == l.link then None else f k)) (sym (dropped_same (detaching_of s) (record s { links = parted (detaching_of s) s.links })))
      (subst (λ (o : Option PathLink). NamesIn (λ k. if k == l.link then None else f k) (parted o s.links)) (sym e)
      (parted_names f s.links n l t (subst (λ (o : Option PathLink). IfSome o (IsThere s.links)) e (detaching_there s.publishes.list s.deliveries s.oks s.links t.rising))))

  -- and what is due goes under the handle of its link
  attach_due : (a : AttachDue) → next_attach s ≡ Some a → (k : ℕ) → f k ≡ Some a.handle → ⊥
  attach_due a e k g = by (find is_wanted s.links.links) (free_of s.links.handles) refl e
    where
      by : (o : Option PathLink) (q : Option ℕ) → free_of s.links.handles ≡ q → attach_of o q ≡ Some a → ⊥
      by None q j i = cc
      by (Some l) None j i = cc
      by (Some l) (Some h) j i = let handle : h ≡ a.handle = cc in free_is f s.links h k n j (g ∙ ap Some (sym handle))

  detach_due : (l : PathLink) → Tied s.links → next_detach s ≡ Some l → f l.link ≡ Some (handle_of l.stage)
  detach_due l t e = own f s.links n l t (subst (λ (o : Option PathLink). IfSome o (IsThere s.links)) e (detaching_there s.publishes.list s.deliveries s.oks s.links t.rising))

  found_held : (p : PathLink → Bool) (l : PathLink) → find p s.links.links ≡ Some l → held_by l.stage ≡ Some (handle_of l.stage) → f l.link ≡ Some (handle_of l.stage)
  found_held p l e held = (all_find (IsNamed f) p s.links.links l n.each e).0 (handle_of l.stage) held

  flow_named : AllByRecursion IsFresh s.links.links → ((l : PathLink) → granting s ≡ Some l → is_up l.stage ≡ true) → (d : FlowDue) → next_flow s ≡ Some d → f d.link ≡ Some d.handle
  flow_named fresh ups d e = by (is_grant_next s) e
    where
      same : (o : Option FlowDue) → IfSome o (λ x. f x.link ≡ Some x.handle) → o ≡ Some d → f d.link ≡ Some d.handle
      same o i q = subst (λ (z : Option FlowDue). IfSome z (λ x. f x.link ≡ Some x.handle)) q i

      found_by : (o : Option NextGrant) (l : PathLink) → granting_on o s.links ≡ Some l → held_by l.stage ≡ Some (handle_of l.stage) → f l.link ≡ Some (handle_of l.stage)
      found_by None l i held = absurd cc
      found_by (Some g) l i held = found_held (has_number g.link) l i held

      grants : (o : Option PathLink) → granting s ≡ o → (g : Option NextGrant) → grant_due o g s.deliveries ≡ Some d → f d.link ≡ Some d.handle
      grants None i g q = absurd cc
      grants (Some l) i None q = absurd cc
      grants (Some l) i (Some g) q = same (grant_due (Some l) (Some g) s.deliveries) (found_by (grant_in s) l i (up_held l.stage (ups l i))) q

      sends : (o : Option PathLink) → flow_of s.publishes.list s.links ≡ o → due_in s.links.sending o ≡ Some d → f d.link ≡ Some d.handle
      sends None i q = absurd cc
      sends (Some l) i q = same (due_in s.links.sending (Some l)) (found_held (owes_flow s.publishes.list s.links.sending) l i (there_held l.stage (wanted (is_stage_wanted l.stage) refl) (given _ _ passes))) q
        where
          passes : owes_flow s.publishes.list s.links.sending l ≡ true
          passes = found_passes (owes_flow s.publishes.list s.links.sending) s.links.links l i

          wanted : (b : Bool) → is_stage_wanted l.stage ≡ b → b ≡ false
          wanted true w =
              absurd (owes_none s.publishes.list s.links.sending l ((all_find IsFresh (owes_flow s.publishes.list s.links.sending) s.links.links l fresh i).0 w) passes)
          wanted false w = refl

          given : (part owes : Bool) → (not part && owes) ≡ true → part ≡ false
          given true owes k = absurd cc
          given false owes k = refl

      by : (b : Bool) → (if b then grant_due (granting s) (grant_in s) s.deliveries else due_in s.links.sending (flow_of s.publishes.list s.links)) ≡ Some d → f d.link ≡ Some d.handle
      by true i = grants (granting s) refl (grant_in s) i
      by false i = sends (flow_of s.publishes.list s.links) refl i

-- ---- all steps

module _ (n life : ℕ) (below : n ≤ CHANNEL_MAX) where
  abbrev Held : (ℕ → Option ℕ) → List PathEvent → Type 0
  Held f es = NamesIn f (after_events life es).links

  module _ (h : List Step) (p : ArePicks h) (lives : path_life h n ≡ Some life) (old : Held (names_of n h) (path_events h n)) where
    abbrev es : List PathEvent
    es = path_events h n

    abbrev s : PathState
    s = after_events life es

    now : path_at (before h).paths n ≡ s
    now = path_of h n life p below lives

    unit_names : (u : SessionUnit) → IsDue (before h) n u → Held (λ k. handle_by k u (names_of n h k)) (given_event u ∷ es)
    unit_names (unit.Attach a) d =
        subst (λ (x : AttachOut). Held (λ k. handle_by k (unit.Attach x) (names_of n h k)) (event.AttachSent x.name ∷ es)) (sym d.2)
        (attach_names (names_of n h) s old (before h).attached d.0 (ap next_attach (sym now) ∙ d.1))
    unit_names (unit.Flow f) d = stays (names_of n h) event.LinkFlowSent s refl old
    unit_names (unit.Transfer t) d = stays (names_of n h) (event.TransferSent t.frame t.bytes) s refl old
    unit_names (unit.Dispose x) d = stays (names_of n h) event.DisposeSent s refl old
    unit_names (unit.Settle x) d = stays (names_of n h) (event.SettleSent x) s refl old
    unit_names (unit.Detach link handle why) d =
        subst (λ (m : ℕ). Held (λ k. if k == m then None else names_of n h k) (event.DetachSent ∷ es)) (sym d.2.0)
        (detach_names (names_of n h) s old d.0 (tied_after life es) (ap next_detach (sym now) ∙ d.1))

    up_names : (later : Bool) (u : UpUnit) → OfSession (IsDue (before h)) u → Held (λ k. handle_up n k u (names_of n h k)) (up_events later n u ++ es)
    up_names later (up.OnSession m u) d = by (m == n) refl
      where
        by : (b : Bool) → (m == n) ≡ b → Held (λ k. if b then handle_by k u (names_of n h k) else names_of n h k) ((if b then given_event u ∷ [] else []) ++ es)
        by true e = unit_names u (subst (λ (i : ℕ). IsDue (before h) i u) (eq_of m n e) d)
        by false e = old
    up_names later (up.End m why) d = all_stay (names_of n h) life (up_events later n (up.End m why)) es (end_all (λ x. is_renaming x ≡ false) still later n m why) old
    up_names later u d = old

  other_names : (step : Step) (h : List Step) → gives_up step ≡ false → (path_life h n ≡ Some life → Held (names_of n h) (path_events h n)) → path_life (step ∷ h) n ≡ Some life
      → Held (names_of n (step ∷ h)) (path_events (step ∷ h) n)
  other_names step h e old l = by (opens_channel n h step) l
    where
      by : (b : Bool) → (if b then Some ((peers h).opened + 1) else path_life h n) ≡ Some life
          → Held (λ k. if b then None else handle_step n k step (names_of n h k)) (if b then [] else step_events n h step ++ path_events h n)
      by true l = none_named [] (new_table 255) refl
      by false l =
          names_as (names_of n h) (λ k. handle_step n k step (names_of n h k)) (after_events life (step_events n h step ++ path_events h n)).links
          (λ k. step_same n k step (names_of n h k) e)
          (all_stay (names_of n h) life (step_events n h step) (path_events h n) (step_all (λ x. is_renaming x ≡ false) still n h step e) (old l))

pub names : (n life : ℕ) → n ≤ CHANNEL_MAX → (h : List Step) → ArePicks h → path_life h n ≡ Some life → NamesIn (names_of n h) (after_events life (path_events h n)).links
names n life below [] p l = absurd cc
names n life below (Gave (ToUp u) text ∷ h) p l =
    up_names n life below h p.1 l (names n life below h p.1 l) (is_later (connection h) u) u (goes_up_as (IsDue (before h)) (before h) u (is_due (before h)) p.0.1)
names n life below (s ∷ h) p l = other_names n life below s h refl (names n life below h p.1) l

-- ---- what goes

module _ (publishes : PublishesAre) (frames : FramesAre) (rests : RestsAre) (tied : LinksAre) (arrives : DeliveriesAre) (closed : ClosedAre) (calls : CallsAre) where
  -- of a channel with a life, by its path
  module _ (h : List Step) (n : ℕ) (p : ArePicks h) where
    abbrev Lived : ℕ → Type 0
    Lived life = (path_life h n ≡ Some life) × (n ≤ CHANNEL_MAX)

    abbrev after : ℕ → PathState
    after life = after_events life (path_events h n)

    held : (life : ℕ) → Lived life → NamesIn (names_of n h) (after life).links
    held life l = names n life l.1 h p l.0

    attached : (a : AttachDue) (handle : ℕ) → next_attach (path_at (before h).paths n) ≡ Some a → handle ≡ a.handle → (k : ℕ) → handle_in n k h ≡ Some handle → ⊥
    attached a handle e same k g = by (slot_at (before h).paths n) refl e
      where
        lived_by : (s : PathState) → IsLived h n s → next_attach s ≡ Some a → ⊥
        lived_by s l f = attach_due (names_of n h) (after l.life) (held l.life (l.lives, l.below)) a (ap next_attach (sym l.is) ∙ f) k (g ∙ ap Some same)

        by : (o : Option PathState) → slot_at (before h).paths n ≡ o → next_attach (or_no_path o) ≡ Some a → ⊥
        by None i f = absurd cc
        by (Some s) i f = lived_by s (lived h n s p i) f

    flowed : is_kept (side_in h) ≡ true → (d : FlowDue) → next_flow (path_at (before h).paths n) ≡ Some d → handle_in n d.link h ≡ Some d.handle
    flowed kept d e = by (slot_at (before h).paths n) refl e
      where
        lived_by : (s : PathState) → IsLived h n s → next_flow s ≡ Some d → handle_in n d.link h ≡ Some d.handle
        lived_by s l f =
            flow_named (names_of n h) (after l.life) (held l.life (l.lives, l.below)) (fresh_after l.life (path_events h n))
            (grants_up arrives calls l.life (path_events h n) (are_heard (open_goes_on arrives closed) h n l.life p l.below kept l.lives)
            (have_room arrives closed calls n l.life l.below h p l.lives kept)) d (ap next_flow (sym l.is) ∙ f)

        by : (o : Option PathState) → slot_at (before h).paths n ≡ o → next_flow (or_no_path o) ≡ Some d → handle_in n d.link h ≡ Some d.handle
        by None i f = absurd cc
        by (Some s) i f = lived_by s (lived h n s p i) f

    detached : (x : PathLink) → next_detach (path_at (before h).paths n) ≡ Some x → handle_in n x.link h ≡ Some (handle_of x.stage)
    detached x e = by (slot_at (before h).paths n) refl e
      where
        lived_by : (s : PathState) → IsLived h n s → next_detach s ≡ Some x → handle_in n x.link h ≡ Some (handle_of x.stage)
        lived_by s l f = detach_due (names_of n h) (after l.life) (held l.life (l.lives, l.below)) x (tied_after l.life (path_events h n)) (ap next_detach (sym l.is) ∙ f)

        by : (o : Option PathState) → slot_at (before h).paths n ≡ o → next_detach (or_no_path o) ≡ Some x → handle_in n x.link h ≡ Some (handle_of x.stage)
        by None i f = absurd cc
        by (Some s) i f = lived_by s (lived h n s p i) f

    whole_held : (g : Stage) (r : Bool) → (is_stage_whole g && r) ≡ true → held_by g ≡ Some (handle_of g)
    whole_held (stage.Open i) r e = refl
    whole_held (stage.Refused i) r e = refl
    whole_held g r e = absurd cc

    framed : (t : TransferOut) (text : List ℕ) → MayTransfer h n t text → n ≤ CHANNEL_MAX → handle_in n t.frame.link h ≡ Some t.handle
    framed t text may below = by (find (has_number t.frame.link) s.links.links) refl (frame_carried publishes frames rests tied n may.life below h p may.lives t.frame may.frame)
      where
        s : PathState
        s = after may.life

        by : (o : Option PathLink) → find (has_number t.frame.link) s.links.links ≡ o → carrier_in o ≡ true → handle_in n t.frame.link h ≡ Some t.handle
        by None e c = absurd cc
        by (Some l) e c =
            let number : l.link ≡ t.frame.link = eq_of l.link t.frame.link (found_passes (has_number t.frame.link) s.links.links l e) in
            let named = found_held (names_of n h) s (held may.life (may.lives, below)) (has_number t.frame.link) l e (whole_held l.stage (not l.receives) c) in
            ap (λ (k : ℕ). handle_in n k h) (sym number) ∙ named ∙ ap Some (sym (may.handle ∙ ap handle_in_link e))

    carried : (window : ℕ) (f : NextFrame) (t : TransferOut) (text : List ℕ) → next_frame window (path_at (before h).paths n) ≡ Some f → MayTransfer h n t text
        → handle_in n t.frame.link h ≡ Some t.handle
    carried window f t text e may = by (slot_at (before h).paths n) refl e
      where
        none : (b : Bool) → (if b then None else None) ≡ Some f → ⊥
        none true g = cc
        none false g = cc

        by : (o : Option PathState) → slot_at (before h).paths n ≡ o → next_frame window (or_no_path o) ≡ Some f → handle_in n t.frame.link h ≡ Some t.handle
        by None i g = absurd (none (window == 0) g)
        by (Some s) i g = framed t text may (lived h n s p i).below

  name_by : (h : List Step) (u : UpUnit) (text : List ℕ) → ArePicks h → is_kept (side_in h) ≡ true → MayCarry h u text → OfSession (IsDue (before h)) u → MayName h u
  name_by h (up.OnSession n (unit.Attach a)) text p kept may d = attached h n p d.0 a.handle d.1 (ap (λ (x : AttachOut). x.handle) d.2)
  name_by h (up.OnSession n (unit.Flow f)) text p kept may d =
      ap (λ (x : LinkFlow). handle_in n x.link h) d.2 ∙ flowed h n p kept d.0 d.1 ∙ ap (λ (x : LinkFlow). Some x.handle) (sym d.2)
  name_by h (up.OnSession n (unit.Transfer t)) text p kept may d = carried h n p _ d.0 t text d.1 may
  name_by h (up.OnSession n (unit.Detach link handle why)) text p kept may d =
      ap (λ (k : ℕ). handle_in n k h) d.2.0 ∙ detached h n p d.0 d.1 ∙ ap Some (sym d.2.1)
  name_by h u text p kept may d = tt

  pub names_handles : (h : List Step) → ArePicks h → NamesItsHandles h
  names_handles [] p = tt
  names_handles (Gave (ToUp u) text ∷ h) p =
      (name_by h u text p.1 (is_there h u p.1 p.0.1) (carry_is publishes frames rests h u text p.1 p.0.1 p.0.2) (goes_up_as (IsDue (before h)) (before h) u (is_due (before h)) p.0.1), names_handles h p.1)
  names_handles (s ∷ h) p = names_handles h p.1
