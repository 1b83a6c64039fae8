-- A flow of a sending link states the delivery-count and the credit that the fold over the steps leaves.
use Rattle.std.proofs.Common.{◌≡◌, ◌∙◌, ℕ, ◌+◌, ◌%◌, ◌^◌, ◌==◌, not, ◌&&◌, Bool, true, false, if◌then◌else◌, List, [], ◌∷◌}
use Rattle.std.proofs.Common.{Option, Some, None, refl, sym, subst, ap, arith, cond}
use Rattle.std.specs.Prelude.{IfSome, find}
use Rattle.open_items.proofs.Filtered.{all_find}
use Rattle.links_10.specs.Send.{new_link}
use Rattle.links_10.specs.declared.send.Sending.{Sending}
use Rattle.publish_path.specs.Links.{link_of}
use Rattle.publish_path.specs.declared.send_links.SendingLink.{SendingLink}
use Rattle.consume_path.specs.declared.receiving.NextGrant.{NextGrant}
use Rattle.session_path.specs.Due.{due_in, flow_due, grant_due, next_flow}
use Rattle.session_path.specs.Events.{PathEvent, after_events}
use Rattle.session_path.specs.Links.{count_in, credit_in, handle_in, handle_of, has_number, is_given, is_left, is_stage_given, is_stage_left, is_stage_wanted}
use Rattle.session_path.specs.Path.{PathState, flow_of, grant_in, granting, granting_on, is_grant_next, owes_flow}
use Rattle.session_path.specs.declared.path.FlowDue.{FlowDue}
use Rattle.session_path.specs.declared.path.PathLink.{PathLink}
use Rattle.session_path.specs.declared.path.Stage.{Stage}
use Rattle.session_path.specs.declared.path.Stage.TheVariants as stage
use Rattle.session_path.proofs.Fresh.{IsFresh, fresh_after}
use Rattle.session_path.proofs.Tied.{Tied, tied_after}
use Rattle.session_path.proofs.Ties.{found_number, found_passes, no_clash}
use Rattle.std.specs.List.{AllByRecursion}
use Rattle.gate_model.specs.declared.channel.LinkFlow.{LinkFlow}
use Rattle.gate_model.specs.declared.channel.SessionUnit.TheVariants as unit
use Rattle.gate_model.specs.declared.outgoing.Outgoing.TheVariants.{ToUp}
use Rattle.gate_model.specs.declared.outgoing.UpUnit.{UpUnit}
use Rattle.gate_model.specs.declared.outgoing.UpUnit.TheVariants as up
use Rattle.gate_model.specs.Counts.{Counts, CountsAreKept, GivesBack, IsLeft, IsStated, Keeps, MayCount}
use Rattle.gate_model.specs.Folds.{side_in}
use Rattle.gate_model.specs.LinkCredits.{Credit, credit_by, left, link_steps, new_credit}
use Rattle.gate_model.specs.Paths.{or_no_path, slot_at}
use Rattle.gate_model.specs.Picks.{ArePicks}
use Rattle.gate_model.specs.Publishing.{path_events}
use Rattle.gate_model.specs.State.{Gave, Step, before}
use Rattle.gate_model.proofs.Fates.{IsLived, lived}
use Rattle.gate_model.proofs.Firsts.{OfSession, goes_up_as}
use Rattle.gate_model.proofs.Granting.{DeliveriesAre, owes_none}
use Rattle.gate_model.proofs.Heard.{ClosedAre, are_heard, is_kept}
use Rattle.gate_model.proofs.LinkCredits.{Agree, AllAgree, AtEnd, AtStage, HasAsked, IsKept, IsOver, agree_role, role_in}
use Rattle.gate_model.proofs.LinkRoles.{grants_receive}
use Rattle.gate_model.proofs.LinkRooms.{have_room}
use Rattle.gate_model.proofs.LinkSteps.{IsDue, agrees, is_due}
use Rattle.gate_model.proofs.LinkUps.{grants_up, is_up}
use Rattle.gate_model.proofs.Settles.{CallsAre, is_there, open_goes_on}

-- ---- a flow

-- what a unit says that states a count and a credit, or gives the credit back
abbrev States : Credit → ℕ → ℕ → Bool → Type 0
States c count credit drains = (w : LinkFlow) → w.count ≡ (if drains then (count + credit) % 2 ^ 32 else count) → w.credit ≡ (if drains then 0 else credit) → IsStated c w

stated_by : (c : Credit) (count credit : ℕ) (drains : Bool) → count ≡ c.count → IsLeft c credit → States c count credit drains
stated_by c count credit true same is w e g = GivesBack credit is (e ∙ ap (λ (m : ℕ). (m + credit) % 2 ^ 32) same) g
stated_by c count credit false same is w e g = Keeps (e ∙ same) (subst (IsLeft c) (sym g) is)

-- of the link with a handle
record Known (f : ℕ → Option Credit) (handle count credit : ℕ) (drains : Bool) : Type 0 where
  kept : Credit
  is : f handle ≡ Some kept
  stated : kept.receives ≡ false → States kept count credit drains

-- one that receives isn't judged
known_role : (f : ℕ → Option Credit) (handle count credit : ℕ) (drains : Bool) → role_in (f handle) ≡ Some true → Known f handle count credit drains
known_role f handle count credit drains role = by (f handle) refl role
  where
    by : (o : Option Credit) → f handle ≡ o → role_in o ≡ Some true → Known f handle count credit drains
    by None e r = absurd cc
    by (Some c) e r = record { kept = c; is = e; stated = λ sends. let receives : c.receives ≡ true = cc in absurd (no_clash c.receives receives sends) }

is_up_at : (g : Stage) → is_up g ≡ true → handle_in g ≡ Some (handle_of g)
is_up_at (stage.Open h) e = refl
is_up_at (stage.Refused h) e = refl
is_up_at (stage.Left h) e = refl
is_up_at (stage.Failed h fault) e = refl
is_up_at g e = absurd cc

there_at : (g : Stage) → is_stage_wanted g ≡ false → handle_in g ≡ Some (handle_of g)
there_at stage.Wanted e = absurd cc
there_at (stage.Asked h) e = refl
there_at (stage.Open h) e = refl
there_at (stage.Refused h) e = refl
there_at (stage.Left h) e = refl
there_at (stage.Given h) e = refl
there_at (stage.Failed h fault) e = refl

module _ (f : ℕ → Option Credit) (s : PathState) (t : Tied s.links) (all : AllAgree f s.links) (fresh : AllByRecursion IsFresh s.links.links) where
  found_agree : (p : PathLink → Bool) (l : PathLink) → find p s.links.links ≡ Some l → Agree f s.links.handles (link_of s.links.sending l.link) (Some l)
  found_agree p l e = subst (Agree f s.links.handles (link_of s.links.sending l.link)) (found_number p s.links.links l t.rising e) (all l.link)

  new_known : (l : PathLink) (j : ℕ) (x : Sending) (drains : Bool) → f j ≡ Some (new_credit l.link l.name l.receives) → x ≡ new_link → Known f j x.count x.credit drains
  new_known l j x drains is new = record {
    kept = c;
    is = is;
    stated = λ sends. stated_by c x.count x.credit drains (ap (λ (y : Sending). y.count) new) (subst (λ (y : Sending). IsLeft c y.credit) (sym new) none);
  }
    where
      c : Credit
      c = new_credit l.link l.name l.receives

      none : IsLeft (new_credit l.link l.name l.receives) 0
      none = let zero : 0 ≡ left (new_credit l.link l.name l.receives) = omega arith in (omega (arith, zero), λ uint. zero)

  kept_known : (x : SendingLink) (j : ℕ) (drains : Bool) → IsKept f s.links.handles x j → Known f j x.state.count x.state.credit drains
  kept_known x j drains k = record { kept = k.credit; is = k.is; stated = λ sends. stated_by k.credit x.state.count x.state.credit drains k.count (k.low, k.exact) }

  -- of a link that sends, by its stage
  staged : (l : PathLink) (x : SendingLink) (drains : Bool) (g : Stage) → is_stage_wanted g ≡ false → HasAsked f l.link l.name l.receives g → AtStage f s.links.handles x g
      → Known f (handle_of g) x.state.count x.state.credit drains
  staged l x drains stage.Wanted off asked i = absurd cc
  staged l x drains (stage.Asked j) off asked i = new_known l j x.state drains asked i.1
  staged l x drains (stage.Open j) off asked i = kept_known x j drains i
  staged l x drains (stage.Refused j) off asked i = kept_known x j drains i
  staged l x drains (stage.Left j) off asked i = absurd i
  staged l x drains (stage.Given j) off asked i = absurd i
  staged l x drains (stage.Failed j fault) off asked i = absurd i

  abbrev KnownOf : FlowDue → Type 0
  KnownOf d = Known f d.handle d.count d.credit d.drains

  same_due : (o : Option FlowDue) (d : FlowDue) → IfSome o KnownOf → o ≡ Some d → KnownOf d
  same_due o d i e = subst (λ (z : Option FlowDue). IfSome z KnownOf) e i

  sends : (l : PathLink) → flow_of s.publishes.list s.links ≡ Some l → KnownOf (flow_due s.links.sending l)
  sends l e = by (link_of s.links.sending l.link) refl (found_agree (owes_flow s.publishes.list s.links.sending) l e)
    where
      passes : owes_flow s.publishes.list s.links.sending l ≡ true
      passes = found_passes (owes_flow s.publishes.list s.links.sending) s.links.links l e

      wanted : (b : Bool) → is_stage_wanted l.stage ≡ b → b ≡ false
      wanted true w = absurd (owes_none s.publishes.list s.links.sending l ((all_find IsFresh (owes_flow s.publishes.list s.links.sending) s.links.links l fresh e).0 w) passes)
      wanted false w = refl

      off : is_stage_wanted l.stage ≡ false
      off = wanted (is_stage_wanted l.stage) refl

      ungiven : (p owes : Bool) → (not p && owes) ≡ true → p ≡ false
      ungiven true owes i = absurd cc
      ungiven false owes i = refl

      -- by whether the container detached it
      OfLink : Bool → Type 0
      OfLink left = Known f (handle_of l.stage) (cond left l.count (count_in (link_of s.links.sending l.link))) (cond left l.credit (credit_in (link_of s.links.sending l.link))) (l.echoes == 0)

      of_kept : (x : SendingLink) → link_of s.links.sending l.link ≡ Some x → Known f (handle_of l.stage) x.state.count x.state.credit (l.echoes == 0) → (b : Bool) → is_left l ≡ b → b ≡ false → OfLink b
      of_kept x g k true e off = absurd cc
      of_kept x g k false e off = subst (λ (o : Option SendingLink). Known f (handle_of l.stage) (count_in o) (credit_in o) (l.echoes == 0)) (sym g) k

      not_left : (x : SendingLink) (g : Stage) → AtStage f s.links.handles x g → is_stage_left g ≡ false
      not_left x stage.Wanted i = refl
      not_left x (stage.Asked j) i = refl
      not_left x (stage.Open j) i = refl
      not_left x (stage.Refused j) i = refl
      not_left x (stage.Left j) i = absurd i
      not_left x (stage.Given j) i = refl
      not_left x (stage.Failed j fault) i = refl

      over_known : (j : ℕ) → IsOver f l.link l.count l.credit j → Known f j l.count l.credit (l.echoes == 0)
      over_known j o = record { kept = o.credit; is = o.is; stated = λ sends. stated_by o.credit l.count l.credit (l.echoes == 0) o.states (o.low, o.exact) }

      -- one that sends without a credit that is kept
      of_over : (g : Stage) → AtEnd f l.link l.count l.credit l.receives g → l.receives ≡ false → is_stage_given g ≡ false
          → (is_stage_left g ≡ true) × Known f (handle_of g) l.count l.credit (l.echoes == 0)
      of_over stage.Wanted i role off = absurd (no_clash l.receives i role)
      of_over (stage.Asked j) i role off = absurd (no_clash l.receives i role)
      of_over (stage.Open j) i role off = absurd (no_clash l.receives i role)
      of_over (stage.Refused j) i role off = absurd (no_clash l.receives i role)
      of_over (stage.Left j) i role off = (refl, over_known j (i role))
      of_over (stage.Given j) i role off = absurd cc
      of_over (stage.Failed j fault) i role off = absurd (no_clash l.receives i role)

      by_role : (b : Bool) → l.receives ≡ b → Agree f s.links.handles None (Some l) → OfLink (is_left l)
      by_role true r i = known_role f (handle_of l.stage) _ _ (l.echoes == 0) (agree_role f s.links.handles None l (handle_of l.stage) (there_at l.stage off) i ∙ ap Some r)
      by_role false r i =
          let k = of_over l.stage i.1 r (ungiven (is_given l) _ passes) in
          subst OfLink (sym k.0) k.1

      by : (o : Option SendingLink) → link_of s.links.sending l.link ≡ o → Agree f s.links.handles o (Some l) → KnownOf (flow_due s.links.sending l)
      by None g i = by_role l.receives refl i
      by (Some x) g i = of_kept x g (staged l x (l.echoes == 0) l.stage off i.0 i.1.1) (is_left l) refl (not_left x l.stage i.1.1)

  -- a grant is of a link that receives
  grants : ((l : PathLink) → granting s ≡ Some l → is_up l.stage ≡ true)
      → ((l k : PathLink) → granting s ≡ Some l → find (has_number l.link) s.links.links ≡ Some k → k.receives ≡ true)
      → (l : PathLink) → granting s ≡ Some l → (p : PathLink → Bool) → find p s.links.links ≡ Some l → (count credit : ℕ) → Known f (handle_of l.stage) count credit false
  grants ups receives l e p found count credit =
      known_role f (handle_of l.stage) count credit false
      (agree_role f s.links.handles (link_of s.links.sending l.link) l (handle_of l.stage) (is_up_at l.stage (ups l e)) (found_agree p l found)
      ∙ ap Some (receives l l e (found_number p s.links.links l t.rising found)))

  flow_known : ((l : PathLink) → granting s ≡ Some l → is_up l.stage ≡ true)
      → ((l k : PathLink) → granting s ≡ Some l → find (has_number l.link) s.links.links ≡ Some k → k.receives ≡ true)
      → (d : FlowDue) → next_flow s ≡ Some d → KnownOf d
  flow_known ups receives d e = by (is_grant_next s) e
    where
      granted : (o : Option NextGrant) → grant_in s ≡ o → (q : Option PathLink) → granting_on o s.links ≡ q → grant_due q o s.deliveries ≡ Some d → KnownOf d
      granted None i q j k = absurd (none q k)
        where
          none : (q : Option PathLink) → grant_due q None s.deliveries ≡ Some d → ⊥
          none None k = cc
          none (Some l) k = cc
      granted (Some g) i None j k = absurd cc
      granted (Some g) i (Some l) j k =
          same_due (grant_due (Some l) (Some g) s.deliveries) d
          (grants ups receives l (ap (λ (o : Option NextGrant). granting_on o s.links) i ∙ j) (has_number g.link) j _ _) k

      sent : (o : Option PathLink) → flow_of s.publishes.list s.links ≡ o → due_in s.links.sending o ≡ Some d → KnownOf d
      sent None i q = absurd cc
      sent (Some l) i q = same_due (due_in s.links.sending (Some l)) d (sends l i) q

      by : (b : Bool) → (if b then grant_due (granting s) (grant_in s) s.deliveries else due_in s.links.sending (flow_of s.publishes.list s.links)) ≡ Some d → KnownOf d
      by true i = granted (grant_in s) refl (granting s) refl i
      by false i = sent (flow_of s.publishes.list s.links) refl i

-- ---- all steps

module _ (arrives : DeliveriesAre) (closed : ClosedAre) (calls : CallsAre) where
  counts : (h : List Step) (n : ℕ) (f : LinkFlow) → ArePicks h → is_kept (side_in h) ≡ true → IsDue (before h) n (unit.Flow f) → MayCount h (up.OnSession n (unit.Flow f))
  counts h n f p kept d less = by (slot_at (before h).paths n) refl d.1
    where
      es : List PathEvent
      es = path_events h n

      told : Known (λ k. credit_by k (link_steps n h)) d.0.handle d.0.count d.0.credit d.0.drains → Counts (link_steps n h) f
      told k = record {
        credit = k.kept;
        is = ap (λ (x : LinkFlow). credit_by x.handle (link_steps n h)) d.2 ∙ k.is;
        stated = λ sends. k.stated sends f (ap (λ (x : LinkFlow). x.count) d.2) (ap (λ (x : LinkFlow). x.credit) d.2);
      }

      lived_by : (s : PathState) → IsLived h n s → next_flow s ≡ Some d.0 → Counts (link_steps n h) f
      lived_by s l e =
          let room = have_room arrives closed calls n l.life l.below h p l.lives kept in
          told (flow_known (λ k. credit_by k (link_steps n h)) (after_events l.life es) (tied_after l.life es) (agrees arrives closed calls n l.below h p less l.life l.lives)
          (fresh_after l.life es) (grants_up arrives calls l.life es (are_heard (open_goes_on arrives closed) h n l.life p l.below kept l.lives) room)
          (grants_receive arrives l.life es room) d.0 (ap next_flow (sym l.is) ∙ e))

      by : (o : Option PathState) → slot_at (before h).paths n ≡ o → next_flow (or_no_path o) ≡ Some d.0 → Counts (link_steps n h) f
      by None g e = absurd cc
      by (Some s) g e = lived_by s (lived h n s p g) e

  count_by : (h : List Step) (u : UpUnit) → ArePicks h → is_kept (side_in h) ≡ true → OfSession (IsDue (before h)) u → MayCount h u
  count_by h (up.OnSession n (unit.Flow f)) p kept d = counts h n f p kept d
  count_by h u p kept d = tt

  pub counts_kept : (h : List Step) → ArePicks h → CountsAreKept h
  counts_kept [] p = tt
  counts_kept (Gave (ToUp u) text ∷ h) p =
      (count_by h u p.1 (is_there h u p.1 p.0.1) (goes_up_as (IsDue (before h)) (before h) u (is_due (before h)) p.0.1), counts_kept h p.1)
  counts_kept (s ∷ h) p = counts_kept h p.1
