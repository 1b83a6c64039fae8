-- What is recorded of the deliveries of a life where a disposition, a detach or a flow of a link goes is what went.
use Rattle.std.proofs.Common.{◌≡◌, ◌∙◌, ℕ, ◌≤◌, Bool, true, false, if◌then◌else◌, List, [], ◌∷◌, ◌++◌, Option, None, Some, refl, sym, ap, subst}
use Rattle.std.specs.Prelude.{IfSome, find}
use Rattle.open_items.proofs.Filtered.{all_find}
use Rattle.consume_path.specs.Deliveries as on
use Rattle.consume_path.specs.Deliveries.{DeliveryEvent}
use Rattle.consume_path.specs.declared.delivery.NextSettle.{NextSettle}
use Rattle.consume_path.specs.declared.receiving.NextGrant.{NextGrant}
use Rattle.session_path.specs.Due.{due_in, flow_due, grant_due, next_detach, next_dispose, next_flow}
use Rattle.session_path.specs.Events as event
use Rattle.session_path.specs.Events.{PathEvent, after_events, deliveries_of, delivery_events, disposes, drops, grants}
use Rattle.session_path.specs.Links.{has_number}
use Rattle.session_path.specs.Path.{IsThere, PathState, flow_of, grant_in, granting, granting_on, is_grant_next, owes_flow}
use Rattle.session_path.specs.declared.path.FlowDue.{FlowDue}
use Rattle.session_path.specs.declared.path.PathLink.{PathLink}
use Rattle.session_path.proofs.Idle.{detaching_there}
use Rattle.session_path.proofs.Ties.{eq_of, eq_to, found_number, found_passes}
use Rattle.machine_091.specs.declared.limits.TheConstants.{CHANNEL_MAX}
use Rattle.performatives_10.specs.declared.condition.Condition.{Condition}
use Rattle.gate_model.specs.Folds.{side_in}
use Rattle.gate_model.specs.Lives.{life_at}
use Rattle.gate_model.specs.Paths.{flow_out, or_no_path, path_at, slot_at}
use Rattle.gate_model.specs.Picks.{ArePicks}
use Rattle.gate_model.specs.Publishing.{given_event, path_events}
use Rattle.gate_model.specs.Records.{IsFlow, IsRecorded, Records, parted_from}
use Rattle.gate_model.specs.State.{Gave, Step, before}
use Rattle.gate_model.specs.declared.channel.LinkFlow.{LinkFlow}
use Rattle.gate_model.specs.declared.channel.SessionUnit.{SessionUnit}
use Rattle.gate_model.specs.declared.channel.SessionUnit.TheVariants as unit
use Rattle.gate_model.specs.declared.outgoing.Outgoing.TheVariants.{ToUp}
use Rattle.gate_model.specs.declared.outgoing.UpUnit.{UpUnit}
use Rattle.gate_model.specs.declared.outgoing.UpUnit.TheVariants as up
use Rattle.gate_model.proofs.Detaching.{DetachGoes, MayDetach, may_detach}
use Rattle.gate_model.proofs.Fates.{IsLived, lived}
use Rattle.gate_model.proofs.Firsts.{OfSession, goes_up_as}
use Rattle.gate_model.proofs.Granting.{DeliveriesAre, owes_none}
use Rattle.gate_model.proofs.Heard.{ClosedAre, is_kept}
use Rattle.gate_model.proofs.LinkRoles.{grants_receive}
use Rattle.gate_model.proofs.LinkRooms.{have_room}
use Rattle.gate_model.proofs.Receivers.{IsUnowed, LinksAre, are_unowed}
use Rattle.gate_model.proofs.Releases.{life_same, some_same}
use Rattle.gate_model.proofs.Settles.{CallsAre, IsFlowDue, IsNextUp, is_next_up, is_there}

-- the events of the life after a unit of its session
given : (h : List Step) (n : ℕ) (u : SessionUnit) (text : List ℕ) → path_events (Gave (ToUp (up.OnSession n u)) text ∷ h) n ≡ given_event u ∷ path_events h n
given h n u text = ap (λ (b : Bool). (if b then given_event u ∷ [] else []) ++ path_events h n) (eq_to n n refl)

-- what is recorded then
abbrev Recorded : ℕ → List Step → ℕ → SessionUnit → List ℕ → List DeliveryEvent
Recorded life h n u text = deliveries_of life (path_events (Gave (ToUp (up.OnSession n u)) text ∷ h) n)

recorded : (life : ℕ) (h : List Step) (n : ℕ) (u : SessionUnit) (text : List ℕ)
    → Recorded life h n u text ≡ delivery_events (after_events life (path_events h n)) (given_event u) ++ deliveries_of life (path_events h n)
recorded life h n u text = ap (deliveries_of life) (given h n u text)

-- ---- flows

-- the flow that is due, and what is recorded of it
record IsOf (s : PathState) (f : FlowDue) (l : PathLink) (ds : List DeliveryEvent) : Type 0 where
  is : find (has_number f.link) s.links.links ≡ Some l
  goes : (w : LinkFlow) → w.link ≡ f.link → w.credit ≡ (if f.drains then 0 else f.credit) → IsFlow l.receives w ds (delivery_events s event.LinkFlowSent ++ ds)

module _ (life : ℕ) (es : List PathEvent) (tied : LinksAre) where
  abbrev s : PathState
  s = after_events life es

  -- what is recorded where this is the grant that is due, or none is
  abbrev Made : FlowDue → List DeliveryEvent → Bool → Option NextGrant → Type 0
  Made f ds b o =
      (l : PathLink) × (find (has_number f.link) s.links.links ≡ Some l)
      × ((w : LinkFlow) → w.link ≡ f.link → w.credit ≡ (if f.drains then 0 else f.credit) → IsFlow l.receives w ds ((if b then grants o else []) ++ ds))

  flow_is : ((l k : PathLink) → granting s ≡ Some l → find (has_number l.link) s.links.links ≡ Some k → k.receives ≡ true)
      → (f : FlowDue) (ds : List DeliveryEvent) → next_flow s ≡ Some f → (l : PathLink) × IsOf s f l ds
  flow_is receives f ds e = by (is_grant_next s) refl e
    where
      grant : (o : Option NextGrant) → grant_in s ≡ o → grant_due (granting_on o s.links) o s.deliveries ≡ Some f → Made f ds true o
      grant None due q = absurd cc
      grant (Some g) due q = at (find (has_number g.link) s.links.links) refl q
        where
          at : (o : Option PathLink) → find (has_number g.link) s.links.links ≡ o → grant_due o (Some g) s.deliveries ≡ Some f → Made f ds true (Some g)
          at None there k = absurd cc
          at (Some l) there k =
              let number : l.link ≡ g.link = eq_of l.link g.link (found_passes (has_number g.link) s.links.links l there) in
              let link : l.link ≡ f.link = cc in
              let credit : g.credit ≡ (if f.drains then 0 else f.credit) = stated k in
              let own : find (has_number l.link) s.links.links ≡ Some l = found_number (has_number g.link) s.links.links l (tied life es).rising there in
              let role : l.receives ≡ true = receives l l (ap (λ (o : Option NextGrant). granting_on o s.links) due ∙ there) own in (
                l,
                ap (λ (k : ℕ). find (has_number k) s.links.links) (sym link) ∙ own,
                λ w same states. subst (λ (b : Bool). IsFlow b w ds (grants (Some g) ++ ds)) (sym role)
                    (record { grant = g; link = sym number ∙ link ∙ sym same; credit = credit ∙ sym states; is = refl }),
              )
            where
              stated : grant_due (Some l) (Some g) s.deliveries ≡ Some f → g.credit ≡ (if f.drains then 0 else f.credit)
              stated k = same (grant_due (Some l) (Some g) s.deliveries) refl k
                where
                  same : (o : Option FlowDue) → IfSome o (λ x. g.credit ≡ (if x.drains then 0 else x.credit)) → o ≡ Some f → g.credit ≡ (if f.drains then 0 else f.credit)
                  same o i q = subst (λ (z : Option FlowDue). IfSome z (λ x. g.credit ≡ (if x.drains then 0 else x.credit))) q i

      sends : (o : Option PathLink) → flow_of s.publishes.list s.links ≡ o → due_in s.links.sending o ≡ Some f → Made f ds false (grant_in s)
      sends None found q = absurd cc
      sends (Some l) found q =
          let due : flow_due s.links.sending l ≡ f = cc in
          let link : l.link ≡ f.link = ap (λ (x : FlowDue). x.link) due in
          let own = found_number (owes_flow s.publishes.list s.links.sending) s.links.links l (tied life es).rising found in
          (l, ap (λ (k : ℕ). find (has_number k) s.links.links) (sym link) ∙ own, λ w same states. role l.receives refl w)
        where
          role : (b : Bool) → l.receives ≡ b → (w : LinkFlow) → IsFlow b w ds ds
          role false r w = refl
          role true r w =
              absurd (owes_none s.publishes.list s.links.sending l
              ((all_find IsUnowed (owes_flow s.publishes.list s.links.sending) s.links.links l (are_unowed tied life es) found).0 r)
              (found_passes (owes_flow s.publishes.list s.links.sending) s.links.links l found))

      made : (b : Bool) → is_grant_next s ≡ b → Made f ds b (grant_in s) → (l : PathLink) × IsOf s f l ds
      made b is m = (
        m.0,
        record {
          is = m.1;
          goes = λ w link credit. subst (λ (c : Bool). IsFlow m.0.receives w ds ((if c then grants (grant_in s) else []) ++ ds)) (sym is) (m.2 w link credit);
        },
      )

      by : (b : Bool) → is_grant_next s ≡ b
          → (if b then grant_due (granting_on (grant_in s) s.links) (grant_in s) s.deliveries else due_in s.links.sending (flow_of s.publishes.list s.links)) ≡ Some f
          → (l : PathLink) × IsOf s f l ds
      by true is q = made true is (grant (grant_in s) refl q)
      by false is q = made false is (sends (flow_of s.publishes.list s.links) refl q)

-- ---- units that go

module _ (tied : LinksAre) (arrives : DeliveriesAre) (closed : ClosedAre) (calls : CallsAre) where
  disposed : (h : List Step) (n : ℕ) (x : NextSettle) (text : List ℕ) → ArePicks h → next_dispose (path_at (before h).paths n) ≡ Some x
      → IsRecorded h (up.OnSession n (unit.Dispose x)) (Gave (ToUp (up.OnSession n (unit.Dispose x))) text ∷ h)
  disposed h n x text p e life lives = by (slot_at (before h).paths n) refl e
    where
      lived_by : (s : PathState) → IsLived h n s → next_dispose s ≡ Some x
          → next_dispose (after_events life (path_events h n)) ≡ Some x
      lived_by s l f = ap next_dispose (ap (λ (k : ℕ). after_events k (path_events h n)) (life_same (sym lives ∙ l.lives)) ∙ sym l.is) ∙ f

      by : (o : Option PathState) → slot_at (before h).paths n ≡ o → next_dispose (or_no_path o) ≡ Some x
          → Recorded life h n (unit.Dispose x) text ≡ disposes (Some x) ++ deliveries_of life (path_events h n)
      by None g f = absurd cc
      by (Some s) g f =
          recorded life h n (unit.Dispose x) text
          ∙ ap (λ (o : Option NextSettle). disposes o ++ deliveries_of life (path_events h n)) (lived_by s (lived h n s p g) f)

  dropped : (l : PathLink) (ds : List DeliveryEvent) → drops (Some l) ++ ds ≡ parted_from l ds
  dropped l ds = by l.receives
    where
      by : (b : Bool) → (if b then on.LinkDropped l.link ∷ [] else []) ++ ds ≡ (if b then on.LinkDropped l.link ∷ ds else ds)
      by true = refl
      by false = refl

  parted : {why : Option Condition} (h : List Step) (n link handle : ℕ) (text : List ℕ) → ArePicks h → DetachGoes (before h) n link why
      → IsRecorded h (up.OnSession n (unit.Detach link handle why)) (Gave (ToUp (up.OnSession n (unit.Detach link handle why))) text ∷ h)
  parted {why} h n link handle text p d life l lives found = by (slot_at (before h).paths n) refl d.due
    where
      x : PathState
      x = after_events life (path_events h n)

      ds : List DeliveryEvent
      ds = deliveries_of life (path_events h n)

      gone_by : next_detach x ≡ Some d.gone → Recorded life h n (unit.Detach link handle why) text ≡ parted_from l ds
      gone_by e =
          let there = detaching_there x.publishes.list x.deliveries x.oks x.links (tied life (path_events h n)).rising in
          let here = subst (λ (o : Option PathLink). IfSome o (IsThere x.links)) e there in
          let again : find (has_number link) x.links.links ≡ Some d.gone = subst (λ (k : ℕ). find (has_number k) x.links.links ≡ Some d.gone) d.is here.0 in
          let same : l ≡ d.gone = some_same (sym found ∙ again) in
          recorded life h n (unit.Detach link handle why) text ∙ ap (λ (o : Option PathLink). drops o ++ ds) e ∙ dropped d.gone ds
          ∙ ap (λ (k : PathLink). parted_from k ds) (sym same)

      lived_by : (s : PathState) → IsLived h n s → next_detach s ≡ Some d.gone → next_detach x ≡ Some d.gone
      lived_by s v f = ap next_detach (ap (λ (k : ℕ). after_events k (path_events h n)) (life_same (sym lives ∙ v.lives)) ∙ sym v.is) ∙ f

      by : (o : Option PathState) → slot_at (before h).paths n ≡ o → next_detach (or_no_path o) ≡ Some d.gone → Recorded life h n (unit.Detach link handle why) text ≡ parted_from l ds
      by None g e = absurd cc
      by (Some s) g e = gone_by (lived_by s (lived h n s p g) e)

  flowed : (h : List Step) (n : ℕ) (f : LinkFlow) (text : List ℕ) → ArePicks h → is_kept (side_in h) ≡ true → IsFlowDue (before h) n f
      → IsRecorded h (up.OnSession n (unit.Flow f)) (Gave (ToUp (up.OnSession n (unit.Flow f))) text ∷ h)
  flowed h n f text p kept d life l lives found = by (slot_at (before h).paths n) refl d.next
    where
      es : List PathEvent
      es = path_events h n

      x : PathState
      x = after_events life es

      ds : List DeliveryEvent
      ds = deliveries_of life es

      w : LinkFlow
      w = flow_out (life_at (before h).lives n).session d.due

      goes_by : n ≤ CHANNEL_MAX → next_flow x ≡ Some d.due → IsFlow l.receives f ds (Recorded life h n (unit.Flow f) text)
      goes_by below e =
          let m = flow_is life es tied (grants_receive arrives life es (have_room arrives closed calls n life below h p lives kept)) d.due ds e in
          let link : f.link ≡ d.due.link = ap (λ (y : LinkFlow). y.link) d.is in
          let again : find (has_number f.link) x.links.links ≡ Some m.0 = ap (λ (k : ℕ). find (has_number k) x.links.links) link ∙ m.1.is in
          let same : l ≡ m.0 = some_same (sym found ∙ again) in
          subst (λ (zs : List DeliveryEvent). IsFlow l.receives f ds zs) (sym (recorded life h n (unit.Flow f) text))
          (subst (λ (k : PathLink). IsFlow k.receives f ds (delivery_events x event.LinkFlowSent ++ ds)) (sym same) (m.1.goes f link (ap (λ (y : LinkFlow). y.credit) d.is)))

      lived_by : (s : PathState) → IsLived h n s → next_flow s ≡ Some d.due → IsFlow l.receives f ds (Recorded life h n (unit.Flow f) text)
      lived_by s v e = goes_by v.below (ap next_flow (ap (λ (k : ℕ). after_events k es) (life_same (sym lives ∙ v.lives)) ∙ sym v.is) ∙ e)

      by : (o : Option PathState) → slot_at (before h).paths n ≡ o → next_flow (or_no_path o) ≡ Some d.due → IsFlow l.receives f ds (Recorded life h n (unit.Flow f) text)
      by None g e = absurd cc
      by (Some s) g e = lived_by s (lived h n s p g) e

  record_by : (h : List Step) (u : UpUnit) (text : List ℕ) → ArePicks h → is_kept (side_in h) ≡ true → OfSession (IsNextUp (before h)) u → MayDetach (before h) u
      → IsRecorded h u (Gave (ToUp u) text ∷ h)
  record_by h (up.OnSession n (unit.Dispose x)) text p kept e m = disposed h n x text p e
  record_by h (up.OnSession n (unit.Flow f)) text p kept e m = flowed h n f text p kept e
  record_by h (up.OnSession n (unit.Detach link handle why)) text p kept e m = parted h n link handle text p m
  record_by h u text p kept e m = tt

  pub records_are : (h : List Step) → ArePicks h → Records h
  records_are [] p = tt
  records_are (Gave (ToUp u) text ∷ h) p = (
    record_by h u text p.1 (is_there h u p.1 p.0.1) (goes_up_as (IsNextUp (before h)) (before h) u (is_next_up (before h)) p.0.1) (may_detach (before h) u p.0.1),
    records_are h p.1,
  )
  records_are (s ∷ h) p = records_are h p.1
