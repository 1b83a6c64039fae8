-- The flow that is due on a path is of a link of its session; that of a receiving one states a lawful credit.
use Rattle.std.proofs.Common.{◌≡◌, ℕ, zero, suc, ◌+◌, ◌&&◌, ◌||◌, nat_lt, not, cond, Bool, true}
use Rattle.std.proofs.Common.{false, if◌then◌else◌, List, [], ◌∷◌, Option, None, Some, option_map, refl, sym, ap, ◌∙◌, subst, arith}
use Rattle.std.specs.List.{AllByRecursion}
use Rattle.std.specs.Option.{option_or}
use Rattle.std.specs.Prelude.{IfSome, find}
use Rattle.open_items.proofs.Filtered.{all_find}
use Rattle.publish_path.specs.declared.publish.Publish.{Publish}
use Rattle.publish_path.specs.declared.send_links.SendingLink.{SendingLink}
use Rattle.consume_path.specs.Deliveries.{DeliveryEvent, DeliveryState}
use Rattle.consume_path.specs.Deliveries.{after_events as deliveries_after}
use Rattle.consume_path.specs.Laws.{AreCalls, IsCounted, IsLawfulCredit, IsLawfulGrant}
use Rattle.consume_path.specs.Links.{has_number as is_number, is_to_ask, link_of}
use Rattle.consume_path.specs.Offers.{echo_credit, flow_if, flow_of as offer_of, grant_as, grant_link, next_grant_of, sooner}
use Rattle.consume_path.specs.declared.receiving.Cause.TheVariants.{Echo, Get as Asks, Refill, Stop}
use Rattle.consume_path.specs.declared.receiving.NextGrant.{NextGrant}
use Rattle.consume_path.specs.declared.receiving.ReceivingLink.{ReceivingLink}
use Rattle.session_path.specs.Due.{due_in, flow_due, grant_due, next_flow}
use Rattle.session_path.specs.Events.{PathEvent, after_events, deliveries_of}
use Rattle.session_path.specs.Links.{has_number, is_given}
use Rattle.session_path.specs.Path.{PathState, flow_of, grant_in, granting_on, is_grant_next, may_drain, owes_flow}
use Rattle.session_path.specs.declared.path.FlowDue.{FlowDue}
use Rattle.session_path.specs.declared.path.PathLink.{PathLink}
use Rattle.session_path.proofs.Ties.{eq_of, eq_to, found_number, found_passes}
use Rattle.gate_model.specs.Settles.{IsGranted}
use Rattle.gate_model.proofs.Receivers.{IsUnowed, LinksAre, are_unowed}

-- ---- the laws below

abbrev pub DeliveriesAre : Type 0
DeliveriesAre = (life : ℕ) (h : List PathEvent) → (after_events life h).deliveries ≡ deliveries_after life (deliveries_of life h)

abbrev pub CreditsAre : Type 0
CreditsAre = (life : ℕ) (h : List DeliveryEvent) → AreCalls life h
    → IfSome (next_grant_of (deliveries_after life h).closed (deliveries_after life h).links) (IsLawfulGrant (deliveries_after life h))

abbrev pub CountsAre : Type 0
CountsAre = (life : ℕ) (h : List DeliveryEvent) → AllByRecursion (IsCounted h) (deliveries_after life h).links

-- ---- a grant is of a link that is there

pub record IsThere (links : List ReceivingLink) (number : ℕ) : Type 0 where
  pub link : ReceivingLink
  pub is : link_of links number ≡ Some link

offer_if : (b : Bool) (x : ReceivingLink) (a g : NextGrant) → a.link ≡ x.link → flow_if b a ≡ Some g → g.link ≡ x.link
offer_if false x a g e f = absurd cc
offer_if true x a g e f = let same : a ≡ g = cc in subst (λ (z : NextGrant). z.link ≡ x.link) same e

pub offer_is : (closed : Bool) (x : ReceivingLink) (g : NextGrant) → offer_of closed x ≡ Some g → g.link ≡ x.link
offer_is closed x g e = by x.attached _ x.stopping (is_to_ask x.get && not closed) (nat_lt 0 x.echoes) e
  where
    by : (attached : Bool) (refill : Option ℕ) (stops asks echoes : Bool)
        → (if attached then option_or (option_map (grant_as x Refill) refill)
        (option_or (flow_if stops (grant_as x Stop 0)) (option_or (flow_if asks (grant_as x Asks 1)) (flow_if echoes (grant_as x Echo (echo_credit closed x))))) else None) ≡ Some g
        → g.link ≡ x.link
    by false refill stops asks echoes f = absurd cc
    by true (Some credit) stops asks echoes f = offer_if true x (grant_as x Refill credit) g refl f
    by true None true asks echoes f = offer_if true x (grant_as x Stop 0) g refl f
    by true None false true echoes f = offer_if true x (grant_as x Asks 1) g refl f
    by true None false false echoes f = offer_if echoes x (grant_as x Echo (echo_credit closed x)) g refl f

later : (x : ReceivingLink) (links : List ReceivingLink) (number : ℕ) → IsThere links number → IsThere (x ∷ links) number
later x links number t = by (is_number number x) refl
  where
    by : (b : Bool) → is_number number x ≡ b → IsThere (x ∷ links) number
    by true e = record { link = x; is = ap (λ (c : Bool). cond c (Some x) (link_of links number)) e }
    by false e = record { link = t.link; is = ap (λ (c : Bool). cond c (Some x) (link_of links number)) e ∙ t.is }

here : (x : ReceivingLink) (links : List ReceivingLink) (number : ℕ) → number ≡ x.link → IsThere (x ∷ links) number
here x links number e = record { link = x; is = ap (λ (c : Bool). cond c (Some x) (link_of links number)) (eq_to x.link number (sym e)) }

pub grant_there : (closed : Bool) (links : List ReceivingLink) (g : NextGrant) → next_grant_of closed links ≡ Some g → IsThere links g.link
grant_there closed [] g e = absurd cc
grant_there closed (x ∷ links) g e = by (offer_of closed x) (next_grant_of closed links) (offer_is closed x g) (grant_there closed links g) e
  where
    by : (a b : Option NextGrant) → (a ≡ Some g → g.link ≡ x.link) → (b ≡ Some g → IsThere links g.link) → sooner grant_link a b ≡ Some g → IsThere (x ∷ links) g.link
    by None b is more f = later x links g.link (more f)
    by (Some a) None is more f = here x links g.link (is f)
    by (Some a) (Some b) is more f = either (nat_lt (grant_link b) (grant_link a)) f
      where
        either : (c : Bool) → cond c (Some b) (Some a) ≡ Some g → IsThere (x ∷ links) g.link
        either true k = later x links g.link (more k)
        either false k = here x links g.link (is k)

-- ---- the flow that is due

pub record IsOfLink (life : ℕ) (es : List PathEvent) (number credit : ℕ) : Type 0 where
  pub link : PathLink
  pub is : find (has_number number) (after_events life es).links.links ≡ Some link
  pub granted : link.receives ≡ true → IsGranted life (deliveries_of life es) number credit

granted_by : CreditsAre → CountsAre → (life : ℕ) (es : List DeliveryEvent) (g : NextGrant) → AreCalls life es
    → next_grant_of (deliveries_after life es).closed (deliveries_after life es).links ≡ Some g → IsGranted life es g.link g.credit
granted_by credits counts life es g calls e =
    let there = grant_there (deliveries_after life es).closed (deliveries_after life es).links g e in
    let lawful : IsLawfulGrant (deliveries_after life es) g = subst (λ (o : Option NextGrant). IfSome o (IsLawfulGrant (deliveries_after life es))) e (credits life es calls) in
    record {
      link = there.link;
      is = there.is;
      lawful = subst (λ (o : Option ReceivingLink). IfSome o (λ l. IsLawfulCredit l.kind g.credit l)) there.is lawful;
      counted = (all_find (IsCounted es) (is_number g.link) (deliveries_after life es).links there.link (counts life es) there.is).0;
    }

-- a link that is owed none
pub owes_none : (list : List Publish) (sending : List SendingLink) (l : PathLink) → l.echoes + l.drains ≡ 0 → owes_flow list sending l ≡ true → ⊥
owes_none list sending l e f = by (is_given l) (may_drain list sending l) l.echoes l.drains e f
  where
    by : (b m : Bool) (k d : ℕ) → k + d ≡ 0 → (not b && (nat_lt 0 k || (nat_lt 0 d && m))) ≡ true → ⊥
    by b m zero zero g h = none b h
      where
        none : (c : Bool) → (not c && false) ≡ true → ⊥
        none true h = cc
        none false h = cc
    by b m zero (suc d) g h = omega (arith, g)
    by b m (suc k) d g h = omega (arith, g)

module _ (tied : LinksAre) (deliveries : DeliveriesAre) (credits : CreditsAre) (counts : CountsAre) where
  pub flow_is : (life : ℕ) (es : List PathEvent) (f : FlowDue) → AreCalls life (deliveries_of life es) → next_flow (after_events life es) ≡ Some f
      → IsOfLink life es f.link (if f.drains then 0 else f.credit)
  flow_is life es f calls e = by (is_grant_next s) e
    where
      s : PathState
      s = after_events life es

      grants : (g : NextGrant) (l : PathLink) → grant_in s ≡ Some g → find (has_number g.link) s.links.links ≡ Some l → grant_due (Some l) (Some g) s.deliveries ≡ Some f
          → IsOfLink life es f.link (if f.drains then 0 else f.credit)
      grants g l due there is =
          let number : l.link ≡ g.link = eq_of l.link g.link (found_passes (has_number g.link) s.links.links l there) in
          let from : next_grant_of (deliveries_after life (deliveries_of life es)).closed (deliveries_after life (deliveries_of life es)).links ≡ Some g =
          ap (λ (d : DeliveryState). next_grant_of d.closed d.links) (sym (deliveries life es)) ∙ due in
          let granted : IsOfLink life es l.link g.credit = subst (λ (k : ℕ). IsOfLink life es k g.credit) (sym number)
          (record { link = l; is = there; granted = λ r. granted_by credits counts life (deliveries_of life es) g calls from }) in
          same (grant_due (Some l) (Some g) s.deliveries) granted is
        where
          same : (o : Option FlowDue) → IfSome o (λ x. IsOfLink life es x.link (if x.drains then 0 else x.credit)) → o ≡ Some f → IsOfLink life es f.link (if f.drains then 0 else f.credit)
          same o k q = subst (λ (z : Option FlowDue). IfSome z (λ x. IsOfLink life es x.link (if x.drains then 0 else x.credit))) q k

      of_grant : (o : Option NextGrant) → grant_in s ≡ o → grant_due (granting_on o s.links) o s.deliveries ≡ Some f → IsOfLink life es f.link (if f.drains then 0 else f.credit)
      of_grant None due q = absurd cc
      of_grant (Some g) due q = at (find (has_number g.link) s.links.links) refl q
        where
          at : (o : Option PathLink) → find (has_number g.link) s.links.links ≡ o → grant_due o (Some g) s.deliveries ≡ Some f → IsOfLink life es f.link (if f.drains then 0 else f.credit)
          at None there k = absurd cc
          at (Some l) there k = grants g l due there k

      sends : (o : Option PathLink) → flow_of s.publishes.list s.links ≡ o → due_in s.links.sending o ≡ Some f → IsOfLink life es f.link (if f.drains then 0 else f.credit)
      sends None found q = absurd cc
      sends (Some l) found q =
          let same : flow_due s.links.sending l ≡ f = cc in
          subst (λ (x : FlowDue). IsOfLink life es x.link (if x.drains then 0 else x.credit)) same (record {
            link = l;
            is = found_number (owes_flow s.publishes.list s.links.sending) s.links.links l (tied life es).rising found;
            granted = λ r.
                absurd (owes_none s.publishes.list s.links.sending l
                ((all_find IsUnowed (owes_flow s.publishes.list s.links.sending) s.links.links l (are_unowed tied life es) found).0 r)
                (found_passes (owes_flow s.publishes.list s.links.sending) s.links.links l found));
          })

      by : (b : Bool) → (if b then grant_due (granting_on (grant_in s) s.links) (grant_in s) s.deliveries else due_in s.links.sending (flow_of s.publishes.list s.links)) ≡ Some f
          → IsOfLink life es f.link (if f.drains then 0 else f.credit)
      by true q = of_grant (grant_in s) refl q
      by false q = sends (flow_of s.publishes.list s.links) refl q
