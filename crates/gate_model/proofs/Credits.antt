-- The flows of receiving links state a lawful credit, by the kind of their link; and the credit that is left is within the quota.
use Rattle.std.proofs.Common.{◌≡◌, ◌∙◌, ℕ, ◌+◌, ◌≤◌, ◌&&◌, not, Bool, true, false, if◌then◌else◌, List, Option, None, Some}
use Rattle.std.proofs.Common.{refl, sym, ap, subst, arith}
use Rattle.std.specs.Prelude.{IfSome, find, is_some}
use Rattle.open_items.proofs.Filtered.{all_find}
use Rattle.consume_path.specs.Deliveries.{DeliveryEvent, DeliveryState}
use Rattle.consume_path.specs.Deliveries.{after_events as deliveries_after}
use Rattle.consume_path.specs.Laws.{AreCalls, IsCounted, IsLawfulCredit, IsLawfulGrant, counted_on, joined_of, pieces_of}
use Rattle.consume_path.specs.Links.{count_in as count_at, has_number as is_number, in_link, link_of, one_if}
use Rattle.consume_path.specs.Offers.{is_for_gets, next_grant_of, serves_gets}
use Rattle.consume_path.specs.declared.receiving.NextGrant.{NextGrant}
use Rattle.consume_path.specs.declared.receiving.Partial.{Partial}
use Rattle.consume_path.specs.declared.receiving.ReceivingLink.{ReceivingLink}
use Rattle.consume_path.specs.declared.receiving.RecvKind.{RecvKind}
use Rattle.consume_path.specs.declared.receiving.RecvKind.TheVariants.{Consumer, Get, Probe}
use Rattle.session_path.specs.Due.{due_in, flow_due, grant_due, next_flow}
use Rattle.session_path.specs.Events.{PathEvent, after_events, deliveries_of}
use Rattle.session_path.specs.Links.{handle_of, has_number}
use Rattle.session_path.specs.Path.{PathState, flow_of, grant_in, granting_on, is_grant_next, owes_flow}
use Rattle.session_path.specs.declared.path.FlowDue.{FlowDue}
use Rattle.session_path.specs.declared.path.PathLink.{PathLink}
use Rattle.session_path.proofs.Ties.{eq_of, found_number, found_passes}
use Rattle.gate_model.specs.declared.channel.LinkFlow.{LinkFlow}
use Rattle.gate_model.specs.Credits.{IsCredit, awaits, in_use, is_consumer, is_granted, is_receiving, kind_in, quota_in, quota_of}
use Rattle.gate_model.proofs.Awaiting.{idle_credit}
use Rattle.gate_model.proofs.Basics.{and_left, and_right, not_true}
use Rattle.gate_model.proofs.Calling.{get_calls}
use Rattle.gate_model.proofs.Credited.{credit_within}
use Rattle.gate_model.proofs.Granting.{CountsAre, CreditsAre, DeliveriesAre, owes_none}
use Rattle.gate_model.proofs.Linking.{Source, apart, source}
use Rattle.gate_model.proofs.Quotas.{ForConsumer, Kept, kept, number_is, quota_same}
use Rattle.gate_model.proofs.Receivers.{IsUnowed, LinksAre, are_unowed}

-- what consume_path says of the deliveries that are begun
abbrev pub JoinedAre : Type 0
JoinedAre = (life k : ℕ) (ds : List DeliveryEvent) → AreCalls life ds → IfSome (link_of (deliveries_after life ds).links k) (λ l. l.partial ≡ joined_of (pieces_of k ds))

-- ---- what is in use

pub used : CountsAre → JoinedAre → (life k : ℕ) (ds : List DeliveryEvent) (l : ReceivingLink) → AreCalls life ds → link_of (deliveries_after life ds).links k ≡ Some l
    → l.state.counted ≡ in_use k ds
used counts joined life k ds l calls e =
    (all_find (IsCounted ds) (is_number k) (deliveries_after life ds).links l (counts life ds) e).0
    ∙ ap (λ (i : ℕ). counted_on i ds + one_if (is_some l.partial)) (number_is (deliveries_after life ds).links k l e)
    ∙ ap (λ (p : Option Partial). counted_on k ds + one_if (is_some p)) (subst (λ (o : Option ReceivingLink). IfSome o (λ m. m.partial ≡ joined_of (pieces_of k ds))) e (joined life k ds calls))

pub kept_is : (life k : ℕ) (ds : List DeliveryEvent) (l : ReceivingLink) → AreCalls life ds → link_of (deliveries_after life ds).links k ≡ Some l → Kept ds k l
kept_is life k ds l calls e = subst (λ (o : Option ReceivingLink). IfSome o (Kept ds k)) e (kept life ds calls k)

quota_is : (life k : ℕ) (es : List PathEvent) (l : ReceivingLink) (tag : List ℕ) (no_ack : Bool) → l.kind ≡ Consumer tag no_ack → Kept (deliveries_of life es) k l
    → l.state.quota ≡ quota_in life k es
quota_is life k es l tag no_ack is w = subst (λ (kind : RecvKind). ForConsumer kind (l.state.quota ≡ quota_of k (deliveries_of life es))) is w.quota ∙ quota_same life k es

-- ---- a flow that the deliveries ask for

record Says (f : LinkFlow) (g : NextGrant) (serves : Bool) : Type 0 where
  link : f.link ≡ g.link
  credit : f.credit ≡ g.credit
  drain : f.drain ≡ serves

module _ (deliveries : DeliveriesAre) (credits : CreditsAre) (counts : CountsAre) (joined : JoinedAre) where
  granted : (life : ℕ) (es : List PathEvent) (g : NextGrant) (f : LinkFlow) → AreCalls life (deliveries_of life es)
      → next_grant_of (deliveries_after life (deliveries_of life es)).closed (deliveries_after life (deliveries_of life es)).links ≡ Some g
      → Says f g (serves_gets g.link (deliveries_after life (deliveries_of life es)).links) → IsCredit life es f (kind_in f.link (deliveries_of life es))
  granted life es g f calls e says =
      subst (IsCredit life es f) (w.kind ∙ ap (λ (i : ℕ). kind_in i ds) (sym says.link)) (by t.link.kind refl)
    where
      ds : List DeliveryEvent
      ds = deliveries_of life es

      s : DeliveryState
      s = deliveries_after life ds

      t : Source s.closed s.links g
      t = source s.closed s.links g (apart life ds calls) e

      w : Kept ds g.link t.link
      w = kept_is life g.link ds t.link calls t.is

      lawful : IsLawfulCredit t.link.kind g.credit t.link
      lawful =
          let all : IsLawfulGrant s g = subst (λ (o : Option NextGrant). IfSome o (IsLawfulGrant s)) e (credits life ds calls) in
          subst (λ (o : Option ReceivingLink). IfSome o (λ l. IsLawfulCredit l.kind g.credit l)) t.is all

      lawful_as : (kind : RecvKind) → t.link.kind ≡ kind → IsLawfulCredit kind g.credit t.link
      lawful_as kind is = subst (λ (k : RecvKind). IsLawfulCredit k g.credit t.link) is lawful

      by : (kind : RecvKind) → t.link.kind ≡ kind → IsCredit life es f (Some kind)
      by (Consumer tag no_ack) is =
          let most : g.credit + t.link.state.counted ≤ t.link.state.quota = (lawful_as (Consumer tag no_ack) is).0 in
          let uses : t.link.state.counted ≡ in_use f.link ds = used counts joined life g.link ds t.link calls t.is ∙ ap (λ (i : ℕ). in_use i ds) (sym says.link) in
          let quota : t.link.state.quota ≡ quota_in life f.link es = quota_is life g.link es t.link tag no_ack is w ∙ ap (λ (i : ℕ). quota_in life i es) (sym says.link) in
          let credit : f.credit ≡ g.credit = says.credit in
          omega (arith, most, uses, quota, credit)
      by Get is =
          let most : g.credit ≤ 1 = lawful_as Get is in
          let credit : f.credit ≡ g.credit = says.credit in
          record {
            drain = says.drain ∙ ap (in_link (λ (l : ReceivingLink). is_for_gets l.kind)) t.is ∙ ap is_for_gets is;
            most = omega (arith, most, credit);
            waits = λ none. credit ∙ idle_credit life ds g t calls (get_calls deliveries life es calls) (ap is_for_gets is) (ap (λ (i : ℕ). awaits i ds) (sym says.link) ∙ none);
          }
      by Probe is = says.credit ∙ lawful_as Probe is

  -- ---- the flow that is due

  module _ (tied : LinksAre) where
    pub credit_is : (life : ℕ) (es : List PathEvent) (due : FlowDue) (f : LinkFlow) → AreCalls life (deliveries_of life es) → next_flow (after_events life es) ≡ Some due
        → f.link ≡ due.link → f.credit ≡ (if due.drains then 0 else due.credit) → f.drain ≡ due.draining
        → is_receiving (find (has_number f.link) (after_events life es).links.links) ≡ true → IsCredit life es f (kind_in f.link (deliveries_of life es))
    credit_is life es due f calls e link credit drain receives = by (is_grant_next s) e
      where
        s : PathState
        s = after_events life es

        grants : (g : NextGrant) (l : PathLink) → grant_in s ≡ Some g → find (has_number g.link) s.links.links ≡ Some l → grant_due (Some l) (Some g) s.deliveries ≡ Some due
            → IsCredit life es f (kind_in f.link (deliveries_of life es))
        grants g l asked there is =
            let number : l.link ≡ g.link = eq_of l.link g.link (found_passes (has_number g.link) s.links.links l there) in
            let from : next_grant_of (deliveries_after life (deliveries_of life es)).closed (deliveries_after life (deliveries_of life es)).links ≡ Some g =
            ap (λ (d : DeliveryState). next_grant_of d.closed d.links) (sym (deliveries life es)) ∙ asked in
            let same : record {
              link = l.link;
              handle = handle_of l.stage;
              count = count_at (link_of s.deliveries.links g.link);
              credit = g.credit;
              drains = false;
              draining = serves_gets g.link s.deliveries.links;
            } ≡ due = cc in
            granted life es g f calls from (record {
              link = link ∙ sym (ap (λ (x : FlowDue). x.link) same) ∙ number;
              credit = credit ∙ sym (ap (λ (x : FlowDue). if x.drains then 0 else x.credit) same);
              drain = drain ∙ sym (ap (λ (x : FlowDue). x.draining) same) ∙ ap (λ (d : DeliveryState). serves_gets g.link d.links) (deliveries life es);
            })

        of_grant : (o : Option NextGrant) → grant_in s ≡ o → grant_due (granting_on o s.links) o s.deliveries ≡ Some due → IsCredit life es f (kind_in f.link (deliveries_of life es))
        of_grant None asked q = absurd cc
        of_grant (Some g) asked q = at (find (has_number g.link) s.links.links) refl q
          where
            at : (o : Option PathLink) → find (has_number g.link) s.links.links ≡ o → grant_due o (Some g) s.deliveries ≡ Some due → IsCredit life es f (kind_in f.link (deliveries_of life es))
            at None there k = absurd cc
            at (Some l) there k = grants g l asked there k

        -- one that answers the container's is of a sending link
        sends : (o : Option PathLink) → flow_of s.publishes.list s.links ≡ o → due_in s.links.sending o ≡ Some due → IsCredit life es f (kind_in f.link (deliveries_of life es))
        sends None found q = absurd cc
        sends (Some l) found q =
            let same : flow_due s.links.sending l ≡ due = cc in
            let here : find (has_number f.link) s.links.links ≡ Some l =
            ap (λ (i : ℕ). find (has_number i) s.links.links) (link ∙ sym (ap (λ (x : FlowDue). x.link) same))
            ∙ found_number (owes_flow s.publishes.list s.links.sending) s.links.links l (tied life es).rising found in
            let is : l.receives ≡ true = sym (ap is_receiving here) ∙ receives in
            absurd (owes_none s.publishes.list s.links.sending l
            ((all_find IsUnowed (owes_flow s.publishes.list s.links.sending) s.links.links l (are_unowed tied life es) found).0 is)
            (found_passes (owes_flow s.publishes.list s.links.sending) s.links.links l found))

        by : (b : Bool) → (if b then grant_due (granting_on (grant_in s) s.links) (grant_in s) s.deliveries else due_in s.links.sending (flow_of s.publishes.list s.links)) ≡ Some due
            → IsCredit life es f (kind_in f.link (deliveries_of life es))
        by true q = of_grant (grant_in s) refl q
        by false q = sends (flow_of s.publishes.list s.links) refl q

  -- ---- at all times

  pub left_within : (life : ℕ) (es : List PathEvent) (k : ℕ) (l : ReceivingLink) → AreCalls life (deliveries_of life es)
      → link_of (deliveries_after life (deliveries_of life es)).links k ≡ Some l → is_granted l ≡ true → l.state.credit + in_use k (deliveries_of life es) ≤ quota_in life k es
  left_within life es k l calls e is = by l.kind refl (and_left (is_consumer l.kind) _ is)
    where
      there : (l.attached && not l.cancelled) ≡ true
      there = and_right (is_consumer l.kind) _ is

      by : (kind : RecvKind) → l.kind ≡ kind → is_consumer kind ≡ true → l.state.credit + in_use k (deliveries_of life es) ≤ quota_in life k es
      by (Consumer tag no_ack) same c =
          let most : l.state.credit + l.state.counted ≤ l.state.quota =
          credit_within credits counts life (deliveries_of life es) calls k l tag no_ack e same (and_left l.attached (not l.cancelled) there) (not_true l.cancelled (and_right l.attached (not l.cancelled) there)) in
          let uses : l.state.counted ≡ in_use k (deliveries_of life es) = used counts joined life k (deliveries_of life es) l calls e in
          let quota : l.state.quota ≡ quota_in life k es = quota_is life k es l tag no_ack same (kept_is life k (deliveries_of life es) l calls e) in
          omega (arith, most, uses, quota)
      by Get same c = absurd cc
      by Probe same c = absurd cc
