-- A flow that goes on a link answers the container's, or states a credit.
use Rattle.std.proofs.Common.{◌≡◌, ℕ, zero, suc, ◌+◌, ◌<◌, Bool, true, false, if◌then◌else◌, List, [], ◌∷◌, Option, None, Some, refl, sym, ap}
use Rattle.std.proofs.Common.{◌∙◌, arith, subst}
use Rattle.std.specs.Prelude.{find}
use Rattle.consume_path.specs.Deliveries.{DeliveryState, after_events as deliveries_after}
use Rattle.consume_path.specs.Links.{link_of}
use Rattle.consume_path.specs.declared.receiving.NextGrant.{NextGrant}
use Rattle.consume_path.specs.declared.receiving.ReceivingLink.{ReceivingLink}
use Rattle.session_path.specs.Due.{due_in, flow_due, grant_due, next_flow}
use Rattle.session_path.specs.Events.{PathEvent, after_events, deliveries_of}
use Rattle.session_path.specs.Flows.{causes_on, flows_on, owed_in, owed_on}
use Rattle.session_path.specs.Links.{has_number}
use Rattle.session_path.specs.Path.{PathState, flow_of, grant_in, granting_on, is_grant_next, owes_flow}
use Rattle.session_path.specs.declared.path.FlowDue.{FlowDue}
use Rattle.session_path.specs.declared.path.PathLink.{PathLink}
use Rattle.session_path.proofs.Ties.{eq_of, found_number, found_passes}
use Rattle.gate_model.specs.declared.channel.LinkFlow.{LinkFlow}
use Rattle.gate_model.specs.declared.channel.SessionUnit.{SessionUnit}
use Rattle.gate_model.specs.declared.channel.SessionUnit.TheVariants as unit
use Rattle.gate_model.specs.declared.outgoing.Outgoing.TheVariants.{ToUp}
use Rattle.gate_model.specs.declared.outgoing.UpUnit.{UpUnit}
use Rattle.gate_model.specs.declared.outgoing.UpUnit.TheVariants as up
use Rattle.gate_model.specs.Lives.{life_at}
use Rattle.gate_model.specs.Paths.{flow_out, or_no_path, path_at, slot_at}
use Rattle.gate_model.specs.Picks.{ArePicks}
use Rattle.gate_model.specs.Publishing.{path_events, path_life}
use Rattle.gate_model.specs.Repeats.{Answers, FlowsOnce, Grants, IsAskedFor, MayFlow}
use Rattle.gate_model.specs.State.{Gave, State, Step, before}
use Rattle.gate_model.proofs.Fates.{IsLived, lived}
use Rattle.gate_model.proofs.Firsts.{OfSession, SessionUnits, goes_up_as}
use Rattle.gate_model.proofs.Granting.{DeliveriesAre, grant_there, owes_none}
use Rattle.gate_model.proofs.Receivers.{LinksAre}

-- what session_path says of the flows on a link
abbrev pub FlowsAre : Type 0
FlowsAre = (life n : ℕ) (h : List PathEvent) → flows_on life n h + owed_on n (after_events life h).links.links ≡ causes_on life n h

record IsFlowDue (w : State) (n : ℕ) (f : LinkFlow) : Type 0 where
  due : FlowDue
  next : next_flow (path_at w.paths n) ≡ Some due
  is : f ≡ flow_out (life_at w.lives n).session due

abbrev IsNextFlow : State → ℕ → SessionUnit → Type 0
IsNextFlow w n (unit.Flow f) = IsFlowDue w n f
IsNextFlow w n x = Unit {0}

next_is : (w : State) → SessionUnits (IsNextFlow w) w
next_is w = record {
  attach = λ n a e. tt;
  flow = λ n f e. record { due = f; next = e; is = refl };
  transfer = λ n f e. tt;
  dispose = λ n x e. tt;
  settle = λ n x e. tt;
  detach = λ n x e. tt;
}

abbrev link_in : Option FlowDue → ℕ
link_in None = 0
link_in (Some x) = x.link

-- by the events of the life
data IsCaused (life : ℕ) (es : List PathEvent) (number : ℕ) : Type 0 where
  Owed : flows_on life number es < causes_on life number es → IsCaused life es number
  Granted : (link : ReceivingLink) → link_of (deliveries_after life (deliveries_of life es)).links number ≡ Some link → IsCaused life es number

module _ (law : FlowsAre) (tied : LinksAre) (deliveries : DeliveriesAre) where
  caused : (life : ℕ) (es : List PathEvent) (f : FlowDue) → next_flow (after_events life es) ≡ Some f → IsCaused life es f.link
  caused life es f e = by (is_grant_next s) e
    where
      s : PathState
      s = after_events life es

      echoes : (l : PathLink) → flow_of s.publishes.list s.links ≡ Some l → IsCaused life es l.link
      echoes l found = by (l.echoes + l.drains) refl
        where
          owed : owed_on l.link s.links.links ≡ l.echoes + l.drains
          owed = ap owed_in (found_number (owes_flow s.publishes.list s.links.sending) s.links.links l (tied life es).rising found)

          by : (k : ℕ) → l.echoes + l.drains ≡ k → IsCaused life es l.link
          by zero g = absurd (owes_none s.publishes.list s.links.sending l g (found_passes (owes_flow s.publishes.list s.links.sending) s.links.links l found))
          by (suc k) g =
              let all : flows_on life l.link es + owed_on l.link s.links.links ≡ causes_on life l.link es = law life l.link es in
              let some : owed_on l.link s.links.links ≡ suc k = owed ∙ g in
              Owed (omega (arith, all, some))

      sends : (o : Option PathLink) → flow_of s.publishes.list s.links ≡ o → due_in s.links.sending o ≡ Some f → IsCaused life es f.link
      sends None found q = absurd cc
      sends (Some l) found q = let same : flow_due s.links.sending l ≡ f = cc in subst (λ (x : FlowDue). IsCaused life es x.link) same (echoes l found)

      grants : (g : NextGrant) (l : PathLink) → grant_in s ≡ Some g → find (has_number g.link) s.links.links ≡ Some l → IsCaused life es l.link
      grants g l due there =
          let number : l.link ≡ g.link = eq_of l.link g.link (found_passes (has_number g.link) s.links.links l there) in
          let is = grant_there s.deliveries.closed s.deliveries.links g due in
          subst (IsCaused life es) (sym number)
          (Granted is.link (ap (λ (d : DeliveryState). link_of d.links g.link) (sym (deliveries life es)) ∙ is.is))

      at : (g : NextGrant) (o : Option PathLink) → grant_in s ≡ Some g → find (has_number g.link) s.links.links ≡ o → grant_due o (Some g) s.deliveries ≡ Some f
          → IsCaused life es f.link
      at g None due there q = absurd cc
      at g (Some l) due there q = subst (IsCaused life es) (ap link_in q) (grants g l due there)

      of_grant : (o : Option NextGrant) → grant_in s ≡ o → grant_due (granting_on o s.links) o s.deliveries ≡ Some f → IsCaused life es f.link
      of_grant None due q = absurd cc
      of_grant (Some g) due q = at g (find (has_number g.link) s.links.links) due refl q

      by : (b : Bool) → (if b then grant_due (granting_on (grant_in s) s.links) (grant_in s) s.deliveries else due_in s.links.sending (flow_of s.publishes.list s.links)) ≡ Some f
          → IsCaused life es f.link
      by true q = of_grant (grant_in s) refl q
      by false q = sends (flow_of s.publishes.list s.links) refl q

  asked : (h : List Step) (n : ℕ) (f : LinkFlow) → ArePicks h → IsFlowDue (before h) n f → IsAskedFor h n f
  asked h n f p d = by (slot_at (before h).paths n) refl d.next
    where
      told : (life : ℕ) → path_life h n ≡ Some life → IsCaused life (path_events h n) f.link → IsAskedFor h n f
      told life lives (Owed x) = Answers life lives x
      told life lives (Granted link x) = Grants life link lives x

      lived_by : (s : PathState) → IsLived h n s → next_flow s ≡ Some d.due → IsAskedFor h n f
      lived_by s l e =
          told l.life l.lives
          (subst (IsCaused l.life (path_events h n)) (sym (ap (λ (x : LinkFlow). x.link) d.is)) (caused l.life (path_events h n) d.due (ap next_flow (sym l.is) ∙ e)))

      by : (o : Option PathState) → slot_at (before h).paths n ≡ o → next_flow (or_no_path o) ≡ Some d.due → IsAskedFor h n f
      by None g e = absurd cc
      by (Some s) g e = lived_by s (lived h n s p g) e

  may_flow : (h : List Step) (u : UpUnit) → ArePicks h → OfSession (IsNextFlow (before h)) u → MayFlow h u
  may_flow h (up.OnSession n (unit.Flow f)) p d = asked h n f p d
  may_flow h u p d = tt

  pub flows_once : (h : List Step) → ArePicks h → FlowsOnce h
  flows_once [] p = tt
  flows_once (Gave (ToUp u) text ∷ h) p =
      (may_flow h u p.1 (goes_up_as (IsNextFlow (before h)) (before h) u (next_is (before h)) p.0.1), flows_once h p.1)
  flows_once (s ∷ h) p = flows_once h p.1
