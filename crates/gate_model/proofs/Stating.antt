-- Each flow of a receiving link that goes states a lawful credit, and the credit that is left is within the quota after all steps.
use Rattle.std.proofs.Common.{◌≡◌, ◌∙◌, ℕ, true, List, [], ◌∷◌, Option, None, Some, refl, sym, ap, subst}
use Rattle.std.specs.Prelude.{find}
use Rattle.session_path.specs.Due.{next_flow}
use Rattle.session_path.specs.Events.{after_events, deliveries_of}
use Rattle.session_path.specs.Links.{has_number}
use Rattle.session_path.specs.Path.{PathState}
use Rattle.gate_model.specs.declared.channel.LinkFlow.{LinkFlow}
use Rattle.gate_model.specs.declared.channel.SessionUnit.TheVariants as unit
use Rattle.gate_model.specs.declared.outgoing.Outgoing.TheVariants.{ToUp}
use Rattle.gate_model.specs.declared.outgoing.UpUnit.{UpUnit}
use Rattle.gate_model.specs.declared.outgoing.UpUnit.TheVariants as up
use Rattle.gate_model.specs.Credits.{IsCredit, KeepsQuotas, MayState, StatesCredit, is_receiving, kind_in}
use Rattle.gate_model.specs.Folds.{side_in}
use Rattle.gate_model.specs.Paths.{or_no_path, slot_at}
use Rattle.gate_model.specs.Picks.{ArePicks}
use Rattle.gate_model.specs.Publishing.{path_events}
use Rattle.gate_model.specs.State.{Gave, Step, before}
use Rattle.gate_model.proofs.Credits.{JoinedAre, credit_is, left_within}
use Rattle.gate_model.proofs.Fates.{IsLived, lived}
use Rattle.gate_model.proofs.Firsts.{OfSession, goes_up_as}
use Rattle.gate_model.proofs.Granting.{CountsAre, CreditsAre, DeliveriesAre}
use Rattle.gate_model.proofs.Heard.{ClosedAre, is_kept, open_heard}
use Rattle.gate_model.proofs.Receivers.{LinksAre}
use Rattle.gate_model.proofs.Rests.{LivesBelow}
use Rattle.gate_model.proofs.Settles.{CallsAre, IsFlowDue, IsNextUp, are_calls, is_next_up, is_there}

module _ (tied : LinksAre) (arrives : DeliveriesAre) (closed : ClosedAre) (calls : CallsAre) (credits : CreditsAre) (counts : CountsAre) (joined : JoinedAre) where
  may_flow : (h : List Step) (n : ℕ) (f : LinkFlow) → ArePicks h → is_kept (side_in h) ≡ true → IsFlowDue (before h) n f → MayState h (up.OnSession n (unit.Flow f))
  may_flow h n f p kept d = by (slot_at (before h).paths n) refl d.next
    where
      lived_by : (s : PathState) → IsLived h n s → next_flow s ≡ Some d.due → MayState h (up.OnSession n (unit.Flow f))
      lived_by s l e = λ life lives.
          let same : l.life ≡ life = some_is (sym l.lives ∙ lives) in
          subst (λ (j : ℕ). is_receiving (find (has_number f.link) (after_events j (path_events h n)).links.links) ≡ true → IsCredit j (path_events h n) f (kind_in f.link (deliveries_of j (path_events h n)))) same
          (credit_is arrives credits counts joined tied l.life (path_events h n) d.due f (are_calls arrives closed calls h n s p kept l) (ap next_flow (sym l.is) ∙ e)
          (ap (λ (x : LinkFlow). x.link) d.is) (ap (λ (x : LinkFlow). x.credit) d.is) (ap (λ (x : LinkFlow). x.drain) d.is))
        where
          some_is : {i j : ℕ} → Some i ≡ Some j → i ≡ j
          some_is e = cc

      by : (o : Option PathState) → slot_at (before h).paths n ≡ o → next_flow (or_no_path o) ≡ Some d.due → MayState h (up.OnSession n (unit.Flow f))
      by None g e = absurd cc
      by (Some s) g e = lived_by s (lived h n s p g) e

  may_state : (h : List Step) (u : UpUnit) → ArePicks h → is_kept (side_in h) ≡ true → OfSession (IsNextUp (before h)) u → MayState h u
  may_state h (up.OnSession n (unit.Flow f)) p kept d = may_flow h n f p kept d
  may_state h u p kept d = tt

  pub states_credit : (h : List Step) → ArePicks h → StatesCredit h
  states_credit [] p = tt
  states_credit (Gave (ToUp u) text ∷ h) p =
      (may_state h u p.1 (is_there h u p.1 p.0.1) (goes_up_as (IsNextUp (before h)) (before h) u (is_next_up (before h)) p.0.1), states_credit h p.1)
  states_credit (s ∷ h) p = states_credit h p.1

  pub keeps_quotas : LivesBelow → (h : List Step) → ArePicks h → KeepsQuotas h
  keeps_quotas below h p n life k link lives on is granted =
      left_within arrives credits counts joined life (path_events h n) k link
      (calls life (path_events h n) (open_heard arrives closed h n life p (below h n life lives) lives on)) is granted
