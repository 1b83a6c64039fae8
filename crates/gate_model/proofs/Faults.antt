-- A link that failed is one of which a transfer passed a limit.
use Rattle.std.proofs.Common.{◌≡◌, ℕ, true, false, List, [], ◌∷◌, Option, None, Some, refl, sym, ap, ◌∙◌, subst}
use Rattle.std.specs.List.{AllByRecursion}
use Rattle.std.specs.Prelude.{IfSome}
use Rattle.open_items.proofs.Filtered.{all_find, all_weaker}
use Rattle.consume_path.specs.declared.receiving.TransferFault.{TransferFault}
use Rattle.performatives_10.specs.declared.condition.Condition.{Condition}
use Rattle.session_path.specs.Due.{next_detach}
use Rattle.session_path.specs.Events as event
use Rattle.session_path.specs.Events.{PathEvent, after_events}
use Rattle.session_path.specs.Links.{error_of, has_number, is_to_part}
use Rattle.session_path.specs.Path.{IsThere, PathState}
use Rattle.session_path.specs.declared.path.PathLink.{PathLink}
use Rattle.session_path.specs.declared.path.Stage.{Stage}
use Rattle.session_path.specs.declared.path.Stage.TheVariants.{Failed}
use Rattle.session_path.proofs.Idle.{detaching_there}
use Rattle.gate_model.specs.declared.channel.SessionUnit.{SessionUnit}
use Rattle.gate_model.specs.declared.channel.SessionUnit.TheVariants as unit
use Rattle.gate_model.specs.declared.outgoing.Outgoing.TheVariants.{ToUp}
use Rattle.gate_model.specs.declared.outgoing.UpUnit.{UpUnit}
use Rattle.gate_model.specs.declared.outgoing.UpUnit.TheVariants as up
use Rattle.gate_model.specs.Faults.{Before, HasFailed, IsFault, MayPart, Now, PartsAs, PartsFor, StatesFaults}
use Rattle.gate_model.specs.Paths.{error_for, or_no_path, slot_at}
use Rattle.gate_model.specs.Picks.{ArePicks}
use Rattle.gate_model.specs.Publishing.{path_events}
use Rattle.gate_model.specs.State.{Gave, Step, before}
use Rattle.gate_model.proofs.Detaching.{DetachGoes, MayDetach, may_detach}
use Rattle.gate_model.proofs.Fates.{IsLived, lived}
use Rattle.gate_model.proofs.Parted.{IsKept, Suits, step}
use Rattle.gate_model.proofs.Receivers.{LinksAre}

-- ---- links

abbrev IsFailed : ℕ → List PathEvent → PathLink → Type 0
IsFailed life es l = (fault : TransferFault) → error_of l.stage ≡ Some fault → HasFailed life l.link fault es

no_error : (q : Stage) (fault : TransferFault) → ((h : ℕ) (x : TransferFault) → q ≡ Failed h x → ⊥) → error_of q ≡ Some fault → ⊥
no_error (Failed h x) fault f e = f h x refl
no_error q fault f e = cc

failed_kept : (life : ℕ) (es : List PathEvent) → IsKept (IsFailed life es)
failed_kept life es = record {
  free = λ l e fault f. absurd (no_error l.stage fault (λ h x g. part l h x g e) f);
  told = λ drain echo l t. t;
  once = λ l t. t;
}
  where
    part : (l : PathLink) (h : ℕ) (x : TransferFault) → l.stage ≡ Failed h x → is_to_part l ≡ false → ⊥
    part l h x g e = let wrong : true ≡ false = sym (ap (λ (q : Stage). is_to_part (record l { stage = q })) g) ∙ e in cc

failed_suits : (life : ℕ) (x : PathEvent) (es : List PathEvent) → Suits (IsFailed life (x ∷ es)) (after_events life es) x
failed_suits life (event.DetachCame peer not_found) es = λ l e g fault f. absurd (let wrong : None ≡ Some fault = f in cc)
failed_suits life (event.LinkFailed peer fault) es = λ l e x f.
    let same : fault ≡ x = cc in
    subst (λ (y : TransferFault). HasFailed life l.link y (event.LinkFailed peer fault ∷ es)) same (Now peer es l e refl)
failed_suits life x es = tt

failed_links : (life : ℕ) (es : List PathEvent) → AllByRecursion (IsFailed life es) (after_events life es).links.links
failed_links life [] = tt
failed_links life (x ∷ es) =
    step (IsFailed life (x ∷ es)) (failed_kept life (x ∷ es)) x (after_events life es) (failed_suits life x es)
    (all_weaker (IsFailed life es) (IsFailed life (x ∷ es)) (λ l f fault e. Before x es (f fault e)) (after_events life es).links.links (failed_links life es))

-- ---- a detach that goes

module _ (tied : LinksAre) where
  fault_of : (life : ℕ) (es : List PathEvent) (l : PathLink) → next_detach (after_events life es) ≡ Some l → IsFailed life es l
  fault_of life es l e =
      let there = detaching_there (after_events life es).publishes.list (after_events life es).deliveries (after_events life es).oks (after_events life es).links
      (tied life es).rising in
      let here : IsThere (after_events life es).links l = subst (λ (o : Option PathLink). IfSome o (IsThere (after_events life es).links)) e there in
      (all_find (IsFailed life es) (has_number l.link) (after_events life es).links.links l (failed_links life es) here.0).0

  faults_by : (h : List Step) (n link : ℕ) (why : Option Condition) → ArePicks h → DetachGoes (before h) n link why → PartsFor h n link why
  faults_by h n link None p d = tt
  faults_by h n link (Some c) p d = by (slot_at (before h).paths n) refl d.due
    where
      made : (s : PathState) → IsLived h n s → next_detach s ≡ Some d.gone → IsFault h n link c
      made s v f = at (error_of d.gone.stage) refl d.why_is
        where
          at : (o : Option TransferFault) → error_of d.gone.stage ≡ o → Some c ≡ error_for o → IsFault h n link c
          at None g e = absurd (let wrong : Some c ≡ None = e in cc)
          at (Some fault) g e = record {
            life = v.life;
            lives = v.lives;
            fault = fault;
            passed = subst (λ (k : ℕ). HasFailed v.life k fault (path_events h n)) d.is (fault_of v.life (path_events h n) d.gone (ap next_detach (sym v.is) ∙ f) fault g);
            is = sym e;
          }

      by : (o : Option PathState) → slot_at (before h).paths n ≡ o → next_detach (or_no_path o) ≡ Some d.gone → IsFault h n link c
      by None g f = absurd cc
      by (Some s) g f = made s (lived h n s p g) f

  parts_as : (h : List Step) (n : ℕ) (u : SessionUnit) → ArePicks h → MayDetach (before h) (up.OnSession n u) → PartsAs h n u
  parts_as h n (unit.Detach link handle why) p d = faults_by h n link why p d
  parts_as h n u p d = tt

  may_part : (h : List Step) (u : UpUnit) → ArePicks h → MayDetach (before h) u → MayPart h u
  may_part h (up.OnSession n u) p d = parts_as h n u p d
  may_part h u p d = tt

  pub states_faults : (h : List Step) → ArePicks h → StatesFaults h
  states_faults [] p = tt
  states_faults (Gave (ToUp u) text ∷ h) p = (may_part h u p.1 (may_detach (before h) u p.0.1), states_faults h p.1)
  states_faults (s ∷ h) p = states_faults h p.1
