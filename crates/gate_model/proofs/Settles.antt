-- The dispositions of role receiver and the flows of receiving links that go to a container are lawful.
use Rattle.std.proofs.Common.{◌≡◌, ℕ, ◌≤◌, ◌&&◌, ◌||◌, not, Bool, true, false, if◌then◌else◌, List, [], ◌∷◌, map}
use Rattle.std.proofs.Common.{Option, None, Some, refl, sym, ap, ◌∙◌, subst}
use Rattle.std.specs.Prelude.{IfSome}
use Rattle.consume_path.specs.Deliveries.{DeliveryEvent, DeliveryState, open_after}
use Rattle.consume_path.specs.Deliveries.{after_events as deliveries_after}
use Rattle.consume_path.specs.Journal.{is_closed}
use Rattle.consume_path.specs.Laws.{AreCalls, AreFresh, IsLawfulSettle}
use Rattle.consume_path.specs.Offers.{next_settle_of}
use Rattle.consume_path.specs.declared.delivery.NextSettle.{NextSettle}
use Rattle.session_path.specs.Due.{next_dispose, next_flow}
use Rattle.session_path.specs.Events.{PathEvent, deliveries_of}
use Rattle.session_path.specs.Laws.{AreHeard}
use Rattle.session_path.specs.Path.{PathState}
use Rattle.session_path.specs.declared.path.FlowDue.{FlowDue}
use Rattle.gate_outside.specs.declared.ports.End.TheVariants.{Up}
use Rattle.gate_relay.specs.Sides.{is_readable}
use Rattle.gate_relay.specs.declared.sides.Side.{Side}
use Rattle.gate_relay.specs.declared.sides.Side.TheVariants as side
use Rattle.gate_model.proofs.Closed.{IsGone, cut_goes, open_path_is, was_cut}
use Rattle.gate_model.proofs.Connections.{clash}
use Rattle.machine_091.specs.State.{is_closing, is_open}
use Rattle.machine_091.specs.declared.limits.TheConstants.{CHANNEL_MAX}
use Rattle.gate_model.specs.Due.{pick, rows_in}
use Rattle.gate_model.specs.Folds.{connection, side_in}
use Rattle.gate_model.specs.Lives.{life_at}
use Rattle.gate_model.specs.Upstream.{first}
use Rattle.gate_model.specs.Paths.{flow_out, or_no_path, path_at, slot_at}
use Rattle.gate_model.specs.Picks.{ArePicks}
use Rattle.gate_model.specs.Publishing.{path_events, path_life}
use Rattle.gate_model.specs.Settles.{Grants, MayDispose, MayFlow, MayGrant, MaySettle, Settles}
use Rattle.gate_model.specs.State.{Gave, State, Step, before}
use Rattle.gate_model.specs.declared.channel.LinkFlow.{LinkFlow}
use Rattle.gate_model.specs.declared.channel.SessionUnit.{SessionUnit}
use Rattle.gate_model.specs.declared.channel.SessionUnit.TheVariants as unit
use Rattle.gate_model.specs.declared.outgoing.Outgoing.TheVariants.{ToUp}
use Rattle.gate_model.specs.declared.outgoing.UpUnit.{UpUnit}
use Rattle.gate_model.specs.declared.outgoing.UpUnit.TheVariants as up
use Rattle.gate_model.proofs.Fates.{IsLived, lived}
use Rattle.gate_model.proofs.Firsts.{OfSession, SessionUnits, goes_up_as}
use Rattle.gate_model.proofs.Granting.{CountsAre, CreditsAre, DeliveriesAre, flow_is}
use Rattle.gate_model.proofs.Heard.{ClosedAre, OpenGoesOn, are_heard, is_kept}
use Rattle.gate_model.proofs.Known.{known, side_is}
use Rattle.gate_model.proofs.Receivers.{LinksAre}

-- ---- the laws below

abbrev pub CallsAre : Type 0
CallsAre = (life : ℕ) (h : List PathEvent) → AreHeard life h → AreCalls life (deliveries_of life h)

abbrev pub IdsAre : Type 0
IdsAre = (life : ℕ) (h : List DeliveryEvent) → AreCalls life h → AreFresh h

abbrev pub SettlesAre : Type 0
SettlesAre = (life : ℕ) (h : List DeliveryEvent) → AreFresh h → IfSome (next_settle_of (open_after life h)) (IsLawfulSettle h)

-- until the upstream end is lost, the life of a channel that is open isn't closed
goes_on : (h : List Step) (n life : ℕ) → ArePicks h → n ≤ CHANNEL_MAX → path_life h n ≡ Some life → is_kept (side_in h) ≡ true → is_open (connection h) n ≡ true
    → is_closed (deliveries_of life (path_events h n)) ≡ false
goes_on h n life p below l kept o = open_path_is h n life p below l o (by (was_cut n h) refl)
  where
    none : (x : Side) → IsGone x → is_kept x ≡ true → ⊥
    none side.Absent g e = absurd (clash _ refl g.there)
    none side.Open g e = absurd (clash _ refl g.unread)
    none side.Ended g e = absurd cc
    none side.Failed g e = absurd cc
    none side.Gone g e = absurd cc

    by : (b : Bool) → was_cut n h ≡ b → b ≡ false
    by true f = absurd (none (side_in h) (cut_goes n h p f) kept)
    by false f = refl

pub open_goes_on : DeliveriesAre → ClosedAre → OpenGoesOn
open_goes_on arrives closed h n life p below l kept o =
    ap (λ (d : DeliveryState). d.closed) (arrives life (path_events h n))
    ∙ closed life (deliveries_of life (path_events h n)) ∙ goes_on h n life p below l kept o

-- the delivery events of a life are those of calls whose conditions hold
pub are_calls : DeliveriesAre → ClosedAre → CallsAre → (h : List Step) (n : ℕ) (s : PathState) → ArePicks h → is_kept (side_in h) ≡ true → (l : IsLived h n s)
    → AreCalls l.life (deliveries_of l.life (path_events h n))
are_calls arrives closed calls h n s p kept l =
    calls l.life (path_events h n) (are_heard (open_goes_on arrives closed) h n l.life p l.below kept l.lives)

-- a unit goes through an upstream end that is there
goes_up : (w : State) (u : UpUnit) → pick w Up ≡ Some (ToUp u) → is_kept w.up.side ≡ true
goes_up w u e = by w.up.side e
  where
    by : (x : Side) → first (map ToUp (if is_readable x && not w.up.sent.close then rows_in (w.out_of_memory || is_closing w.conn) w else [])) ≡ Some (ToUp u)
        → is_kept x ≡ true
    by side.Absent f = refl
    by side.Open f = refl
    by side.Ended f = absurd cc
    by side.Failed f = absurd cc
    by side.Gone f = absurd cc

pub is_there : (h : List Step) (u : UpUnit) → ArePicks h → pick (before h) Up ≡ Some (ToUp u) → is_kept (side_in h) ≡ true
is_there h u p e = subst (λ (x : Side). is_kept x ≡ true) (side_is (known h p)) (goes_up (before h) u e)

-- ---- what goes next

pub record IsFlowDue (w : State) (n : ℕ) (f : LinkFlow) : Type 0 where
  pub due : FlowDue
  pub next : next_flow (path_at w.paths n) ≡ Some due
  pub is : f ≡ flow_out (life_at w.lives n).session due

abbrev pub IsNextUp : State → ℕ → SessionUnit → Type 0
IsNextUp w n (unit.Flow f) = IsFlowDue w n f
IsNextUp w n (unit.Dispose x) = next_dispose (path_at w.paths n) ≡ Some x
IsNextUp w n x = Unit {0}

pub is_next_up : (w : State) → SessionUnits (IsNextUp w) w
is_next_up w = record {
  attach = λ n a e. tt;
  flow = λ n f e. record { due = f; next = e; is = refl };
  transfer = λ n f e. tt;
  dispose = λ n x e. e;
  settle = λ n x e. tt;
  detach = λ n x e. tt;
}

-- ---- dispositions

module _ (arrives : DeliveriesAre) (closed : ClosedAre) (calls : CallsAre) (ids : IdsAre) (settles : SettlesAre) where
  may_dispose : (h : List Step) (n : ℕ) (x : NextSettle) → ArePicks h → is_kept (side_in h) ≡ true → next_dispose (path_at (before h).paths n) ≡ Some x → MayDispose h n x
  may_dispose h n x p kept e = by (slot_at (before h).paths n) refl e
    where
      lived_by : (s : PathState) → IsLived h n s → next_dispose s ≡ Some x → MayDispose h n x
      lived_by s l f =
          let es : List DeliveryEvent = deliveries_of l.life (path_events h n) in
          let is : s.deliveries ≡ deliveries_after l.life es = ap (λ (x : PathState). x.deliveries) l.is ∙ arrives l.life (path_events h n) in
          let due : next_settle_of (open_after l.life es) ≡ Some x = ap (λ (d : DeliveryState). next_settle_of d.list) (sym is) ∙ f in
          record {
            life = l.life;
            lives = l.lives;
            lawful = subst (λ (o : Option NextSettle). IfSome o (IsLawfulSettle es)) due (settles l.life es (ids l.life es (are_calls arrives closed calls h n s p kept l)));
          }

      by : (o : Option PathState) → slot_at (before h).paths n ≡ o → next_dispose (or_no_path o) ≡ Some x → MayDispose h n x
      by None g f = absurd cc
      by (Some s) g f = lived_by s (lived h n s p g) f

  may_settle : (h : List Step) (u : UpUnit) → ArePicks h → is_kept (side_in h) ≡ true → OfSession (IsNextUp (before h)) u → MaySettle h u
  may_settle h (up.OnSession n (unit.Dispose x)) p kept e = may_dispose h n x p kept e
  may_settle h u p kept e = tt

  pub settles_are : (h : List Step) → ArePicks h → Settles h
  settles_are [] p = tt
  settles_are (Gave (ToUp u) text ∷ h) p =
      (may_settle h u p.1 (is_there h u p.1 p.0.1) (goes_up_as (IsNextUp (before h)) (before h) u (is_next_up (before h)) p.0.1), settles_are h p.1)
  settles_are (s ∷ h) p = settles_are h p.1

-- ---- flows

module _ (tied : LinksAre) (arrives : DeliveriesAre) (closed : ClosedAre) (calls : CallsAre) (credits : CreditsAre) (counts : CountsAre) where
  may_flow : (h : List Step) (n : ℕ) (f : LinkFlow) → ArePicks h → is_kept (side_in h) ≡ true → IsFlowDue (before h) n f → MayFlow h n f
  may_flow h n f p kept d = by (slot_at (before h).paths n) refl d.next
    where
      lived_by : (s : PathState) → IsLived h n s → next_flow s ≡ Some d.due → MayFlow h n f
      lived_by s l e =
          let is = flow_is tied arrives credits counts l.life (path_events h n) d.due (are_calls arrives closed calls h n s p kept l)
          (ap next_flow (sym l.is) ∙ e) in
          subst (MayFlow h n) (sym d.is) (record { life = l.life; lives = l.lives; link = is.link; is = is.is; granted = is.granted })

      by : (o : Option PathState) → slot_at (before h).paths n ≡ o → next_flow (or_no_path o) ≡ Some d.due → MayFlow h n f
      by None g e = absurd cc
      by (Some s) g e = lived_by s (lived h n s p g) e

  may_grant : (h : List Step) (u : UpUnit) → ArePicks h → is_kept (side_in h) ≡ true → OfSession (IsNextUp (before h)) u → MayGrant h u
  may_grant h (up.OnSession n (unit.Flow f)) p kept d = may_flow h n f p kept d
  may_grant h u p kept d = tt

  pub grants_are : (h : List Step) → ArePicks h → Grants h
  grants_are [] p = tt
  grants_are (Gave (ToUp u) text ∷ h) p =
      (may_grant h u p.1 (is_there h u p.1 p.0.1) (goes_up_as (IsNextUp (before h)) (before h) u (is_next_up (before h)) p.0.1), grants_are h p.1)
  grants_are (s ∷ h) p = grants_are h p.1
