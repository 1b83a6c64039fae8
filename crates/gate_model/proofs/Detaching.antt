-- A detach of the gateway goes in a session that both ends began, where no disposition is due.
use Rattle.std.proofs.Common.{◌≡◌, ℕ, Bool, true, false, List, [], ◌∷◌, ◌++◌, Option, None, Some, refl}
use Rattle.gate_outside.specs.declared.ports.End.TheVariants.{Up}
use Rattle.session_path.specs.Due.{next_attach, next_detach, next_dispose, next_flow, next_frame, next_settle}
use Rattle.performatives_10.specs.declared.condition.Condition.{Condition}
use Rattle.session_path.specs.Links.{error_of}
use Rattle.session_path.specs.declared.path.PathLink.{PathLink}
use Rattle.gate_model.specs.Due.{attaches, carried_rows, detaches, disposals, link_flows}
use Rattle.gate_model.specs.Due.{pick, row_on, session_flows, session_rows, settlings, transfers, unless_out, up_rows}
use Rattle.gate_model.specs.Lives.{is_carried, session_in}
use Rattle.gate_model.specs.Paths.{error_for, path_at}
use Rattle.gate_model.specs.State.{State}
use Rattle.gate_model.specs.Upstream.{when_up}
use Rattle.gate_model.specs.declared.channel.SessionUnit.{SessionUnit}
use Rattle.gate_model.specs.declared.channel.SessionUnit.TheVariants as unit
use Rattle.gate_model.specs.declared.outgoing.Outgoing.TheVariants.{ToUp}
use Rattle.gate_model.specs.declared.outgoing.UpUnit.{UpUnit}
use Rattle.gate_model.specs.declared.outgoing.UpUnit.TheVariants as up
use Rattle.gate_model.proofs.Firsts.{FirstIs, both_are, each_is, is_free, of_up, up_rows_by, when_up_is}

pub record DetachGoes (w : State) (n link : ℕ) (why : Option Condition) : Type 0 where
  pub gone : PathLink
  pub due : next_detach (path_at w.paths n) ≡ Some gone
  pub is : gone.link ≡ link
  pub why_is : why ≡ error_for (error_of gone.stage)
  pub carried : is_carried (session_in w.up.container n) ≡ true
  pub none : disposals w ≡ []

abbrev pub MayDetach : State → UpUnit → Type 0
MayDetach w (up.OnSession n (unit.Detach link handle why)) = DetachGoes w n link why
MayDetach w u = Unit {0}

module _ (w : State) where
  abbrev P : UpUnit → Type 0
  P u = MayDetach w u

  -- in a row behind another that is empty
  behind : (us vs : List UpUnit) → FirstIs P us → (us ≡ [] → FirstIs P vs) → FirstIs P (us ++ vs)
  behind [] vs p q = q refl
  behind (u ∷ us) vs p q = p

  row : {A : Type 0} (n : ℕ) (o : Option A) (f : A → SessionUnit)
      → ((x : A) → o ≡ Some x → is_carried (session_in w.up.container n) ≡ true → P (up.OnSession n (f x))) → FirstIs P (row_on w.up.container n o f)
  row n None f is = tt
  row n (Some x) f is = by (is_carried (session_in w.up.container n)) refl
    where
      by : (b : Bool) → is_carried (session_in w.up.container n) ≡ b → FirstIs P (when_up b (up.OnSession n (f x)))
      by true e = is x refl e
      by false e = tt

  session : FirstIs P (session_rows w)
  session =
      both_are P (unless_out w.out_of_memory (carried_rows w)) _ (by w.out_of_memory)
      (behind (disposals w) _ (each_is P _ w.lives (λ n. row n (next_dispose (path_at w.paths n)) _ (λ x e c. tt)))
      (λ none. both_are P (settlings w) (detaches w) (each_is P _ w.lives (λ n. row n (next_settle (path_at w.paths n)) _ (λ x e c. tt)))
      (each_is P _ w.lives (λ n. row n (next_detach (path_at w.paths n)) _ (λ x e c. record { gone = x; due = e; is = refl; why_is = refl; carried = c; none = none })))))
    where
      carried : FirstIs P (carried_rows w)
      carried =
          both_are P (attaches w) _ (each_is P _ w.lives (λ n. row n (next_attach (path_at w.paths n)) _ (λ x e c. tt)))
          (both_are P (link_flows w) _ (each_is P _ w.lives (λ n. row n (next_flow (path_at w.paths n)) _ (λ x e c. tt)))
          (both_are P (session_flows w) (transfers w) (each_is P _ w.lives (λ n. when_up_is P _ _ tt))
          (each_is P _ w.lives (λ n. row n (next_frame _ (path_at w.paths n)) _ (λ x e c. tt)))))

      by : (b : Bool) → FirstIs P (unless_out b (carried_rows w))
      by true = tt
      by false = carried

  free : (u : UpUnit) → is_free u ≡ true → P u
  free (up.OnSession n u) e = absurd cc
  free u e = tt

pub may_detach : (w : State) (u : UpUnit) → pick w Up ≡ Some (ToUp u) → MayDetach w u
may_detach w u e =
    of_up (MayDetach w) (up_rows w) u
    (up_rows_by (MayDetach w) w (record { free = free w; begin = λ n c g. tt; last = λ n less g. tt; session = session w })) e
