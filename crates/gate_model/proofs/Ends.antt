-- What ends a channel waits for its session.
use Rattle.gate_model.specs.declared.reply.Reason.{Reason}
use Rattle.std.proofs.Common.{◌≡◌, ℕ, Bool, true, false, ◌&&◌, List, [], ◌∷◌, ◌++◌, Option, None, Some, refl, sym, ap, ◌∙◌, subst}
use Rattle.machine_10.specs.declared.state.Upstream.{Upstream}
use Rattle.gate_model.specs.declared.life.Life.{Life}
use Rattle.gate_model.specs.declared.outgoing.Outgoing.TheVariants.{ToClient}
use Rattle.gate_model.specs.declared.reply.Reply.{Reply}
use Rattle.gate_model.specs.declared.reply.Reply.TheVariants as reply
use Rattle.gate_model.specs.Due.{refused_on, when}
use Rattle.gate_model.specs.Folds.{is_answer}
use Rattle.gate_model.specs.Lives.{is_done, session_in}
use Rattle.gate_model.specs.Picks.{ArePicks}
use Rattle.gate_model.specs.State.{Gave, State, Step, before, is_channel_settled, is_settled}
use Rattle.gate_model.specs.Upstream.{first}
use Rattle.gate_model.specs.Waiting.{ChannelsEndWhenSettled, NoneThere, OfAll, SettledOn, ended_by}
use Rattle.gate_model.proofs.Basics.{and_right}
use Rattle.gate_model.proofs.Known.{container_is, known}
use Rattle.gate_model.proofs.Rows.{first_each}
use Rattle.gate_model.proofs.Said.{Beats, InCloses, InOks, InOpen, InOpenOks, IsDue, IsOfChannel}
use Rattle.gate_model.proofs.Said.{OnChannel, OnOpen, Picked, calm_now, first_due, picked}
use Rattle.gate_model.proofs.Times.{Either, OnLeft, OnRight, either}
use Rattle.gate_model.proofs.Waits.{settled_in}

-- what it ends, the state knows as settled
abbrev EndsIn : State → Reply → Type 0
EndsIn w r = (n : ℕ) → ended_by r ≡ Some n → is_channel_settled w n ≡ true

ends_none : (w : State) (r : Reply) → ended_by r ≡ None → EndsIn w r
ends_none w r none n e = let wrong : None ≡ Some n = sym none ∙ e in absurd cc

ends_only : (w : State) (k : ℕ) (r : Reply) → ended_by r ≡ Some k → is_channel_settled w k ≡ true → EndsIn w r
ends_only w k r is s n e =
    let same : Some k ≡ Some n = sym is ∙ e in
    let here : k ≡ n = cc in
    subst (λ (m : ℕ). is_channel_settled w m ≡ true) here s

ends_of_connection : (w : State) (r : Reply) → is_answer r ≡ true → EndsIn w r
ends_of_connection w reply.Protocol e = ends_none w reply.Protocol refl
ends_of_connection w reply.Start e = ends_none w reply.Start refl
ends_of_connection w reply.Tune e = ends_none w reply.Tune refl
ends_of_connection w reply.OpenOk e = ends_none w reply.OpenOk refl
ends_of_connection w reply.CloseOk e = ends_none w reply.CloseOk refl
ends_of_connection w (reply.Close r) e = ends_none w (reply.Close r) refl
ends_of_connection w reply.NoMemory e = ends_none w reply.NoMemory refl
ends_of_connection w x e = absurd cc

-- one that may go, of a row
ends_when : (w : State) (b : Bool) (u v : Reply) → (b ≡ true → EndsIn w u) → first (when b u) ≡ Some v → EndsIn w v
ends_when w true u v f e = let here : u ≡ v = cc in subst (EndsIn w) here (f refl)
ends_when w false u v f e = absurd cc

ends_refused : (w : State) (b : Bool) (k : ℕ) (o : Option Reason) (v : Reply) → (b ≡ true → is_channel_settled w k ≡ true) → first (refused_on b k o) ≡ Some v → EndsIn w v
ends_refused w true k (Some x) v f e = let here : reply.ChannelClose k x ≡ v = cc in subst (EndsIn w) here (ends_only w k (reply.ChannelClose k x) refl (f refl))
ends_refused w false k (Some x) v f e = absurd cc
ends_refused w true k None v f e = absurd cc
ends_refused w false k None v f e = absurd cc

ends_on : (w : State) (r : Reply) → IsOfChannel w r → EndsIn w r
ends_on w r (InOpen (OnOpen k u e)) = subst (EndsIn w) e (ends_none w (reply.OnChannel k u) refl)
ends_on w r (InOpenOks e) =
    first_each (EndsIn w) _ 0 w.lives r (λ k l v f. ends_when w l.open_ok (reply.ChannelOpenOk k) v (λ x. ends_none w (reply.ChannelOpenOk k) refl) f) e
ends_on w r (InOks e) = first_each (EndsIn w) _ 0 w.lives r (λ k l v. one k l v l.crossed_ok) e
  where
    one : (k : ℕ) (l : Life) (v : Reply) (b : Bool) → first (when b (reply.CrossedOk k) ++ when (l.close_ok && is_channel_settled w k) (reply.ChannelCloseOk k)) ≡ Some v → EndsIn w v
    one k l v true e = let here : reply.CrossedOk k ≡ v = cc in subst (EndsIn w) here (ends_none w (reply.CrossedOk k) refl)
    one k l v false e =
        ends_when w (l.close_ok && is_channel_settled w k) (reply.ChannelCloseOk k) v (λ x. ends_only w k (reply.ChannelCloseOk k) refl (and_right l.close_ok _ x)) e
ends_on w r (InCloses e) = first_each (EndsIn w) _ 0 w.lives r (λ k l v. ends_refused w (is_channel_settled w k) k l.close v (λ x. x)) e

ends_picked : (h : List Step) (r : Reply) → ArePicks h → Picked (before h) r → EndsIn (before h) r
ends_picked h r p (IsDue x) = ends_of_connection (before h) r (first_due (is_settled (before h)) (before h).pending r (calm_now h p) x).answers
ends_picked h r p (OnChannel x) = ends_on (before h) r x
ends_picked h r p (Beats none due same) = subst (EndsIn (before h)) (sym same) (ends_none (before h) reply.Heartbeat refl)

pub settled_on : (h : List Step) (n : ℕ) → ArePicks h → is_channel_settled (before h) n ≡ true → SettledOn h n
settled_on h n p e = by (either _ _ e)
  where
    by : Either (is_settled (before h)) (is_done (session_in (before h).up.container n)) → SettledOn h n
    by (OnLeft x) = OfAll (settled_in h (known h p) x)
    by (OnRight x) = NoneThere (ap (λ (o : Option Upstream). is_done (session_in o n)) (sym (container_is (known h p))) ∙ x)

pub channels_end_when_settled : (h : List Step) → ArePicks h → ChannelsEndWhenSettled h
channels_end_when_settled [] p = tt
channels_end_when_settled (Gave (ToClient u) text ∷ h) p =
    (λ n e. settled_on h n p.1 (ends_picked h u p.1 (picked (before h) u p.0.1) n e), channels_end_when_settled h p.1)
channels_end_when_settled (s ∷ h) p = channels_end_when_settled h p.1
