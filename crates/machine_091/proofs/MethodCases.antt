-- The methods of a channel that change nothing, and are passed on.
use Rattle.std.proofs.Common.{◌≡◌, ◌≢◌, ℕ, Bool, true, false, cond, eqb, List, Option, None, refl}
use Rattle.std.proofs.lemmas.Bool.{eqb-true}
use Rattle.close_translate.specs.declared.codes.TheConstants.{NOT_IMPLEMENTED}
use Rattle.methods_091.specs.View.{kind_of, args_of}
use Rattle.methods_091.specs.declared.method.Method91.{Method91}
use Rattle.methods_091.specs.declared.method.Method91.TheVariants as method
use Rattle.machine_091.specs.Contents.{no_contents}
use Rattle.machine_091.specs.Ids.{is_of_kind}
use Rattle.machine_091.specs.RefusalsFrames.{refused}
use Rattle.machine_091.specs.RefusalsRunning.{carried_order, is_done, running_refusal}
use Rattle.machine_091.specs.Transitions.{Step, channel_effect, running_effect}
use Rattle.machine_091.specs.declared.ids.TheConstants.{CHANNEL_OPEN}
use Rattle.machine_091.specs.declared.state.Connection.{Connection}
use Rattle.machine_091.specs.declared.state.Phase91.TheVariants as phase
use Rattle.machine_091.specs.declared.unit.Ruling.{Ruling}
use Rattle.machine_091.specs.declared.unit.Want91.TheVariants as want

-- a method that opens or ends no channel, and begins no content
pub record IsPlain (m : Method91) : Type 0 where
  pub not_open : m ≢ method.ChannelOpen
  pub not_close : (r : ℕ) (t : List ℕ) (k i : ℕ) → m ≢ method.ChannelClose r t k i
  pub not_close_ok : m ≢ method.ChannelCloseOk
  pub not_publish : (e k : List ℕ) (a i : Bool) → m ≢ method.BasicPublish e k a i

-- what is said of a method on a channel other than 0
abbrev channel_refusal : ℕ → ℕ → Method91 → Option Ruling
channel_refusal max n m =
    cond (is_of_kind CHANNEL_OPEN (kind_of m)) (carried_order max n) (cond (is_done (kind_of m) (args_of m)) None (refused NOT_IMPLEMENTED))

plain_effect : (max : ℕ) (c : Connection) (n : ℕ) (m : Method91) → IsPlain m → channel_refusal max n m ≡ None
    → channel_effect c n (kind_of m) (args_of m) ≡ (c, want.Method n m)
plain_effect max c n method.ChannelOpen p e = absurd (p.not_open refl)
plain_effect max c n (method.ChannelClose r t k i) p e = absurd (p.not_close r t k i refl)
plain_effect max c n method.ChannelCloseOk p e = absurd (p.not_close_ok refl)
plain_effect max c n (method.BasicPublish x k a i) p e = absurd (p.not_publish x k a i refl)
plain_effect max c n (method.ChannelFlow a) p e = refl
plain_effect max c n (method.ExchangeDeclare x k q d a i w t) p e = refl
plain_effect max c n (method.QueueDeclare q v d x a w t) p e = refl
plain_effect max c n (method.ConfirmSelect w) p e = refl
plain_effect max c n (method.BasicQos s k g) p e = refl
plain_effect max c n (method.BasicConsume q g l a x w t) p e = refl
plain_effect max c n (method.BasicCancel g w) p e = refl
plain_effect max c n (method.BasicGet q a) p e = refl
plain_effect max c n (method.BasicAck g a) p e = refl
plain_effect max c n (method.BasicReject g r) p e = refl
plain_effect max c n (method.BasicRecoverAsync r) p e = refl
plain_effect max c n (method.BasicRecover r) p e = refl
plain_effect max c n (method.BasicNack g a r) p e = refl
plain_effect max c n m p e = absurd cc

-- ---- on a channel other than 0

pub on_channel : (c : Connection) (n : ℕ) (m : Method91) → (n ≡ 0 → ⊥)
    → running_effect c n (kind_of m) (args_of m) ≡ channel_effect c n (kind_of m) (args_of m)
on_channel c n m apart = by (eqb n 0) refl
  where
    effect : Step
    effect = channel_effect c n (kind_of m) (args_of m)

    by : (b : Bool) → eqb n 0 ≡ b → cond {A = Step} b (record c { phase = phase.Closed; contents = no_contents }, want.Close) effect ≡ effect
    by true e = absurd (apart (eqb-true n 0 e))
    by false e = refl

-- one that isn't refused
pub plain_running : (max : ℕ) (c : Connection) (n : ℕ) (m : Method91) → (n ≡ 0 → ⊥) → IsPlain m → running_refusal max n (kind_of m) (args_of m) ≡ None
    → channel_effect c n (kind_of m) (args_of m) ≡ (c, want.Method n m)
plain_running max c n m apart p own = plain_effect max c n m p (by (eqb n 0) refl own)
  where
    by : (b : Bool) → eqb n 0 ≡ b → cond {A = Option Ruling} b None (channel_refusal max n m) ≡ None → channel_refusal max n m ≡ None
    by true e own = absurd (apart (eqb-true n 0 e))
    by false e own = own
