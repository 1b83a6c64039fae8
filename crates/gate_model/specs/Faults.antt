-- Which error a detach of the gateway states: told by the events of the life in progress (AMQP 1.0
-- 2.6.5, 2.7.7, 2.8.14, 2.8.18).
use Rattle.std.specs.Prelude.{◌≡◌, ℕ, List, [], ◌∷◌, Option, None, Some}
use Rattle.consume_path.specs.declared.receiving.TransferFault.{TransferFault}
use Rattle.performatives_10.specs.declared.condition.Condition.{Condition}
use Rattle.session_path.specs.Events as event
use Rattle.session_path.specs.Events.{PathEvent, after_events}
use Rattle.session_path.specs.Links.{named}
use Rattle.session_path.specs.declared.path.PathLink.{PathLink}
use Rattle.gate_model.specs.declared.channel.SessionUnit.{SessionUnit}
use Rattle.gate_model.specs.declared.channel.SessionUnit.TheVariants as unit
use Rattle.gate_model.specs.declared.outgoing.Outgoing.TheVariants.{ToUp}
use Rattle.gate_model.specs.declared.outgoing.UpUnit.{UpUnit}
use Rattle.gate_model.specs.declared.outgoing.UpUnit.TheVariants as up
use Rattle.gate_model.specs.Paths.{error_for}
use Rattle.gate_model.specs.Publishing.{path_events, path_life}
use Rattle.gate_model.specs.State.{Gave, Step}

-- a transfer of the container passed this limit of the link with this number
pub data HasFailed (life link : ℕ) (fault : TransferFault) : List PathEvent → Type 0 where
  Now : (peer : ℕ) (es : List PathEvent) (l : PathLink)
      → named peer (after_events life es).links ≡ Some l → l.link ≡ link
      → HasFailed life link fault (event.LinkFailed peer fault ∷ es)
  Before : (x : PathEvent) (es : List PathEvent) → HasFailed life link fault es
      → HasFailed life link fault (x ∷ es)

-- so that this is the error of its detach
pub record IsFault (h : List Step) (n link : ℕ) (why : Condition) : Type 0 where
  pub life : ℕ
  pub lives : path_life h n ≡ Some life
  pub fault : TransferFault
  pub passed : HasFailed life link fault (path_events h n)
  pub is : error_for (Some fault) ≡ Some why

-- each detach that went with an error had it for that
abbrev pub PartsFor : List Step → ℕ → ℕ → Option Condition → Type 0
PartsFor h n link None = Unit {0}
PartsFor h n link (Some why) = IsFault h n link why

abbrev pub PartsAs : List Step → ℕ → SessionUnit → Type 0
PartsAs h n (unit.Detach link handle why) = PartsFor h n link why
PartsAs h n u = Unit {0}

abbrev pub MayPart : List Step → UpUnit → Type 0
MayPart h (up.OnSession n u) = PartsAs h n u
MayPart h u = Unit {0}

abbrev pub StatesFaults : List Step → Type 0
StatesFaults [] = Unit {0}
StatesFaults (Gave (ToUp u) text ∷ h) = MayPart h u × StatesFaults h
StatesFaults (s ∷ h) = StatesFaults h
