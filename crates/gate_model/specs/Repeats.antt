-- What goes to a container once: dispositions of role sender, flows of links, attaches, and ends of
-- sessions.
use Rattle.std.specs.Prelude.{◌≡◌, ℕ, ◌+◌, ◌==◌, ◌≤◌, ◌<◌, ◌^◌, Bool, true, false}
use Rattle.std.specs.Prelude.{List, [], ◌∷◌, ◌++◌, Some}
use Rattle.consume_path.specs.Deliveries.{after_events as deliveries_after}
use Rattle.consume_path.specs.Links.{link_of}
use Rattle.consume_path.specs.declared.receiving.ReceivingLink.{ReceivingLink}
use Rattle.session_path.specs.Attaches.{times_attached}
use Rattle.session_path.specs.Events.{after_events, deliveries_of}
use Rattle.session_path.specs.Flows.{causes_on, flows_on}
use Rattle.session_path.specs.Laws.{settles_owed, settles_sent}
use Rattle.gate_model.specs.Once.{one_if}
use Rattle.gate_model.specs.Publishing.{path_events, path_life}
use Rattle.gate_model.specs.State.{Gave, Step}
use Rattle.gate_model.specs.declared.channel.LinkFlow.{LinkFlow}
use Rattle.gate_model.specs.declared.channel.SessionUnit.{SessionUnit}
use Rattle.gate_model.specs.declared.channel.SessionUnit.TheVariants as unit
use Rattle.gate_model.specs.declared.outgoing.Outgoing.TheVariants.{ToUp}
use Rattle.gate_model.specs.declared.outgoing.UpUnit.{UpUnit}
use Rattle.gate_model.specs.declared.outgoing.UpUnit.TheVariants as up

-- how many units to the container, of which the first byte was sent, pass a test
abbrev pub went_up : (UpUnit → Bool) → List Step → ℕ
went_up t [] = 0
went_up t (Gave (ToUp u) text ∷ h) = went_up t h + one_if (t u)
went_up t (s ∷ h) = went_up t h

-- ---- dispositions of role sender

-- of the life in progress those that went and those that are due answer the container's, in their
-- order, each once (AMQP 1.0 2.6.12, 2.7.6)
abbrev pub SettlesInOrder : List Step → Type 0
SettlesInOrder h =
    (n life : ℕ) → path_life h n ≡ Some life
    → settles_sent (path_events h n) ++ (after_events life (path_events h n)).settles
    ≡ settles_owed life (path_events h n)

-- ---- flows

-- a flow answers the container's flows on its link, of which fewer were answered than ask for it:
-- one for each echo, and one for each drain; or it states the credit of a receiving link (AMQP 1.0
-- 2.6.7, 2.7.4)
pub data IsAskedFor (h : List Step) (n : ℕ) (f : LinkFlow) : Type 0 where
  Answers : (life : ℕ) → path_life h n ≡ Some life
      → flows_on life f.link (path_events h n) < causes_on life f.link (path_events h n)
      → IsAskedFor h n f
  Grants : (life : ℕ) (link : ReceivingLink) → path_life h n ≡ Some life
      → link_of (deliveries_after life (deliveries_of life (path_events h n))).links f.link
      ≡ Some link → IsAskedFor h n f

abbrev pub MayFlow : List Step → UpUnit → Type 0
MayFlow h (up.OnSession n (unit.Flow f)) = IsAskedFor h n f
MayFlow h u = Unit {0}

abbrev pub FlowsOnce : List Step → Type 0
FlowsOnce [] = Unit {0}
FlowsOnce (Gave (ToUp u) text ∷ h) = MayFlow h u × FlowsOnce h
FlowsOnce (s ∷ h) = FlowsOnce h

-- ---- attaches

abbrev pub attaches_by : (ℕ → Bool) → SessionUnit → Bool
attaches_by t (unit.Attach a) = t a.name
attaches_by t (unit.Flow f) = false
attaches_by t (unit.Transfer x) = false
attaches_by t (unit.Dispose x) = false
attaches_by t (unit.Settle x) = false
attaches_by t (unit.Detach link handle why) = false

-- an attach whose name passes a test
abbrev pub is_attach_of : (ℕ → Bool) → UpUnit → Bool
is_attach_of t up.SaslHeader = false
is_attach_of t up.SaslInit = false
is_attach_of t up.AmqpHeader = false
is_attach_of t up.Open = false
is_attach_of t (up.Close why) = false
is_attach_of t up.Empty = false
is_attach_of t (up.OnSession n u) = attaches_by t u
is_attach_of t (up.Flow n i o) = false
is_attach_of t (up.Begin n) = false
is_attach_of t (up.End n why) = false

-- how many went, on all channels; and under the name with this number
abbrev pub attaches_in : List Step → ℕ
attaches_in h = went_up (is_attach_of (λ name. true)) h

abbrev pub attaches_as : ℕ → List Step → ℕ
attaches_as name h = went_up (is_attach_of (λ own. own == name)) h

-- of the first 2^64 attaches no two have one name (AMQP 1.0 2.6.1); and the container attaches a
-- link under each once at most
pub record AttachesOnce (h : List Step) : Type 0 where
  pub own : (name : ℕ) → attaches_in h ≤ 2 ^ 64 → attaches_as name h ≤ 1
  pub theirs : (n life name : ℕ) → attaches_in h ≤ 2 ^ 64 → path_life h n ≡ Some life
      → times_attached life name (path_events h n) ≤ 1

-- ---- sessions

abbrev pub is_begin_on : ℕ → UpUnit → Bool
is_begin_on n up.SaslHeader = false
is_begin_on n up.SaslInit = false
is_begin_on n up.AmqpHeader = false
is_begin_on n up.Open = false
is_begin_on n (up.Close why) = false
is_begin_on n up.Empty = false
is_begin_on n (up.OnSession k u) = false
is_begin_on n (up.Flow k i o) = false
is_begin_on n (up.Begin k) = k == n
is_begin_on n (up.End k why) = false

abbrev pub is_end_on : ℕ → UpUnit → Bool
is_end_on n up.SaslHeader = false
is_end_on n up.SaslInit = false
is_end_on n up.AmqpHeader = false
is_end_on n up.Open = false
is_end_on n (up.Close why) = false
is_end_on n up.Empty = false
is_end_on n (up.OnSession k u) = false
is_end_on n (up.Flow k i o) = false
is_end_on n (up.Begin k) = false
is_end_on n (up.End k why) = k == n

-- no more sessions of a number ended than began (AMQP 1.0 2.5.1, 2.5.2)
abbrev pub EndsOnce : List Step → Type 0
EndsOnce h = (n : ℕ) → went_up (is_end_on n) h ≤ went_up (is_begin_on n) h
