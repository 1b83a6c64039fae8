-- A queue.declare is answered only where the container attached its link, with a source: told by the
-- events of the life in progress.
use Rattle.std.specs.Prelude.{◌≡◌, ℕ, ◌+◌, ◌<◌, Bool, true, false, ◌&&◌, List, [], ◌∷◌, count_by}
use Rattle.std.specs.Prelude.{Option, None, Some}
use Rattle.session_path.specs.Events as event
use Rattle.session_path.specs.Events.{PathEvent, after_events}
use Rattle.session_path.specs.Laws.{oks_sent}
use Rattle.session_path.specs.Links.{asked_by}
use Rattle.session_path.specs.Path.{PathState, declares_in, is_answered}
use Rattle.session_path.specs.declared.path.AttachHeard.{AttachHeard}
use Rattle.session_path.specs.declared.path.Awaited.{Awaited}
use Rattle.session_path.specs.declared.path.PathLink.{PathLink}
use Rattle.session_path.specs.declared.path.PathOk.{PathOk}
use Rattle.session_path.specs.declared.path.PathOk.TheVariants as ok
use Rattle.gate_model.specs.Once.{one_if}
use Rattle.gate_model.specs.Publishing.{path_events, path_life}
use Rattle.gate_model.specs.State.{Gave, Step}
use Rattle.gate_model.specs.declared.channel.ChannelUnit.TheVariants as to_client
use Rattle.gate_model.specs.declared.outgoing.Outgoing.TheVariants.{ToClient}
use Rattle.gate_model.specs.declared.reply.Reply.{Reply}
use Rattle.gate_model.specs.declared.reply.Reply.TheVariants as reply

-- a queue.declare-ok
abbrev pub is_declare_ok : PathOk → Bool
is_declare_ok ok.Flow = false
is_declare_ok ok.Declare = false
is_declare_ok ok.Select = false
is_declare_ok (ok.Consume link) = false
is_declare_ok (ok.Qos count global) = false
is_declare_ok ok.Cancel = false
is_declare_ok ok.Queue = true
is_declare_ok ok.Get = false
is_declare_ok (ok.Empty link) = false
is_declare_ok ok.Recover = false

-- how many went
abbrev pub declares_answered : List PathEvent → ℕ
declares_answered es = count_by is_declare_ok (oks_sent es)

-- an attach of the container answers the gateway's of the link that a queue.declare waits for, which
-- wants an answer; and it has a source (AMQP 1.0 2.6.3, 2.7.3)
abbrev pub finds_on : Option PathLink → AttachHeard → Option Awaited → Bool
finds_on None a awaited = false
finds_on (Some l) a awaited =
    (l.receives && a.there) && (is_answered l.link awaited && declares_in awaited)

abbrev pub finds : PathState → PathEvent → Bool
finds s (event.AttachCame a) = finds_on (asked_by a s.links) a s.awaited
finds s x = false

-- how many such came
abbrev pub queues_found : ℕ → List PathEvent → ℕ
queues_found life [] = 0
queues_found life (x ∷ es) = queues_found life es + one_if (finds (after_events life es) x)

-- a queue.declare-ok on channel n goes where more of them came in the life in progress than
-- queue.declare-oks went
pub record MayDeclare (h : List Step) (n : ℕ) : Type 0 where
  pub life : ℕ
  pub lives : path_life h n ≡ Some life
  pub found : declares_answered (path_events h n) < queues_found life (path_events h n)

abbrev pub MayAnswer : List Step → Reply → Type 0
MayAnswer h (reply.OnChannel n (to_client.Ok x)) = is_declare_ok x ≡ true → MayDeclare h n
MayAnswer h u = Unit {0}

-- each that went is one of these
abbrev pub DeclaresFound : List Step → Type 0
DeclaresFound [] = Unit {0}
DeclaresFound (Gave (ToClient u) text ∷ h) = MayAnswer h u × DeclaresFound h
DeclaresFound (s ∷ h) = DeclaresFound h
