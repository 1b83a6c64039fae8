-- What the requests of a channel wish for, and the answers that met it: told by the events of the
-- life in progress, and by the units that went with the text that they carry (AMQP 0-9-1 1.4.2.1,
-- 2.2.2).
use Rattle.std.specs.Prelude.{◌≡◌, ℕ, ◌==◌, Bool, false, if◌then◌else◌, List, [], ◌∷◌, ◌++◌}
use Rattle.std.specs.Prelude.{Some}
use Rattle.consume_path.specs.Journal.{is_closed}
use Rattle.session_path.specs.Events as event
use Rattle.session_path.specs.Events.{PathEvent, after_events, deliveries_of}
use Rattle.session_path.specs.Laws.{IsFrontOf}
use Rattle.session_path.specs.Path.{tag_for}
use Rattle.session_path.specs.declared.path.PathOk.{PathOk}
use Rattle.session_path.specs.declared.path.PathOk.TheVariants as ok
use Rattle.gate_model.specs.Publishing.{opens_channel, path_events, path_life}
use Rattle.gate_model.specs.State.{Gave, Step}
use Rattle.gate_model.specs.declared.channel.ChannelUnit.{ChannelUnit}
use Rattle.gate_model.specs.declared.channel.ChannelUnit.TheVariants as to_client
use Rattle.gate_model.specs.declared.outgoing.Outgoing.TheVariants.{ToClient}
use Rattle.gate_model.specs.declared.reply.Reply.{Reply}
use Rattle.gate_model.specs.declared.reply.Reply.TheVariants as reply

-- the answer that a request wishes for
pub data Wish : Type 0 where
  -- one that names nothing: to channel.flow, exchange.declare, confirm.select, basic.qos and recover
  Plain : (ok : PathOk) → Wish
  -- basic.consume-ok and basic.cancel-ok with this tag (1.8.3.4, 1.8.3.6)
  Begins : (tag : List ℕ) → Wish
  Cancels : (tag : List ℕ) → Wish
  -- queue.declare-ok with this queue (1.7.2.2)
  Finds : (queue : List ℕ) → Wish
  -- basic.get-ok or basic.get-empty (1.8.3.11, 1.8.3.12)
  Gets : Wish

-- a request that sets no-wait wishes for none (1.4.2.1)
abbrev pub unless : Bool → Wish → List Wish
unless no_wait x = if no_wait then [] else x ∷ []

-- a basic.consume wishes for the tag that it asks for, or else for the one that is made for it; a
-- basic.cancel and a queue.declare for what they name
abbrev pub wished : ℕ → List PathEvent → PathEvent → List Wish
wished life es (event.Owed x) = Plain x ∷ []
wished life es (event.Consumed queue tag no_ack no_wait) =
    unless no_wait (Begins (tag_for tag (after_events life es).deliveries.links))
wished life es (event.CancelCame tag no_wait) = unless no_wait (Cancels tag)
wished life es (event.Declared queue no_wait) = unless no_wait (Finds queue)
wished life es (event.GetAsked queue no_ack) = Gets ∷ []
wished life es x = []

-- in the order in which the requests were taken up
abbrev pub wishes : ℕ → List PathEvent → List Wish
wishes life [] = []
wishes life (x ∷ es) = wishes life es ++ wished life es x

-- what an answer meets, by the text that it carries
abbrev pub wish_of : PathOk → List ℕ → Wish
wish_of (ok.Consume link) text = Begins text
wish_of ok.Cancel text = Cancels text
wish_of ok.Queue text = Finds text
wish_of ok.Get text = Gets
wish_of (ok.Empty link) text = Gets
wish_of x text = Plain x

abbrev pub met_by : ChannelUnit → List ℕ → List Wish
met_by (to_client.Ok x) text = wish_of x text ∷ []
met_by (to_client.Deliver d) text = if d.get then Gets ∷ [] else []
met_by u text = []

abbrev pub met_on : ℕ → Reply → List ℕ → List Wish
met_on n (reply.OnChannel k u) text = if k == n then met_by u text else []
met_on n u text = []

-- what was met since the channel was opened, in the order in which it went
abbrev pub met_in : ℕ → List Step → List Wish
met_in n [] = []
met_in n (Gave (ToClient u) text ∷ h) = met_in n h ++ met_on n u text
met_in n (s ∷ h) = if opens_channel n h s then [] else met_in n h

-- while a life goes on its answers met the first of the wishes, each once: a basic.consume-ok gives
-- back the tag of its own request, and each basic.get has one answer
abbrev pub AreMet : List Step → Type 0
AreMet h =
    (n life : ℕ) → path_life h n ≡ Some life
    → is_closed (deliveries_of life (path_events h n)) ≡ false
    → IsFrontOf (met_in n h) (wishes life (path_events h n))

-- after each step
abbrev pub MeetsWishes : List Step → Type 0
MeetsWishes [] = Unit {0}
MeetsWishes (s ∷ h) = AreMet (s ∷ h) × MeetsWishes h
