-- The delivers that go to a client: told by the events of the life in progress, over the fates of
-- its deliveries, which know no state.
use Rattle.std.specs.Prelude.{◌≡◌, ℕ, ◌+◌, List, [], ◌∷◌, Some}
use Rattle.consume_path.specs.Journal.{fate_of, global_of, tags_of}
use Rattle.consume_path.specs.Laws.{IsLawfulDeliver}
use Rattle.methods_091.specs.Writing.{method_text}
use Rattle.session_path.specs.Due.{tag_of}
use Rattle.session_path.specs.Events.{after_events, deliveries_of}
use Rattle.session_path.specs.declared.path.DeliverDue.{DeliverDue}
use Rattle.gate_model.specs.Due.{deliver_as}
use Rattle.gate_model.specs.Publishing.{path_events, path_life}
use Rattle.gate_model.specs.State.{Gave, Step}
use Rattle.gate_model.specs.declared.channel.ChannelUnit.TheVariants as to_client
use Rattle.gate_model.specs.declared.outgoing.Outgoing.TheVariants.{ToClient}
use Rattle.gate_model.specs.declared.reply.Reply.{Reply}
use Rattle.gate_model.specs.declared.reply.Reply.TheVariants as reply

-- a deliver on channel n is one of the life in progress: of a message with an image, of which none
-- went and which nothing settled, and behind those that came before it on its link. Where its
-- consumer acknowledges, the unsettled ones are with it within the consumer's prefetch, and within
-- that of all, which counts from the first byte of its qos-ok on (RabbitMQ's meaning of `global`;
-- AMQP 0-9-1 1.8.3.1). Delivery tags count from 1
pub record MayDeliver (h : List Step) (n : ℕ) (d : DeliverDue) (text : List ℕ) : Type 0 where
  pub life : ℕ
  pub lives : path_life h n ≡ Some life
  pub lawful : IsLawfulDeliver (global_of (deliveries_of life (path_events h n)))
      (deliveries_of life (path_events h n)) d.next
  pub tag : d.tag ≡ tags_of (deliveries_of life (path_events h n)) + 1
  -- its method names the link's consumer, and where its message was published
  pub named : text ≡ method_text (deliver_as (tag_of d.next.link (after_events life
      (path_events h n))) d (fate_of d.next.number (deliveries_of life (path_events h n))).content)

abbrev pub MayGoOut : List Step → Reply → List ℕ → Type 0
MayGoOut h (reply.OnChannel n (to_client.Deliver d)) text = MayDeliver h n d text
MayGoOut h u text = Unit {0}

-- each that went is one of these
abbrev pub Delivers : List Step → Type 0
Delivers [] = Unit {0}
Delivers (Gave (ToClient u) text ∷ h) = MayGoOut h u text × Delivers h
Delivers (s ∷ h) = Delivers h
