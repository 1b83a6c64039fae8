-- A consumer's basic.deliver goes behind the basic.consume-ok that tells its tag: told by the events
-- of the life in progress (AMQP 0-9-1 1.8.3.3, 1.8.3.4, 1.8.3.9).
use Rattle.std.specs.Prelude.{◌≡◌, ℕ, ◌==◌, Bool, true, false, ◌&&◌, ◌||◌, if◌then◌else◌, List, [], ◌∷◌}
use Rattle.std.specs.Prelude.{Some, bytes_eq}
use Rattle.session_path.specs.Due.{next_name, tag_of}
use Rattle.session_path.specs.Events as event
use Rattle.session_path.specs.Events.{PathEvent, after_events}
use Rattle.session_path.specs.Links.{free_number}
use Rattle.session_path.specs.Path.{tag_for}
use Rattle.session_path.specs.declared.path.PathOk.TheVariants as ok
use Rattle.gate_model.specs.declared.channel.ChannelUnit.TheVariants as to_client
use Rattle.gate_model.specs.declared.outgoing.Outgoing.TheVariants.{ToClient}
use Rattle.gate_model.specs.declared.reply.Reply.{Reply}
use Rattle.gate_model.specs.declared.reply.Reply.TheVariants as reply
use Rattle.gate_model.specs.Publishing.{path_events, path_life}
use Rattle.gate_model.specs.State.{Gave, Step}

-- the consumer tag of the last basic.consume for which the link with number k was wanted: the one
-- that it asks for, or else the one that is made for it
abbrev pub tag_asked : ℕ → ℕ → List PathEvent → List ℕ
tag_asked life k [] = []
tag_asked life k (event.Consumed queue tag no_ack no_wait ∷ es) =
    if free_number (after_events life es).links.links == k
    then tag_for tag (after_events life es).deliveries.links else tag_asked life k es
tag_asked life k (x ∷ es) = tag_asked life k es

-- since that basic.consume a basic.consume-ok for this link gave this tag back, or it wanted none
abbrev pub is_told : ℕ → ℕ → List ℕ → List PathEvent → Bool
is_told life k tag [] = false
is_told life k tag (event.Consumed queue asked no_ack no_wait ∷ es) =
    if free_number (after_events life es).links.links == k then no_wait
    else is_told life k tag es
is_told life k tag (event.OkSent (ok.Consume link) ∷ es) =
    (link == k && bytes_eq (next_name (after_events life es)) tag) || is_told life k tag es
is_told life k tag (x ∷ es) = is_told life k tag es

-- the tag that a deliver names is that one, and its client was told
pub record IsStarted (life k : ℕ) (es : List PathEvent) : Type 0 where
  pub named : tag_of k (after_events life es) ≡ tag_asked life k es
  pub told : is_told life k (tag_asked life k es) es ≡ true

-- a basic.consume-ok carries the name that it gives back
abbrev pub MayStart : List Step → Reply → List ℕ → Type 0
MayStart h (reply.OnChannel n (to_client.Ok (ok.Consume link))) text =
    (life : ℕ) → path_life h n ≡ Some life
    → text ≡ next_name (after_events life (path_events h n))
MayStart h (reply.OnChannel n (to_client.Deliver d)) text =
    d.get ≡ false → (life : ℕ) → path_life h n ≡ Some life
    → IsStarted life d.next.link (path_events h n)
MayStart h u text = Unit {0}

-- so it was for each that went
abbrev pub StartsBehind : List Step → Type 0
StartsBehind [] = Unit {0}
StartsBehind (Gave (ToClient u) text ∷ h) = MayStart h u text × StartsBehind h
StartsBehind (s ∷ h) = StartsBehind h
