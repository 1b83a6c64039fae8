-- The address that an attach of a receiving link names, and the one for which a basic.get waits on
-- a link: told by the events of the life in progress (AMQP 0-9-1 1.8.3.10; AMQP 1.0 2.6.3, 3.5.3).
use Rattle.std.specs.Prelude.{◌≡◌, ℕ, ◌==◌, ◌&&◌, not, true, if◌then◌else◌, List, [], ◌∷◌}
use Rattle.std.specs.Prelude.{Option, None, Some, is_some}
use Rattle.session_path.specs.Events as event
use Rattle.session_path.specs.Events.{PathEvent, after_events}
use Rattle.session_path.specs.Laws.{queue_in}
use Rattle.session_path.specs.Links.{free_number}
use Rattle.session_path.specs.Path.{PathState, get_link, queue_or}
use Rattle.session_path.specs.declared.path.PathLink.{PathLink}
use Rattle.gate_model.specs.declared.channel.ChannelUnit.TheVariants as to_client
use Rattle.gate_model.specs.declared.channel.SessionUnit.TheVariants as unit
use Rattle.gate_model.specs.declared.outgoing.Outgoing.TheVariants.{ToClient, ToUp}
use Rattle.gate_model.specs.declared.outgoing.UpUnit.{UpUnit}
use Rattle.gate_model.specs.declared.outgoing.UpUnit.TheVariants as up
use Rattle.gate_model.specs.declared.reply.Reply.{Reply}
use Rattle.gate_model.specs.declared.reply.Reply.TheVariants as reply
use Rattle.gate_model.specs.Publishing.{path_events, path_life}
use Rattle.gate_model.specs.State.{Gave, Step}

-- the queue that a request names: an empty name stands for the one that was declared last (AMQP
-- 0-9-1 1.7.2.1)
abbrev pub queue_of : List ℕ → List PathEvent → List ℕ
queue_of queue es = queue_or (queue_in es) queue

-- the link on which a basic.get waits: one for gets from its queue that none waits on, or a new one
abbrev pub or_new : Option PathLink → ℕ → ℕ
or_new None new = new
or_new (Some l) new = l.link

abbrev pub link_for : List ℕ → PathState → ℕ
link_for queue s = or_new (get_link queue s) (free_number s.links.links)

-- the queue for which the receiving link with number k was wanted last
abbrev pub wanted_for : ℕ → ℕ → List PathEvent → List ℕ
wanted_for life k [] = []
wanted_for life k (event.Consumed queue tag no_ack no_wait ∷ es) =
    if free_number (after_events life es).links.links == k then queue_of queue es
    else wanted_for life k es
wanted_for life k (event.Declared queue no_wait ∷ es) =
    if free_number (after_events life es).links.links == k then queue else wanted_for life k es
wanted_for life k (event.GetAsked queue no_ack ∷ es) =
    if not (is_some (get_link (queue_of queue es) (after_events life es)))
    && (free_number (after_events life es).links.links == k)
    then queue_of queue es else wanted_for life k es
wanted_for life k (x ∷ es) = wanted_for life k es

-- the queue of the last basic.get that waits on it
abbrev pub asked_for : ℕ → ℕ → List PathEvent → Option (List ℕ)
asked_for life k [] = None
asked_for life k (event.GetAsked queue no_ack ∷ es) =
    if link_for (queue_of queue es) (after_events life es) == k then Some (queue_of queue es)
    else asked_for life k es
asked_for life k (x ∷ es) = asked_for life k es

-- each attach of a receiving link that went named its queue as the address of the source
abbrev pub MayAttach : List Step → UpUnit → List ℕ → Type 0
MayAttach h (up.OnSession n (unit.Attach a)) text =
    (life : ℕ) → path_life h n ≡ Some life → a.receives ≡ true
    → text ≡ wanted_for life a.link (path_events h n)
MayAttach h u text = Unit {0}

-- and the delivery of each basic.get-ok came on a link to the queue that its basic.get asked for
abbrev pub MayGet : List Step → Reply → Type 0
MayGet h (reply.OnChannel n (to_client.Deliver d)) =
    (life : ℕ) → path_life h n ≡ Some life → d.get ≡ true
    → asked_for life d.next.link (path_events h n)
    ≡ Some (wanted_for life d.next.link (path_events h n))
MayGet h u = Unit {0}

abbrev pub GetsFromItsQueue : List Step → Type 0
GetsFromItsQueue [] = Unit {0}
GetsFromItsQueue (Gave (ToUp u) text ∷ h) = MayAttach h u text × GetsFromItsQueue h
GetsFromItsQueue (Gave (ToClient u) text ∷ h) = MayGet h u × GetsFromItsQueue h
GetsFromItsQueue (s ∷ h) = GetsFromItsQueue h
