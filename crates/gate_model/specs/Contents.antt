-- What goes to a client of what a container sent: told by the events of the life in progress, over
-- the fates of its deliveries, and by the steps.
use Rattle.std.specs.Prelude.{◌≡◌, ℕ, ◌+◌, ◌-◌, ◌==◌, ◌<◌, ◌≤◌, Bool, false}
use Rattle.std.specs.Prelude.{if◌then◌else◌, List, [], ◌∷◌, ◌++◌, length, slice_get, Option, None}
use Rattle.std.specs.Prelude.{Some}
use Rattle.std.specs.Option.{option_map}
use Rattle.consume_path.specs.Deliveries.{DeliveryEvent}
use Rattle.consume_path.specs.Journal.{Fate, IsTaken, fate_of, is_closed, numbers_of}
use Rattle.consume_path.specs.Laws.{payloads, pieces_of}
use Rattle.consume_path.specs.declared.receiving.Part.{Part}
use Rattle.machine_091.specs.State.{is_closing}
use Rattle.property_map.specs.Received.{received_in}
use Rattle.property_map.specs.declared.received.Received.{Received}
use Rattle.publish_path.specs.declared.publish.NextReturn.{NextReturn}
use Rattle.session_path.specs.Events as event
use Rattle.session_path.specs.Events.{PathEvent, after_events, deliveries_of}
use Rattle.session_path.specs.Path.{PathState, frames_in, is_last, source_of, taking}
use Rattle.session_path.specs.declared.path.ContentDue.{ContentDue}
use Rattle.session_path.specs.declared.path.DeliverDue.{DeliverDue}
use Rattle.session_path.specs.declared.path.PathLink.{PathLink}
use Rattle.gate_model.specs.Folds.{connection, ran_out_in}
use Rattle.gate_model.specs.Frames.{limit_in}
use Rattle.gate_model.specs.Paths.{content_of, is_again}
use Rattle.gate_model.specs.Publishing.{back_in, opens_channel, path_events, path_life}
use Rattle.gate_model.specs.Publishing.{returned_in}
use Rattle.gate_model.specs.State.{Gave, Step}
use Rattle.gate_model.specs.declared.channel.ChannelUnit.TheVariants as to_client
use Rattle.gate_model.specs.declared.outgoing.Outgoing.TheVariants.{ToClient}
use Rattle.gate_model.specs.declared.reply.Reply.{Reply}
use Rattle.gate_model.specs.declared.reply.Reply.TheVariants as reply

-- ---- what the container sent

-- a whole message: the queue of the link that it came on, and the payloads of its transfers, joined
-- in order (AMQP 1.0 2.6.14)
pub record Message : Type 0 where
  pub queue : List ℕ
  pub bytes : List ℕ

abbrev pub whole_on : Option PathLink → Part → List ℕ → PathState → List DeliveryEvent
    → Option Message
whole_on None part payload s es = None
whole_on (Some l) part payload s es =
    if is_last part then Some (record {
      queue = source_of l.link s;
      bytes = payloads (pieces_of l.link es) ++ payload;
    }) else None

-- that which an event behind h makes whole
abbrev pub message_by : ℕ → List PathEvent → PathEvent → Option Message
message_by life h (event.TransferCame peer part payload image again) =
    let s = after_events life h in whole_on (taking peer s) part payload s (deliveries_of life h)
message_by life h x = None

abbrev pub message_or : Option Message → Bool → Option Message → Option Message
message_or None this old = old
message_or (Some m) this old = if this then Some m else old

-- that of the delivery with this number: they count from 1, over all links
abbrev pub message_in : ℕ → ℕ → List PathEvent → Option Message
message_in life number [] = None
message_in life number (x ∷ h) =
    message_or (message_by life h x) (number == numbers_of (deliveries_of life h) + 1)
    (message_in life number h)

-- what a client receives of it that takes frames of so many bytes; None where it has no image in
-- AMQP 0-9-1
abbrev pub received_from : ℕ → Option Message → Option Received
received_from limit None = None
received_from limit (Some m) = received_in m.queue (limit - 8) m.bytes

-- ---- what a delivery carries

-- the exchange, the key and the frames of the image of its message, and whether that was delivered
-- before (AMQP 1.0 3.2.1)
pub record IsImage (limit n : ℕ) (m : Option Message) (f : Fate) : Type 0 where
  pub content : f.content ≡ option_map (content_of limit n) (received_from limit m)
  pub again : f.again ≡ is_again (received_from limit m)

-- each whole delivery of a life that goes on does
abbrev pub AreImages : List Step → Type 0
AreImages h =
    (n life number : ℕ) → path_life h n ≡ Some life
    → is_closed (deliveries_of life (path_events h n)) ≡ false
    → IsTaken (deliveries_of life (path_events h n)) number
    → IsImage (limit_in h) n (message_in life number (path_events h n))
    (fate_of number (deliveries_of life (path_events h n)))

-- ---- the frames that go

-- the deliver or get-ok that went last in the life in progress, and how many frames of its content
-- went since
pub record Begun : Type 0 where
  pub due : DeliverDue
  pub gone : ℕ

abbrev pub one_more : Option Begun → Option Begun
one_more None = None
one_more (Some b) = Some (record b { gone = b.gone + 1 })

abbrev pub begun_by : ℕ → Reply → Option Begun → Option Begun
begun_by n (reply.OnChannel k (to_client.Deliver d)) old =
    if k == n then Some (record { due = d; gone = 0 }) else old
begun_by n (reply.OnChannel k (to_client.Content c)) old = if k == n then one_more old else old
begun_by n u old = old

abbrev pub begun_at : ℕ → Step → Option Begun → Option Begun
begun_at n (Gave (ToClient u) text) old = begun_by n u old
begun_at n s old = old

abbrev pub begun_in : ℕ → List Step → Option Begun
begun_in n [] = None
begun_in n (s ∷ h) = if opens_channel n h s then None else begun_at n s (begun_in n h)

-- the frames of the content of a delivery
abbrev pub frames_by : ℕ → List DeliveryEvent → List (List ℕ)
frames_by number es = frames_in (fate_of number es).content

-- a frame of a content goes on channel n: the next one of those of the delivery whose deliver or
-- get-ok went last, in the life in progress that goes on, and the last of them says so (AMQP 0-9-1
-- 4.2.6)
pub record MayWrite (h : List Step) (n : ℕ) (c : ContentDue) (text : List ℕ) : Type 0 where
  pub life : ℕ
  pub lives : path_life h n ≡ Some life
  pub goes_on : is_closed (deliveries_of life (path_events h n)) ≡ false
  pub begun : Begun
  pub is : begun_in n h ≡ Some begun
  pub taken : IsTaken (deliveries_of life (path_events h n)) begun.due.next.number
  pub tag : c.tag ≡ begun.due.tag
  pub frame :
      slice_get (frames_by begun.due.next.number (deliveries_of life (path_events h n))) begun.gone
      ≡ Some text
  pub last : c.last ≡ (begun.gone + 1
      == length (frames_by begun.due.next.number (deliveries_of life (path_events h n))))

abbrev pub MayGoBehind : List Step → Reply → List ℕ → Type 0
MayGoBehind h (reply.OnChannel n (to_client.Content c)) text = MayWrite h n c text
MayGoBehind h u text = Unit {0}

-- each that went is one of these
abbrev pub Writes : List Step → Type 0
Writes [] = Unit {0}
Writes (Gave (ToClient u) text ∷ h) = MayGoBehind h u text × Writes h
Writes (s ∷ h) = Writes h

-- ---- contents stand together

-- the content of a deliver or get-ok is begun on channel n, and frames of it are still to go
pub record IsBegun (h : List Step) (n : ℕ) : Type 0 where
  pub life : ℕ
  pub lives : path_life h n ≡ Some life
  pub goes_on : is_closed (deliveries_of life (path_events h n)) ≡ false
  pub begun : Begun
  pub is : begun_in n h ≡ Some begun
  pub left : begun.gone
      < length (frames_by begun.due.next.number (deliveries_of life (path_events h n)))

-- the return of a publish of channel n is begun, and frames of it are still to go
pub record IsReturned (h : List Step) (n number : ℕ) : Type 0 where
  pub life : ℕ
  pub lives : path_life h n ≡ Some life
  pub begun : 1 ≤ returned_in n number h
  pub left : returned_in n number h < length (back_in n number h)

pub record IsContentOn (n : ℕ) (u : Reply) : Type 0 where
  pub due : ContentDue
  pub is : u ≡ reply.OnChannel n (to_client.Content due)

pub record IsReturnOf (n number : ℕ) (u : Reply) : Type 0 where
  pub due : NextReturn
  pub is : u ≡ reply.OnChannel n (to_client.Return due)
  pub same : due.publish ≡ number

-- nothing else goes to the client before these frames: those of a delivery while its life goes on,
-- and those of a return while the connection isn't closing and the pair has memory (AMQP 0-9-1
-- 4.2.6)
pub record GoesOn (h : List Step) (u : Reply) : Type 0 where
  pub content : (n : ℕ) → IsBegun h n → IsContentOn n u
  pub back : (n number : ℕ) → is_closing (connection h) ≡ false → ran_out_in h ≡ false
      → IsReturned h n number → IsReturnOf n number u

abbrev pub StandTogether : List Step → Type 0
StandTogether [] = Unit {0}
StandTogether (Gave (ToClient u) text ∷ h) = GoesOn h u × StandTogether h
StandTogether (s ∷ h) = StandTogether h
