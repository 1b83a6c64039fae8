-- What is owed to a container on a link: told by folds over the events of the life in progress,
-- which know no state. Where nothing goes to it, none of it is left.
use Rattle.std.specs.Prelude.{◌≡◌, ℕ, ◌+◌, ◌-◌, ◌*◌, ◌==◌, ◌≤◌, ◌<◌, nat_lt, min, Bool, true, false}
use Rattle.std.specs.Prelude.{not, ◌&&◌, ◌||◌, if◌then◌else◌, List, [], ◌∷◌, Option, None, Some}
use Rattle.std.specs.Prelude.{is_some}
use Rattle.std.specs.List.{list_any}
use Rattle.links_10.specs.Send.{advanced, past}
use Rattle.consume_path.specs.Deliveries as on
use Rattle.consume_path.specs.Deliveries.{DeliveryEvent}
use Rattle.consume_path.specs.Deliveries.{after_events as deliveries_after}
use Rattle.consume_path.specs.Journal.{is_closed}
use Rattle.consume_path.specs.Laws.{are_covered, joined_of, pieces_of}
use Rattle.consume_path.specs.Links.{link_of}
use Rattle.consume_path.specs.declared.receiving.ReceivingLink.{ReceivingLink}
use Rattle.consume_path.specs.declared.receiving.RecvKind.{RecvKind}
use Rattle.consume_path.specs.declared.receiving.RecvKind.TheVariants.{Consumer, Get, Probe}
use Rattle.gate_outside.specs.declared.ports.End.TheVariants.{Up}
use Rattle.gate_relay.specs.Sides.{is_readable}
use Rattle.publish_path.specs.Journal.{IsTaken, fate_of, is_to_go}
use Rattle.session_path.specs.Events as event
use Rattle.session_path.specs.Events.{PathEvent, deliveries_of, publishes_of}
use Rattle.gate_model.specs.declared.channel.SessionUnit.{SessionUnit}
use Rattle.gate_model.specs.declared.channel.SessionUnit.TheVariants as unit
use Rattle.gate_model.specs.declared.outgoing.Outgoing.TheVariants.{ToUp}
use Rattle.gate_model.specs.declared.outgoing.UpUnit.{UpUnit}
use Rattle.gate_model.specs.declared.outgoing.UpUnit.TheVariants as up
use Rattle.gate_model.specs.Addresses.{address_in, target_in}
use Rattle.gate_model.specs.Asked.{is_up_close}
use Rattle.gate_model.specs.Credits.{in_use, is_consumer, kind_in, quota_of}
use Rattle.gate_model.specs.Due.{pick}
use Rattle.gate_model.specs.Folds.{container, ran_out_in, sent_up, side_in}
use Rattle.gate_model.specs.Handles.{handle_in}
use Rattle.gate_model.specs.Lives.{is_carried, session_in}
use Rattle.gate_model.specs.Publishing.{opens_channel, path_events, path_life}
use Rattle.gate_model.specs.State.{Gave, Step, before}

-- nothing goes to the container, whose end is open, before the gateway's close; and the session of
-- this life of channel n is between the container's begin and the gateway's end
pub record IsAtRest (h : List Step) (n life : ℕ) : Type 0 where
  pub none : pick (before h) Up ≡ None
  pub readable : is_readable (side_in h) ≡ true
  pub unclosed : list_any is_up_close (sent_up h) ≡ false
  pub lives : path_life h n ≡ Some life
  pub carried : is_carried (session_in (container h) n) ≡ true

-- ---- what is left of a receiving link's credit (AMQP 1.0 2.6.7)

pub record Left : Type 0 where
  -- the delivery-count
  pub count : ℕ
  -- what is left of the credit that the gateway stated last
  pub credit : ℕ

-- the container's attach states the first delivery-count, and gives no credit
abbrev pub from_count : ℕ → Left
from_count count = record { count = count; credit = 0 }

-- a flow of the gateway states a credit
abbrev pub granted : ℕ → Left → Left
granted credit c = record c { credit = credit }

-- a delivery begins
abbrev pub taken : Left → Left
taken c = record { count = advanced c.count 1; credit = c.credit - 1 }

-- where a flow of the container leaves less by its delivery-count than was left, it gave up the
-- rest, by serial numbers (RFC 1982)
abbrev pub left_at : ℕ → Left → Left
left_at left c =
    if nat_lt left c.credit
    then record { count = advanced c.count (c.credit - left); credit = left } else c

abbrev pub flowed : ℕ → Left → Left
flowed count c = left_at (past (advanced c.count c.credit) count) c

-- no delivery of link k is begun and not whole (2.6.14)
abbrev pub is_between : ℕ → List DeliveryEvent → Bool
is_between k ds = not (is_some (joined_of (pieces_of k ds)))

-- of the link with number k, by all that went and came on it since it was wanted
abbrev pub left_on : ℕ → List DeliveryEvent → Left
left_on k [] = from_count 0
left_on k (on.LinkAdded link kind ∷ ds) = if link == k then from_count 0 else left_on k ds
left_on k (on.LinkAttached link count ∷ ds) =
    if link == k then from_count count else left_on k ds
left_on k (on.GrantSent g ∷ ds) =
    if g.link == k then granted g.credit (left_on k ds) else left_on k ds
left_on k (on.TransferCame link part payload ∷ ds) =
    if (link == k) && is_between k ds then taken (left_on k ds) else left_on k ds
left_on k (on.LinkFlowed link count ∷ ds) =
    if link == k then flowed count (left_on k ds) else left_on k ds
left_on k (x ∷ ds) = left_on k ds

-- it is that, on each receiving link, until the life closes
abbrev pub LeavesCredit : List Step → Type 0
LeavesCredit h =
    (n life k : ℕ) (link : ReceivingLink) → path_life h n ≡ Some life
    → is_closed (deliveries_of life (path_events h n)) ≡ false
    → link_of (deliveries_after life (deliveries_of life (path_events h n))).links k ≡ Some link
    → link.state.credit ≡ (left_on k (deliveries_of life (path_events h n))).credit

-- ---- flows

-- the container attached link k, with a source, since it was wanted (2.6.3)
abbrev pub is_attached : ℕ → List DeliveryEvent → Bool
is_attached k [] = false
is_attached k (on.LinkAdded link kind ∷ ds) = if link == k then false else is_attached k ds
is_attached k (on.LinkAttached link count ∷ ds) = (link == k) || is_attached k ds
is_attached k (x ∷ ds) = is_attached k ds

-- and its consumer was cancelled (AMQP 0-9-1 1.8.3.5)
abbrev pub is_cancelled : ℕ → List DeliveryEvent → Bool
is_cancelled k [] = false
is_cancelled k (on.LinkAdded link kind ∷ ds) = if link == k then false else is_cancelled k ds
is_cancelled k (on.Cancelled link ∷ ds) = (link == k) || is_cancelled k ds
is_cancelled k (x ∷ ds) = is_cancelled k ds

abbrev pub is_consumers : Option RecvKind → Bool
is_consumers None = false
is_consumers (Some kind) = is_consumer kind

-- a consumer's link is live from the container's attach on, until its cancel, the gateway's detach
-- or the end of its life
abbrev pub is_live : ℕ → List DeliveryEvent → Bool
is_live k ds =
    is_consumers (kind_in k ds)
    && (is_attached k ds && not (is_cancelled k ds || is_closed ds))

-- and it is stopped from its cancel on
abbrev pub is_stopped : ℕ → List DeliveryEvent → Bool
is_stopped k ds =
    is_consumers (kind_in k ds)
    && (is_attached k ds && (is_cancelled k ds && not (is_closed ds)))

-- a receiving link is in use from the container's attach on, until the gateway's detach or the end
-- of its life
abbrev pub is_used : ℕ → List DeliveryEvent → Bool
is_used k ds = is_some (kind_in k ds) && (is_attached k ds && not (is_closed ds))

-- no flow of the gateway went behind one of the container that asks for the state of link k (2.7.4)
abbrev pub is_echoed : ℕ → List DeliveryEvent → Bool
is_echoed k [] = false
is_echoed k (on.LinkAdded link kind ∷ ds) = if link == k then false else is_echoed k ds
is_echoed k (on.LinkEchoed link ∷ ds) = (link == k) || is_echoed k ds
is_echoed k (on.GrantSent g ∷ ds) = if g.link == k then false else is_echoed k ds
is_echoed k (x ∷ ds) = is_echoed k ds

-- a basic.get waits on link k, and behind it no flow went that states the credit of one (AMQP 0-9-1
-- 1.8.3.10)
abbrev pub is_unasked : ℕ → List DeliveryEvent → Bool
is_unasked k [] = false
is_unasked k (on.LinkAdded link kind ∷ ds) = if link == k then false else is_unasked k ds
is_unasked k (on.GetCame link no_ack ∷ ds) = (link == k) || is_unasked k ds
is_unasked k (on.TransferCame link part payload ∷ ds) =
    if link == k then false else is_unasked k ds
is_unasked k (on.Arrived a content again ∷ ds) = if a.link == k then false else is_unasked k ds
is_unasked k (on.Emptied link ∷ ds) = if link == k then false else is_unasked k ds
is_unasked k (on.GrantSent g ∷ ds) =
    if (g.link == k) && (g.credit == 1) then false else is_unasked k ds
is_unasked k (x ∷ ds) = is_unasked k ds

pub record IsFilled (k : ℕ) (ds : List DeliveryEvent) : Type 0 where
  -- on a live link more than half of the quota is used: by what is left of the credit, and by the
  -- deliveries that count. So none is owed a flow that fills it (AMQP 0-9-1 1.8.3.1)
  pub live : is_live k ds ≡ true → quota_of k ds < 2 * ((left_on k ds).credit + in_use k ds)
  -- on one that is stopped no credit is left
  pub stopped : is_stopped k ds ≡ true → (left_on k ds).credit ≡ 0
  -- each flow that asks for the state of one in use was answered, and the credit of each basic.get
  -- that waits there was stated
  pub told : is_used k ds ≡ true → is_echoed k ds ≡ false
  pub asked : is_used k ds ≡ true → is_unasked k ds ≡ false

-- so it is where nothing goes, while the pair has memory
abbrev pub FillsQuotas : List Step → Type 0
FillsQuotas h =
    (n life k : ℕ) → IsAtRest h n life → ran_out_in h ≡ false
    → IsFilled k (deliveries_of life (path_events h n))

-- ---- attaches

-- an attach goes under this handle of the gateway (2.7.3)
abbrev pub uses : ℕ → SessionUnit → Bool
uses x (unit.Attach a) = a.handle == x
uses x u = false

-- on the session of channel n
abbrev pub uses_up : ℕ → ℕ → UpUnit → Bool
uses_up n x (up.OnSession m u) = (m == n) && uses x u
uses_up n x u = false

abbrev pub uses_step : ℕ → ℕ → Step → Bool
uses_step n x (Gave (ToUp u) text) = uses_up n x u
uses_step n x s = false

-- one did in the life in progress
abbrev pub was_used : ℕ → ℕ → List Step → Bool
was_used n x [] = false
was_used n x (s ∷ h) =
    if opens_channel n h s then false else uses_step n x s || was_used n x h

-- the greatest handle: that which the container's begin states, and 255 at most (2.7.2)
abbrev pub most_handle : List PathEvent → ℕ
most_handle [] = 255
most_handle (event.Began handle_max ∷ es) = min 255 handle_max
most_handle (x ∷ es) = most_handle es

-- a handle is left under which no attach of the life in progress went
pub record HasHandle (h : List Step) (n : ℕ) : Type 0 where
  pub handle : ℕ
  pub within : handle ≤ most_handle (path_events h n)
  pub unused : was_used n handle h ≡ false

-- a handle of the gateway stands for a sending link to this address
pub record IsTargeted (h : List Step) (n : ℕ) (address : List ℕ) : Type 0 where
  pub handle : ℕ
  pub is : target_in n handle h ≡ Some address

pub record AreAttached (h : List Step) (n life : ℕ) : Type 0 where
  -- each publish of which a frame is to go has a link to its address, which the gateway attached
  pub publishes : (k : ℕ) (address : List ℕ) → IsTaken (publishes_of life (path_events h n)) k
      → is_to_go (fate_of k (publishes_of life (path_events h n))) ≡ true
      → address_in n k h ≡ Some address → IsTargeted h n address
  -- and until the life closes it attached each link that a basic.consume, a queue.declare or
  -- a basic.get wanted
  pub receivers : (k : ℕ) → is_closed (deliveries_of life (path_events h n)) ≡ false
      → is_some (kind_in k (deliveries_of life (path_events h n))) ≡ true
      → is_some (handle_in n k h) ≡ true

-- so it is where nothing goes, while the pair has memory and such a handle
abbrev pub AttachesLinks : List Step → Type 0
AttachesLinks h =
    (n life : ℕ) → IsAtRest h n life → ran_out_in h ≡ false → HasHandle h n
    → AreAttached h n life

-- ---- detaches

-- nothing is to come any more: of a consumer's link once that was cancelled, and of a declaration's
abbrev pub ends : Bool → RecvKind → Bool
ends cancelled (Consumer tag no_ack) = cancelled
ends cancelled Get = false
ends cancelled Probe = true

abbrev pub ends_in : Bool → Option RecvKind → Bool
ends_in cancelled None = false
ends_in cancelled (Some kind) = ends cancelled kind

-- the container attached link k, nothing is to come of it, each of its deliveries that didn't come
-- settled had its disposition, and the gateway's detach didn't go (2.6.6, 2.7.6)
abbrev pub is_done : ℕ → List DeliveryEvent → Bool
is_done k ds =
    ends_in (is_cancelled k ds) (kind_in k ds) && (is_attached k ds && are_covered k ds)

-- no such link is left where nothing goes, until the life closes
abbrev pub DetachesDone : List Step → Type 0
DetachesDone h =
    (n life k : ℕ) → IsAtRest h n life → is_closed (deliveries_of life (path_events h n)) ≡ false
    → is_done k (deliveries_of life (path_events h n)) ≡ false
