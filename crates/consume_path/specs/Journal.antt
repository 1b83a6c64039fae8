-- What the journal of a life says of one delivery, newest first. Nothing here knows the list of the
-- open deliveries.
use Rattle.std.specs.Prelude.{ℕ, Bool, true, false, ◌+◌, ◌≤◌, ◌==◌, ◌&&◌, ◌||◌, not, if◌then◌else◌}
use Rattle.std.specs.Prelude.{List, [], ◌∷◌, Option, Some, None, is_some}
use Rattle.std.specs.Option.{option_or}
use Rattle.open_items.specs.declared.lost.LostKind.{LostKind}
use Rattle.open_items.specs.declared.lost.LostKind.TheVariants.{DeliveryLeft, DeliveryLost}
use Rattle.consume_path.specs.declared.delivery.Arriving.{Arriving}
use Rattle.consume_path.specs.declared.delivery.Content.{Content}
use Rattle.consume_path.specs.declared.delivery.Settle.{Settle}
use Rattle.consume_path.specs.declared.delivery.Settle.TheVariants.{Accepted, Rejected, Released}
use Rattle.consume_path.specs.declared.delivery.Taker.{Taker}
use Rattle.consume_path.specs.declared.delivery.Taker.TheVariants.{Nobody}
use Rattle.consume_path.specs.Items.{is_that, is_no_ack, is_nobody, limit_of, is_on, in_tag}
use Rattle.consume_path.specs.Items.{in_range, without_link}
use Rattle.consume_path.specs.Deliveries.{DeliveryEvent, Arrived, LinkDropped, Delivered, Written}
use Rattle.consume_path.specs.Deliveries.{Answered, Cancelled, Closed, EndLost, SettleSent}
use Rattle.consume_path.specs.Deliveries.{LinesTold, GlobalSet}

-- of the life

abbrev pub arrives : DeliveryEvent → Bool
arrives (Arrived a content again) = true
arrives x = false

abbrev pub delivers_one : DeliveryEvent → Bool
delivers_one (Delivered number) = true
delivers_one x = false

abbrev pub closes : DeliveryEvent → Bool
closes Closed = true
closes x = false

-- how many whole deliveries came
abbrev pub numbers_of : List DeliveryEvent → ℕ
numbers_of [] = 0
numbers_of (x ∷ h) = if arrives x then numbers_of h + 1 else numbers_of h

-- how many delivery tags were given: they count from 1, over deliver and get-ok
abbrev pub tags_of : List DeliveryEvent → ℕ
tags_of [] = 0
tags_of (x ∷ h) = if delivers_one x then tags_of h + 1 else tags_of h

abbrev pub is_closed : List DeliveryEvent → Bool
is_closed [] = false
is_closed (x ∷ h) = closes x || is_closed h

-- the prefetch of all consumers (AMQP 0-9-1 1.8.3.1)
abbrev pub global_of : List DeliveryEvent → ℕ
global_of [] = 0
global_of (GlobalSet count ∷ h) = count
global_of (x ∷ h) = global_of h

-- of one delivery

pub record Fate : Type 0 where
  -- the link that it came on, as long as that stands
  pub link : Option ℕ
  -- its delivery-id, and whether its transfer came settled (AMQP 1.0 2.7.5)
  pub id : ℕ
  pub settled : Bool
  -- it was delivered before
  pub again : Bool
  -- whom it goes to, and what: nothing where it has no image
  pub taker : Taker
  pub content : Option Content
  -- the tag of its deliver or get-ok, once that went, and whether its content went whole
  pub tag : Option ℕ
  pub complete : Bool
  -- the first cause of a disposition (AMQP 1.0 3.4), and whether that disposition went
  pub due : Option Settle
  pub sent : Bool
  -- the container's end was lost before
  pub left : Bool
  -- its life closed
  pub closed : Bool
  -- the line that the report is owed
  pub line : Option LostKind

-- what causes a disposition at its arrival
abbrev pub first_cause : Bool → Bool → Taker → Option Settle
first_cause closed image taker =
    if image then (if closed || is_nobody taker then Some Released else None) else Some Rejected

abbrev pub new_fate : Bool → Arriving → Option Content → Bool → Fate
new_fate closed a content again = record {
  link = Some a.link;
  id = a.id;
  settled = a.settled;
  again = again;
  taker = a.taker;
  content = content;
  tag = None;
  complete = false;
  due = first_cause closed (is_some content) a.taker;
  sent = false;
  left = false;
  closed = closed;
  line = if a.settled && closed then Some DeliveryLost else None;
}

abbrev pub nothing : Arriving
nothing = record { link = 0; id = 0; settled = false; taker = Nobody }

-- the first cause counts
abbrev pub caused : Bool → Settle → Option Settle → Option Settle
caused test s due = if test then option_or due (Some s) else due

abbrev pub passes : (ℕ → Bool) → Option ℕ → Bool
passes test None = false
passes test (Some tag) = test tag

-- nothing settles it
abbrev pub is_pending : Fate → Bool
is_pending f = not (is_some f.due) && not f.left

-- it is held: no deliver or get-ok of it went
abbrev pub waits : Fate → Bool
waits f = is_pending f && not (is_some f.tag)

-- its content is being written
abbrev pub is_written : Fate → Bool
is_written f = is_some f.tag && not f.complete

-- its disposition is due, and didn't go
abbrev pub is_owed : Fate → Bool
is_owed f = is_some f.due && not f.settled && not f.sent && not f.left

-- it didn't come settled, and no disposition of it went
abbrev pub is_uncovered : Fate → Bool
is_uncovered f = not f.settled && not f.sent && not f.left

-- it came settled, and isn't complete
abbrev pub is_at_risk : Fate → Bool
is_at_risk f = f.settled && not f.complete && not f.closed

-- what delivery n becomes by an event that stands behind h
abbrev pub fate_step : ℕ → List DeliveryEvent → DeliveryEvent → Fate → Fate
fate_step n h (Arrived a content again) f =
    if n == numbers_of h + 1 then new_fate (is_closed h) a content again else f
fate_step n h (LinkDropped link) f = record f { link = without_link link f.link }
fate_step n h (Delivered number) f =
    record f { tag = if n == number && waits f then Some (tags_of h + 1) else f.tag }
-- a no-ack delivery is complete
fate_step n h (Written tag) f = record f {
  complete = f.complete || passes (λ t. t == tag) f.tag;
  due = caused (is_no_ack f.taker && (is_written f && passes (λ t. t == tag) f.tag)) Accepted f.due;
}
-- the client settles it
fate_step n h (Answered tag multiple s) f = record f {
  due = caused (not (is_no_ack f.taker) && passes (in_tag tag multiple) f.tag) s f.due;
}
-- its consumer is cancelled while it is held
fate_step n h (Cancelled link) f =
    record f { due = caused (is_on link f.link && not (is_some f.tag)) Released f.due }
fate_step n h Closed f = record f {
  due = caused true Released f.due;
  closed = true;
  line = if is_at_risk f then Some DeliveryLost else f.line;
}
fate_step n h EndLost f = record f {
  left = f.left || is_uncovered f;
  line = if is_uncovered f then Some DeliveryLeft else f.line;
}
fate_step n h (SettleSent s) f = record f {
  sent = f.sent || (is_owed f && (is_that s.settle f.due && in_range s.first s.last f.id));
}
fate_step n h LinesTold f = record f { line = None }
fate_step n h x f = f

abbrev pub fate_of : ℕ → List DeliveryEvent → Fate
fate_of n [] = new_fate false nothing None false
fate_of n (x ∷ h) = fate_step n h x (fate_of n h)

-- n is the number of a whole delivery
abbrev pub IsTaken : List DeliveryEvent → ℕ → Type 0
IsTaken h n = (1 ≤ n) × (n ≤ numbers_of h)

-- nothing is owed of it to the container any more
abbrev pub is_over : Fate → Bool
is_over f = f.left || (is_some f.due && (f.settled || f.sent))

-- something is still to come
abbrev pub is_to_come : Fate → Bool
is_to_come f = not (is_over f) || is_written f || is_at_risk f || is_some f.line

-- it counts in its link's quota: on a limited link until something settles it; on another until its
-- deliver begins
abbrev pub is_counted : Fate → Bool
is_counted f = is_pending f && (not (is_some f.tag) || is_some (limit_of f.taker))

-- its deliver or get-ok went, and the client hasn't settled it
abbrev pub is_outstanding : Fate → Bool
is_outstanding f = is_pending f && (is_some f.tag && not (is_no_ack f.taker))
