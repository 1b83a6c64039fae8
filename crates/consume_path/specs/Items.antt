-- What an event does to one delivery, from its arrival to its disposition.
use Rattle.std.specs.Prelude.{ℕ, Bool, true, false, ◌==◌, ◌&&◌, ◌||◌, not, nat_le, if◌then◌else◌}
use Rattle.std.specs.Prelude.{Option, Some, None, is_some}
use Rattle.links_10.specs.Send.{past}
use Rattle.open_items.specs.declared.lost.LostKind.TheVariants.{DeliveryLeft, DeliveryLost}
use Rattle.consume_path.specs.declared.delivery.Arriving.{Arriving}
use Rattle.consume_path.specs.declared.delivery.Content.{Content}
use Rattle.consume_path.specs.declared.delivery.Delivery.{Delivery}
use Rattle.consume_path.specs.declared.delivery.NextSettle.{NextSettle}
use Rattle.consume_path.specs.declared.delivery.Place.{Place}
use Rattle.consume_path.specs.declared.delivery.Place.TheVariants.{Held, Out, Owed, Settled}
use Rattle.consume_path.specs.declared.delivery.Settle.{Settle}
use Rattle.consume_path.specs.declared.delivery.Settle.TheVariants.{Accepted, Rejected, Released}
use Rattle.consume_path.specs.declared.delivery.Taker.{Taker}
use Rattle.consume_path.specs.declared.delivery.Taker.TheVariants.{Nobody, Getter, Consumer}
use Rattle.consume_path.specs.declared.changes.Change.{Change}
use Rattle.consume_path.specs.declared.changes.Change.TheVariants.{Delivered, Written, Answered}
use Rattle.consume_path.specs.declared.changes.Change.TheVariants.{Cancelled, Closed, EndLost}
use Rattle.consume_path.specs.declared.changes.Change.TheVariants.{SettleSent, LinkDropped}
use Rattle.consume_path.specs.declared.changes.Change.TheVariants.{Reported}

-- tests of a place, of a state and of a taker

abbrev pub is_held : Place → Bool
is_held Held = true
is_held Out = false
is_held (Owed s) = false
is_held Settled = false

abbrev pub is_out : Place → Bool
is_out Held = false
is_out Out = true
is_out (Owed s) = false
is_out Settled = false

-- the disposition that is owed
abbrev pub owed_settle : Place → Option Settle
owed_settle Held = None
owed_settle Out = None
owed_settle (Owed s) = Some s
owed_settle Settled = None

abbrev pub owes : Place → Bool
owes place = is_some (owed_settle place)

abbrev pub is_same : Settle → Settle → Bool
is_same Accepted Accepted = true
is_same Accepted Rejected = false
is_same Accepted Released = false
is_same Rejected Accepted = false
is_same Rejected Rejected = true
is_same Rejected Released = false
is_same Released Accepted = false
is_same Released Rejected = false
is_same Released Released = true

abbrev pub is_that : Settle → Option Settle → Bool
is_that s None = false
is_that s (Some t) = is_same s t

-- this disposition is owed
abbrev pub owes_as : Settle → Place → Bool
owes_as s place = is_that s (owed_settle place)

-- it is settled by its delivery, without an ack
abbrev pub is_no_ack : Taker → Bool
is_no_ack Nobody = false
is_no_ack (Getter number no_ack) = no_ack
is_no_ack (Consumer no_ack limit) = no_ack

abbrev pub is_nobody : Taker → Bool
is_nobody Nobody = true
is_nobody (Getter number no_ack) = false
is_nobody (Consumer no_ack limit) = false

abbrev pub limit_of : Taker → Option ℕ
limit_of Nobody = None
limit_of (Getter number no_ack) = None
limit_of (Consumer no_ack limit) = if no_ack then None else limit

abbrev pub is_on : ℕ → Option ℕ → Bool
is_on link None = false
is_on link (Some own) = own == link

-- its deliver or get-ok went, and the client hasn't settled it
abbrev pub is_outstanding : Delivery → Bool
is_outstanding d = is_out d.place && not (is_no_ack d.taker)

-- something is still to come: its deliver, its content, its settlement or a line
abbrev pub is_open : Delivery → Bool
is_open d =
    is_held d.place || is_out d.place || owes d.place || d.writing || d.at_risk || is_some d.line

-- its content is needed
abbrev pub needs_content : Delivery → Bool
needs_content d = is_held d.place || d.writing

abbrev pub trimmed : Delivery → Delivery
trimmed d = record d { content = if needs_content d then d.content else None }

-- an arrival

-- what is owed of a delivery: nothing where it came settled
abbrev pub owed_place : Bool → Settle → Place
owed_place settled s = if settled then Settled else Owed s

-- what has no image is rejected; what arrives after the closing event, or for nobody, is released
abbrev pub first_place : Bool → Bool → Bool → Taker → Place
first_place closed image settled taker =
    if image then (if closed || is_nobody taker then owed_place settled Released else Held)
    else owed_place settled Rejected

abbrev pub new_delivery : Bool → ℕ → Arriving → Option Content → Bool → Delivery
new_delivery closed number a content again = trimmed (record {
  number = number;
  link = Some a.link;
  id = a.id;
  settled = a.settled;
  again = again;
  content = content;
  taker = a.taker;
  tag = 0;
  place = first_place closed (is_some content) a.settled a.taker;
  writing = false;
  at_risk = a.settled && not closed;
  line = if a.settled && closed then Some DeliveryLost else None;
})

-- what an event does to each delivery

-- its deliver or get-ok begins
abbrev pub delivers : ℕ → Delivery → Bool
delivers number d = d.number == number && is_held d.place

abbrev pub delivered : ℕ → ℕ → Delivery → Delivery
delivered number tag d = record d {
  tag = if delivers number d then tag else d.tag;
  place = if delivers number d then Out else d.place;
  writing = d.writing || delivers number d;
}

-- the last byte of its content was taken; without an ack, this settles it
abbrev pub writes : ℕ → Delivery → Bool
writes tag d = d.tag == tag && d.writing

abbrev pub written : ℕ → Delivery → Delivery
written tag d = record d {
  place = if writes tag d && is_out d.place && is_no_ack d.taker
      then owed_place d.settled Accepted else d.place;
  writing = d.writing && not (writes tag d);
  at_risk = d.at_risk && not (writes tag d);
}

-- the delivery tags that an answer of the client covers: with multiple, all up to its own, and all
-- where that is 0 (AMQP 0-9-1 1.8.3.13)
abbrev pub in_tag : ℕ → Bool → ℕ → Bool
in_tag tag multiple t = t == tag || (multiple && (tag == 0 || nat_le t tag))

abbrev pub is_covered : ℕ → Bool → Delivery → Bool
is_covered tag multiple d = is_outstanding d && in_tag tag multiple d.tag

abbrev pub answered : ℕ → Bool → Settle → Delivery → Delivery
answered tag multiple s d =
    record d { place = if is_covered tag multiple d then owed_place d.settled s else d.place }

-- its consumer was cancelled: what is held goes back
abbrev pub cancelled : ℕ → Delivery → Delivery
cancelled link d = record d {
  place = if is_held d.place && is_on link d.link then owed_place d.settled Released else d.place;
}

-- its life closed: what the client didn't settle goes back
abbrev pub closed : Delivery → Delivery
closed d = record d {
  place = if is_held d.place || is_out d.place then owed_place d.settled Released else d.place;
  at_risk = false;
  line = if d.at_risk then Some DeliveryLost else d.line;
}

-- the container's end was lost: no disposition goes any more
abbrev pub is_left : Delivery → Bool
is_left d = not d.settled && (is_held d.place || is_out d.place || owes d.place)

abbrev pub end_lost : Delivery → Delivery
end_lost d = record d {
  place = if is_left d then Settled else d.place;
  line = if is_left d then Some DeliveryLeft else d.line;
}

-- the delivery-ids from first to last, in 32 bits (AMQP 1.0 2.7.6, 2.8.10)
abbrev pub in_range : ℕ → ℕ → ℕ → Bool
in_range first last id = nat_le (past id first) (past last first)

abbrev pub settles : NextSettle → Delivery → Bool
settles s d = owes_as s.settle d.place && in_range s.first s.last d.id

abbrev pub settle_sent : NextSettle → Delivery → Delivery
settle_sent s d = record d { place = if settles s d then Settled else d.place }

-- its link is no more
abbrev pub without_link : ℕ → Option ℕ → Option ℕ
without_link link own = if is_on link own then None else own

abbrev pub link_dropped : ℕ → Delivery → Delivery
link_dropped link d = record d { link = without_link link d.link }

abbrev pub reported : Delivery → Delivery
reported d = record d { line = None }

abbrev pub moved : Change → Delivery → Delivery
moved (Delivered number tag) d = delivered number tag d
moved (Written tag) d = written tag d
moved (Answered tag multiple settle) d = answered tag multiple settle d
moved (Cancelled link) d = cancelled link d
moved Closed d = closed d
moved EndLost d = end_lost d
moved (SettleSent settle) d = settle_sent settle d
moved (LinkDropped link) d = link_dropped link d
moved Reported d = reported d

abbrev pub changed : Change → Delivery → Delivery
changed c d = trimmed (moved c d)
