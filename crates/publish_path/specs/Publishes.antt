-- The publishes of a life of a channel, from their taking up to their confirms: before any event,
-- and after each.
use Rattle.std.specs.Prelude.{ℕ, Bool, true, false, ◌+◌, ◌-◌, ◌%◌, ◌^◌, ◌==◌, ◌&&◌, ◌||◌, not}
use Rattle.std.specs.Prelude.{nat_le, nat_lt, if◌then◌else◌, List, [], ◌∷◌, ◌++◌, map, filter}
use Rattle.std.specs.Prelude.{length, drop, Option, Some, None, is_some}
use Rattle.std.specs.Option.{option_or}
use Rattle.links_10.specs.Send.{past}
use Rattle.open_items.specs.Numbers.{has_any}
use Rattle.open_items.specs.declared.lost.LostKind.{LostKind}
use Rattle.open_items.specs.declared.lost.LostKind.TheVariants.{PublishLost, PublishUnknown}
use Rattle.publish_path.specs.declared.publish.Publish.{Publish}
use Rattle.publish_path.specs.declared.publish.Place.{Place}
use Rattle.publish_path.specs.declared.publish.Place.TheVariants.{Waiting, Begun, Sent, Lost}
use Rattle.publish_path.specs.declared.publish.Answer.{Answer}
use Rattle.publish_path.specs.declared.publish.Answer.TheVariants.{Open, Owed, Settled}
use Rattle.publish_path.specs.declared.publish.Outcome.{Outcome}
use Rattle.publish_path.specs.declared.publish.Outcome.TheVariants.{Accepted, Released, Refused}
use Rattle.publish_path.specs.declared.publish.Confirm.{Confirm}
use Rattle.publish_path.specs.declared.changes.Change.{Change}
use Rattle.publish_path.specs.declared.changes.Change.TheVariants.{Framed, Told, LinkLost}
use Rattle.publish_path.specs.declared.changes.Change.TheVariants.{Confirmed, Reported, Returned}

pub record PublishState : Type 0 where
  -- the number of the life
  pub life : ℕ
  -- the publishes for which something is still to come, by rising number
  pub list : List Publish
  -- the publishes taken up so far
  pub numbers : ℕ
  -- the confirm numbers given so far
  pub confirms : ℕ
  -- the delivery-id of the next transfer, in 32 bits (AMQP 1.0 2.7.5)
  pub next_id : ℕ

pub data PublishEvent : Type 0 where
  -- a publish was taken up: its link, whether it is to be confirmed, its payload, and the frames of
  -- its basic.return; none where it isn't mandatory (AMQP 0-9-1 1.8.3.7)
  TakenUp : (link : ℕ) (confirm : Bool) (payload : List ℕ) (back : List (List ℕ)) → PublishEvent
  -- a transfer frame went: its publish, whether it is the first, and its part of the payload (AMQP
  -- 1.0 2.6.14)
  FrameSent : (number : ℕ) (first : Bool) (part : List ℕ) → PublishEvent
  -- an outcome came for the delivery-ids from first to last (AMQP 1.0 2.7.6, 3.4)
  OutcomeCame : (first last : ℕ) (outcome : Outcome) → PublishEvent
  -- a link was refused, detached or lost, or each of them; and whether its address wasn't found
  LinkGone : (link : Option ℕ) (not_found : Bool) → PublishEvent
  -- one more frame of the basic.return of this publish went (AMQP 0-9-1 1.8.3.8)
  ReturnSent : (number : ℕ) → PublishEvent
  -- an ack or a nack went to the client
  ConfirmSent : (confirm : Confirm) → PublishEvent
  -- the lines that the report was owed were reported
  LinesTold : PublishEvent

-- tests of a place and of an answer

abbrev pub is_waiting : Place → Bool
is_waiting Waiting = true
is_waiting Begun = false
is_waiting Sent = false
is_waiting Lost = false

abbrev pub is_begun : Place → Bool
is_begun Waiting = false
is_begun Begun = true
is_begun Sent = false
is_begun Lost = false

-- frames of it are still to go
abbrev pub is_sending : Place → Bool
is_sending place = is_waiting place || is_begun place

abbrev pub has_no_outcome : Answer → Bool
has_no_outcome Open = true
has_no_outcome (Owed ack) = false
has_no_outcome Settled = false

abbrev pub is_settled : Answer → Bool
is_settled Open = false
is_settled (Owed ack) = false
is_settled Settled = true

-- something is still to come: frames, an outcome, its confirm, its line or its return
abbrev pub is_open : Publish → Bool
is_open p =
    is_sending p.place || not (is_settled p.answer) || is_some p.line || has_any p.back

abbrev pub is_accepted : Outcome → Bool
is_accepted Accepted = true
is_accepted Released = false
is_accepted Refused = false

abbrev pub is_released : Outcome → Bool
is_released Accepted = false
is_released Released = true
is_released Refused = false

-- what an event does to each publish

-- a frame takes so many bytes of this publish's payload
abbrev pub takes : ℕ → Publish → Bool
takes number p = p.number == number && is_sending p.place

-- bytes are left behind them
abbrev pub has_more : ℕ → Publish → Bool
has_more count p = nat_lt count (length p.payload - p.gone)

abbrev pub place_then : Bool → Place
place_then more = if more then Begun else Sent

abbrev pub framed : ℕ → Bool → ℕ → ℕ → Publish → Publish
framed number first id count p = record p {
  id = if p.number == number && first then option_or p.id (Some id) else p.id;
  payload = if takes number p && not (has_more count p) then [] else p.payload;
  gone = if takes number p then (if has_more count p then p.gone + count else 0) else p.gone;
  place = if takes number p then place_then (has_more count p) else p.place;
}

-- the delivery-ids from first to last, in 32 bits (AMQP 1.0 2.7.6, 2.8.10)
abbrev pub in_range : ℕ → ℕ → Option ℕ → Bool
in_range first last None = false
in_range first last (Some id) = nat_le (past id first) (past last first)

-- what an outcome makes due: a confirm, where there is a confirm number
abbrev pub due_for : Option ℕ → Bool → Answer
due_for None accepted = Settled
due_for (Some number) accepted = Owed accepted

-- a transfer in the range that has no outcome
abbrev pub is_told : ℕ → ℕ → Publish → Bool
is_told first last p = has_no_outcome p.answer && in_range first last p.id

-- its first outcome: only one that was released is returned
abbrev pub told : ℕ → ℕ → Outcome → Publish → Publish
told first last outcome p = record p {
  answer = if is_told first last p then due_for p.confirm (is_accepted outcome) else p.answer;
  back = if is_told first last p && not (is_released outcome) then [] else p.back;
}

-- this link, or any
abbrev pub is_on : Option ℕ → ℕ → Bool
is_on None link = true
is_on (Some one) link = link == one

abbrev pub lost_place : Place → Place
lost_place Waiting = Lost
lost_place Begun = Lost
lost_place Sent = Sent
lost_place Lost = Lost

-- whether the container took a transfer that had begun isn't known
abbrev pub lost_as : Bool → LostKind
lost_as waiting = if waiting then PublishLost else PublishUnknown

-- a loss is an outcome where there was none before; no frame goes any more. A publish is returned
-- where its address wasn't found
abbrev pub link_lost : Option ℕ → Bool → Publish → Publish
link_lost link not_found p = record p {
  payload = if is_on link p.link then [] else p.payload;
  gone = if is_on link p.link then 0 else p.gone;
  place = if is_on link p.link then lost_place p.place else p.place;
  answer = if has_no_outcome p.answer && is_on link p.link then due_for p.confirm false
      else p.answer;
  line = if has_no_outcome p.answer && is_on link p.link then Some (lost_as
      (is_waiting p.place)) else p.line;
  back = if (has_no_outcome p.answer && is_on link p.link) && not not_found then [] else p.back;
}

-- the confirm numbers that a confirm covers: with multiple, all up to its own (AMQP 0-9-1 1.8.3.13)
abbrev pub covers : Confirm → Option ℕ → Bool
covers c None = false
covers c (Some number) = number == c.number || (c.multiple && nat_le number c.number)

-- one that it covers has nothing to be returned by a later outcome
abbrev pub confirmed : Confirm → Publish → Publish
confirmed c p = record p {
  answer = if covers c p.confirm then Settled else p.answer;
  back = if has_no_outcome p.answer && covers c p.confirm then [] else p.back;
}

abbrev pub reported : Publish → Publish
reported p = record p { line = None }

-- it has an outcome, and frames of its return are still to go
abbrev pub owes_return : Publish → Bool
owes_return p = not (has_no_outcome p.answer) && has_any p.back

abbrev pub takes_return : ℕ → Publish → Bool
takes_return number p = p.number == number && owes_return p

-- one more frame of the return of this publish went
abbrev pub returned : ℕ → Publish → Publish
returned number p = record p {
  back = if takes_return number p then drop 1 p.back else p.back;
  returning = if takes_return number p then has_any (drop 1 p.back) else p.returning;
}

abbrev pub changed : Change → Publish → Publish
changed (Framed number first id count) p = framed number first id count p
changed (Told first last outcome) p = told first last outcome p
changed (LinkLost link not_found) p = link_lost link not_found p
changed (Confirmed c) p = confirmed c p
changed Reported p = reported p
changed (Returned number) p = returned number p

-- the publishes for which something is still to come, after a change of each
abbrev pub each : (Publish → Publish) → PublishState → PublishState
each f s = record s { list = filter is_open (map f s.list) }

abbrev pub new_publish : ℕ → ℕ → Option ℕ → List ℕ → List (List ℕ) → Publish
new_publish number link confirm payload back = record {
  number = number;
  link = link;
  confirm = confirm;
  id = None;
  payload = payload;
  gone = 0;
  size = length payload;
  place = Waiting;
  answer = Open;
  back = back;
  returning = false;
  line = None;
}

abbrev pub next_number : Bool → ℕ → Option ℕ
next_number confirm confirms = if confirm then Some (confirms + 1) else None

-- the state before any event, and after each

abbrev pub no_publishes : ℕ → PublishState
no_publishes life = record { life = life; list = []; numbers = 0; confirms = 0; next_id = 0 }

abbrev pub after_event : PublishEvent → PublishState → PublishState
after_event (TakenUp link confirm payload back) s = record s {
  list =
      s.list
      ++ new_publish (s.numbers + 1) link (next_number confirm s.confirms) payload back ∷ [];
  numbers = s.numbers + 1;
  confirms = if confirm then s.confirms + 1 else s.confirms;
}
after_event (FrameSent number first part) s = record s {
  list = filter is_open (map (framed number first s.next_id (length part)) s.list);
  next_id = if first then (s.next_id + 1) % 2 ^ 32 else s.next_id;
}
after_event (OutcomeCame first last outcome) s = each (told first last outcome) s
after_event (LinkGone link not_found) s = each (link_lost link not_found) s
after_event (ReturnSent number) s = each (returned number) s
after_event (ConfirmSent c) s = each (confirmed c) s
after_event LinesTold s = each reported s

-- newest first
abbrev pub after_events : ℕ → List PublishEvent → PublishState
after_events life [] = no_publishes life
after_events life (x ∷ h) = after_event x (after_events life h)

-- those for which something is still to come then
abbrev pub open_after : ℕ → List PublishEvent → List Publish
open_after life h = (after_events life h).list
