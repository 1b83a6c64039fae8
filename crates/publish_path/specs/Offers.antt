-- What the open publishes make due, and what they count.
use Rattle.std.specs.Prelude.{ℕ, Bool, true, false, not, ◌==◌, ◌&&◌, ◌||◌, if◌then◌else◌, List, []}
use Rattle.std.specs.Prelude.{◌∷◌, map, filter, find, count_by, sum_by, take, drop}
use Rattle.std.specs.Prelude.{take_while, Option, Some, None, is_some, unwrap_or}
use Rattle.std.specs.Option.{option_map, option_or}
use Rattle.open_items.specs.Numbers.{first, has_any}
use Rattle.open_items.specs.declared.lost.LostItem.{LostItem}
use Rattle.publish_path.specs.declared.publish.Publish.{Publish}
use Rattle.publish_path.specs.declared.publish.Answer.{Answer}
use Rattle.publish_path.specs.declared.publish.Answer.TheVariants.{Open, Owed, Settled}
use Rattle.publish_path.specs.declared.publish.NextFrame.{NextFrame}
use Rattle.publish_path.specs.declared.publish.NextReturn.{NextReturn}
use Rattle.publish_path.specs.declared.publish.Confirm.{Confirm}
use Rattle.publish_path.specs.declared.send_links.SendingLink.{SendingLink}
use Rattle.publish_path.specs.Links.{link_of, can_send, begun_on}
use Rattle.publish_path.specs.Publishes.{PublishEvent, FrameSent, is_waiting, is_begun, is_sending}
use Rattle.publish_path.specs.Publishes.{has_no_outcome, is_settled, is_on, takes, owes_return}
use Rattle.publish_path.specs.Publishes.{takes_return}

-- frames

-- it waits on an attached link with credit
abbrev pub can_begin : List SendingLink → Publish → Bool
can_begin links p = is_waiting p.place && can_send (link_of links p.link)

abbrev pub frame_of : Bool → Publish → NextFrame
frame_of first p = record { publish = p.number; link = p.link; first = first }

-- a begun publish goes on; else the lowest number that can go begins
abbrev pub next_frame_of : List SendingLink → List Publish → Option NextFrame
next_frame_of links list =
    option_or (option_map (frame_of false) (find (λ p. is_begun p.place) list))
    (option_map (frame_of true) (find (can_begin links) list))

-- the first frame of a transfer takes one of its link's credit (AMQP 1.0 2.6.7)
abbrev pub links_after : NextFrame → List SendingLink → List SendingLink
links_after frame links = if frame.first then map (begun_on frame.link) links else links

abbrev pub left_of : Option Publish → List ℕ
left_of None = []
left_of (Some p) = drop p.gone p.payload

-- the bytes of a publish's payload that are still to go
abbrev pub rest_of : ℕ → List Publish → List ℕ
rest_of number list = left_of (find (takes number) list)

-- this frame went, with a part of so many bytes
abbrev pub frame_sent : NextFrame → ℕ → List Publish → PublishEvent
frame_sent frame bytes list =
    FrameSent frame.publish frame.first (take bytes (rest_of frame.publish list))

-- returns

-- its return has begun, and frames of it are still to go
abbrev pub goes_on_returning : Publish → Bool
goes_on_returning p = owes_return p && p.returning

-- its return is owed, and hasn't begun
abbrev pub waits_return : Publish → Bool
waits_return p = owes_return p && not p.returning

abbrev pub return_of : Bool → Publish → NextReturn
return_of first p = record { publish = p.number; first = first }

-- a return that has begun goes on; else the lowest number that is owed one begins
abbrev pub next_return_of : List Publish → Option NextReturn
next_return_of list =
    option_or (option_map (return_of false) (find goes_on_returning list))
    (option_map (return_of true) (find waits_return list))

abbrev pub back_of : Option Publish → List (List ℕ)
back_of None = []
back_of (Some p) = p.back

-- the frame of a publish's return that goes next
abbrev pub return_frame_of : ℕ → List Publish → Option (List ℕ)
return_frame_of number list = first (back_of (find (takes_return number) list))

-- confirms

-- the confirm that is owed: an ack, or else a nack
abbrev pub owed_ack : Answer → Option Bool
owed_ack Open = None
owed_ack (Owed ack) = Some ack
owed_ack Settled = None

abbrev pub is_owed : Answer → Bool
is_owed answer = is_some (owed_ack answer)

abbrev pub is_ack : Answer → Bool
is_ack answer = unwrap_or (owed_ack answer) false

abbrev pub is_same : Bool → Option Bool → Bool
is_same ack None = false
is_same true (Some b) = b
is_same false (Some b) = not b

-- an ack, or a nack, is owed
abbrev pub gives : Bool → Answer → Bool
gives ack answer = is_same ack (owed_ack answer)

-- it has a confirm number that no confirm covered
abbrev pub is_unanswered : Publish → Bool
is_unanswered p = is_some p.confirm && not (is_settled p.answer)

abbrev pub number_or : ℕ → Option ℕ → ℕ
number_or n None = n
number_or n (Some number) = number

-- an ack or a nack of this number alone
abbrev pub alone : Publish → Confirm
alone p = record { number = number_or 0 p.confirm; multiple = false; ack = is_ack p.answer }

abbrev pub last_of : Publish → List Publish → Publish
last_of p [] = p
last_of p (q ∷ qs) = last_of q qs

-- an ack or a nack of p and of those behind it, by the number of the last
abbrev pub run_of : Publish → List Publish → Confirm
run_of p more = record {
  number = number_or 0 (last_of p more).confirm;
  multiple = has_any more;
  ack = is_ack p.answer;
}

-- it is owed a confirm, and nothing of it is to be returned before
abbrev pub is_ready : Publish → Bool
is_ready p = is_owed p.answer && not (has_any p.back)

-- and that is an ack, or a nack
abbrev pub readies : Bool → Publish → Bool
readies ack p = gives ack p.answer && not (has_any p.back)

-- of the unanswered ones, where the first has an outcome: none while something of it is to be
-- returned, else the longest run from it that gives the same; where it has none, the first that is
-- ready, alone
abbrev pub confirm_of : List Publish → Option Confirm
confirm_of [] = None
confirm_of (p ∷ ps) =
    if is_owed p.answer then (if has_any p.back then None
    else Some (run_of p (take_while (readies (is_ack p.answer)) ps)))
    else option_map alone (find is_ready ps)

abbrev pub next_confirm_of : List Publish → Option Confirm
next_confirm_of list = confirm_of (filter is_unanswered list)

-- lines of the report

abbrev pub line_of : ℕ → Publish → Option LostItem
line_of life p = option_map (λ kind. record { life = life; number = p.number; kind = kind }) p.line

abbrev pub with_line : Option LostItem → List LostItem → List LostItem
with_line None items = items
with_line (Some item) items = item ∷ items

-- the lines that the report is owed, by rising number
abbrev pub lines_of : ℕ → List Publish → List LostItem
lines_of life [] = []
lines_of life (p ∷ ps) = with_line (line_of life p) (lines_of life ps)

-- counts

-- frames of it are still to go, or it may still be returned
abbrev pub is_held : Publish → Bool
is_held p = is_sending p.place || (has_no_outcome p.answer && has_any p.back)

abbrev pub held_count : List Publish → ℕ
held_count list = count_by is_held list

abbrev pub held_size : Publish → ℕ
held_size p = if is_held p then p.size else 0

-- the lengths of the whole payloads of those held
abbrev pub held_bytes : List Publish → ℕ
held_bytes list = sum_by held_size list

abbrev pub return_count : List Publish → ℕ
return_count list = count_by owes_return list

abbrev pub waits_on : ℕ → Publish → Bool
waits_on link p = is_waiting p.place && (p.link == link)

-- it waits, is begun, or has no outcome
abbrev pub is_pending : Option ℕ → Publish → Bool
is_pending link p = (is_sending p.place || has_no_outcome p.answer) && is_on link p.link
