-- What holds after any events of a life, by the fates of its publishes alone.
use Rattle.std.specs.Prelude.{◌≡◌, ℕ, zero, suc, Bool, true, false, ◌+◌, ◌≤◌, ◌<◌, ◌==◌, ◌&&◌}
use Rattle.std.specs.Prelude.{◌||◌, if◌then◌else◌, nat_le, nat_lt, List, [], ◌∷◌, ◌++◌, drop}
use Rattle.std.specs.Prelude.{length, Option, Some, None, is_some}
use Rattle.std.specs.Option.{option_map, option_or}
use Rattle.open_items.specs.declared.lost.LostItem.{LostItem}
use Rattle.open_items.specs.declared.lost.LostKind.{LostKind}
use Rattle.open_items.specs.Numbers.{least, first}
use Rattle.publish_path.specs.declared.publish.Confirm.{Confirm}
use Rattle.publish_path.specs.declared.publish.NextFrame.{NextFrame}
use Rattle.publish_path.specs.declared.publish.NextReturn.{NextReturn}
use Rattle.publish_path.specs.declared.send_links.SendingLink.{SendingLink}
use Rattle.publish_path.specs.Links.{link_of, can_send}
use Rattle.publish_path.specs.Publishes.{PublishEvent, TakenUp, FrameSent, OutcomeCame, LinkGone}
use Rattle.publish_path.specs.Publishes.{ConfirmSent, LinesTold, ReturnSent, covers, is_on}
use Rattle.publish_path.specs.Journal.{Fate, fate_of, numbers_of, IsTaken, waits, has_rest, goes_on}
use Rattle.publish_path.specs.Journal.{is_to_go, is_undecided, rest_by, is_to_return}
use Rattle.publish_path.specs.Offers.{with_line}

-- confirms

-- n was taken up, has a confirm number, and no confirm covered it
abbrev pub IsUnanswered : List PublishEvent → ℕ → Type 0
IsUnanswered h n =
    IsTaken h n × (is_some (fate_of n h).confirm ≡ true) × ((fate_of n h).answered ≡ false)

-- and it has an outcome
abbrev pub IsOwedConfirm : List PublishEvent → ℕ → Type 0
IsOwedConfirm h n = IsUnanswered h n × (is_some (fate_of n h).outcome ≡ true)

-- where it is returned, all frames of its return went
abbrev pub IsReturned : Fate → Type 0
IsReturned f = f.returns ≡ true → f.returned ≡ length f.back

-- no unanswered publish up to n is still to be returned
abbrev pub AreReturned : List PublishEvent → ℕ → Type 0
AreReturned h n = (m : ℕ) → m ≤ n → IsUnanswered h m → IsReturned (fate_of m h)

pub record IsLawfulConfirm (h : List PublishEvent) (c : Confirm) : Type 0 where
  -- its number is that of an unanswered publish
  pub named : (n : ℕ) × IsUnanswered h n × ((fate_of n h).confirm ≡ Some c.number)
  -- each unanswered publish that it covers was accepted, or each had another outcome; and its
  -- return, where there is one, went before
  pub covered : (n : ℕ) → IsUnanswered h n → covers c (fate_of n h).confirm ≡ true
      → ((fate_of n h).outcome ≡ Some c.ack) × IsReturned (fate_of n h)

-- returns

-- some frames of its return went, and more are to come
abbrev pub is_returning : Fate → Bool
is_returning f = is_to_return f && nat_lt 0 f.returned

-- it is to be returned, and no frame of its return went
abbrev pub is_to_begin : Fate → Bool
is_to_begin f = is_to_return f && f.returned == 0

abbrev pub return_at : Bool → ℕ → NextReturn
return_at first n = record { publish = n; first = first }

-- the return that has begun goes on; else the least number that is to be returned begins
abbrev pub return_by : List PublishEvent → Option NextReturn
return_by h =
    option_or
    (option_map (return_at false) (least (λ n. is_returning (fate_of n h)) (numbers_of h)))
    (option_map (return_at true) (least (λ n. is_to_begin (fate_of n h)) (numbers_of h)))

-- the first frame behind those that went
abbrev pub return_frame_by : Fate → Option (List ℕ)
return_frame_by f = if is_to_return f then first (drop f.returned f.back) else None

-- lines

-- publish n was taken up, and the report is owed a line of it
abbrev pub is_taken : ℕ → List PublishEvent → Bool
is_taken n h = nat_le 1 n && nat_le n (numbers_of h)

abbrev pub owes_line : ℕ → List PublishEvent → Bool
owes_line n h = is_taken n h && is_some (fate_of n h).line

-- the line that it is owed of publish n of life j
abbrev pub item_by : ℕ → ℕ → LostKind → LostItem
item_by j n kind = record { life = j; number = n; kind = kind }

-- and those of publishes 1 to n, by rising number
abbrev pub lines_to : ℕ → List PublishEvent → ℕ → List LostItem
lines_to j h zero = []
lines_to j h (suc n) =
    lines_to j h n ++ with_line (option_map (item_by j (suc n)) (fate_of (suc n) h).line) []

-- all that it is owed
abbrev pub lines_by : ℕ → List PublishEvent → List LostItem
lines_by j h = lines_to j h (numbers_of h)

-- publish n lost its link, or all were lost, before there was an outcome
abbrev pub loses : ℕ → List PublishEvent → PublishEvent → Bool
loses n h (TakenUp link confirm payload back) = false
loses n h (FrameSent number first part) = false
loses n h (OutcomeCame first last outcome) = false
loses n h (LinkGone link not_found) =
    is_taken n h && (is_undecided (fate_of n h) && is_on link (fate_of n h).link)
loses n h (ReturnSent number) = false
loses n h (ConfirmSent c) = false
loses n h LinesTold = false

abbrev pub is_lost : ℕ → List PublishEvent → Bool
is_lost n [] = false
is_lost n (x ∷ h) = is_lost n h || loses n h x

-- how often its line was reported
abbrev pub one_if : Bool → ℕ
one_if b = if b then 1 else 0

abbrev pub told_of : ℕ → List PublishEvent → PublishEvent → ℕ
told_of n h (TakenUp link confirm payload back) = 0
told_of n h (FrameSent number first part) = 0
told_of n h (OutcomeCame first last outcome) = 0
told_of n h (LinkGone link not_found) = 0
told_of n h (ReturnSent number) = 0
told_of n h (ConfirmSent c) = 0
told_of n h LinesTold = one_if (owes_line n h)

abbrev pub times_told : ℕ → List PublishEvent → ℕ
times_told n [] = 0
times_told n (x ∷ h) = times_told n h + told_of n h x

-- payloads

abbrev pub frame_at : Bool → List PublishEvent → ℕ → NextFrame
frame_at first h n = record { publish = n; link = (fate_of n h).link; first = first }

-- it waits on an attached link with credit
abbrev pub may_begin : List SendingLink → Fate → Bool
may_begin links f = waits f && can_send (link_of links f.link)

-- the begun publish goes on; else the least number that may begin does
abbrev pub frame_by : List SendingLink → List PublishEvent → Option NextFrame
frame_by links h =
    option_or
    (option_map (frame_at false h) (least (λ n. goes_on (fate_of n h)) (numbers_of h)))
    (option_map (frame_at true h) (least (λ n. may_begin links (fate_of n h)) (numbers_of h)))

abbrev pub IsFrontOf : List ℕ → List ℕ → Type 0
IsFrontOf part all = (rest : List ℕ) × (part ++ rest ≡ all)

-- each frame carried a front of what was left
abbrev pub IsPart : List PublishEvent → PublishEvent → Type 0
IsPart h (TakenUp link confirm payload back) = Unit {0}
IsPart h (FrameSent number first part) =
    IsTaken h number × IsFrontOf part (rest_by (fate_of number h))
IsPart h (OutcomeCame first last outcome) = Unit {0}
IsPart h (LinkGone link not_found) = Unit {0}
IsPart h (ReturnSent number) = Unit {0}
IsPart h (ConfirmSent c) = Unit {0}
IsPart h LinesTold = Unit {0}

abbrev pub AreParts : List PublishEvent → Type 0
AreParts [] = Unit {0}
AreParts (x ∷ h) = IsPart h x × AreParts h

-- the frames that went carry a front of the payload, and all of it where the last went; what is
-- left is the rest of it
pub record IsWhole (f : Fate) : Type 0 where
  pub front : IsFrontOf f.sent f.payload
  pub all : has_rest f ≡ false → f.sent ≡ f.payload
  pub rest : is_to_go f ≡ true → f.sent ++ rest_by f ≡ f.payload

-- of one link, a lower number doesn't wait any more
abbrev pub BeginsInOrder : List PublishEvent → NextFrame → Type 0
BeginsInOrder h frame =
    frame.first ≡ true → (m : ℕ) → 1 ≤ m → m < frame.publish
    → (fate_of m h).link ≡ frame.link → waits (fate_of m h) ≡ false
