-- What the journal of a life says of one publish, newest first. Nothing here knows the list of the
-- open publishes.
use Rattle.std.specs.Prelude.{ℕ, Bool, true, false, ◌+◌, ◌%◌, ◌^◌, ◌≤◌, ◌==◌, ◌&&◌, ◌||◌, not}
use Rattle.std.specs.Prelude.{nat_lt, if◌then◌else◌, List, [], ◌∷◌, ◌++◌, length, drop, Option}
use Rattle.std.specs.Prelude.{Some, None, is_some}
use Rattle.std.specs.Option.{option_or}
use Rattle.open_items.specs.declared.lost.LostKind.{LostKind}
use Rattle.publish_path.specs.Publishes.{PublishEvent, TakenUp, FrameSent, OutcomeCame, LinkGone}
use Rattle.publish_path.specs.Publishes.{ConfirmSent, LinesTold, ReturnSent, in_range, is_on}
use Rattle.publish_path.specs.Publishes.{lost_as, covers, next_number, is_accepted, is_released}

-- of the life

abbrev pub takes_up : PublishEvent → Bool
takes_up (TakenUp link confirm payload back) = true
takes_up (FrameSent number first part) = false
takes_up (OutcomeCame first last outcome) = false
takes_up (LinkGone link not_found) = false
takes_up (ReturnSent number) = false
takes_up (ConfirmSent c) = false
takes_up LinesTold = false

abbrev pub is_to_confirm : PublishEvent → Bool
is_to_confirm (TakenUp link confirm payload back) = confirm
is_to_confirm (FrameSent number first part) = false
is_to_confirm (OutcomeCame first last outcome) = false
is_to_confirm (LinkGone link not_found) = false
is_to_confirm (ReturnSent number) = false
is_to_confirm (ConfirmSent c) = false
is_to_confirm LinesTold = false

abbrev pub begins : PublishEvent → Bool
begins (TakenUp link confirm payload back) = false
begins (FrameSent number first part) = first
begins (OutcomeCame first last outcome) = false
begins (LinkGone link not_found) = false
begins (ReturnSent number) = false
begins (ConfirmSent c) = false
begins LinesTold = false

-- how many publishes were taken up
abbrev pub numbers_of : List PublishEvent → ℕ
numbers_of [] = 0
numbers_of (x ∷ h) = if takes_up x then numbers_of h + 1 else numbers_of h

-- how many of them are to be confirmed
abbrev pub confirms_of : List PublishEvent → ℕ
confirms_of [] = 0
confirms_of (x ∷ h) = if is_to_confirm x then confirms_of h + 1 else confirms_of h

-- the delivery-id of the next transfer: they count from 0 on the session, in 32 bits
abbrev pub next_id_of : List PublishEvent → ℕ
next_id_of [] = 0
next_id_of (x ∷ h) = if begins x then (next_id_of h + 1) % 2 ^ 32 else next_id_of h

-- of one publish

pub record Fate : Type 0 where
  pub link : ℕ
  -- its confirm number: its place, from 1, among those that are to be confirmed
  pub confirm : Option ℕ
  pub payload : List ℕ
  -- its transfer (AMQP 1.0 2.6.12, 2.6.14): whether a frame of it went, the delivery-id, and the
  -- parts of its frames, joined
  pub begun : Bool
  pub id : Option ℕ
  pub sent : List ℕ
  -- its link was lost
  pub cut : Bool
  -- its first outcome: whether that is accepted (AMQP 1.0 3.4); a loss is one, and isn't
  pub outcome : Option Bool
  -- a confirm covered it
  pub answered : Bool
  -- the frames of its basic.return (AMQP 0-9-1 1.8.3.8): all of them; whether its first outcome
  -- returns it, as one that was released, or lost because its address wasn't found; and how many
  -- went
  pub back : List (List ℕ)
  pub returns : Bool
  pub returned : ℕ
  -- the line that the report is owed
  pub line : Option LostKind

abbrev pub new_fate : ℕ → Option ℕ → List ℕ → List (List ℕ) → Fate
new_fate link confirm payload back = record {
  link = link;
  confirm = confirm;
  payload = payload;
  begun = false;
  id = None;
  sent = [];
  cut = false;
  outcome = None;
  answered = false;
  back = back;
  returns = false;
  returned = 0;
  line = None;
}

-- it has neither an outcome nor a confirm
abbrev pub is_undecided : Fate → Bool
is_undecided f = not (is_some f.outcome) && not f.answered

-- the first outcome counts
abbrev pub decided : Bool → Bool → Option Bool → Option Bool
decided test accepted outcome = if test then option_or outcome (Some accepted) else outcome

-- frames of its return are still to go
abbrev pub is_to_return : Fate → Bool
is_to_return f = f.returns && nat_lt f.returned (length f.back)

-- what publish n becomes by an event that stands behind h
abbrev pub fate_step : ℕ → List PublishEvent → PublishEvent → Fate → Fate
fate_step n h (TakenUp link confirm payload back) f =
    if n == numbers_of h + 1 then new_fate link (next_number confirm (confirms_of h)) payload back
    else f
fate_step n h (FrameSent number first part) f = record f {
  begun = f.begun || (n == number);
  id = if n == number && first then option_or f.id (Some (next_id_of h)) else f.id;
  sent = if n == number then f.sent ++ part else f.sent;
}
fate_step n h (OutcomeCame first last outcome) f = record f {
  outcome = decided (in_range first last f.id) (is_accepted outcome) f.outcome;
  returns = if is_undecided f && in_range first last f.id then is_released outcome
      else f.returns;
}
fate_step n h (LinkGone link not_found) f = record f {
  cut = f.cut || is_on link f.link;
  outcome = decided (is_on link f.link) false f.outcome;
  returns = if is_undecided f && is_on link f.link then not_found else f.returns;
  line = if is_undecided f && is_on link f.link then Some (lost_as (not f.begun)) else f.line;
}
fate_step n h (ReturnSent number) f =
    record f { returned = if n == number && is_to_return f then f.returned + 1 else f.returned }
fate_step n h (ConfirmSent c) f = record f { answered = f.answered || covers c f.confirm }
fate_step n h LinesTold f = record f { line = None }

abbrev pub fate_of : ℕ → List PublishEvent → Fate
fate_of n [] = new_fate 0 None [] []
fate_of n (x ∷ h) = fate_step n h x (fate_of n h)

-- n is the number of a publish that was taken up
abbrev pub IsTaken : List PublishEvent → ℕ → Type 0
IsTaken h n = (1 ≤ n) × (n ≤ numbers_of h)

-- frames

-- no frame of it went, and its link wasn't lost
abbrev pub waits : Fate → Bool
waits f = not f.cut && not f.begun

-- its frames carried fewer bytes than it has
abbrev pub has_rest : Fate → Bool
has_rest f = nat_lt (length f.sent) (length f.payload)

-- a frame of it went, and more are to come
abbrev pub goes_on : Fate → Bool
goes_on f = not f.cut && f.begun && has_rest f

abbrev pub is_to_go : Fate → Bool
is_to_go f = waits f || goes_on f

-- its payload less what went, where its link wasn't lost
abbrev pub rest_by : Fate → List ℕ
rest_by f = if is_to_go f then drop (length f.sent) f.payload else []

-- nothing is owed to the client: a confirm covered it, or it has an outcome and no confirm number
abbrev pub is_done : Fate → Bool
is_done f = f.answered || (not (is_some f.confirm) && is_some f.outcome)

-- something is still to come
abbrev pub is_to_come : Fate → Bool
is_to_come f = is_to_go f || not (is_done f) || is_some f.line || is_to_return f
