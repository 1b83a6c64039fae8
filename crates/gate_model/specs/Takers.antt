-- Whether a delivery waits for its client's acknowledgement, and which prefetch limits it: as the
-- basic.consume or basic.get of its link said, told by the events of the life in progress (AMQP
-- 0-9-1 1.8.3.1, 1.8.3.3, 1.8.3.10).
use Rattle.std.specs.Prelude.{◌≡◌, ℕ, ◌+◌, ◌==◌, ◌&&◌, ◌||◌, not, Bool, true, false}
use Rattle.std.specs.Prelude.{if◌then◌else◌, List, [], ◌∷◌, Option, None, Some, bytes_eq}
use Rattle.consume_path.specs.Items.{is_no_ack, is_nobody, limit_of}
use Rattle.consume_path.specs.Journal.{IsTaken, fate_of, is_closed, numbers_of}
use Rattle.consume_path.specs.Offers.{consumes}
use Rattle.consume_path.specs.declared.delivery.Taker.{Taker}
use Rattle.session_path.specs.Events as event
use Rattle.session_path.specs.Events.{PathEvent, after_events, deliveries_of}
use Rattle.session_path.specs.Links.{free_number}
use Rattle.session_path.specs.Path.{is_last, taking}
use Rattle.session_path.specs.declared.path.PathLink.{PathLink}
use Rattle.gate_model.specs.Credits.{prefetch_in}
use Rattle.gate_model.specs.Publishing.{path_events, path_life}
use Rattle.gate_model.specs.Sources.{link_for, queue_of}
use Rattle.gate_model.specs.Starts.{tag_asked}
use Rattle.gate_model.specs.State.{Step}

-- how a request takes messages: for a consumer or one by one, with acknowledgements or without, and
-- so many of them unacknowledged at most
pub record Terms : Type 0 where
  pub consumer : Bool
  pub no_ack : Bool
  pub limit : Option ℕ

-- a prefetch of 0 is no limit, and a consumer without acknowledgements has none
abbrev pub limit_for : Bool → ℕ → Option ℕ
limit_for no_ack prefetch = if no_ack || (prefetch == 0) then None else Some prefetch

abbrev pub by_consume : Bool → ℕ → Terms
by_consume no_ack prefetch =
    record { consumer = true; no_ack = no_ack; limit = limit_for no_ack prefetch }

abbrev pub by_get : Bool → Terms
by_get no_ack = record { consumer = false; no_ack = no_ack; limit = None }

-- the last request on the link with number k: the basic.consume that it was wanted for, by the last
-- basic.qos before that, or the last basic.get that waits on it
abbrev pub terms_on : ℕ → ℕ → List PathEvent → Option Terms
terms_on life k [] = None
terms_on life k (event.Consumed queue tag no_ack no_wait ∷ es) =
    if free_number (after_events life es).links.links == k
    then Some (by_consume no_ack (prefetch_in es)) else terms_on life k es
terms_on life k (event.GetAsked queue no_ack ∷ es) =
    if link_for (queue_of queue es) (after_events life es) == k then Some (by_get no_ack)
    else terms_on life k es
terms_on life k (x ∷ es) = terms_on life k es

-- a consumer is to have what comes there: it was wanted last for a basic.consume, and no
-- basic.cancel of its tag came since (AMQP 0-9-1 1.8.3.5)
abbrev pub consumes_on : ℕ → ℕ → List PathEvent → Bool
consumes_on life k [] = false
consumes_on life k (event.Consumed queue tag no_ack no_wait ∷ es) =
    free_number (after_events life es).links.links == k || consumes_on life k es
consumes_on life k (event.Declared queue no_wait ∷ es) =
    not (free_number (after_events life es).links.links == k) && consumes_on life k es
consumes_on life k (event.GetAsked queue no_ack ∷ es) =
    not (link_for (queue_of queue es) (after_events life es) == k) && consumes_on life k es
consumes_on life k (event.CancelCame tag no_wait ∷ es) =
    not (bytes_eq (tag_asked life k es) tag) && consumes_on life k es
consumes_on life k (x ∷ es) = consumes_on life k es

-- the link on which a delivery came, and what was before its last transfer
pub record Coming : Type 0 where
  pub link : ℕ
  pub before : List PathEvent

abbrev pub coming_on : Option PathLink → List PathEvent → Option Coming
coming_on None es = None
coming_on (Some l) es = Some (record { link = l.link; before = es })

-- those of the delivery with this number: they count from 1, over all links (AMQP 1.0 2.6.14)
abbrev pub coming_in : ℕ → ℕ → List PathEvent → Option Coming
coming_in life number [] = None
coming_in life number (event.TransferCame peer part payload image again ∷ es) =
    if is_last part && (number == numbers_of (deliveries_of life es) + 1)
    then coming_on (taking peer (after_events life es)) es else coming_in life number es
coming_in life number (x ∷ es) = coming_in life number es

-- how one is taken
abbrev pub terms_of : Taker → Terms
terms_of t = record { consumer = consumes t; no_ack = is_no_ack t; limit = limit_of t }

-- a delivery is taken as the last request on its link said; and it is for nobody only where no
-- consumer is to have it
pub record IsTakenBy (life : ℕ) (o : Option Coming) (t : Taker) : Type 0 where
  pub coming : Coming
  pub is : o ≡ Some coming
  pub terms : is_nobody t ≡ false → terms_on life coming.link coming.before ≡ Some (terms_of t)
  pub nobody : is_nobody t ≡ true → consumes_on life coming.link coming.before ≡ false

-- while a life goes on, each of its deliveries is
abbrev pub AreTaken : List Step → Type 0
AreTaken h =
    (n life number : ℕ) → path_life h n ≡ Some life
    → is_closed (deliveries_of life (path_events h n)) ≡ false
    → IsTaken (deliveries_of life (path_events h n)) number
    → IsTakenBy life (coming_in life number (path_events h n))
    (fate_of number (deliveries_of life (path_events h n))).taker

-- after each step
abbrev pub TakesAsAsked : List Step → Type 0
TakesAsAsked [] = Unit {0}
TakesAsAsked (s ∷ h) = AreTaken (s ∷ h) × TakesAsAsked h
