-- What goes to a container and why, and when its end is shut: told by folds that know no state.
use Rattle.std.specs.Prelude.{◌≡◌, ◌↔◌, ℕ, ◌+◌, ◌/◌, ◌<◌, ◌≤◌, Bool, true, false, ◌||◌, ◌⊎◌, List}
use Rattle.std.specs.Prelude.{[]}
use Rattle.std.specs.Prelude.{◌∷◌, ◌++◌, filter, Option, None, Some, if◌then◌else◌}
use Rattle.std.specs.List.{list_any}
use Rattle.gate_outside.specs.declared.ports.End.TheVariants.{Up}
use Rattle.gate_outside.specs.declared.ports.Linked.TheVariants as link
use Rattle.gate_relay.specs.Sides.{is_readable}
use Rattle.gate_relay.specs.declared.sides.Side.TheVariants as side
use Rattle.close_translate.specs.Conditions.{condition_of}
use Rattle.close_translate.specs.declared.codes.TheConstants.{RESOURCE_ERROR}
use Rattle.machine_091.specs.State.{is_closing, is_open}
use Rattle.machine_10.specs.Transitions as ten
use Rattle.machine_10.specs.Transitions.{Meaning}
use Rattle.machine_10.specs.declared.state.Upstream.{Upstream}
use Rattle.machine_10.specs.declared.unit.Unit10.{Unit10}
use Rattle.performatives_10.specs.declared.condition.Condition.{Condition}
use Rattle.gate_model.specs.declared.outgoing.Outgoing.TheVariants.{ToUp}
use Rattle.gate_model.specs.declared.outgoing.UpPending.{UpPending}
use Rattle.gate_model.specs.declared.outgoing.UpUnit.{UpUnit}
use Rattle.gate_model.specs.declared.outgoing.UpUnit.TheVariants as up
use Rattle.gate_model.specs.declared.timers.TheConstants.{CLOSING_LIMIT}
use Rattle.gate_model.specs.Due.{is_shut_due, up_rows}
use Rattle.gate_model.specs.Folds.{routes_in}
use Rattle.gate_model.specs.Folds.{carrying, closed_in, connection, container, moment_in}
use Rattle.gate_model.specs.Folds.{ran_out_in}
use Rattle.performatives_10.specs.declared.condition.Condition.TheVariants.{ResourceLimitExceeded}
use Rattle.gate_model.specs.Paths.{path_at}
use Rattle.gate_model.specs.Folds.{Peers, closes_connection, paths_in, peers, scope_in, sent_up}
use Rattle.gate_model.specs.Folds.{sent_up_at, side_in}
use Rattle.gate_model.specs.Lives.{is_begun, is_carried, is_ended, is_free, session_in}
use Rattle.gate_model.specs.Session.{is_flow_owed}
use Rattle.gate_model.specs.State.{Came, Gave, Heard, Joined, OutOfMemory, Silent, State, Step}
use Rattle.gate_model.specs.State.{want_in}
use Rattle.gate_model.specs.State.{Whole}
use Rattle.gate_model.specs.State.{before, condition_by, closing_error}
use Rattle.gate_model.specs.Upstream.{idle_in, is_bad_stream, is_closed_stream, meaning_by}
use Rattle.gate_model.specs.Upstream.{nothing_due, opening_rows, opens_by, stream_in}

-- ---- the opening

-- a unit of the opening
abbrev pub is_opening_unit : UpUnit → Bool
is_opening_unit up.SaslHeader = true
is_opening_unit up.SaslInit = true
is_opening_unit up.AmqpHeader = true
is_opening_unit up.Open = true
is_opening_unit (up.Close why) = false
is_opening_unit up.Empty = false
is_opening_unit (up.OnSession n u) = false
is_opening_unit (up.Flow n i o) = false
is_opening_unit (up.Begin n) = false
is_opening_unit (up.End n why) = false

abbrev pub openings_of : List UpUnit → List UpUnit
openings_of us = filter is_opening_unit us

-- the wanted mechanism that is offered calls for sasl-init, and a login that succeeded for the
-- header of AMQP (AMQP 1.0 5.3.2)
abbrev pub called_by : Meaning → UpPending → UpPending
called_by ten.Nothing p = p
called_by ten.Init p = record p { init = true }
called_by ten.AmqpHeader p = record p { amqp_header = true }
called_by ten.Opened p = p
called_by (ten.OfSession g n payload) p = p
called_by (ten.Closed e) p = p
called_by ten.Refused p = p
called_by (ten.Violation why) p = p

-- the container's own header of AMQP calls for the open
abbrev pub called_from : Option Upstream → Unit10 → UpPending → UpPending
called_from o u p = called_by (meaning_by o u) (record p { «open» = p.«open» || opens_by o u })

-- the units of the opening that were called for: by the connection upstream the header of the SASL
-- layer, and the others by the container's units
abbrev pub called : List Step → UpPending
called [] = nothing_due
called (Joined link.Ok ∷ h) = record nothing_due { sasl_header = true }
called (Heard u ∷ h) = if ran_out_in h then called h else called_from (container h) u (called h)
called (s ∷ h) = called h

-- the units that are due to a container while none to it is in progress
abbrev pub due_up : State → List UpUnit
due_up w = up_rows w

-- the units of the opening that were sent are the first of those that were called for, in their
-- order and each at most once. While the end is open and the client's connection isn't closing, the
-- others are due
pub record AreCalledFor (h : List Step) : Type 0 where
  pub all : openings_of (sent_up h) ++ opening_rows (before h).up.pending
      ≡ opening_rows (called h)
  pub due : is_closing (connection h) ≡ false → is_readable (side_in h) ≡ true
      → openings_of (sent_up h) ++ openings_of (due_up (before h)) ≡ opening_rows (called h)

-- ---- the close

abbrev pub is_up_open : UpUnit → Bool
is_up_open up.SaslHeader = false
is_up_open up.SaslInit = false
is_up_open up.AmqpHeader = false
is_up_open up.Open = true
is_up_open (up.Close why) = false
is_up_open up.Empty = false
is_up_open (up.OnSession n u) = false
is_up_open (up.Flow n i o) = false
is_up_open (up.Begin n) = false
is_up_open (up.End n why) = false

abbrev pub is_up_close : UpUnit → Bool
is_up_close up.SaslHeader = false
is_up_close up.SaslInit = false
is_up_close up.AmqpHeader = false
is_up_close up.Open = false
is_up_close (up.Close why) = true
is_up_close up.Empty = false
is_up_close (up.OnSession n u) = false
is_up_close (up.Flow n i o) = false
is_up_close (up.Begin n) = false
is_up_close (up.End n why) = false

-- a unit of the container that is out of order has its condition, and no other has one
abbrev pub condition_told : Peers → Meaning → Option Condition
condition_told p ten.Nothing = None
condition_told p ten.Init = None
condition_told p ten.AmqpHeader = None
condition_told p ten.Opened = None
condition_told p (ten.OfSession g q payload) =
    if closes_connection (scope_in p g q payload)
    then Some (closing_error q (path_at p.paths g)) else None
condition_told p (ten.Closed e) = None
condition_told p ten.Refused = None
condition_told p (ten.Violation why) = Some why

-- what a step says of the error of the gateway's close, if it is the closing event
abbrev pub condition_at : Step → List Step → Option Condition
condition_at (Came u) h = condition_by (want_in (routes_in h) (paths_in h) (connection h) u)
condition_at (Heard u) h = condition_told (peers h) (meaning_by (container h) u)
condition_at (Silent Up) h = Some ResourceLimitExceeded
condition_at OutOfMemory h = Some (condition_of RESOURCE_ERROR)
condition_at s h = None

-- the first closing event of the client's connection decides it
abbrev pub closing_condition : List Step → Option Condition
closing_condition [] = None
closing_condition (s ∷ h) =
    if is_closing (connection h) then closing_condition h else condition_at s h

-- a close goes where the open was sent and the client's connection is closing, as it is too once
-- the pair ran out of memory
pub record MayClose (h : List Step) (why : Option Condition) : Type 0 where
  pub opened : list_any is_up_open (sent_up h) ≡ true
  pub closing : is_closing (connection h) ≡ true
  pub why_is : why ≡ closing_condition h
  -- no session is left that began and didn't end
  pub ended : (n : ℕ) → n < 256 → (is_ended (session_in (container h) n)
      || is_begun (session_in (container h) n)) ≡ false

-- ---- frames that tell that the gateway is alive

-- an empty frame goes where the container stated an idle time-out, the open was sent, and half of
-- the time-out, rounded up, passed since the last unit was sent (AMQP 1.0 2.4.5); none goes once the
-- pair ran out of memory
pub record MayTell (h : List Step) : Type 0 where
  pub calm : ran_out_in h ≡ false
  pub stated : 0 < idle_in (container h)
  pub opened : list_any is_up_open (sent_up h) ≡ true
  pub quiet : sent_up_at h + (idle_in (container h) + 1) / 2 ≤ moment_in h

-- ---- sessions

-- a session begins once the one of that number before it has ended
pub record MayBegin (h : List Step) (n : ℕ) : Type 0 where
  pub running : is_closing (connection h) ≡ false
  pub free : is_free (session_in (container h) n) ≡ true

-- one ends for the container's end, or for a channel or connection that closes; and only one that
-- has begun
pub data MayEnd (h : List Step) (n : ℕ) : Type 0 where
  Answers : is_ended (session_in (container h) n) ≡ true → MayEnd h n
  Leaves : is_begun (session_in (container h) n) ≡ true
      → (is_closing (connection h) ≡ true) ⊎ (is_open (connection h) n ≡ false)
      → MayEnd h n

-- a flow goes between the container's begin and the gateway's end, where the container asked for
-- the state of the session and wasn't answered, or little is left of the window that the gateway
-- stated (AMQP 1.0 2.5.6, 2.7.4); it tells the ids of the next transfer frames
pub record MayFlow (h : List Step) (n i o : ℕ) : Type 0 where
  pub carried : is_carried (session_in (container h) n) ≡ true
  pub owed : is_flow_owed (carrying n h) ≡ true
  pub incoming : i ≡ (carrying n h).windows.next_incoming
  pub outgoing : o ≡ (carrying n h).windows.next_outgoing

-- ---- all units

-- those of the opening go while the client's connection isn't closing
abbrev pub MayGo : List Step → UpUnit → Type 0
MayGo h up.SaslHeader = is_closing (connection h) ≡ false
MayGo h up.SaslInit = is_closing (connection h) ≡ false
MayGo h up.AmqpHeader = is_closing (connection h) ≡ false
MayGo h up.Open = is_closing (connection h) ≡ false
MayGo h (up.Close why) = MayClose h why
MayGo h up.Empty = MayTell h
MayGo h (up.OnSession n u) = is_carried (session_in (container h) n) ≡ true
MayGo h (up.Flow n i o) = MayFlow h n i o
MayGo h (up.Begin n) = MayBegin h n
MayGo h (up.End n why) = MayEnd h n

-- each unit went where it might, through an end that was open, and none after the close
pub record Goes (h : List Step) (u : UpUnit) : Type 0 where
  pub may : MayGo h u
  pub open_end : is_readable (side_in h) ≡ true
  pub unclosed : list_any is_up_close (sent_up h) ≡ false

abbrev pub GoesWhenDue : List Step → Type 0
GoesWhenDue [] = Unit {0}
GoesWhenDue (Gave (ToUp u) text ∷ h) = Goes h u × GoesWhenDue h
GoesWhenDue (s ∷ h) = GoesWhenDue h

-- ---- shutting

-- units of which the last byte was sent, in their order
abbrev pub sent_up_whole : List Step → List UpUnit
sent_up_whole [] = []
sent_up_whole (Whole Up ∷ h) = sent_up h
sent_up_whole (s ∷ h) = sent_up_whole h

-- why the upstream end is to be shut
pub data ShutUpFor (h : List Step) : Type 0 where
  -- it failed, or it ended
  Failed : side_in h ≡ side.Failed → ShutUpFor h
  Ended : side_in h ≡ side.Ended → ShutUpFor h
  -- the closing event is so old
  Overdue : (at : ℕ) → closed_in h ≡ Some at → at + CLOSING_LIMIT ≤ moment_in h → ShutUpFor h
  -- the gateway's close was sent whole, and the container's close came, its bytes are no units any
  -- more, or the pair ran out of memory
  Closed : list_any is_up_close (sent_up_whole h) ≡ true
      → is_closed_stream (stream_in (container h)) ≡ true → ShutUpFor h
  ClosedBad : list_any is_up_close (sent_up_whole h) ≡ true
      → is_bad_stream (stream_in (container h)) ≡ true → ShutUpFor h
  ClosedLast : list_any is_up_close (sent_up_whole h) ≡ true → ran_out_in h ≡ true → ShutUpFor h
  -- the client's connection is closing, and the gateway's open wasn't sent
  Unopened : is_closing (connection h) ≡ true → list_any is_up_open (sent_up h) ≡ false
      → ShutUpFor h

-- it is to be shut exactly for one of these
abbrev pub ShutsUpAtOnce : List Step → Type 0
ShutsUpAtOnce h = (is_shut_due (before h) Up ≡ true) ↔ ShutUpFor h
