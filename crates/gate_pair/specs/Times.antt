-- What time makes due, of entries: heartbeats to the client, empty frames to the container, and the
-- shutting of each end. Moments are in milliseconds.
use Rattle.std.specs.Prelude.{◌≡◌, ◌↔◌, ℕ, ◌+◌, ◌*◌, ◌/◌, ◌<◌, ◌≤◌, Bool, true, false, List, []}
use Rattle.std.specs.Prelude.{◌∷◌, Some}
use Rattle.std.specs.List.{list_any}
use Rattle.gate_outside.specs.declared.ports.End.{End}
use Rattle.gate_outside.specs.declared.ports.End.TheVariants.{Client, Up}
use Rattle.gate_outside.specs.declared.ports.Linked.TheVariants as linked
use Rattle.gate_relay.specs.declared.loss.Loss.TheVariants as loss
use Rattle.gate_relay.specs.declared.sides.Side.TheVariants as side
use Rattle.gate_relay.specs.Entries.{Entry, Began, Refused, Joined, Took, Lost, is_out_of_memory}
use Rattle.gate_relay.specs.Entries.{is_over, moment_of}
use Rattle.gate_relay.specs.Sides.{is_readable, side_of, sides}
use Rattle.machine_091.specs.State.{is_closing}
use Rattle.machine_091.specs.declared.state.Stream91.TheVariants as stream
use Rattle.gate_model.specs.declared.outgoing.Outgoing.TheVariants.{ToClient, ToUp}
use Rattle.gate_model.specs.declared.outgoing.UpUnit.TheVariants as up
use Rattle.gate_model.specs.declared.reply.Reply.TheVariants as reply
use Rattle.gate_model.specs.declared.timers.TheConstants.{BEAT_PER_SECOND, CLOSING_LIMIT}
use Rattle.gate_model.specs.declared.timers.TheConstants.{HANDSHAKE_LIMIT}
use Rattle.gate_model.specs.Answers.{is_close_ok}
use Rattle.gate_model.specs.Asked.{is_up_close, is_up_open, sent_up_whole}
use Rattle.gate_model.specs.Due.{client_units, is_busy, is_unheard, other_rows, pick}
use Rattle.gate_model.specs.Folds.{closed_in, connection, container, ran_out_in, sent, sent_up}
use Rattle.gate_model.specs.Setup.{SetupText}
use Rattle.gate_model.specs.State.{has_left}
use Rattle.gate_model.specs.Times.{is_any_close, is_protocol, sent_whole}
use Rattle.gate_model.specs.Upstream.{idle_in, is_bad_stream, is_closed_stream}
use Rattle.gate_model.specs.Upstream.{stream_in}
use Rattle.gate_pair.specs.Meaning.{pair_words, state_of, steps_of}

-- the moment of the accept
abbrev pub accepted_of : List Entry → ℕ
accepted_of [] = 0
accepted_of (Began p ms ∷ h) = ms
accepted_of (e ∷ h) = accepted_of h

-- the moment at which the client took the last byte, that of the accept before
abbrev pub last_taken_at : List Entry → ℕ
last_taken_at [] = 0
last_taken_at (Began p ms ∷ h) = ms
last_taken_at (Took Client bytes n ∷ h) = moment_of h
last_taken_at (e ∷ h) = last_taken_at h

-- the moment at which the container did, that of the connection upstream before
abbrev pub last_taken_up_at : List Entry → ℕ
last_taken_up_at [] = 0
last_taken_up_at (Joined linked.Ok ∷ h) = moment_of h
last_taken_up_at (Took Up bytes n ∷ h) = moment_of h
last_taken_up_at (e ∷ h) = last_taken_up_at h

-- the client's end failed
abbrev pub has_failed : List Entry → Bool
has_failed [] = false
has_failed (Lost Client loss.Failed ∷ h) = true
has_failed (e ∷ h) = has_failed h

-- ---- heartbeats

-- a heartbeat may go: an interval is agreed to, in seconds, and for half of it the client took no
-- byte; close-ok wasn't sent, no other unit may go, and none is in progress (AMQP 0-9-1 4.2.7).
-- The gateway's close and close-ok, of the connection or a channel, may not go while something of
-- the upstream end is waited for
pub record MayBeatAt (s : SetupText) (h : List Entry) : Type 0 where
  pub agreed : 0 < (connection (steps_of s h)).limits.heartbeat
  pub quiet : last_taken_at h + BEAT_PER_SECOND * (connection (steps_of s h)).limits.heartbeat
      ≤ moment_of h
  pub unclosed : list_any is_close_ok (sent (steps_of s h)) ≡ false
  pub alone : client_units (state_of s h) ≡ []
  pub free : is_busy (state_of s h) Client ≡ false

-- each heartbeat that the client took a first byte of went where it might
abbrev pub SendsBeats : SetupText → List Entry → Type 0
SendsBeats s [] = Unit {0}
SendsBeats s (Took Client bytes n ∷ h) =
    (is_busy (state_of s h) Client ≡ false
    → pick (state_of s h) Client ≡ Some (ToClient reply.Heartbeat) → MayBeatAt s h)
    × SendsBeats s h
SendsBeats s (e ∷ h) = SendsBeats s h

-- ---- frames that tell a container that the gateway is alive

-- an empty frame may go: the container's open stated an idle time-out, the gateway's open was sent,
-- and for half of the time-out, rounded up, the container took no byte (AMQP 1.0 2.4.5); its end is
-- open, the gateway's close wasn't sent, the pair didn't run out of memory, no other unit is due,
-- and none is in progress
pub record MayTellAt (s : SetupText) (h : List Entry) : Type 0 where
  pub stated : 0 < idle_in (container (steps_of s h))
  pub opened : list_any is_up_open (sent_up (steps_of s h)) ≡ true
  pub quiet : last_taken_up_at h + (idle_in (container (steps_of s h)) + 1) / 2 ≤ moment_of h
  pub readable : is_readable (side_of Up (sides h)) ≡ true
  pub unclosed : list_any is_up_close (sent_up (steps_of s h)) ≡ false
  pub calm : ran_out_in (steps_of s h) ≡ false
  pub alone : other_rows (is_closing (connection (steps_of s h))) (state_of s h) ≡ []
  pub free : is_busy (state_of s h) Up ≡ false

-- each empty frame that the container took a first byte of went where it might
abbrev pub SendsEmpties : SetupText → List Entry → Type 0
SendsEmpties s [] = Unit {0}
SendsEmpties s (Took Up bytes n ∷ h) =
    (is_busy (state_of s h) Up ≡ false → pick (state_of s h) Up ≡ Some (ToUp up.Empty)
    → MayTellAt s h)
    × SendsEmpties s h
SendsEmpties s (e ∷ h) = SendsEmpties s h

-- ---- the limits of a connection

-- why the client's end is to be shut
pub data ShutAt (s : SetupText) (h : List Entry) : Type 0 where
  -- it failed
  Failed : has_failed h ≡ true → ShutAt s h
  -- that it ended or failed was taken up
  Left : has_left (connection (steps_of s h)).stream ≡ true → ShutAt s h
  -- its connection.close-ok came
  Answered : (connection (steps_of s h)).stream ≡ stream.Answered → ShutAt s h
  -- the gateway's header was sent whole, or its close-ok
  Greeted : list_any is_protocol (sent_whole (steps_of s h)) ≡ true → ShutAt s h
  Closed : list_any is_close_ok (sent_whole (steps_of s h)) ≡ true → ShutAt s h
  -- the gateway's close was, and the client's bytes are no units any more or the pair ran out of
  -- memory
  ClosedBad : list_any is_any_close (sent_whole (steps_of s h)) ≡ true
      → (connection (steps_of s h)).stream ≡ stream.Bad → ShutAt s h
  ClosedLast : list_any is_any_close (sent_whole (steps_of s h)) ≡ true
      → is_out_of_memory h ≡ true → ShutAt s h
  -- the pair ran out of memory before the client's header
  Unheard : is_out_of_memory h ≡ true
      → is_unheard (connection (steps_of s h)).stream ≡ true → ShutAt s h
  -- no connection.open came within the handshake limit of the accept
  NotOpened : (connection (steps_of s h)).asked ≡ false
      → accepted_of h + HANDSHAKE_LIMIT ≤ moment_of h → ShutAt s h
  -- the closing event is so old
  Overdue : (at : ℕ) → closed_in (steps_of s h) ≡ Some at → at + CLOSING_LIMIT ≤ moment_of h
      → ShutAt s h

-- why the upstream end is to be shut
pub data ShutUpAt (s : SetupText) (h : List Entry) : Type 0 where
  -- it failed, or it ended
  UpFailed : side_of Up (sides h) ≡ side.Failed → ShutUpAt s h
  UpEnded : side_of Up (sides h) ≡ side.Ended → ShutUpAt s h
  -- the gateway's close was sent whole, and the container's close came, its bytes are no units any
  -- more, or the pair ran out of memory (AMQP 1.0 2.4.3)
  UpClosed : list_any is_up_close (sent_up_whole (steps_of s h)) ≡ true
      → is_closed_stream (stream_in (container (steps_of s h))) ≡ true → ShutUpAt s h
  UpClosedBad : list_any is_up_close (sent_up_whole (steps_of s h)) ≡ true
      → is_bad_stream (stream_in (container (steps_of s h))) ≡ true → ShutUpAt s h
  UpClosedLast : list_any is_up_close (sent_up_whole (steps_of s h)) ≡ true
      → is_out_of_memory h ≡ true → ShutUpAt s h
  -- the client's connection is closing, and the gateway's open wasn't sent, so that no close can be
  UpUnopened : is_closing (connection (steps_of s h)) ≡ true
      → list_any is_up_open (sent_up (steps_of s h)) ≡ false → ShutUpAt s h
  -- the closing event of the client's connection is so old
  UpOverdue : (at : ℕ) → closed_in (steps_of s h) ≡ Some at → at + CLOSING_LIMIT ≤ moment_of h
      → ShutUpAt s h

-- why an end is to be shut
abbrev pub ShutDueAt : SetupText → End → List Entry → Type 0
ShutDueAt s Client h = ShutAt s h
ShutDueAt s Up h = ShutUpAt s h

-- an end that was shut was shut for one of these, or since the service ended, or the client's since
-- there was no memory at the accept
pub data ShutSince (s : SetupText) (end : End) (h : List Entry) : Type 0 where
  IsDue : ShutDueAt s end h → ShutSince s end h
  AtTheEnd : is_over h ≡ true → ShutSince s end h
  AtRefusal : (g : List Entry) → end ≡ Client → h ≡ Refused ∷ g → ShutSince s end h

abbrev pub ShutsForCause : SetupText → List Entry → Type 0
ShutsForCause s [] = Unit {0}
ShutsForCause s (Lost end loss.Shut ∷ h) = ShutSince s end h × ShutsForCause s h
ShutsForCause s (e ∷ h) = ShutsForCause s h

-- ---- both ways

pub record KeepsTimes (s : SetupText) (h : List Entry) : Type 0 where
  -- while no unit is in progress a heartbeat goes next to the client exactly where it may
  pub beats : is_busy (state_of s h) Client ≡ false
      → (pick (state_of s h) Client ≡ Some (ToClient reply.Heartbeat)) ↔ MayBeatAt s h
  -- and an empty frame to the container
  pub tells : is_busy (state_of s h) Up ≡ false
      → (pick (state_of s h) Up ≡ Some (ToUp up.Empty)) ↔ MayTellAt s h
  -- each end is to be shut exactly for one of its causes
  pub shuts : ((pair_words s).shut_due Client h ≡ true) ↔ ShutAt s h
  pub shuts_up : ((pair_words s).shut_due Up h ≡ true) ↔ ShutUpAt s h
  -- once the handshake limit was reached the connection is closing: units but for connection.close
  -- and its close-ok are passed over, and nothing takes that back
  pub late : (connection (steps_of s h)).asked ≡ false
      → accepted_of h + HANDSHAKE_LIMIT ≤ moment_of h
      → is_closing (connection (steps_of s h)) ≡ true
  -- and what happened before kept to it
  pub sent_beats : SendsBeats s h
  pub sent_empties : SendsEmpties s h
  pub was_shut : ShutsForCause s h
