-- What time makes due, and when an end is shut: exactly then, and only then. Moments are in
-- milliseconds.
use Rattle.std.specs.Prelude.{◌≡◌, ◌↔◌, ℕ, ◌+◌, ◌*◌, ◌<◌, ◌≤◌, Bool, true, false, List, []}
use Rattle.std.specs.Prelude.{◌∷◌, Some}
use Rattle.std.specs.List.{list_any}
use Rattle.gate_outside.specs.declared.ports.End.TheVariants.{Client}
use Rattle.machine_091.specs.State.{is_closing}
use Rattle.machine_091.specs.declared.state.Stream91.TheVariants as stream
use Rattle.gate_model.specs.Answers.{is_close_ok}
use Rattle.gate_model.specs.declared.outgoing.Outgoing.TheVariants.{ToClient}
use Rattle.gate_model.specs.declared.reply.Reply.{Reply}
use Rattle.gate_model.specs.declared.reply.Reply.TheVariants as reply
use Rattle.gate_model.specs.declared.timers.TheConstants.{BEAT_PER_SECOND, CLOSING_LIMIT}
use Rattle.gate_model.specs.declared.timers.TheConstants.{HANDSHAKE_LIMIT}
use Rattle.gate_model.specs.Due.{client_units, is_busy, is_shut_due, is_unheard, pick}
use Rattle.gate_model.specs.Folds.{accepted_in, closed_in, connection, failed_in, moment_in}
use Rattle.gate_model.specs.Folds.{ran_out_in, sent, sent_at}
use Rattle.gate_model.specs.State.{Step, Gave, Whole, before, has_left}

-- units of which the last byte was sent, in their order
abbrev pub sent_whole : List Step → List Reply
sent_whole [] = []
sent_whole (Whole Client ∷ h) = sent h
sent_whole (s ∷ h) = sent_whole h

abbrev pub is_protocol : Reply → Bool
is_protocol reply.Protocol = true
is_protocol reply.Start = false
is_protocol reply.Tune = false
is_protocol reply.OpenOk = false
is_protocol reply.CloseOk = false
is_protocol (reply.Close r) = false
is_protocol reply.NoMemory = false
is_protocol reply.Heartbeat = false
is_protocol (reply.ChannelOpenOk n) = false
is_protocol (reply.OnChannel n u) = false
is_protocol (reply.ChannelCloseOk n) = false
is_protocol (reply.CrossedOk n) = false
is_protocol (reply.ChannelClose n r) = false

-- a connection.close of the gateway
abbrev pub is_any_close : Reply → Bool
is_any_close reply.Protocol = false
is_any_close reply.Start = false
is_any_close reply.Tune = false
is_any_close reply.OpenOk = false
is_any_close reply.CloseOk = false
is_any_close (reply.Close r) = true
is_any_close reply.NoMemory = true
is_any_close reply.Heartbeat = false
is_any_close (reply.ChannelOpenOk n) = false
is_any_close (reply.OnChannel n u) = false
is_any_close (reply.ChannelCloseOk n) = false
is_any_close (reply.CrossedOk n) = false
is_any_close (reply.ChannelClose n r) = false

-- ---- heartbeats

-- a heartbeat may go: an interval is agreed to, in seconds, and for half of it no byte was sent;
-- close-ok wasn't sent, no other unit is due, and none is in progress (AMQP 0-9-1 4.2.7)
pub record MayBeat (h : List Step) : Type 0 where
  pub agreed : 0 < (connection h).limits.heartbeat
  pub quiet : sent_at h + BEAT_PER_SECOND * (connection h).limits.heartbeat ≤ moment_in h
  pub unclosed : list_any is_close_ok (sent h) ≡ false
  pub alone : client_units (before h) ≡ []
  pub free : is_busy (before h) Client ≡ false

-- each heartbeat was sent where it might be
abbrev pub BeatsWhenDue : List Step → Type 0
BeatsWhenDue [] = Unit {0}
BeatsWhenDue (Gave (ToClient reply.Heartbeat) text ∷ h) = MayBeat h × BeatsWhenDue h
BeatsWhenDue (s ∷ h) = BeatsWhenDue h

-- while no unit is in progress one is what goes next exactly where it may
abbrev pub BeatsAtOnce : List Step → Type 0
BeatsAtOnce h =
    is_busy (before h) Client ≡ false
    → (pick (before h) Client ≡ Some (ToClient reply.Heartbeat)) ↔ MayBeat h

-- ---- the limits of a connection

-- no connection.open came within the handshake limit of the accept
pub record IsLate (h : List Step) : Type 0 where
  pub unasked : (connection h).asked ≡ false
  pub late : accepted_in h + HANDSHAKE_LIMIT ≤ moment_in h

-- why a client's end is to be shut
pub data ShutFor (h : List Step) : Type 0 where
  -- it failed
  Failed : failed_in h ≡ true → ShutFor h
  -- that it ended or failed was taken up
  Left : has_left (connection h).stream ≡ true → ShutFor h
  -- its connection.close-ok came
  Answered : (connection h).stream ≡ stream.Answered → ShutFor h
  -- the gateway's header was sent whole, or its close-ok
  Greeted : list_any is_protocol (sent_whole h) ≡ true → ShutFor h
  Closed : list_any is_close_ok (sent_whole h) ≡ true → ShutFor h
  -- the gateway's close was, and the client's bytes are no units any more or the pair ran out of
  -- memory
  ClosedBad : list_any is_any_close (sent_whole h) ≡ true → (connection h).stream ≡ stream.Bad
      → ShutFor h
  ClosedLast : list_any is_any_close (sent_whole h) ≡ true → ran_out_in h ≡ true → ShutFor h
  -- the pair ran out of memory before the client's header
  Unheard : ran_out_in h ≡ true → is_unheard (connection h).stream ≡ true → ShutFor h
  NotOpened : IsLate h → ShutFor h
  -- the closing event is so old
  Overdue : (at : ℕ) → closed_in h ≡ Some at → at + CLOSING_LIMIT ≤ moment_in h → ShutFor h

-- it is to be shut exactly for one of these
abbrev pub ShutsAtOnce : List Step → Type 0
ShutsAtOnce h = (is_shut_due (before h) Client ≡ true) ↔ ShutFor h

-- once the handshake limit was reached the connection is closing, so that units but for
-- connection.close and its close-ok are passed over, and nothing takes that back
abbrev pub LateCloses : List Step → Type 0
LateCloses h = IsLate h → is_closing (connection h) ≡ true
