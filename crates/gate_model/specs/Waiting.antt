-- What goes to a client only once nothing of the upstream end is waited for, and only once the
-- container opened.
use Rattle.std.specs.Prelude.{◌≡◌, ℕ, Bool, true, false, not, ◌&&◌, ◌||◌, List, [], ◌∷◌, Option}
use Rattle.std.specs.Prelude.{None, Some}
use Rattle.gate_relay.specs.Sides.{is_readable}
use Rattle.machine_10.specs.Transitions as ten
use Rattle.machine_10.specs.Transitions.{Meaning}
use Rattle.gate_model.specs.declared.outgoing.Outgoing.TheVariants.{ToClient}
use Rattle.gate_model.specs.declared.reply.Reply.{Reply}
use Rattle.gate_model.specs.declared.reply.Reply.TheVariants as reply
use Rattle.gate_model.specs.Folds.{container, ran_out_in, side_in, silent_in}
use Rattle.gate_model.specs.Lives.{is_done, session_in}
use Rattle.gate_model.specs.State.{Step, Gave, Heard}
use Rattle.gate_model.specs.Upstream.{is_closed_stream, meaning_by, stream_in}

-- nothing of the upstream end is waited for: the pair ran out of memory, the end isn't open, the
-- container's close came, or it was given up
pub data Settled (h : List Step) : Type 0 where
  RanOut : ran_out_in h ≡ true → Settled h
  NotOpen : is_readable (side_in h) ≡ false → Settled h
  HasClosed : is_closed_stream (stream_in (container h)) ≡ true → Settled h
  GivenUp : silent_in h ≡ true → Settled h

-- a connection.close of the gateway, or a close-ok
abbrev pub is_ending : Reply → Bool
is_ending reply.Protocol = false
is_ending reply.Start = false
is_ending reply.Tune = false
is_ending reply.OpenOk = false
is_ending reply.CloseOk = true
is_ending (reply.Close r) = true
is_ending reply.NoMemory = true
is_ending reply.Heartbeat = false
is_ending (reply.ChannelOpenOk n) = false
is_ending (reply.OnChannel n u) = false
is_ending (reply.ChannelCloseOk n) = false
is_ending (reply.CrossedOk n) = false
is_ending (reply.ChannelClose n r) = false

-- nothing of the container is waited for on a channel: its session didn't begin, or the container's
-- end came
pub data SettledOn (h : List Step) (n : ℕ) : Type 0 where
  OfAll : Settled h → SettledOn h n
  NoneThere : is_done (session_in (container h) n) ≡ true → SettledOn h n

-- the channel that a channel.close of the gateway, or a close-ok, ends; that of a close-ok to a
-- crossing channel.close ended before
abbrev pub ended_by : Reply → Option ℕ
ended_by reply.Protocol = None
ended_by reply.Start = None
ended_by reply.Tune = None
ended_by reply.OpenOk = None
ended_by reply.CloseOk = None
ended_by (reply.Close r) = None
ended_by reply.NoMemory = None
ended_by reply.Heartbeat = None
ended_by (reply.ChannelOpenOk n) = None
ended_by (reply.OnChannel n u) = None
ended_by (reply.ChannelCloseOk n) = Some n
ended_by (reply.CrossedOk n) = None
ended_by (reply.ChannelClose n r) = Some n

-- each went where nothing was waited for on its channel
abbrev pub ChannelsEndWhenSettled : List Step → Type 0
ChannelsEndWhenSettled [] = Unit {0}
ChannelsEndWhenSettled (Gave (ToClient u) text ∷ h) =
    ((n : ℕ) → ended_by u ≡ Some n → SettledOn h n) × ChannelsEndWhenSettled h
ChannelsEndWhenSettled (s ∷ h) = ChannelsEndWhenSettled h

-- each of these went where nothing was waited for
abbrev pub EndsWhenSettled : List Step → Type 0
EndsWhenSettled [] = Unit {0}
EndsWhenSettled (Gave (ToClient u) text ∷ h) = (is_ending u ≡ true → Settled h) × EndsWhenSettled h
EndsWhenSettled (s ∷ h) = EndsWhenSettled h

-- a unit of the container is its open, where that was awaited
abbrev pub is_opened : Meaning → Bool
is_opened ten.Nothing = false
is_opened ten.Init = false
is_opened ten.AmqpHeader = false
is_opened ten.Opened = true
is_opened (ten.OfSession g p payload) = false
is_opened (ten.Closed e) = false
is_opened ten.Refused = false
is_opened (ten.Violation why) = false

-- the container's open was taken up
abbrev pub opened_in : List Step → Bool
opened_in [] = false
opened_in (Heard u ∷ h) =
    opened_in h || (not (ran_out_in h) && is_opened (meaning_by (container h) u))
opened_in (s ∷ h) = opened_in h

-- each connection.open-ok went after that
abbrev pub OpensWhenOpened : List Step → Type 0
OpensWhenOpened [] = Unit {0}
OpensWhenOpened (Gave (ToClient reply.OpenOk) text ∷ h) = (opened_in h ≡ true) × OpensWhenOpened h
OpensWhenOpened (s ∷ h) = OpensWhenOpened h
