-- The state of a container's connection (AMQP 1.0 2.4, 2.5, 5.3.2): before any unit, what is
-- awaited of the container, and which sessions there are.
use Rattle.std.specs.Prelude.{◌≡◌, ◌≤◌, ℕ, Bool, true, false, ◌==◌, List, replicate, slice_get}
use Rattle.std.specs.Prelude.{slice_set}
use Rattle.std.specs.Prelude.{Option, None, Some}
use Rattle.std.specs.List.{position}
use Rattle.frames_10.specs.declared.frame.Kind10.TheVariants as kind
use Rattle.machine_10.specs.declared.limits.Stated10.{Stated10}
use Rattle.machine_10.specs.declared.limits.TheConstants.{FRAME_MIN_SIZE}
use Rattle.machine_10.specs.declared.state.Awaited10.{Awaited10}
use Rattle.machine_10.specs.declared.state.Awaited10.TheVariants as awaited
use Rattle.machine_10.specs.declared.state.Phase10.{Phase10}
use Rattle.machine_10.specs.declared.state.Phase10.TheVariants as phase
use Rattle.machine_10.specs.declared.state.Session.{Session}
use Rattle.machine_10.specs.declared.state.Session.TheVariants as session
use Rattle.machine_10.specs.declared.state.Stream10.{Stream10}
use Rattle.machine_10.specs.declared.state.Stream10.TheVariants as stream
use Rattle.machine_10.specs.declared.state.Upstream.{Upstream}

-- what holds until the container's open: frames that all must take, and no channel but 0
abbrev pub unstated : Stated10
unstated = record { max_frame = FRAME_MIN_SIZE; channel_max = 0; idle = None }

unfoldable pub no_sessions : List Session
no_sessions = replicate 256 session.Free

-- a connection of which nothing was read yet
abbrev pub new_upstream : List ℕ → List ℕ → Upstream
new_upstream mechanism response = record {
  phase = phase.SaslHeader;
  stream = stream.Header kind.Sasl;
  mechanism = mechanism;
  response = response;
  stated = unstated;
  sessions = no_sessions;
}

-- ---- phases

abbrev pub is_running : Phase10 → Bool
is_running phase.SaslHeader = false
is_running phase.Mechanisms = false
is_running phase.Outcome = false
is_running phase.AmqpHeader = false
is_running phase.Open = false
is_running phase.Running = true
is_running phase.Closing = false
is_running phase.Closed = false

abbrev pub is_closing : Phase10 → Bool
is_closing phase.SaslHeader = false
is_closing phase.Mechanisms = false
is_closing phase.Outcome = false
is_closing phase.AmqpHeader = false
is_closing phase.Open = false
is_closing phase.Running = false
is_closing phase.Closing = true
is_closing phase.Closed = true

-- ---- the container's bytes

abbrev pub awaited_in : Stream10 → Awaited10
awaited_in (stream.Header k) = awaited.Header k
awaited_in stream.Frames = awaited.Frame
awaited_in stream.Bad = awaited.Nothing
awaited_in stream.Closed = awaited.Frame
awaited_in stream.Spent = awaited.Nothing
awaited_in stream.Ended = awaited.Nothing

abbrev pub awaits : Upstream → Awaited10
awaits c = awaited_in c.stream

-- ---- sessions

-- no number above the last is of a session
abbrev pub or_free : Option Session → Session
or_free None = session.Free
or_free (Some s) = s

-- the session on one of the gateway's channels
abbrev pub session_at : Upstream → ℕ → Session
session_at c g = or_free (slice_get c.sessions g)

-- no session is on a channel from a number on
abbrev pub AreFreeFrom : ℕ → Upstream → Type 0
AreFreeFrom top c = (g : ℕ) → top ≤ g → session_at c g ≡ session.Free

-- another session there
abbrev pub with_session : Upstream → ℕ → Session → Upstream
with_session c g s = record c { sessions = slice_set c.sessions g s }

-- the container has this session on channel n
abbrev pub carries : ℕ → Session → Bool
carries n session.Free = false
carries n session.Asked = false
carries n session.Left = false
carries n (session.Open m) = m == n
carries n (session.Leaving m) = m == n
carries n (session.Ended m) = m == n

-- the gateway's channel whose session the container has on channel n
abbrev pub session_of : Upstream → ℕ → Option ℕ
session_of c n = position (carries n) c.sessions
