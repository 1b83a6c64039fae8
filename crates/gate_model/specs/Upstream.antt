-- What the steps of a pair amount to at its upstream end.
use Rattle.std.specs.Prelude.{ℕ, ◌+◌, ◌-◌, ◌/◌, ◌==◌, nat_le, Bool, true, false, not, ◌&&◌, ◌||◌}
use Rattle.std.specs.Prelude.{List}
use Rattle.std.specs.Prelude.{[], ◌∷◌, ◌++◌, Option, None, Some, codes, if◌then◌else◌}
use Rattle.std.specs.Str.{bytes_eq}
use Rattle.gate_relay.specs.declared.sides.Side.{Side}
use Rattle.gate_relay.specs.declared.sides.Side.TheVariants as side
use Rattle.gate_relay.specs.Sides.{is_readable}
use Rattle.machine_10.specs.Calls.{after_begin_sent, after_end_sent, after_ended}
use Rattle.machine_10.specs.State.{awaits, new_upstream}
use Rattle.machine_10.specs.declared.state.Awaited10.{Awaited10}
use Rattle.machine_10.specs.declared.state.Awaited10.TheVariants as awaited
use Rattle.machine_10.specs.declared.state.Phase10.{Phase10}
use Rattle.machine_10.specs.declared.state.Phase10.TheVariants as phase
use Rattle.machine_10.specs.declared.state.Stream10.{Stream10}
use Rattle.machine_10.specs.declared.state.Stream10.TheVariants as stream
use Rattle.machine_10.specs.declared.state.Upstream.{Upstream}
use Rattle.machine_10.specs.Transitions.{Meaning, Nothing, unit_step}
use Rattle.machine_10.specs.declared.unit.Unit10.{Unit10}
use Rattle.performatives_10.specs.declared.condition.Condition.{Condition}
use Rattle.types_10.specs.Tree.{Tree, described, list, scalar, symbol, tree}
use Rattle.gate_model.specs.declared.outgoing.UpPending.{UpPending}
use Rattle.gate_model.specs.declared.outgoing.UpSent.{UpSent}
use Rattle.gate_model.specs.declared.outgoing.UpUnit.{UpUnit}
use Rattle.gate_model.specs.declared.outgoing.UpUnit.TheVariants as up
use Rattle.gate_model.specs.declared.timers.TheConstants.{UP_SILENCE}

pub record UpState : Type 0 where
  -- how far the end is
  pub side : Side
  -- the container's connection, which the client's login begins
  pub container : Option Upstream
  -- the units of the opening that are due, and of which no byte was sent
  pub pending : UpPending
  -- the unit of which the first byte was sent, and not the last
  pub in_progress : Option UpUnit
  pub sent : UpSent
  -- the error of the gateway's close
  pub condition : Option Condition
  -- the moment at which the last unit was sent whole, that of the connect before
  pub last_sent_at : ℕ
  -- that at which its last byte came, that of the connect before
  pub fed_at : ℕ
  -- no byte of it came for too long
  pub silent : Bool

abbrev pub nothing_due : UpPending
nothing_due = record { sasl_header = false; init = false; amqp_header = false; «open» = false }

abbrev pub nothing_sent : UpSent
nothing_sent = record { «open» = false; close = false; whole_close = false }

-- no end was asked for
abbrev pub no_end : UpState
no_end = record {
  side = side.Absent;
  container = None;
  pending = nothing_due;
  in_progress = None;
  sent = nothing_sent;
  condition = None;
  last_sent_at = 0;
  fed_at = 0;
  silent = false;
}

-- ---- the login

-- an anonymous client has no response (AMQP 1.0 5.3.3.6)
abbrev pub response_of : List ℕ → List ℕ → List ℕ
response_of mechanism response = if bytes_eq mechanism (codes "ANONYMOUS") then [] else response

-- the container is asked for the client's login; no unit of it came
abbrev pub container_for : List ℕ → List ℕ → Upstream
container_for mechanism response = new_upstream mechanism (response_of mechanism response)

abbrev pub with_login : List ℕ → List ℕ → UpState → UpState
with_login mechanism response s = record s { container = Some (container_for mechanism response) }

-- ---- the container's connection

-- the peer's close came
abbrev pub is_closed_stream : Stream10 → Bool
is_closed_stream (stream.Header k) = false
is_closed_stream stream.Frames = false
is_closed_stream stream.Bad = false
is_closed_stream stream.Closed = true
is_closed_stream stream.Spent = true
is_closed_stream stream.Ended = false

-- its bytes are no units any more
abbrev pub is_bad_stream : Stream10 → Bool
is_bad_stream (stream.Header k) = false
is_bad_stream stream.Frames = false
is_bad_stream stream.Bad = true
is_bad_stream stream.Closed = false
is_bad_stream stream.Spent = false
is_bad_stream stream.Ended = false

-- the greatest number of a channel that it takes
abbrev pub channel_max_in : Option Upstream → ℕ
channel_max_in None = 0
channel_max_in (Some c) = c.stated.channel_max

abbrev pub channel_max_of : UpState → ℕ
channel_max_of s = channel_max_in s.container

abbrev pub stream_in : Option Upstream → Stream10
stream_in None = stream.Frames
stream_in (Some c) = c.stream

abbrev pub has_closed : UpState → Bool
has_closed s = is_closed_stream (stream_in s.container)

abbrev pub has_gone_bad : UpState → Bool
has_gone_bad s = is_bad_stream (stream_in s.container)

abbrev pub awaited_of : Option Upstream → Awaited10
awaited_of None = awaited.Nothing
awaited_of (Some c) = awaits c

abbrev pub is_awaited_up : Awaited10 → Bool
is_awaited_up (awaited.Header k) = true
is_awaited_up awaited.Frame = true
is_awaited_up awaited.Nothing = false

-- its open is awaited
abbrev pub is_open_phase : Phase10 → Bool
is_open_phase phase.SaslHeader = false
is_open_phase phase.Mechanisms = false
is_open_phase phase.Outcome = false
is_open_phase phase.AmqpHeader = false
is_open_phase phase.Open = true
is_open_phase phase.Running = false
is_open_phase phase.Closing = false
is_open_phase phase.Closed = false

-- what a unit of the container means, and its connection after it
abbrev pub meaning_by : Option Upstream → Unit10 → Meaning
meaning_by None u = Nothing
meaning_by (Some c) u = (unit_step c u).1

abbrev pub container_by : Option Upstream → Unit10 → Option Upstream
container_by None u = None
container_by (Some c) u = Some (unit_step c u).0

-- the gateway's open becomes due by the container's AMQP header
abbrev pub opens : Upstream → Upstream → Bool
opens old new = is_open_phase new.phase && not (is_open_phase old.phase)

abbrev pub opens_by : Option Upstream → Unit10 → Bool
opens_by None u = false
opens_by (Some c) u = opens c (unit_step c u).0

abbrev pub heard_up : Unit10 → UpState → UpState
heard_up u s = record s {
  container = container_by s.container u;
  pending = record s.pending { «open» = s.pending.«open» || opens_by s.container u };
}

abbrev pub ended_in : Option Upstream → Option Upstream
ended_in None = None
ended_in (Some c) = Some (after_ended c)

-- the condition that an error names (AMQP 1.0 2.8.14)
abbrev pub condition_in : Tree → Option (List ℕ)
condition_in (described d (list (tree (scalar (symbol name)) ts))) = Some name
condition_in t = None

-- ---- steps

-- the connection upstream is there: the SASL layer begins
abbrev pub linked : ℕ → UpState → UpState
linked ms s = record s {
  side = side.Open;
  pending = record nothing_due { sasl_header = true };
  last_sent_at = ms;
  fed_at = ms;
}

-- a unit is due no more once its first byte was sent
abbrev pub without_up : UpUnit → UpPending → UpPending
without_up up.SaslHeader p = record p { sasl_header = false }
without_up up.SaslInit p = record p { init = false }
without_up up.AmqpHeader p = record p { amqp_header = false }
without_up up.Open p = record p { «open» = false }
without_up (up.Close c) p = p
without_up up.Empty p = p
without_up (up.OnSession n u) p = p
without_up (up.Flow n i o) p = p
without_up (up.Begin n) p = p
without_up (up.End n why) p = p

abbrev pub with_begun : UpUnit → UpSent → UpSent
with_begun up.SaslHeader s = s
with_begun up.SaslInit s = s
with_begun up.AmqpHeader s = s
with_begun up.Open s = record s { «open» = true }
with_begun (up.Close c) s = record s { close = true }
with_begun up.Empty s = s
with_begun (up.OnSession n u) s = s
with_begun (up.Flow n i o) s = s
with_begun (up.Begin n) s = s
with_begun (up.End n why) s = s

-- the container's sessions after it
abbrev pub sessions_given : UpUnit → Upstream → Upstream
sessions_given up.SaslHeader c = c
sessions_given up.SaslInit c = c
sessions_given up.AmqpHeader c = c
sessions_given up.Open c = c
sessions_given (up.Close why) c = c
sessions_given up.Empty c = c
sessions_given (up.OnSession n u) c = c
sessions_given (up.Flow n i o) c = c
sessions_given (up.Begin n) c = after_begin_sent n c
sessions_given (up.End n why) c = after_end_sent n c

abbrev pub container_given : UpUnit → Option Upstream → Option Upstream
container_given u None = None
container_given u (Some c) = Some (sessions_given u c)

abbrev pub begun : UpUnit → UpState → UpState
begun u s = record s {
  container = container_given u s.container;
  pending = without_up u s.pending;
  in_progress = Some u;
  sent = with_begun u s.sent;
}

abbrev pub with_whole : Option UpUnit → UpSent → UpSent
with_whole None s = s
with_whole (Some up.SaslHeader) s = s
with_whole (Some up.SaslInit) s = s
with_whole (Some up.AmqpHeader) s = s
with_whole (Some up.Open) s = s
with_whole (Some (up.Close c)) s = record s { whole_close = true }
with_whole (Some up.Empty) s = s
with_whole (Some (up.OnSession n u)) s = s
with_whole (Some (up.Flow n i o)) s = s
with_whole (Some (up.Begin n)) s = s
with_whole (Some (up.End n why)) s = s

abbrev pub finished : ℕ → UpState → UpState
finished ms s = record s {
  in_progress = None;
  sent = with_whole s.in_progress s.sent;
  last_sent_at = ms;
}

-- the container wants the login, and it takes it
abbrev pub with_init : UpState → UpState
with_init s = record s { pending = record s.pending { init = true } }

abbrev pub with_amqp_header : UpState → UpState
with_amqp_header s = record s { pending = record s.pending { amqp_header = true } }

-- the end was shut, or couldn't be reached
abbrev pub shut_by : UpState → UpState
shut_by s = record s { side = side.Gone }

-- it ended or failed
abbrev pub lost_by : Side → UpState → UpState
lost_by x s = record s { side = x; container = ended_in s.container }

-- the first closing event of the client's connection decides the error of the gateway's close
abbrev pub closing_with : Bool → Option Condition → UpState → UpState
closing_with true why s = s
closing_with false why s = record s { condition = why }

-- ---- what is due

abbrev pub first : {A : Type 0} → List A → Option A
first [] = None
first (x ∷ xs) = Some x

abbrev pub when_up : Bool → UpUnit → List UpUnit
when_up true u = u ∷ []
when_up false u = []

-- the units of the opening, in the order in which they go
abbrev pub opening_rows : UpPending → List UpUnit
opening_rows p =
    when_up p.sasl_header up.SaslHeader ++ (when_up p.init up.SaslInit
    ++ (when_up p.amqp_header up.AmqpHeader ++ when_up p.«open» up.Open))

-- after how many milliseconds without a frame the container gives up; 0 where it doesn't
abbrev pub idle_of : Option ℕ → ℕ
idle_of None = 0
idle_of (Some ms) = ms

abbrev pub idle_in : Option Upstream → ℕ
idle_in None = 0
idle_in (Some c) = idle_of c.stated.idle

-- an empty frame is due after half of that, rounded up (AMQP 1.0 2.4.5)
abbrev pub is_idle_by : ℕ → ℕ → ℕ → Bool
is_idle_by idle ms last = not (idle == 0) && nat_le ((idle + 1) / 2) (ms - last)

abbrev pub is_idle_due : UpState → ℕ → Bool
is_idle_due s ms = s.sent.«open» && is_idle_by (idle_in s.container) ms s.last_sent_at

-- a container is given up once no byte of it came for so long, from the connect on (AMQP 1.0 2.4.5)
abbrev pub is_up_silent : UpState → ℕ → Bool
is_up_silent s ms =
    is_readable s.side && (not s.silent && nat_le UP_SILENCE (ms - s.fed_at))
