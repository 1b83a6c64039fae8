-- The state of a client's connection (AMQP 0-9-1 2.2.4 and 1.5): before any unit, what is awaited
-- of its client, which channels are open, and which contents are in progress.
use Rattle.std.specs.Prelude.{ℕ, Bool, true, false, ◌&&◌, List, replicate, slice_get, slice_set}
use Rattle.std.specs.Prelude.{Option, None, Some}
use Rattle.machine_091.specs.Contents.{no_contents}
use Rattle.machine_091.specs.Limits.{own_limits}
use Rattle.machine_091.specs.declared.state.Awaited91.{Awaited91}
use Rattle.machine_091.specs.declared.state.Awaited91.TheVariants as awaited
use Rattle.machine_091.specs.declared.state.Channel91.{Channel91}
use Rattle.machine_091.specs.declared.state.Channel91.TheVariants as channel
use Rattle.machine_091.specs.declared.contents.Incoming.{Incoming}
use Rattle.machine_091.specs.declared.state.Connection.{Connection}
use Rattle.machine_091.specs.declared.state.Phase91.{Phase91}
use Rattle.machine_091.specs.declared.state.Phase91.TheVariants as phase
use Rattle.machine_091.specs.declared.state.Stream91.{Stream91}
use Rattle.machine_091.specs.declared.state.Stream91.TheVariants as stream

-- no channel is open
unfoldable pub no_channels : List Channel91
no_channels = replicate 256 channel.Free

-- a connection of which nothing was read yet, to this virtual host
abbrev pub new_connection : List ℕ → Connection
new_connection vhost = record {
  vhost = vhost;
  phase = phase.Header;
  stream = stream.Header;
  asked = false;
  limits = own_limits;
  carried_max = 0;
  channels = no_channels;
  contents = no_contents;
}

-- ---- phases

-- channels may be opened
abbrev pub is_running : Phase91 → Bool
is_running phase.Header = false
is_running phase.Start = false
is_running phase.Tune = false
is_running phase.Open = false
is_running phase.Running = true
is_running phase.Closing = false
is_running phase.Closed = false

-- connection.open came where it was expected, and the container upstream is to open
abbrev pub is_open_phase : Phase91 → Bool
is_open_phase phase.Header = false
is_open_phase phase.Start = false
is_open_phase phase.Tune = false
is_open_phase phase.Open = true
is_open_phase phase.Running = false
is_open_phase phase.Closing = false
is_open_phase phase.Closed = false

abbrev pub is_opening : Connection → Bool
is_opening c = is_open_phase c.phase && c.asked

-- the closing event of the connection came
abbrev pub is_closing_phase : Phase91 → Bool
is_closing_phase phase.Header = false
is_closing_phase phase.Start = false
is_closing_phase phase.Tune = false
is_closing_phase phase.Open = false
is_closing_phase phase.Running = false
is_closing_phase phase.Closing = true
is_closing_phase phase.Closed = true

abbrev pub is_closing : Connection → Bool
is_closing c = is_closing_phase c.phase

-- ---- the client's bytes

-- what is awaited: the protocol header, then frames; nothing once the stream has ended in any way
abbrev pub awaited_in : Stream91 → ℕ → Awaited91
awaited_in stream.Header size = awaited.Header
awaited_in stream.Frames size = awaited.Frame size
awaited_in stream.Foreign size = awaited.Nothing
awaited_in stream.Bad size = awaited.Nothing
awaited_in stream.Answered size = awaited.Nothing
awaited_in stream.Ended size = awaited.Nothing

abbrev pub awaits : Connection → Awaited91
awaits c = awaited_in c.stream c.limits.frame_max

-- the client's end is to be shut, whatever is due to it: its connection.close-ok came, or it ended
abbrev pub is_over_stream : Stream91 → Bool
is_over_stream stream.Header = false
is_over_stream stream.Frames = false
is_over_stream stream.Foreign = false
is_over_stream stream.Bad = false
is_over_stream stream.Answered = true
is_over_stream stream.Ended = true

abbrev pub is_over : Connection → Bool
is_over c = is_over_stream c.stream

-- ---- channels

-- no number above the last is of a channel
abbrev pub or_free : Option Channel91 → Channel91
or_free None = channel.Free
or_free (Some s) = s

-- the state of a channel
abbrev pub channel_at : Connection → ℕ → Channel91
channel_at c n = or_free (slice_get c.channels n)

-- a channel in another state
abbrev pub with_channel : Connection → ℕ → Channel91 → Connection
with_channel c n s = record c { channels = slice_set c.channels n s }

abbrev pub is_open_channel : Channel91 → Bool
is_open_channel channel.Free = false
is_open_channel channel.Open = true
is_open_channel channel.Closing = false
is_open_channel channel.Told = false

-- a channel is open, and neither it nor the connection is closing
abbrev pub is_open : Connection → ℕ → Bool
is_open c n = is_running c.phase && is_open_channel (channel_at c n)

-- ---- contents

abbrev pub or_no_content : Option (Option Incoming) → Option Incoming
or_no_content None = None
or_no_content (Some o) = o

-- the content in progress on a channel
abbrev pub content_at : Connection → ℕ → Option Incoming
content_at c n = or_no_content (slice_get c.contents n)

-- another content in progress on a channel, or none
abbrev pub with_content : Connection → ℕ → Option Incoming → Connection
with_content c n o = record c { contents = slice_set c.contents n o }
