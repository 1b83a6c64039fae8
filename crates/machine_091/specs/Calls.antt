-- What each call but that for a unit makes of a connection: the container upstream opened; a
-- closing event that no unit told; the gateway's channel.close and channel.close-ok; the end of the
-- client's stream (AMQP 0-9-1 2.2.4 and 1.5). A content in progress is dropped where its channel
-- closes.
use Rattle.std.specs.Prelude.{ℕ, Bool, if◌then◌else◌, List, Option, None}
use Rattle.close_translate.specs.declared.conditions.Scope.{Scope}
use Rattle.close_translate.specs.declared.conditions.Scope.TheVariants as scope
use Rattle.machine_091.specs.Contents.{no_contents}
use Rattle.machine_091.specs.State.{channel_at, with_channel, with_content}
use Rattle.machine_091.specs.declared.contents.Incoming.{Incoming}
use Rattle.machine_091.specs.declared.state.Channel91.{Channel91}
use Rattle.machine_091.specs.declared.state.Channel91.TheVariants as channel
use Rattle.machine_091.specs.declared.state.Connection.{Connection}
use Rattle.machine_091.specs.declared.state.Phase91.{Phase91}
use Rattle.machine_091.specs.declared.state.Phase91.TheVariants as phase
use Rattle.machine_091.specs.declared.state.Stream91.TheVariants as stream

-- the container upstream opened: a connection runs once its client asked for that
abbrev pub opened_phase : Bool → Phase91 → Phase91
opened_phase asked phase.Header = phase.Header
opened_phase asked phase.Start = phase.Start
opened_phase asked phase.Tune = phase.Tune
opened_phase asked phase.Open = if asked then phase.Running else phase.Open
opened_phase asked phase.Running = phase.Running
opened_phase asked phase.Closing = phase.Closing
opened_phase asked phase.Closed = phase.Closed

-- it takes channels up to this number
abbrev pub after_opened : ℕ → Connection → Connection
after_opened max c = record c { phase = opened_phase c.asked c.phase; carried_max = max }

-- the phase after the closing event of the connection
abbrev pub closing_phase : Phase91 → Phase91
closing_phase phase.Header = phase.Closing
closing_phase phase.Start = phase.Closing
closing_phase phase.Tune = phase.Closing
closing_phase phase.Open = phase.Closing
closing_phase phase.Running = phase.Closing
closing_phase phase.Closing = phase.Closing
closing_phase phase.Closed = phase.Closed

-- contents in progress are dropped by the first of these
abbrev pub closing_contents : Phase91 → List (Option Incoming) → List (Option Incoming)
closing_contents phase.Header xs = no_contents
closing_contents phase.Start xs = no_contents
closing_contents phase.Tune xs = no_contents
closing_contents phase.Open xs = no_contents
closing_contents phase.Running xs = no_contents
closing_contents phase.Closing xs = xs
closing_contents phase.Closed xs = xs

-- the closing event of a channel, where it is open
abbrev pub closing_channel : Channel91 → ℕ → Connection → Connection
closing_channel channel.Free n c = c
closing_channel channel.Open n c = with_content (with_channel c n channel.Closing) n None
closing_channel channel.Closing n c = c
closing_channel channel.Told n c = c

-- a closing event of the connection or of a channel
abbrev pub after_closing : Scope → ℕ → Connection → Connection
after_closing scope.Channel n c = closing_channel (channel_at c n) n c
after_closing scope.Connection n c =
    record c { phase = closing_phase c.phase; contents = closing_contents c.phase c.contents }

-- the gateway's channel.close went out, where the channel is closing
abbrev pub told_channel : Channel91 → ℕ → Connection → Connection
told_channel channel.Free n c = c
told_channel channel.Open n c = c
told_channel channel.Closing n c = with_channel c n channel.Told
told_channel channel.Told n c = c

abbrev pub after_told : ℕ → Connection → Connection
after_told n c = told_channel (channel_at c n) n c

-- the gateway's channel.close-ok ends the life of a channel, unless its channel.close went out:
-- then the client's answer does
abbrev pub freed_channel : Channel91 → ℕ → Connection → Connection
freed_channel channel.Free n c = c
freed_channel channel.Open n c = c
freed_channel channel.Closing n c = with_channel c n channel.Free
freed_channel channel.Told n c = c

abbrev pub after_closed : ℕ → Connection → Connection
after_closed n c = freed_channel (channel_at c n) n c

-- the client's end ended: a connection.close that asks for no answer
abbrev pub after_ended : Connection → Connection
after_ended c = record c { phase = phase.Closed; stream = stream.Ended; contents = no_contents }
