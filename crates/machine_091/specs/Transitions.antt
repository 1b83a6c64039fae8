-- The transitions of a connection (AMQP 0-9-1 2.2.4 and 1.5): for each phase and each unit the
-- state after it, and what the unit wants.
use Rattle.std.specs.Prelude.{ℕ, Bool, true, false, ◌&&◌, ◌||◌, ◌==◌, if◌then◌else◌, List, Option}
use Rattle.std.specs.Prelude.{Some, None, Ok, Err}
use Rattle.frames_091.specs.declared.frame.Kind91.{Kind91}
use Rattle.frames_091.specs.declared.frame.Kind91.TheVariants as frame
use Rattle.methods_091.specs.Rows.{Kind}
use Rattle.methods_091.specs.Arguments.{Arg}
use Rattle.methods_091.specs.Reading.{Read, method_in}
use Rattle.methods_091.specs.declared.method.Method91.TheVariants as method
use Rattle.machine_091.specs.Calls.{after_closing}
use Rattle.machine_091.specs.Contents.{no_contents, begun, Taking, taken}
use Rattle.machine_091.specs.Ids.{is_of_kind}
use Rattle.machine_091.specs.Limits.{agreed_limits}
use Rattle.machine_091.specs.Refusals.{unit_ruling, refusal_of, publish_refusal, channel_refusal}
use Rattle.machine_091.specs.Refusals.{channel_of}
use Rattle.machine_091.specs.Methods.{text_at, number_at, close_of, flow_of, declare_of, publish_of}
use Rattle.machine_091.specs.Methods.{select_of, consume_of, ack_of, reject_of, nack_of, qos_of}
use Rattle.machine_091.specs.Methods.{cancel_of, recover_of, recover_async_of, queue_declare_of}
use Rattle.machine_091.specs.Methods.{get_of}
use Rattle.close_translate.specs.declared.codes.TheConstants.{NOT_ALLOWED}
use Rattle.close_translate.specs.declared.conditions.Scope.TheVariants as scope
use Rattle.content_091.specs.declared.assembly.Step.TheVariants as step
use Rattle.machine_091.specs.State.{channel_at, content_at, is_open_phase, is_running, with_channel}
use Rattle.machine_091.specs.State.{with_content}
use Rattle.machine_091.specs.declared.contents.Incoming.{Incoming}
use Rattle.machine_091.specs.declared.ids.TheConstants.{CONNECTION_CLOSE, CONNECTION_CLOSE_OK}
use Rattle.machine_091.specs.declared.ids.TheConstants.{CHANNEL_OPEN, CHANNEL_FLOW, CHANNEL_CLOSE}
use Rattle.machine_091.specs.declared.ids.TheConstants.{EXCHANGE_DECLARE, BASIC_PUBLISH}
use Rattle.machine_091.specs.declared.ids.TheConstants.{CONFIRM_SELECT, BASIC_CONSUME, BASIC_ACK}
use Rattle.machine_091.specs.declared.ids.TheConstants.{BASIC_REJECT, BASIC_NACK, BASIC_QOS}
use Rattle.machine_091.specs.declared.ids.TheConstants.{BASIC_CANCEL, BASIC_RECOVER}
use Rattle.machine_091.specs.declared.ids.TheConstants.{BASIC_GET, BASIC_RECOVER_ASYNC}
use Rattle.machine_091.specs.declared.ids.TheConstants.{QUEUE_DECLARE}
use Rattle.machine_091.specs.declared.state.Channel91.{Channel91}
use Rattle.machine_091.specs.declared.state.Channel91.TheVariants as channel
use Rattle.machine_091.specs.declared.state.Connection.{Connection}
use Rattle.machine_091.specs.declared.state.Phase91.{Phase91}
use Rattle.machine_091.specs.declared.state.Phase91.TheVariants as phase
use Rattle.machine_091.specs.declared.state.Stream91.{Stream91}
use Rattle.machine_091.specs.declared.state.Stream91.TheVariants as stream
use Rattle.machine_091.specs.declared.unit.Ruling.{Ruling}
use Rattle.machine_091.specs.declared.unit.Ruling.TheVariants as ruling
use Rattle.machine_091.specs.declared.unit.Unit91.{Unit91}
use Rattle.machine_091.specs.declared.unit.Unit91.TheVariants as unit
use Rattle.machine_091.specs.declared.unit.Want91.{Want91}
use Rattle.machine_091.specs.declared.unit.Want91.TheVariants as want

-- a state, and what a unit wants
abbrev pub Step : Type 0
Step = Connection × Want91

-- ---- the client's bytes

-- the protocol header was the first unit
abbrev pub greeted : Stream91 → Stream91
greeted stream.Header = stream.Frames
greeted stream.Frames = stream.Frames
greeted stream.Foreign = stream.Foreign
greeted stream.Bad = stream.Bad
greeted stream.Answered = stream.Answered
greeted stream.Ended = stream.Ended

-- bytes with which no unit begins end the stream
abbrev pub stream_after : Unit91 → Stream91 → Stream91
stream_after unit.Protocol s = greeted s
stream_after (unit.Frame f) s = s
stream_after (unit.Bad code) s = stream.Bad

abbrev pub with_stream : Unit91 → Connection → Connection
with_stream u c = record c { stream = stream_after u c.stream }

-- ---- the first unit

-- the protocol header, or bytes that are none
abbrev pub header_step : Connection → Unit91 → Step
header_step c unit.Protocol = (record c { phase = phase.Start; stream = stream.Frames }, want.Start)
header_step c (unit.Frame f) =
    (record c { phase = phase.Closed; stream = stream.Foreign }, want.Nothing)
header_step c (unit.Bad code) =
    (record c { phase = phase.Closed; stream = stream.Foreign }, want.Nothing)

-- ---- a unit that the order of refusals asks about

-- the expected method in each phase before the connection runs
abbrev pub opening_effect : Connection → List Arg → Phase91 → Step
opening_effect c args phase.Header = (c, want.Nothing)
opening_effect c args phase.Start =
    (record c { phase = phase.Tune }, want.Login (text_at 1 args) (text_at 2 args))
opening_effect c args phase.Tune = (
  record c {
    phase = phase.Open;
    limits = agreed_limits (number_at 0 args) (number_at 1 args)
        (number_at 2 args);
  },
  want.Tuned,
)
opening_effect c args phase.Open = (record c { asked = true }, want.OpenUp)
opening_effect c args phase.Running = (c, want.Nothing)
opening_effect c args phase.Closing = (c, want.Nothing)
opening_effect c args phase.Closed = (c, want.Nothing)

-- a channel that its client closes; the gateway's channel.close may have gone out
abbrev pub closed_by : Channel91 → Channel91
closed_by channel.Free = channel.Closing
closed_by channel.Open = channel.Closing
closed_by channel.Closing = channel.Closing
closed_by channel.Told = channel.Told

-- a method of a channel: channel.open, close and flow, exchange.declare, queue.declare,
-- confirm.select, basic.consume, get, cancel, qos, ack, reject, nack, recover and recover-async,
-- basic.publish, which begins a content, and channel.close-ok
abbrev pub channel_effect : Connection → ℕ → Kind → List Arg → Step
channel_effect c n k args =
    if is_of_kind CHANNEL_OPEN k then
    (with_channel c n channel.Open, want.Method n method.ChannelOpen)
    else if is_of_kind CHANNEL_CLOSE k then
    (with_channel c n (closed_by (channel_at c n)), want.Method n (close_of args))
    else if is_of_kind CHANNEL_FLOW k then (c, want.Method n (flow_of args))
    else if is_of_kind EXCHANGE_DECLARE k then (c, want.Method n (declare_of args))
    else if is_of_kind QUEUE_DECLARE k then (c, want.Method n (queue_declare_of args))
    else if is_of_kind CONFIRM_SELECT k then (c, want.Method n (select_of args))
    else if is_of_kind BASIC_CONSUME k then (c, want.Method n (consume_of args))
    else if is_of_kind BASIC_GET k then (c, want.Method n (get_of args))
    else if is_of_kind BASIC_ACK k then (c, want.Method n (ack_of args))
    else if is_of_kind BASIC_REJECT k then (c, want.Method n (reject_of args))
    else if is_of_kind BASIC_NACK k then (c, want.Method n (nack_of args))
    else if is_of_kind BASIC_QOS k then (c, want.Method n (qos_of args))
    else if is_of_kind BASIC_CANCEL k then (c, want.Method n (cancel_of args))
    else if is_of_kind BASIC_RECOVER k then (c, want.Method n (recover_of args))
    else if is_of_kind BASIC_RECOVER_ASYNC k then (c, want.Method n (recover_async_of args))
    else if is_of_kind BASIC_PUBLISH k then
    (with_content c n (Some (begun (publish_of args))), want.Nothing)
    else (with_channel c n channel.Free, want.ChannelCloseOk n)

-- a method once the connection runs: on channel 0 it is connection.close
abbrev pub running_effect : Connection → ℕ → Kind → List Arg → Step
running_effect c n k args =
    if n == 0 then (record c { phase = phase.Closed; contents = no_contents }, want.Close)
    else channel_effect c n k args

-- a method that counts
abbrev pub method_effect : Connection → ℕ → Read → Step
method_effect c n (Ok m) =
    if is_running c.phase then running_effect c n m.0 m.1 else opening_effect c m.1 c.phase
method_effect c n (Err e) = (c, want.Nothing)

-- a frame of the content in progress on a channel: the content is handed out once it is whole
abbrev pub content_effect : Connection → ℕ → Option Incoming → Taking → Step
content_effect c n None t = (c, want.Nothing)
content_effect c n (Some i) (Err e) = (c, want.Nothing)
content_effect c n (Some i) (Ok (a, step.More)) =
    (with_content c n (Some (record i { assembly = a })), want.Nothing)
content_effect c n (Some i) (Ok (a, step.Whole d)) =
    (with_content c n None, want.Publish n i.method d)

-- a unit that counts; a heartbeat wants nothing
abbrev pub frame_effect : Connection → ℕ → List ℕ → Kind91 → Step
frame_effect c n payload frame.Method = method_effect c n (method_in payload)
frame_effect c n payload frame.Header =
    content_effect c n (content_at c n) (taken frame.Header payload (content_at c n))
frame_effect c n payload frame.Body =
    content_effect c n (content_at c n) (taken frame.Body payload (content_at c n))
frame_effect c n payload frame.Heartbeat = (c, want.Nothing)

abbrev pub unit_effect : Connection → Unit91 → Step
unit_effect c (unit.Frame f) = frame_effect c f.channel f.payload f.kind
unit_effect c unit.Protocol = (c, want.Nothing)
unit_effect c (unit.Bad code) = (c, want.Nothing)

-- a connection.open counts as one also where it names another virtual host; in the phase that
-- expects it no other unit gets that code
abbrev pub asked_by : Connection → ℕ → Bool
asked_by c code = c.asked || (is_open_phase c.phase && code == NOT_ALLOWED)

-- the connection closes by a refusal with this reply code
abbrev pub refused : Connection → Unit91 → ℕ → Connection
refused c u code = record c {
  phase = phase.Closing;
  stream = stream_after u c.stream;
  asked = asked_by c code;
  contents = no_contents;
}

-- what the order of refusals says, or else what the unit does
abbrev pub ruled_step : Connection → Unit91 → Option Ruling → Step
ruled_step c u None = unit_effect c u
ruled_step c u (Some ruling.PassedOver) = (c, want.Nothing)
ruled_step c u (Some (ruling.Refused code)) = (refused c u code, want.Refuse (refusal_of code u))
ruled_step c u (Some (ruling.MethodRefused code)) =
    (refused c u code, want.Refuse (publish_refusal code))
ruled_step c u (Some (ruling.ChannelRefused code)) = (
  after_closing scope.Channel (channel_of u) c,
  want.Refuse (channel_refusal code
      (channel_of u)),
)

abbrev pub ordered_step : Connection → Unit91 → Step
ordered_step c u = ruled_step c u (unit_ruling c u)

-- ---- after a closing event

-- a method of the class connection on channel 0 that can be read
abbrev pub is_read_as : ℕ × ℕ → Read → Bool
is_read_as ids (Ok m) = is_of_kind ids m.0
is_read_as ids (Err e) = false

abbrev pub is_frame_of : ℕ × ℕ → ℕ → List ℕ → Kind91 → Bool
is_frame_of ids n payload frame.Method = n == 0 && is_read_as ids (method_in payload)
is_frame_of ids n payload frame.Header = false
is_frame_of ids n payload frame.Body = false
is_frame_of ids n payload frame.Heartbeat = false

abbrev pub is_unit_of : ℕ × ℕ → Unit91 → Bool
is_unit_of ids unit.Protocol = false
is_unit_of ids (unit.Bad code) = false
is_unit_of ids (unit.Frame f) = is_frame_of ids f.channel f.payload f.kind

-- the client's answer to the gateway's close ends the stream; any other unit is passed over
abbrev pub closed_step : Connection → Unit91 → Step
closed_step c u =
    if is_unit_of CONNECTION_CLOSE_OK u then
    (record c { phase = phase.Closed; stream = stream.Answered }, want.CloseOk)
    else (with_stream u c, want.Nothing)

-- until the client closed, its close counts too
abbrev pub closing_step : Connection → Unit91 → Step
closing_step c u =
    if is_unit_of CONNECTION_CLOSE u then (record c { phase = phase.Closed }, want.Close)
    else closed_step c u

-- ---- the table

abbrev pub step_in : Phase91 → Connection → Unit91 → Step
step_in phase.Header = header_step
step_in phase.Start = ordered_step
step_in phase.Tune = ordered_step
step_in phase.Open = ordered_step
step_in phase.Running = ordered_step
step_in phase.Closing = closing_step
step_in phase.Closed = closed_step

-- the state after a unit, and what it wants
abbrev pub unit_step : Connection → Unit91 → Step
unit_step c u = step_in c.phase c u
