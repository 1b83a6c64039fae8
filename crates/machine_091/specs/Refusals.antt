-- The order of refusals (AMQP 0-9-1 2.2.4, 4.2.3, 4.2.6 and 1.5): one list of places, of which the
-- first that applies counts. It is the same list before a connection runs and once it does. What
-- each place asks stands in RefusalsFrames, RefusalsOpening, RefusalsRunning and RefusalsContents.
use Rattle.std.specs.Prelude.{ℕ, false, if◌then◌else◌, List, [], ◌∷◌, Option, None, Some, Ok, Err}
use Rattle.close_translate.specs.declared.codes.TheConstants.{FRAME_ERROR}
use Rattle.close_translate.specs.declared.conditions.Scope.TheVariants as scope
use Rattle.frames_091.specs.declared.frame.Frame91.{Frame91}
use Rattle.frames_091.specs.declared.frame.Kind91.{Kind91}
use Rattle.frames_091.specs.declared.frame.Kind91.TheVariants as frame
use Rattle.methods_091.specs.Reading.{Read, method_in}
use Rattle.machine_091.specs.Contents.{Taking, taken}
use Rattle.machine_091.specs.Ids.{class_in, id_in}
use Rattle.machine_091.specs.RefusalsContents.{within_order, awaited_order, fault_order}
use Rattle.machine_091.specs.RefusalsContents.{publish_order}
use Rattle.machine_091.specs.RefusalsFrames.{refused, first, heartbeat_order, content_order}
use Rattle.machine_091.specs.RefusalsFrames.{is_opening, is_closing, is_answering, channel_order}
use Rattle.machine_091.specs.RefusalsFrames.{closing_order, reading_order}
use Rattle.machine_091.specs.RefusalsOpening.{expected_order, opening_refusal}
use Rattle.machine_091.specs.RefusalsRunning.{class_order, running_state, running_refusal}
use Rattle.machine_091.specs.State.{is_running, channel_at, content_at}
use Rattle.machine_091.specs.declared.ids.TheConstants.{BASIC_PUBLISH}
use Rattle.machine_091.specs.declared.state.Connection.{Connection}
use Rattle.machine_091.specs.declared.unit.Refusal.{Refusal}
use Rattle.machine_091.specs.declared.unit.Ruling.{Ruling}
use Rattle.machine_091.specs.declared.unit.Ruling.TheVariants as ruling
use Rattle.machine_091.specs.declared.unit.Unit91.{Unit91}
use Rattle.machine_091.specs.declared.unit.Unit91.TheVariants as unit

-- ---- the places of a frame

-- a heartbeat with a channel or a payload
abbrev pub heartbeat_place : Frame91 → Kind91 → Option Ruling
heartbeat_place f frame.Heartbeat = heartbeat_order f
heartbeat_place f frame.Header = None
heartbeat_place f frame.Body = None
heartbeat_place f frame.Method = None

-- a content where none may be; a method other than the expected one, and on channel 0 of a running
-- connection one of another class
abbrev pub order_place : Connection → Frame91 → Read → Kind91 → Option Ruling
order_place c f read frame.Heartbeat = None
order_place c f read frame.Header = content_order (is_running c.phase) f.channel
order_place c f read frame.Body = content_order (is_running c.phase) f.channel
order_place c f read frame.Method =
    if is_running c.phase then class_order f.channel f.payload else expected_order c read

-- a channel above the greatest, one that isn't open, and one that is opened again
abbrev pub channel_place : Connection → Frame91 → Kind91 → Option Ruling
channel_place c f frame.Heartbeat = None
channel_place c f frame.Header = channel_order c f.channel false
channel_place c f frame.Body = channel_order c f.channel false
channel_place c f frame.Method = channel_order c f.channel (is_opening f.payload)

-- what a closing channel passes over unread
abbrev pub closing_place : Connection → Frame91 → Kind91 → Option Ruling
closing_place c f frame.Heartbeat = None
closing_place c f frame.Header = closing_order c f.channel false false
closing_place c f frame.Body = closing_order c f.channel false false
closing_place c f frame.Method =
    closing_order c f.channel (is_closing f.payload) (is_answering f.payload)

-- what a header or a body makes of the content in progress on its channel
abbrev pub taken_by : Connection → Frame91 → Kind91 → Taking
taken_by c f k = taken k f.payload (content_at c f.channel)

-- a method while a content is in progress; a header or a body that isn't awaited
abbrev pub content_place : Connection → Frame91 → Kind91 → Option Ruling
content_place c f frame.Heartbeat = None
content_place c f frame.Header = awaited_order (taken_by c f frame.Header)
content_place c f frame.Body = awaited_order (taken_by c f frame.Body)
content_place c f frame.Method = within_order (content_at c f.channel)

-- a method that can't be read; a header or a body that is at fault
abbrev pub reading_place : Connection → Frame91 → Read → Kind91 → Option Ruling
reading_place c f read frame.Heartbeat = None
reading_place c f read frame.Header = fault_order (taken_by c f frame.Header)
reading_place c f read frame.Body = fault_order (taken_by c f frame.Body)
reading_place c f read frame.Method = reading_order read

-- a method out of its state
abbrev pub state_place : Connection → ℕ → Read → Kind91 → Option Ruling
state_place c n read frame.Heartbeat = None
state_place c n read frame.Header = None
state_place c n read frame.Body = None
state_place c n (Err e) frame.Method = None
state_place c n (Ok m) frame.Method =
    if is_running c.phase then running_state (channel_at c n) n m.0 else None

-- the method's own refusals; those of basic.publish, where its content is whole
abbrev pub own_place : Connection → Frame91 → Read → Kind91 → Option Ruling
own_place c f read frame.Heartbeat = None
own_place c f read frame.Header = publish_order (content_at c f.channel) (taken_by c f frame.Header)
own_place c f read frame.Body = publish_order (content_at c f.channel) (taken_by c f frame.Body)
own_place c f (Err e) frame.Method = None
own_place c f (Ok m) frame.Method =
    if is_running c.phase then running_refusal c.carried_max f.channel m.0 m.1
    else opening_refusal c m.1

-- the order
abbrev pub places : Connection → Frame91 → Read → Kind91 → List (Option Ruling)
places c f read k =
    heartbeat_place f k
    ∷ order_place c f read k
    ∷ channel_place c f k
    ∷ closing_place c f k
    ∷ content_place c f k
    ∷ reading_place c f read k
    ∷ state_place c f.channel read k
    ∷ own_place c f read k
    ∷ []

-- what the order says of a frame; None where the frame counts
abbrev pub frame_ruling : Connection → Frame91 → Option Ruling
frame_ruling c f = first (places c f (method_in f.payload) f.kind)

-- before all these places: bytes with which no unit begins, and a second protocol header, whose
-- first byte is the kind of no frame
abbrev pub unit_ruling : Connection → Unit91 → Option Ruling
unit_ruling c unit.Protocol = refused FRAME_ERROR
unit_ruling c (unit.Bad code) = refused code
unit_ruling c (unit.Frame f) = frame_ruling c f

-- ---- the refusal

-- of the connection, with these ids
abbrev pub refusal_with : ℕ → ℕ → ℕ → Refusal
refusal_with code class method = record {
  code = code;
  scope = scope.Connection;
  channel = 0;
  class = class;
  method = method;
}

-- of a frame: with the ids of a method, and without ids for any other kind
abbrev pub refusal_by : Kind91 → ℕ → List ℕ → Refusal
refusal_by frame.Method code payload = refusal_with code (class_in payload) (id_in payload)
refusal_by frame.Header code payload = refusal_with code 0 0
refusal_by frame.Body code payload = refusal_with code 0 0
refusal_by frame.Heartbeat code payload = refusal_with code 0 0

-- of a unit
abbrev pub refusal_of : ℕ → Unit91 → Refusal
refusal_of code unit.Protocol = refusal_with code 0 0
refusal_of code (unit.Bad c) = refusal_with code 0 0
refusal_of code (unit.Frame f) = refusal_by f.kind code f.payload

-- of basic.publish, where its content is whole
abbrev pub publish_refusal : ℕ → Refusal
publish_refusal code = refusal_with code BASIC_PUBLISH.0 BASIC_PUBLISH.1

-- of a channel: no method is at fault
abbrev pub channel_refusal : ℕ → ℕ → Refusal
channel_refusal code n = record {
  code = code;
  scope = scope.Channel;
  channel = n;
  class = 0;
  method = 0;
}

-- the channel of a unit
abbrev pub channel_of : Unit91 → ℕ
channel_of unit.Protocol = 0
channel_of (unit.Bad code) = 0
channel_of (unit.Frame f) = f.channel

-- the refusal that a place of the order tells
abbrev pub refusal_by_order : Option Ruling → Unit91 → Option Refusal
refusal_by_order None u = None
refusal_by_order (Some (ruling.Refused code)) u = Some (refusal_of code u)
refusal_by_order (Some (ruling.MethodRefused code)) u = Some (publish_refusal code)
refusal_by_order (Some (ruling.ChannelRefused code)) u =
    Some (channel_refusal code (channel_of u))
refusal_by_order (Some ruling.PassedOver) u = None
