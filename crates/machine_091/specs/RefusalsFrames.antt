-- The places of the order of refusals that ask the same of each frame, in every phase (AMQP 0-9-1
-- 4.2.3, 4.2.6, 4.2.7 and 1.5).
use Rattle.std.specs.Prelude.{ℕ, Bool, ◌&&◌, ◌==◌, nat_lt, if◌then◌else◌, List, [], ◌∷◌, length}
use Rattle.std.specs.Prelude.{Option, Some, None, Ok, Err}
use Rattle.close_translate.specs.declared.codes.TheConstants.{FRAME_ERROR, CHANNEL_ERROR}
use Rattle.close_translate.specs.declared.codes.TheConstants.{UNEXPECTED_FRAME, NOT_IMPLEMENTED}
use Rattle.close_translate.specs.declared.codes.TheConstants.{SYNTAX_ERROR}
use Rattle.frames_091.specs.declared.frame.Frame91.{Frame91}
use Rattle.methods_091.specs.Reading.{Read}
use Rattle.methods_091.specs.declared.reading.MethodFault.{MethodFault}
use Rattle.methods_091.specs.declared.reading.MethodFault.TheVariants as fault
use Rattle.machine_091.specs.Ids.{is_in}
use Rattle.machine_091.specs.State.{channel_at}
use Rattle.machine_091.specs.declared.ids.TheConstants.{CHANNEL_OPEN, CHANNEL_CLOSE}
use Rattle.machine_091.specs.declared.ids.TheConstants.{CHANNEL_CLOSE_OK}
use Rattle.machine_091.specs.declared.state.Channel91.{Channel91}
use Rattle.machine_091.specs.declared.state.Channel91.TheVariants as channel
use Rattle.machine_091.specs.declared.state.Connection.{Connection}
use Rattle.machine_091.specs.declared.unit.Ruling.{Ruling}
use Rattle.machine_091.specs.declared.unit.Ruling.TheVariants as ruling

-- a place that applies refuses with a code
abbrev pub refused : ℕ → Option Ruling
refused code = Some (ruling.Refused code)

-- of some places, the first that applies
abbrev pub first : List (Option Ruling) → Option Ruling
first [] = None
first (Some r ∷ places) = Some r
first (None ∷ places) = first places

-- ---- a heartbeat

-- it stands on channel 0 and has no payload
abbrev pub heartbeat_order : Frame91 → Option Ruling
heartbeat_order f = if f.channel == 0 && length f.payload == 0 then None else refused FRAME_ERROR

-- ---- a content

-- a content header or body stands on another channel than 0, and only once the connection runs
abbrev pub content_order : Bool → ℕ → Option Ruling
content_order running n =
    if n == 0 then refused CHANNEL_ERROR else if running then None else refused UNEXPECTED_FRAME

-- ---- the channel of a method or a content

abbrev pub is_opening : List ℕ → Bool
is_opening payload = is_in CHANNEL_OPEN payload

-- the methods that end a channel
abbrev pub is_closing : List ℕ → Bool
is_closing payload = is_in CHANNEL_CLOSE payload

abbrev pub is_answering : List ℕ → Bool
is_answering payload = is_in CHANNEL_CLOSE_OK payload

-- a channel that isn't open, unless it is opened; and one that is open, where it is opened again
abbrev pub state_order : Channel91 → Bool → Option Ruling
state_order channel.Free opening = if opening then None else refused CHANNEL_ERROR
state_order channel.Open opening = if opening then refused CHANNEL_ERROR else None
state_order channel.Closing opening = None
state_order channel.Told opening = None

-- a channel above the greatest, or one in another state
abbrev pub channel_order : Connection → ℕ → Bool → Option Ruling
channel_order c n opening =
    if n == 0 then None
    else if nat_lt c.limits.channel_max n then refused CHANNEL_ERROR
    else state_order (channel_at c n) opening

-- on a closing channel all is passed over unread, except channel.close, and channel.close-ok where
-- the gateway's channel.close went out
abbrev pub passed_over : Channel91 → Bool → Bool → Option Ruling
passed_over channel.Free closes answers = None
passed_over channel.Open closes answers = None
passed_over channel.Closing closes answers = if closes then None else Some ruling.PassedOver
passed_over channel.Told closes answers =
    if closes then None else if answers then None else Some ruling.PassedOver

abbrev pub closing_order : Connection → ℕ → Bool → Bool → Option Ruling
closing_order c n closes answers =
    if n == 0 then None else passed_over (channel_at c n) closes answers

-- ---- reading a method

abbrev pub fault_code : MethodFault → ℕ
fault_code fault.UnknownMethod = NOT_IMPLEMENTED
fault_code fault.Syntax = SYNTAX_ERROR

-- a method that can't be read
abbrev pub reading_order : Read → Option Ruling
reading_order (Ok m) = None
reading_order (Err e) = refused (fault_code e.fault)
