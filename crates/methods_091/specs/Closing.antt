-- The frames that close a connection (AMQP 0-9-1 1.4.2.9 and 1.4.2.10), those that answer on a
-- channel (1.5.2) and those that answer a publisher (1.6.2.2 and 1.8.3.13, with the additions of
-- RabbitMQ), and how they are written over the first bytes of a space.
use Rattle.std.specs.Prelude.{◌≡◌, ℕ, Bool, true, false, List, ◌∷◌, ◌++◌, length, drop}
use Rattle.std.specs.Int.{w8, w16, w32, w64, to_be_bytes}
use Rattle.wire_base.specs.Spelling.{text_of}
use Rattle.frames_091.specs.Frames.{frame_text}
use Rattle.frames_091.specs.declared.frame.Kind91.TheVariants.{Method}
use Rattle.methods_091.specs.Writing.{method_text}
use Rattle.methods_091.specs.declared.method.Method91.{Method91}
use Rattle.methods_091.specs.declared.method.Method91.TheVariants.{ConnectionClose}
use Rattle.methods_091.specs.declared.method.Method91.TheVariants.{ConnectionCloseOk, ChannelOpenOk}
use Rattle.methods_091.specs.declared.method.Method91.TheVariants.{ChannelFlowOk, ChannelClose}
use Rattle.methods_091.specs.declared.method.Method91.TheVariants.{ChannelCloseOk}
use Rattle.methods_091.specs.declared.method.Method91.TheVariants.{ExchangeDeclareOk}
use Rattle.methods_091.specs.declared.method.Method91.TheVariants.{ConfirmSelectOk, BasicAck}
use Rattle.methods_091.specs.declared.method.Method91.TheVariants.{BasicNack}

-- what stands before a method's payload of this length: the kind, the channel in two bytes, and the
-- length in four
abbrev pub head_text : ℕ → ℕ → List ℕ
head_text n size = 1 ∷ to_be_bytes w16 n ++ to_be_bytes w32 size

-- the frame of a method's payload on a channel
abbrev pub payload_text : ℕ → List ℕ → List ℕ
payload_text n payload = frame_text (record { kind = Method; channel = n; payload = payload })

-- the frame of a method on a channel
abbrev pub text_on : ℕ → Method91 → List ℕ
text_on n m = frame_text (record { kind = Method; channel = n; payload = method_text m })

-- the frame of a method on channel 0
abbrev pub control_text : Method91 → List ℕ
control_text m = text_on 0 m

-- the frame on a channel of the method that has these ids, a reply code, a reply text, and the ids
-- of a method
abbrev pub closing_text : ℕ → List ℕ → ℕ → List ℕ → ℕ → ℕ → List ℕ
closing_text n ids code text class method =
    payload_text n (ids ++ to_be_bytes w16 code ++ text_of w8 text ++ to_be_bytes w16 class
    ++ to_be_bytes w16 method)

-- the frame on a channel of the method that has these ids, a delivery tag and an octet of flags
abbrev pub tagged_text : ℕ → List ℕ → ℕ → ℕ → List ℕ
tagged_text n ids tag flags = payload_text n (ids ++ to_be_bytes w64 tag ++ to_be_bytes w8 flags)

-- the frame of a connection.close with this reply code and reply text, and with these ids
abbrev pub close_text : ℕ → List ℕ → ℕ → ℕ → List ℕ
close_text code text class method = control_text (ConnectionClose code text class method)

-- the frame of a connection.close-ok
abbrev pub close_ok_text : List ℕ
close_ok_text = control_text ConnectionCloseOk

-- the frame of a channel.open-ok on a channel
abbrev pub channel_open_ok_text : ℕ → List ℕ
channel_open_ok_text n = text_on n ChannelOpenOk

-- the frame of a channel.flow-ok of a channel that is active
abbrev pub flow_ok_text : ℕ → List ℕ
flow_ok_text n = text_on n (ChannelFlowOk true)

-- the frame on a channel of a channel.close with this reply code and reply text, and with these ids
abbrev pub channel_close_text : ℕ → ℕ → List ℕ → ℕ → ℕ → List ℕ
channel_close_text n code text class method = text_on n (ChannelClose code text class method)

-- the frame of a channel.close-ok on a channel
abbrev pub channel_close_ok_text : ℕ → List ℕ
channel_close_ok_text n = text_on n ChannelCloseOk

-- the frame of an exchange.declare-ok on a channel
abbrev pub declare_ok_text : ℕ → List ℕ
declare_ok_text n = text_on n ExchangeDeclareOk

-- the frame of a confirm.select-ok on a channel
abbrev pub select_ok_text : ℕ → List ℕ
select_ok_text n = text_on n ConfirmSelectOk

-- the frame on a channel of a basic.ack of this delivery tag, and of those before it if this is
-- true
abbrev pub ack_text : ℕ → ℕ → Bool → List ℕ
ack_text n tag multiple = text_on n (BasicAck tag multiple)

-- the frame on a channel of a basic.nack of this delivery tag, and of those before it if this is
-- true, without requeue
abbrev pub nack_text : ℕ → ℕ → Bool → List ℕ
nack_text n tag multiple = text_on n (BasicNack tag multiple false)

-- a text of this length was written over the first bytes; behind it stands what stood there
abbrev pub IsWrittenOver : List ℕ → List ℕ → List ℕ → ℕ → Type 0
IsWrittenOver text old new count = (new ≡ text ++ drop count old) × (count ≡ length text)
