-- The units of both byte streams, and what the line of each says behind its offset; a row for each
-- kind of unit.
use Rattle.std.specs.Prelude.{◌≡◌, ℕ, ◌-◌, ◌==◌, nat_le, Bool, false, if◌then◌else◌, List, [], ◌++◌}
use Rattle.std.specs.Prelude.{length, codes, decimal}
use Rattle.frames_091.specs.declared.frame.Kind91.{Kind91}
use Rattle.frames_091.specs.declared.frame.Kind91.TheVariants.{Method, Header, Body, Heartbeat}
use Rattle.frames_091.specs.declared.frame.Frame91.{Frame91}
use Rattle.frames_091.specs.Frames as frames_091
use Rattle.frames_091.specs.Headers as headers_091
use Rattle.methods_091.specs.Rows.{class_of, id_of}
use Rattle.methods_091.specs.Grammar as methods_091
use Rattle.content_091.specs.Properties.{Parts}
use Rattle.content_091.specs.Grammar as content_091
use Rattle.wire_base.specs.Spelling.{StandsAt}
use Rattle.types_10.specs.Tree.{Tree}
use Rattle.types_10.specs.Grammar.{IsValue}
use Rattle.frames_10.specs.declared.frame.Kind10.{Kind10}
use Rattle.frames_10.specs.declared.frame.Kind10.TheVariants.{Amqp, Sasl}
use Rattle.frames_10.specs.declared.frame.Frame10.{Frame10}
use Rattle.frames_10.specs.Frames as frames_10
use Rattle.frames_10.specs.Headers as headers_10
use Rattle.performatives_10.specs.Reading as performatives_10
use Rattle.performatives_10.specs.Grammar.{IsParts}
use Rattle.gate_listing.specs.Names.{method_name, performative_name}

-- ---- AMQP 0-9-1 (4.2.2, 4.2.3)

-- the most bytes that a frame may have
abbrev pub most_091 : ℕ
most_091 = 131072

abbrev pub frame_091 : Kind91 → ℕ → List ℕ → Frame91
frame_091 kind channel payload = record { kind = kind; channel = channel; payload = payload }

-- the bytes spell the frame
abbrev pub IsFrame091 : Frame91 → List ℕ → Type 0
IsFrame091 = frames_091.IsFrame most_091

abbrev pub method_words : ℕ → List ℕ → List ℕ
method_words channel name = codes "method " ++ (decimal channel ++ (codes " " ++ name))

abbrev pub content_words : ℕ → ℕ → List ℕ
content_words channel size = codes "content " ++ (decimal channel ++ (codes " " ++ decimal size))

abbrev pub body_words : ℕ → ℕ → List ℕ
body_words channel size = codes "body " ++ (decimal channel ++ (codes " " ++ decimal size))

abbrev pub heartbeat_words : ℕ → List ℕ
heartbeat_words channel = codes "heartbeat " ++ decimal channel

-- a method with these ids fills the payload
abbrev pub IsMethodOf : ℕ → ℕ → List ℕ → Type 0
IsMethodOf class id payload =
    (m : _) × methods_091.IsPayload m payload × (class ≡ class_of m.0) × (id ≡ id_of m.0)

-- the line of a unit at this offset, and the unit's bytes. A protocol header stands at the front of
-- the stream alone.
pub data Shows091 (at : ℕ) : List ℕ → List ℕ → Type 0 where
  HeaderLine : at ≡ 0 → Shows091 at (codes "header 0-9-1") headers_091.header_bytes
  -- the name is that of the method that fills the payload
  MethodLine : (channel class id : ℕ) (payload text : List ℕ)
      → IsFrame091 (frame_091 Method channel payload) text
      → IsMethodOf class id payload → Shows091 at (method_words channel (method_name class id)) text
  -- the size is that of the body that is to follow
  ContentLine : (channel : ℕ) (payload text : List ℕ) (h : Parts)
      → IsFrame091 (frame_091 Header channel payload) text
      → content_091.IsPayload h payload → Shows091 at (content_words channel h.0) text
  BodyLine : (channel : ℕ) (payload text : List ℕ) → IsFrame091
      (frame_091 Body channel payload) text
      → Shows091 at (body_words channel (length payload)) text
  HeartbeatLine : (channel : ℕ) (payload text : List ℕ) → IsFrame091
      (frame_091 Heartbeat channel payload) text
      → Shows091 at (heartbeat_words channel) text

-- ---- AMQP 1.0 (2.2, 2.3, 5.3)

abbrev pub most_10 : ℕ
most_10 = 65536

abbrev pub frame_10 : Kind10 → ℕ → List ℕ → Frame10
frame_10 kind channel body = record { kind = kind; channel = channel; body = body }

-- the bytes spell the frame
abbrev pub IsFrame10 : Frame10 → List ℕ → Type 0
IsFrame10 = frames_10.IsFrame most_10

-- a frame body begins with a performative of this kind and with these fields, and this is the
-- offset behind it
abbrev pub BeginsWithPerf : performatives_10.Parts → List ℕ → ℕ → Type 0
BeginsWithPerf p body after = (t : Tree) × StandsAt IsValue t body 0 after × IsParts p t

-- a frame without a body, which keeps a connection alive (AMQP 1.0 2.4.5)
abbrev pub is_empty : Kind10 → List ℕ → Bool
is_empty Amqp body = length body == 0
is_empty Sasl body = false

-- the descriptors of the frame bodies of the SASL layer (AMQP 1.0 5.3.3)
abbrev pub is_sasl : ℕ → Bool
is_sasl code = nat_le 64 code

abbrev pub header_words : Kind10 → List ℕ
header_words Amqp = codes "header amqp"
header_words Sasl = codes "header sasl"

abbrev pub empty_words : ℕ → List ℕ
empty_words channel = decimal channel ++ codes " empty"

abbrev pub sasl_words : List ℕ → List ℕ
sasl_words name = codes "sasl " ++ name

abbrev pub performed_words : ℕ → List ℕ → ℕ → List ℕ
performed_words channel name size =
    decimal channel ++ (codes " " ++ (name ++ (codes " " ++ decimal size)))

-- a frame of the SASL layer, by its type or by its performative, has no channel and no payload
abbrev pub performative_words : Kind10 → ℕ → ℕ → ℕ → List ℕ
performative_words Amqp channel code size =
    if is_sasl code then sasl_words (performative_name code) else performed_words channel
    (performative_name code) size
performative_words Sasl channel code size = sasl_words (performative_name code)

-- the line of a unit, and the unit's bytes
pub data Shows10 : List ℕ → List ℕ → Type 0 where
  HeaderLine10 : (kind : Kind10) → Shows10 (header_words kind) (headers_10.header_bytes kind)
  EmptyLine : (channel : ℕ) (text : List ℕ) → IsFrame10 (frame_10 Amqp channel []) text
      → Shows10 (empty_words channel) text
  -- the payload is what stands behind the performative
  PerformativeLine : (kind : Kind10) (channel : ℕ) (body text : List ℕ)
      (p : performatives_10.Parts) (after : ℕ)
      → IsFrame10 (frame_10 kind channel body) text → BeginsWithPerf p body after
      → Shows10 (performative_words kind channel (performatives_10.code_of p.0)
      (length body - after)) text
