-- A message of AMQP 1.0 as a client of AMQP 0-9-1 gets it, as a function of its bytes (AMQP 1.0
-- 3.2; AMQP 0-9-1 1.8.3).
use Rattle.std.specs.Prelude.{ℕ, ◌≤◌, Bool, List, length, Option, Some, None, Ok, Err, Result}
use Rattle.wire_base.specs.declared.scan.At.{At}
use Rattle.content_091.specs.Writing.{header_text, CanPut}
use Rattle.content_091.specs.declared.header.Header91.{Header91}
use Rattle.sections_10.specs.View.{Kept}
use Rattle.sections_10.specs.Reading.{message_in}
use Rattle.sections_10.specs.declared.reading.SectionFault.{SectionFault}
use Rattle.property_map.specs.Facts.{Facts, facts_in}
use Rattle.property_map.specs.Image091.{image_by, is_delivered_again}
use Rattle.property_map.specs.declared.fault.MapFault.{MapFault}
use Rattle.property_map.specs.declared.message.Message091.{Message091}
use Rattle.property_map.specs.declared.received.Received.{Received}

-- ---- what is received

-- an image, and whether it was delivered before
abbrev pub received_with : Bool → Result Message091 MapFault → Option Received
received_with again (Ok m) = Some (record { message = m; again = again })
received_with again (Err f) = None

-- what is received of a message of which this is so
abbrev pub received_by : List ℕ → ℕ → Facts → Option Received
received_by queue room f = received_with (is_delivered_again f) (image_by queue room f)

abbrev pub received_of : List ℕ → ℕ → Result Kept (At SectionFault) → Option Received
received_of queue room (Ok k) = received_by queue room (facts_in k)
received_of queue room (Err e) = None

-- what a client of this queue receives of the message that these bytes are, where a content header
-- has at most so many bytes; None where they are no message, or one without an image
unfoldable pub received_in : List ℕ → ℕ → List ℕ → Option Received
received_in queue room bytes = received_of queue room (message_in bytes)

-- ---- what can be written

-- the length of the body, and the properties
abbrev pub header_of : Message091 → Header91
header_of m = record { size = length m.body; props = m.props }

-- the names are short strings (AMQP 0-9-1 4.2.5.3), and the content header can be written, in at
-- most so many bytes
pub record CanBeSent (room : ℕ) (m : Message091) : Type 0 where
  pub exchange : length m.exchange ≤ 255
  pub key : length m.key ≤ 255
  pub header : CanPut (header_of m)
  pub fits : length (header_text (header_of m)) ≤ room
