-- The frames of AMQP 0-9-1 and how they are spelled (AMQP 0-9-1 4.2.3).
use Rattle.std.specs.Prelude.{◌≡◌, ℕ, ◌+◌, ◌^◌, ◌<◌, ◌≤◌, List, [], ◌∷◌, ◌++◌, length}
use Rattle.std.specs.Int.{w16, w32, to_be_bytes}
use Rattle.frames_091.specs.declared.frame.Kind91.{Kind91}
use Rattle.frames_091.specs.declared.frame.Kind91.TheVariants.{Method, Header, Body, Heartbeat}
use Rattle.frames_091.specs.declared.frame.Frame91.{Frame91}

-- the first byte of a frame of this kind
abbrev pub kind_byte : Kind91 → ℕ
kind_byte Method = 1
kind_byte Header = 2
kind_byte Body = 3
kind_byte Heartbeat = 8

-- the kind, the channel in two bytes, the payload's length in four, the payload, and the end byte
unfoldable pub frame_text : Frame91 → List ℕ
frame_text frame =
    kind_byte frame.kind ∷ to_be_bytes w16 frame.channel ++ to_be_bytes w32
    (length frame.payload) ++ frame.payload ++ 206 ∷ []

-- The bytes spell the frame, and it is within the limit.
pub record IsFrame (limit : ℕ) (frame : Frame91) (bytes : List ℕ) : Type 0 where
  pub channel_fits : frame.channel < 65536
  pub within_limit : length frame.payload + 8 ≤ limit
  pub payload_fits : length frame.payload < 2 ^ 32
  pub spelled : bytes ≡ frame_text frame
