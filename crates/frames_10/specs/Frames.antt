-- The frames of AMQP 1.0 and how they are spelled (AMQP 1.0 2.3).
use Rattle.std.specs.Prelude.{◌≡◌, ℕ, ◌+◌, ◌*◌, ◌^◌, ◌<◌, ◌≤◌, List, [], ◌∷◌, ◌++◌, length}
use Rattle.std.specs.Int.{w16, w32, to_be_bytes}
use Rattle.frames_10.specs.declared.frame.Kind10.{Kind10}
use Rattle.frames_10.specs.declared.frame.Kind10.TheVariants.{Amqp, Sasl}
use Rattle.frames_10.specs.declared.frame.Frame10.{Frame10}

-- the type byte of a frame of this kind
abbrev pub kind_byte : Kind10 → ℕ
kind_byte Amqp = 0
kind_byte Sasl = 1

-- the size of a frame with an extended header of so many words of four bytes
abbrev pub size_behind : ℕ → Frame10 → ℕ
size_behind words frame = 8 + 4 * words + length frame.body

-- the size in four bytes, the data offset in words of four bytes, the type, the channel in two
-- bytes, the extended header, and the body
unfoldable pub text_behind : ℕ → List ℕ → Frame10 → List ℕ
text_behind words extended frame =
    to_be_bytes w32 (size_behind words frame) ++
    (2 + words) ∷ kind_byte frame.kind ∷ to_be_bytes w16 frame.channel
    ++ extended ++ frame.body

-- a frame without an extended header, as it is written
abbrev pub frame_text : Frame10 → List ℕ
frame_text = text_behind 0 []

-- The bytes spell the frame, behind some extended header, and it is within the limit.
pub record IsFrame (limit : ℕ) (frame : Frame10) (bytes : List ℕ) : Type 0 where
  pub words : ℕ
  pub extended : List ℕ
  pub extended_fills : length extended ≡ 4 * words
  pub offset_fits : 2 + words < 2 ^ 8
  pub channel_fits : frame.channel < 2 ^ 16
  pub size_fits : size_behind words frame < 2 ^ 32
  pub within_limit : size_behind words frame ≤ limit
  pub spelled : bytes ≡ text_behind words extended frame
