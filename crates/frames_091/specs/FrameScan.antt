-- How the first frame of a stream is scanned, as a function of the bytes that came so far (AMQP
-- 0-9-1 4.2.3).
use Rattle.std.specs.Prelude.{ℕ, ◌+◌, ◌==◌, if◌then◌else◌, nat_lt, List, [], ◌∷◌, length, take}
use Rattle.std.specs.Prelude.{drop, Option, None, Some, slice_index}
use Rattle.std.specs.Int.{w16, w32, from_be_bytes}
use Rattle.wire_base.specs.declared.scan.At.{At}
use Rattle.wire_base.specs.declared.scan.Scan.{Scan}
use Rattle.wire_base.specs.declared.scan.Scan.TheVariants.{Whole, More, Bad}
use Rattle.frames_091.specs.declared.frame.Kind91.{Kind91}
use Rattle.frames_091.specs.declared.frame.Kind91.TheVariants.{Method, Header, Body, Heartbeat}
use Rattle.frames_091.specs.declared.frame.Frame91.{Frame91}
use Rattle.frames_091.specs.declared.frame.FrameFault.{FrameFault}
use Rattle.frames_091.specs.declared.frame.FrameFault.TheVariants as fault

-- the kind whose byte this is
abbrev pub kind_of : ℕ → Option Kind91
kind_of byte =
    if byte == 1 then Some Method else (if byte == 2 then Some Header else
    (if byte == 3 then Some Body else (if byte == 8 then Some Heartbeat else None)))

-- the size that a frame states: the four bytes from place 3, where those that are not there count
-- as zeros
unfoldable pub stated_size : List ℕ → ℕ
stated_size bytes = from_be_bytes w32 (drop 3 bytes)

-- the frame of this kind that the bytes hold
unfoldable pub frame_in : Kind91 → List ℕ → Frame91
frame_in kind bytes = record {
  kind = kind;
  channel = from_be_bytes w16 (drop 1 bytes);
  payload = take (stated_size bytes) (drop 7 bytes);
}

-- a fault, and the place of its first byte
abbrev pub bad : FrameFault → ℕ → Scan Frame91 (At FrameFault)
bad fault at = Bad (record { fault = fault; at = at })

-- after the first byte: a size that passes the limit is told before more bytes are asked for, and
-- the end byte comes last
abbrev pub scan_kind : ℕ → Option Kind91 → List ℕ → Scan Frame91 (At FrameFault)
scan_kind limit None bytes = bad fault.Kind 0
scan_kind limit (Some kind) bytes =
    let size = stated_size bytes in
    if nat_lt limit (size + 8) then bad fault.Size 3 else
    (if nat_lt (length bytes) (size + 8) then More else
    (if slice_index bytes (7 + size) == 206 then Whole (frame_in kind bytes) (size + 8)
    else bad fault.End (7 + size)))

-- the frame with which a stream begins
unfoldable pub scan_of : ℕ → List ℕ → Scan Frame91 (At FrameFault)
scan_of limit [] = More
scan_of limit (first ∷ rest) = scan_kind limit (kind_of first) (first ∷ rest)
