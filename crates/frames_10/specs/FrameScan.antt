-- How the first frame of a stream is scanned, as a function of the bytes that came so far (AMQP 1.0
-- 2.3).
use Rattle.std.specs.Prelude.{ℕ, ◌*◌, ◌==◌, if◌then◌else◌, nat_lt, Bool, true, false, List, length}
use Rattle.std.specs.Prelude.{drop, slice_range, slice_index, slice_index_or, Option, None, Some}
use Rattle.std.specs.Int.{w16, w32, from_be_bytes}
use Rattle.wire_base.specs.declared.scan.At.{At}
use Rattle.wire_base.specs.declared.scan.Scan.{Scan}
use Rattle.wire_base.specs.declared.scan.Scan.TheVariants.{Whole, More, Bad}
use Rattle.frames_10.specs.declared.frame.Kind10.{Kind10}
use Rattle.frames_10.specs.declared.frame.Kind10.TheVariants.{Amqp, Sasl}
use Rattle.frames_10.specs.declared.frame.Frame10.{Frame10}
use Rattle.frames_10.specs.declared.frame.FrameFault10.{FrameFault10}
use Rattle.frames_10.specs.declared.frame.FrameFault10.TheVariants as fault

-- the kind whose type byte this is
abbrev pub kind_of : ℕ → Option Kind10
kind_of byte = if byte == 0 then Some Amqp else (if byte == 1 then Some Sasl else None)

-- the size that a frame states: the first four bytes, where those that are not there count as zeros
unfoldable pub stated_size : List ℕ → ℕ
stated_size bytes = from_be_bytes w32 bytes

-- the data offset, in words of four bytes; 2, the least, where it is not there
unfoldable pub stated_offset : List ℕ → ℕ
stated_offset bytes = slice_index_or bytes 4 2

-- the frame of this kind that the bytes hold; what stands before the data offset is skipped
unfoldable pub frame_in : Kind10 → List ℕ → Frame10
frame_in kind bytes = record {
  kind = kind;
  channel = from_be_bytes w16 (drop 6 bytes);
  body = slice_range bytes (4 * stated_offset bytes) (stated_size bytes);
}

-- a fault, and the place of its first byte
abbrev pub bad : FrameFault10 → ℕ → Scan Frame10 (At FrameFault10)
bad fault at = Bad (record { fault = fault; at = at })

-- after the size and the data offset
abbrev pub scan_kind : Option Kind10 → List ℕ → Scan Frame10 (At FrameFault10)
scan_kind None bytes = bad fault.FrameType 5
scan_kind (Some kind) bytes =
    if nat_lt (length bytes) (stated_size bytes) then More else Whole (frame_in kind bytes)
    (stated_size bytes)

-- the frame with which a stream begins: each fault is told as soon as its bytes are there, whatever
-- is to come
unfoldable pub scan_of : ℕ → List ℕ → Scan Frame10 (At FrameFault10)
scan_of limit bytes =
    let size = stated_size bytes in
    if nat_lt limit size then bad fault.FrameSize 0 else
    (if nat_lt (length bytes) 4 then More else
    (if nat_lt size 8 then bad fault.FrameSize 0 else
    (if nat_lt (stated_offset bytes) 2 then bad fault.DataOffset 4 else
    (if nat_lt size (4 * stated_offset bytes) then bad fault.DataOffset 4 else scan_kind (kind_of
    (slice_index bytes 5)) bytes))))

-- a whole frame was found
abbrev pub is_whole : {A F : Type 0} → Scan A F → Bool
is_whole (Whole x n) = true
is_whole More = false
is_whole (Bad f) = false
