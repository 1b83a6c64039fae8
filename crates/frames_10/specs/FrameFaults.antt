-- The faults of the bytes with which a stream of frames begins, and where each stands (AMQP 1.0
-- 2.3.1).
use Rattle.std.specs.Prelude.{◌≡◌, ◌≢◌, ℕ, ◌*◌, ◌<◌, ◌≤◌, ◌⊎◌, List, length, slice_index}
use Rattle.wire_base.specs.declared.scan.At.{At}
use Rattle.frames_10.specs.declared.frame.Kind10.{Kind10}
use Rattle.frames_10.specs.declared.frame.FrameFault10.{FrameFault10}
use Rattle.frames_10.specs.declared.frame.FrameFault10.TheVariants.{FrameSize, DataOffset}
use Rattle.frames_10.specs.declared.frame.FrameFault10.TheVariants.{FrameType}
use Rattle.frames_10.specs.Frames.{kind_byte}
use Rattle.frames_10.specs.FrameScan.{stated_size}

-- the size is there, and within its bounds
abbrev pub HasSize : ℕ → List ℕ → Type 0
HasSize limit bytes = (4 ≤ length bytes) × (8 ≤ stated_size bytes) × (stated_size bytes ≤ limit)

-- the data offset is there, and stands behind the header of eight bytes and within the frame
abbrev pub HasOffset : List ℕ → Type 0
HasOffset bytes =
    (4 < length bytes) × (2 ≤ slice_index bytes 4) × (4 * slice_index bytes 4 ≤ stated_size bytes)

-- FrameSize, at 0: the size, with zeros for the bytes of it that are not there, passes the limit,
-- or it is there and below 8. DataOffset, at 4: the size is right, and the data offset is below 2
-- or passes the size. FrameType, at 5: the size and the data offset are right, and the type byte is
-- that of no kind.
abbrev pub IsFaultOf : FrameFault10 → ℕ → ℕ → List ℕ → Type 0
IsFaultOf FrameSize at limit bytes =
    (at ≡ 0) × ((limit < stated_size bytes) ⊎ ((4 ≤ length bytes) × (stated_size bytes < 8)))
IsFaultOf DataOffset at limit bytes =
    (at ≡ 4) × HasSize limit bytes × (4 < length bytes)
    × ((slice_index bytes 4 < 2) ⊎ (stated_size bytes < 4 * slice_index bytes 4))
IsFaultOf FrameType at limit bytes =
    (at ≡ 5) × HasSize limit bytes × HasOffset bytes × (5 < length bytes)
    × ((kind : Kind10) → slice_index bytes 5 ≢ kind_byte kind)

-- the same of a fault and its place together
abbrev pub IsFrameFault : ℕ → List ℕ → At FrameFault10 → Type 0
IsFrameFault limit bytes at = IsFaultOf at.fault at.at limit bytes
