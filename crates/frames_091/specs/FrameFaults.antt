-- The faults of the bytes with which a stream of frames begins, and where each stands (AMQP 0-9-1
-- 4.2.3).
use Rattle.std.specs.Prelude.{◌≡◌, ◌≢◌, ℕ, ◌+◌, ◌<◌, ◌≤◌, List, length, slice_index}
use Rattle.wire_base.specs.declared.scan.At.{At}
use Rattle.frames_091.specs.declared.frame.Kind91.{Kind91}
use Rattle.frames_091.specs.declared.frame.FrameFault.{FrameFault}
use Rattle.frames_091.specs.declared.frame.FrameFault.TheVariants.{Kind, Size, End}
use Rattle.frames_091.specs.Frames.{kind_byte}
use Rattle.frames_091.specs.FrameScan.{stated_size}

-- there is a first byte, and it is that of a kind
abbrev pub BeginsWithKind : List ℕ → Type 0
BeginsWithKind bytes = (0 < length bytes) × (kind : Kind91) × (slice_index bytes 0 ≡ kind_byte kind)

-- Kind, at 0: there is a first byte, and it is that of no kind.
-- Size, at 3: the kind is right, and the stated size and 8 together pass the limit.
-- End, at 7 and the size: the kind and the size are right, and the byte there is not the end byte.
abbrev pub IsFaultOf : FrameFault → ℕ → ℕ → List ℕ → Type 0
IsFaultOf Kind at limit bytes =
    (at ≡ 0) × (0 < length bytes) × ((kind : Kind91) → slice_index bytes 0 ≢ kind_byte kind)
IsFaultOf Size at limit bytes = (at ≡ 3) × BeginsWithKind bytes × (limit < stated_size bytes + 8)
IsFaultOf End at limit bytes =
    (at ≡ 7 + stated_size bytes) × BeginsWithKind bytes × (stated_size bytes + 8 ≤ limit)
    × (at < length bytes) × (slice_index bytes at ≢ 206)

-- the same of a fault and its place together
abbrev pub IsFrameFault : ℕ → List ℕ → At FrameFault → Type 0
IsFrameFault limit bytes at = IsFaultOf at.fault at.at limit bytes
