-- The faults of bytes that begin with no unit, and the place of each in the whole input.
use Rattle.std.specs.Prelude.{◌≡◌, ◌≢◌, ℕ, ◌+◌, ◌-◌, max, false, List, [], ◌++◌, length}
use Rattle.std.specs.Prelude.{slice_index}
use Rattle.wire_base.specs.declared.scan.At.{At}
use Rattle.wire_base.specs.Headers.{PartAt}
use Rattle.frames_091.specs.declared.frame.Kind91.TheVariants.{Method, Header}
use Rattle.frames_091.specs.declared.frame.FrameFault.{FrameFault}
use Rattle.frames_091.specs.FrameFaults as frames_091
use Rattle.frames_091.specs.Headers as headers_091
use Rattle.methods_091.specs.declared.reading.MethodFault.{MethodFault}
use Rattle.methods_091.specs.Faults as methods_091
use Rattle.content_091.specs.declared.reading.HeaderFault.{HeaderFault}
use Rattle.content_091.specs.Faults as content_091
use Rattle.frames_10.specs.declared.frame.Kind10.{Kind10}
use Rattle.frames_10.specs.declared.frame.Kind10.TheVariants.{Amqp, Sasl}
use Rattle.frames_10.specs.declared.frame.Frame10.{Frame10}
use Rattle.frames_10.specs.declared.frame.FrameFault10.{FrameFault10}
use Rattle.frames_10.specs.FrameFaults as frames_10
use Rattle.frames_10.specs.Headers as headers_10
use Rattle.performatives_10.specs.Grammar as performatives_10
use Rattle.performatives_10.specs.declared.fault.PerfFault.{PerfFault}
use Rattle.gate_listing.specs.Units.{IsFrame091, IsFrame10, frame_091, most_091, most_10, is_empty}
use Rattle.gate_listing.specs.Scanning.{further, fault_place}
use Rattle.gate_listing.specs.declared.fault.UnitFault.{UnitFault}
use Rattle.gate_listing.specs.declared.fault.UnitFault.TheVariants as fault

-- a fault and its place
abbrev pub at_place : UnitFault → ℕ → At UnitFault
at_place fault at = record { fault = fault; at = at }

-- some bytes are left, and they are a front part of the spelling of some unit, not all of it
abbrev pub IsFrontOf : {U : Type 0} → (U → List ℕ → Type 0) → List ℕ → Type 0
IsFrontOf {U} IsUnit bytes =
    (bytes ≢ []) × ((unit : U) × (more : List ℕ) × (more ≢ []) × IsUnit unit (bytes ++ more))

-- the bytes begin with this frame, and these are its own
abbrev pub BeginsWithFrame : {F : Type 0} → (F → List ℕ → Type 0) → F → List ℕ → List ℕ → Type 0
BeginsWithFrame IsFrame frame text bytes =
    IsFrame frame text × ((rest : List ℕ) × (bytes ≡ text ++ rest))

-- ---- AMQP 0-9-1

-- the input begins with the first letter of the protocol header
abbrev pub IsHeaderPlace : ℕ → List ℕ → Type 0
IsHeaderPlace at bytes = (at ≡ 0) × (slice_index bytes 0 ≡ 65)

-- the fault of the unit that is to begin at this offset
pub data IsFault091 (at : ℕ) (bytes : List ℕ) : At UnitFault → Type 0 where
  -- the bytes end inside a unit: at their end
  CutHeader : IsHeaderPlace at bytes → IsFrontOf headers_091.IsHeader bytes
      → IsFault091 at bytes (at_place fault.Cut (at + length bytes))
  CutFrame : ¬ IsHeaderPlace at bytes → IsFrontOf IsFrame091 bytes
      → IsFault091 at bytes (at_place fault.Cut (at + length bytes))
  -- no header, at the first byte that differs; or no frame
  NoHeader : (place : ℕ) → IsHeaderPlace at bytes → PartAt headers_091.header_bytes bytes place
      → IsFault091 at bytes (at_place fault.NotHeader place)
  NoFrame : (e : At FrameFault) → ¬ IsHeaderPlace at bytes
      → frames_091.IsFrameFault most_091 bytes e
      → IsFault091 at bytes (at_place (fault.Frame91 e.fault) (further at e.at))
  -- a frame, and its payload, from byte 7 on, is no method or no content header
  NoMethod : (channel : ℕ) (payload text : List ℕ) (e : At MethodFault)
      → BeginsWithFrame IsFrame091 (frame_091 Method channel payload) text bytes
      → methods_091.IsFault payload e
      → IsFault091 at bytes (at_place (fault.Method e.fault) (further (further at 7) e.at))
  NoContent : (channel : ℕ) (payload text : List ℕ) (e : At HeaderFault)
      → BeginsWithFrame IsFrame091 (frame_091 Header channel payload) text bytes
      → content_091.IsFault payload e
      → IsFault091 at bytes (at_place (fault.Content e.fault) (further (further at 7) e.at))

-- ---- AMQP 1.0

abbrev pub BeginsLikeHeader : List ℕ → Type 0
BeginsLikeHeader bytes = slice_index bytes 0 ≡ 65

pub data IsFault10 (at : ℕ) (bytes : List ℕ) : At UnitFault → Type 0 where
  CutHeader10 : (kind : Kind10) → BeginsLikeHeader bytes → IsFrontOf
      (headers_10.IsHeader kind) bytes
      → IsFault10 at bytes (at_place fault.Cut (at + length bytes))
  CutFrame10 : ¬ BeginsLikeHeader bytes → IsFrontOf IsFrame10 bytes
      → IsFault10 at bytes (at_place fault.Cut (at + length bytes))
  -- neither header: at the place where the bytes part from the one that they agree with longer
  NoHeader10 : (amqp sasl : ℕ) → BeginsLikeHeader bytes → PartAt
      (headers_10.header_bytes Amqp) bytes amqp
      → PartAt (headers_10.header_bytes Sasl) bytes sasl → IsFault10 at bytes
      (at_place fault.NotHeader (further at (max amqp sasl)))
  NoFrame10 : (e : At FrameFault10) → ¬ BeginsLikeHeader bytes
      → frames_10.IsFrameFault most_10 bytes e
      → IsFault10 at bytes (at_place (fault.Frame10 e.fault) (further at e.at))
  -- a frame that isn't empty, and its body, which ends where the frame ends, begins with no
  -- performative
  NoPerformative : (frame : Frame10) (text : List ℕ) (e : PerfFault)
      → BeginsWithFrame IsFrame10 frame text bytes
      → is_empty frame.kind frame.body ≡ false → performatives_10.IsPerfFault frame.body e
      → IsFault10 at bytes (at_place (fault.Performative e) (fault_place at
      (length text - length frame.body) e))
