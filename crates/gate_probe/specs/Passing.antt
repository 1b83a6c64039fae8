-- When a frame passes the suite, by what the codecs read and write.
use Rattle.std.specs.Prelude.{◌≡◌, ℕ, ◌<◌, List, ◌++◌, length, take, drop}
use Rattle.wire_base.specs.declared.scan.Scan.TheVariants.{Whole, More}
use Rattle.frames_091.specs.Frames.{frame_text}
use Rattle.frames_091.specs.FrameScan.{scan_of}
use Rattle.frames_091.specs.declared.frame.Frame91.{Frame91}
use Rattle.frames_10.specs.Frames as texts_10
use Rattle.frames_10.specs.FrameScan as scans_10
use Rattle.frames_10.specs.declared.frame.Frame10.{Frame10}
use Rattle.methods_091.specs.Grammar.{IsMethod}
use Rattle.methods_091.specs.Writing.{method_text}
use Rattle.methods_091.specs.declared.method.Method91.{Method91}
use Rattle.performatives_10.specs.Grammar.{IsPerfAt}
use Rattle.performatives_10.specs.Writing.{perf_text}
use Rattle.performatives_10.specs.declared.performative.Perf.{Perf}
use Rattle.gate_probe.specs.declared.suite.Sample.{Sample}
use Rattle.gate_probe.specs.declared.suite.Protocol.{Protocol}
use Rattle.gate_probe.specs.declared.suite.Protocol.TheVariants.{Amqp091, Amqp10}
use Rattle.gate_probe.specs.declared.suite.TheConstants.{FRAME_MAX, MAX_FRAME_SIZE}

-- a payload spells a method, of which this is written (AMQP 0-9-1 4.2.4)
abbrev pub IsMethodAgain : List ℕ → List ℕ → Type 0
IsMethodAgain payload text = (m : Method91) × IsMethod m payload × (text ≡ method_text m)

-- a body begins with a performative, of which this is written, and then what follows it (AMQP 1.0 2.3.2)
abbrev pub IsBodyAgain : List ℕ → List ℕ → Type 0
IsBodyAgain body text =
    (p : Perf) × (after : ℕ) × IsPerfAt p body after × (text ≡ perf_text p ++ drop after body)

-- the bytes are those of one frame, and are written of it again
abbrev pub IsReadBack : Protocol → List ℕ → Type 0
IsReadBack Amqp091 bytes =
    (frame : Frame91) × (text : List ℕ) × (scan_of FRAME_MAX bytes ≡ Whole frame (length bytes))
    × IsMethodAgain frame.payload text × (bytes ≡ frame_text (record frame { payload = text }))
IsReadBack Amqp10 bytes =
    (frame : Frame10) × (text : List ℕ)
    × (scans_10.scan_of MAX_FRAME_SIZE bytes ≡ Whole frame (length bytes))
    × IsBodyAgain frame.body text × (bytes ≡ texts_10.frame_text (record frame { body = text }))

-- more bytes are waited for
abbrev pub IsCutOff : Protocol → List ℕ → Type 0
IsCutOff Amqp091 bytes = scan_of FRAME_MAX bytes ≡ More
IsCutOff Amqp10 bytes = scans_10.scan_of MAX_FRAME_SIZE bytes ≡ More

-- the frame is read whole and written again equal, and each shorter length is cut off
pub record IsPassing (s : Sample) : Type 0 where
  pub whole : IsReadBack s.protocol s.bytes
  pub shorter : (n : ℕ) → n < length s.bytes → IsCutOff s.protocol (take n s.bytes)
