-- What makes a frame pass, fact by fact.
use Rattle.std.specs.Prelude.{◌≡◌, ℕ, List, ◌++◌, length, drop}
use Rattle.wire_base.specs.declared.scan.Scan.TheVariants.{Whole}
use Rattle.frames_091.specs.Frames.{frame_text}
use Rattle.frames_091.specs.FrameScan.{scan_of}
use Rattle.frames_091.specs.declared.frame.Frame91.{Frame91}
use Rattle.frames_10.specs.Frames as texts_10
use Rattle.frames_10.specs.FrameScan as scans_10
use Rattle.frames_10.specs.declared.frame.Frame10.{Frame10}
use Rattle.methods_091.specs.Grammar.{IsMethod}
use Rattle.methods_091.specs.Writing.{method_text}
use Rattle.methods_091.specs.declared.method.Method91.{Method91}
use Rattle.performatives_10.specs.Grammar.{IsPerfAt}
use Rattle.performatives_10.specs.Writing.{perf_text}
use Rattle.performatives_10.specs.declared.performative.Perf.{Perf}
use Rattle.gate_probe.specs.declared.suite.Protocol.TheVariants.{Amqp091, Amqp10}
use Rattle.gate_probe.specs.declared.suite.TheConstants.{FRAME_MAX, MAX_FRAME_SIZE}
use Rattle.gate_probe.specs.Passing.{IsMethodAgain, IsBodyAgain, IsReadBack}

pub is_method_again : (payload text : List ℕ) (m : Method91) → IsMethod m payload
    → text ≡ method_text m → IsMethodAgain payload text
is_method_again payload text m spelled e = (m, spelled, e)

pub is_body_again : (body text : List ℕ) (p : Perf) (after : ℕ) → IsPerfAt p body after
    → text ≡ perf_text p ++ drop after body → IsBodyAgain body text
is_body_again body text p after stands e = (p, after, stands, e)

pub is_read_back091 : (bytes text : List ℕ) (frame : Frame91)
    → scan_of FRAME_MAX bytes ≡ Whole frame (length bytes) → IsMethodAgain frame.payload text
    → bytes ≡ frame_text (record frame { payload = text }) → IsReadBack Amqp091 bytes
is_read_back091 bytes text frame whole again e = (frame, text, whole, again, e)

pub is_read_back10 : (bytes text : List ℕ) (frame : Frame10)
    → scans_10.scan_of MAX_FRAME_SIZE bytes ≡ Whole frame (length bytes) → IsBodyAgain frame.body text
    → bytes ≡ texts_10.frame_text (record frame { body = text }) → IsReadBack Amqp10 bytes
is_read_back10 bytes text frame whole again e = (frame, text, whole, again, e)
