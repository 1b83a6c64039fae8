-- A unit that is found in bytes takes some of them, and no more than there are.
use Rattle.std.proofs.Common.{◌≡◌, ℕ, ◌+◌, ◌*◌, Bool, true, false, cond, ltb, eqb, nat_eq, List, []}
use Rattle.std.proofs.Common.{◌∷◌, length, Option, None, Some, refl, ap, sym, subst, arith}
use Rattle.std.specs.Prelude.{Result, Ok, Err, IfOk}
use Rattle.std.proofs.lemmas.Bool.{eqb-true, ltb-false}
use Rattle.std.proofs.lemmas.List.Sums.{common_prefix_len-le}
use Rattle.std.specs.List.{slice_index}
use Rattle.wire_base.specs.declared.scan.Scan.{Scan}
use Rattle.wire_base.specs.declared.scan.Scan.TheVariants.{Whole, More, Bad}
use Rattle.wire_base.specs.declared.scan.At.{At}
use Rattle.frames_091.specs.declared.frame.Frame91.{Frame91}
use Rattle.frames_091.specs.declared.frame.FrameFault.{FrameFault}
use Rattle.frames_091.specs.declared.frame.FrameFault.TheVariants as fault
use Rattle.frames_091.specs.declared.frame.Kind91.{Kind91}
use Rattle.frames_091.specs.declared.header.NotHeader.{NotHeader}
use Rattle.frames_091.specs.FrameScan.{bad, frame_in, kind_of, scan_of, scan_kind, stated_size}
use Rattle.frames_091.specs.Headers.{header_bytes, header_scan}
use Rattle.machine_091.specs.declared.unit.Unit91.{Unit91}
use Rattle.machine_091.specs.declared.unit.Unit91.TheVariants as unit91
use Rattle.close_translate.specs.declared.codes.TheConstants.{FRAME_ERROR}
use Rattle.machine_091.specs.declared.state.Awaited91.{Awaited91}
use Rattle.machine_091.specs.declared.state.Awaited91.TheVariants as awaited
use Rattle.machine_091.specs.Limits.{AreWithin}
use Rattle.machine_091.specs.State.{awaits}
use Rattle.machine_091.specs.declared.state.Connection.{Connection}
use Rattle.machine_091.specs.declared.state.Stream91.{Stream91}
use Rattle.machine_091.specs.declared.state.Stream91.TheVariants as stream
use Rattle.frames_10.specs.declared.frame.Frame10.{Frame10}
use Rattle.frames_10.specs.declared.frame.FrameFault10.{FrameFault10}
use Rattle.frames_10.specs.declared.frame.FrameFault10.TheVariants as fault_10
use Rattle.frames_10.specs.declared.frame.Kind10.{Kind10}
use Rattle.frames_10.specs.declared.frame.Kind10.TheVariants.{Amqp, Sasl}
use Rattle.frames_10.specs.FrameScan as frames_10
use Rattle.frames_10.specs.Headers as headers_10
use Rattle.machine_10.specs.declared.limits.TheConstants.{FRAME_MAX}
use Rattle.machine_10.specs.declared.state.Awaited10.{Awaited10}
use Rattle.machine_10.specs.declared.state.Awaited10.TheVariants as awaited_10
use Rattle.machine_10.specs.declared.unit.Unit10.{Unit10}
use Rattle.machine_10.specs.declared.unit.Unit10.TheVariants as unit_10
use Rattle.performatives_10.specs.declared.condition.Condition.{Condition}
use Rattle.performatives_10.specs.declared.condition.Condition.TheVariants.{FramingError}
use Rattle.frames_10.specs.declared.header.NotHeader.{NotHeader as NotHeader10}
use Rattle.wire_base.specs.Headers as wire
use Rattle.gate_pair.specs.Cutting.{IsLongEnough, IsWithin, as_unit, unit_scan, up_scan}

frame_within : (limit : ℕ) (bytes : List ℕ) → IsWithin bytes (as_unit unit91.Frame FRAME_ERROR (scan_of limit bytes))
unfolding scan_of
frame_within limit [] = tt
frame_within limit (b ∷ bs) = kind (kind_of b)
  where
    tests : (k : Kind91) (x y z : Bool) → ltb (length (b ∷ bs)) (stated_size (b ∷ bs) + 8) ≡ y
        → IsWithin (b ∷ bs) (as_unit unit91.Frame FRAME_ERROR (cond {A = Scan Frame91 (At FrameFault)} x (bad fault.Size 3) (cond {A = Scan Frame91 (At FrameFault)} y More (cond {A = Scan Frame91 (At FrameFault)} z (Whole (frame_in k (b ∷ bs)) (stated_size (b ∷ bs) + 8)) (bad fault.End (7 + stated_size (b ∷ bs)))))))
    tests k true y z e = tt
    tests k false true z e = tt
    tests k false false false e = tt
    tests k false false true e = (omega arith, ltb-false _ _ e)

    kind : (k : Option Kind91) → IsWithin (b ∷ bs) (as_unit unit91.Frame FRAME_ERROR (scan_kind limit k (b ∷ bs)))
    kind None = tt
    kind (Some k) = tests k (ltb limit (stated_size (b ∷ bs) + 8)) (ltb (length (b ∷ bs)) (stated_size (b ∷ bs) + 8)) (eqb (slice_index (b ∷ bs) (7 + stated_size (b ∷ bs))) 206) refl

-- a header that agrees in eight places has as many bytes
header_within : (bytes : List ℕ) → IsWithin {C = ℕ} bytes (as_unit (λ header. unit91.Protocol) 0 (header_scan bytes))
unfolding header_scan wire.first_header
header_within bytes = tests (eqb (wire.agreed_with header_bytes bytes) 8) (eqb (wire.agreed_with header_bytes bytes) (length bytes)) refl
  where
    tests : (x y : Bool) → eqb (wire.agreed_with header_bytes bytes) 8 ≡ x
        → IsWithin {C = ℕ} bytes (as_unit (λ header. unit91.Protocol) 0 (cond {A = Scan (Unit {0}) (At NotHeader)} x (Whole tt 8) (cond {A = Scan (Unit {0}) (At NotHeader)} y More (Bad (record { fault = record {}; at = wire.agreed_with header_bytes bytes })))))
    tests true y e =
        let eight : wire.agreed_with header_bytes bytes ≡ 8 = eqb-true _ _ e in
        (omega arith, omega (arith, (common_prefix_len-le nat_eq bytes header_bytes).0))
    tests false true e = tt
    tests false false e = tt

pub within : (a : Awaited91) (bytes : List ℕ) → IsWithin bytes (unit_scan a bytes)
within awaited.Header bytes = header_within bytes
within (awaited.Frame size) bytes = frame_within size bytes
within awaited.Nothing bytes = tt

-- no unit begins where there are no bytes
no_frame : (limit : ℕ) → scan_of limit [] ≡ More
unfolding scan_of
no_frame limit = refl

no_header : header_scan [] ≡ More
unfolding header_scan wire.first_header
no_header = refl

pub none_found : (a : Awaited91) → unit_scan a [] ≡ More
none_found awaited.Header = ap (as_unit (λ header. unit91.Protocol) 0) no_header
none_found (awaited.Frame size) = ap (as_unit unit91.Frame FRAME_ERROR) (no_frame size)
none_found awaited.Nothing = refl

-- a frame that is awaited isn't below the least size
pub long_enough : (c : Connection) → AreWithin c.limits → IsLongEnough (awaits c)
long_enough c l = by c.stream
  where
    by : (s : Stream91) → IsLongEnough (awaits (record c { stream = s }))
    by stream.Header = tt
    by stream.Frames = l.frame_min
    by stream.Foreign = tt
    by stream.Bad = tt
    by stream.Answered = tt
    by stream.Ended = tt

-- the same of an answer that may be out of memory
pub within_ok : {E : Type 0} (a : Awaited91) (bytes : List ℕ) (r : Result (Scan Unit91 ℕ) E) → IfOk r (λ s. s ≡ unit_scan a bytes) → IfOk r (IsWithin bytes)
within_ok a bytes (Ok s) e = subst (IsWithin bytes) (sym e) (within a bytes)
within_ok a bytes (Err x) e = tt

-- ---- the container's

frame_10_within : (limit : ℕ) (bytes : List ℕ) → IsWithin bytes (as_unit unit_10.Frame FramingError (frames_10.scan_of limit bytes))
unfolding frames_10.scan_of
frame_10_within limit bytes =
    by (ltb limit size) (ltb (length bytes) 4) (ltb size 8) (ltb (frames_10.stated_offset bytes) 2) (ltb size (4 * frames_10.stated_offset bytes)) (frames_10.kind_of (slice_index bytes 5)) refl
  where
    size : ℕ
    size = frames_10.stated_size bytes

    kinds : (k : Option Kind10) (x : Bool) → ltb size 8 ≡ false → ltb (length bytes) size ≡ x
        → IsWithin bytes (as_unit unit_10.Frame FramingError (frames_10.scan_kind k bytes))
    kinds None x s e = tt
    kinds (Some k) true s e = subst (λ (b : Bool). IsWithin bytes (as_unit unit_10.Frame FramingError (cond {A = Scan Frame10 (At FrameFault10)} b More (Whole (frames_10.frame_in k bytes) size)))) (sym e) tt
    kinds (Some k) false s e =
        subst (λ (b : Bool). IsWithin bytes (as_unit unit_10.Frame FramingError (cond {A = Scan Frame10 (At FrameFault10)} b More (Whole (frames_10.frame_in k bytes) size)))) (sym e)
        (omega (arith, ltb-false _ _ s), ltb-false _ _ e)

    by : (a b c d e : Bool) (k : Option Kind10) → ltb size 8 ≡ c
        → IsWithin bytes (as_unit unit_10.Frame FramingError (cond {A = Scan Frame10 (At FrameFault10)} a (frames_10.bad fault_10.FrameSize 0)
        (cond {A = Scan Frame10 (At FrameFault10)} b More (cond {A = Scan Frame10 (At FrameFault10)} c (frames_10.bad fault_10.FrameSize 0)
        (cond {A = Scan Frame10 (At FrameFault10)} d (frames_10.bad fault_10.DataOffset 4) (cond {A = Scan Frame10 (At FrameFault10)} e (frames_10.bad fault_10.DataOffset 4) (frames_10.scan_kind k bytes)))))))
    by true b c d e k s = tt
    by false true c d e k s = tt
    by false false true d e k s = tt
    by false false false true e k s = tt
    by false false false false true k s = tt
    by false false false false false k s = kinds k (ltb (length bytes) size) s refl

header_10_within : (k : Kind10) (bytes : List ℕ) → IsWithin bytes (as_unit (λ header. unit_10.Header k) FramingError (headers_10.header_scan k bytes))
unfolding wire.first_header
header_10_within k bytes = by (headers_10.header_bytes k) (eight k)
  where
    eight : (k : Kind10) → length (headers_10.header_bytes k) ≡ 8
    eight Amqp = refl
    eight Sasl = refl

    tests : (header : List ℕ) → length header ≡ 8 → (x y : Bool) → eqb (wire.agreed_with header bytes) (length header) ≡ x
        → IsWithin bytes (as_unit (λ u. unit_10.Header k) FramingError (cond {A = Scan (Unit {0}) (At NotHeader10)} x (Whole tt (length header)) (cond {A = Scan (Unit {0}) (At NotHeader10)} y More (Bad (record { fault = record {}; at = wire.agreed_with header bytes })))))
    tests header e true y f =
        let all : wire.agreed_with header bytes ≡ length header = eqb-true _ _ f in
        (omega (arith, e), omega (arith, (common_prefix_len-le nat_eq bytes header).0))
    tests header e false true f = tt
    tests header e false false f = tt

    by : (header : List ℕ) → length header ≡ 8 → IsWithin bytes (as_unit (λ u. unit_10.Header k) FramingError (wire.scan_agreed {F = NotHeader10} (record {}) (wire.agreed_with header bytes) header bytes))
    by header e = tests header e (eqb (wire.agreed_with header bytes) (length header)) (eqb (wire.agreed_with header bytes) (length bytes)) refl

pub up_within : (a : Awaited10) (bytes : List ℕ) → IsWithin bytes (up_scan a bytes)
up_within (awaited_10.Header k) bytes = header_10_within k bytes
up_within awaited_10.Frame bytes = frame_10_within FRAME_MAX bytes
up_within awaited_10.Nothing bytes = tt

-- no unit of it begins where there are no bytes
no_frame_10 : frames_10.scan_of FRAME_MAX [] ≡ More
unfolding frames_10.scan_of frames_10.stated_size
no_frame_10 = refl

no_header_10 : (k : Kind10) → headers_10.header_scan k [] ≡ More
unfolding wire.first_header
no_header_10 Amqp = refl
no_header_10 Sasl = refl

pub no_unit : (a : Awaited10) → up_scan a [] ≡ More
no_unit (awaited_10.Header k) = ap (as_unit (λ header. unit_10.Header k) FramingError) (no_header_10 k)
no_unit awaited_10.Frame = ap (as_unit unit_10.Frame FramingError) no_frame_10
no_unit awaited_10.Nothing = refl

pub up_within_ok : {E : Type 0} (a : Awaited10) (bytes : List ℕ) (r : Result (Scan Unit10 Condition) E) → IfOk r (λ s. s ≡ up_scan a bytes) → IfOk r (IsWithin bytes)
up_within_ok a bytes (Ok s) e = subst (IsWithin bytes) (sym e) (up_within a bytes)
up_within_ok a bytes (Err x) e = tt
