-- The first unit of AMQP 0-9-1: what is found is a unit, a fault that is told is there, and a unit is found again, whatever follows.
use Rattle.std.proofs.Common.{◌≡◌, ◌≢◌, ℕ, ◌+◌, ◌≤◌, Bool, true, false, cond, ◌==◌, ◌&&◌, List, []}
use Rattle.std.proofs.Common.{◌++◌, length, take, drop, get_or, Option, Some, None, Result, Ok, Err}
use Rattle.std.proofs.Common.{refl, sym, ap, subst, ◌∙◌, inl, inr, arith, codes}
use Rattle.std.proofs.lemmas.Bool.{eqb-true, eq-eqb, and_parts, and_from}
use Rattle.std.proofs.lemmas.List.{take-append-drop, length-take-le}
use Rattle.wire_base.specs.Bytes.{IsBytes}
use Rattle.wire_base.specs.Scans.{Scans, IfBad}
use Rattle.wire_base.specs.declared.scan.At.{At}
use Rattle.wire_base.specs.declared.scan.Scan.{Scan}
use Rattle.wire_base.specs.declared.scan.Scan.TheVariants.{Whole, More, Bad}
use Rattle.wire_base.proofs.Bytes.{IsBytes-take}
use Rattle.wire_base.proofs.Laws.{bind_is, ok_is}
use Rattle.wire_base.proofs.FaultLaws.{bind_fails, err_is}
use Rattle.frames_091.specs.declared.frame.Kind91.{Kind91}
use Rattle.frames_091.specs.declared.frame.Kind91.TheVariants.{Method, Header, Body, Heartbeat}
use Rattle.frames_091.specs.declared.frame.Frame91.{Frame91}
use Rattle.frames_091.specs.declared.frame.FrameFault.{FrameFault}
use Rattle.frames_091.specs.declared.header.NotHeader.{NotHeader}
use Rattle.frames_091.specs.Frames.{kind_byte, frame_text}
use Rattle.frames_091.specs.FrameFaults.{IsFrameFault}
use Rattle.frames_091.specs.FrameScan.{scan_of}
use Rattle.frames_091.specs.Headers.{IsHeader, IsHeaderFault, header_bytes, header_scan}
use Rattle.frames_091.proofs.FrameLaws as frames
use Rattle.frames_091.proofs.HeaderLaws as headers
use Rattle.methods_091.specs.Rows.{class_of, id_of}
use Rattle.methods_091.specs.Reading as methods
use Rattle.methods_091.proofs.FaultLaws as method_laws
use Rattle.methods_091.proofs.MethodLaws as method_readers
use Rattle.content_091.specs.Properties.{Parts}
use Rattle.content_091.specs.Reading as contents
use Rattle.content_091.specs.declared.reading.HeaderFault.{HeaderFault}
use Rattle.content_091.proofs.FaultLaws as content_laws
use Rattle.content_091.proofs.HeaderLaws as content_readers
use Rattle.gate_listing.specs.Units.{most_091, IsFrame091, frame_091, Shows091, HeaderLine}
use Rattle.gate_listing.specs.Units.{MethodLine, ContentLine, BodyLine, HeartbeatLine}
use Rattle.gate_listing.specs.Faults.{IsFault091, IsHeaderPlace, BeginsWithFrame, at_place}
use Rattle.gate_listing.specs.Faults.{CutHeader, CutFrame, NoHeader, NoFrame, NoMethod, NoContent}
use Rattle.gate_listing.specs.Scanning.{Found, begins_with_a, place, method_in, content_in}
use Rattle.gate_listing.specs.Scanning.{payload_in, frame_091_in, header_091_in, unit_091_in}
use Rattle.gate_listing.specs.declared.fault.UnitFault.{UnitFault}
use Rattle.gate_listing.specs.declared.fault.UnitFault.TheVariants as fault
use Rattle.gate_listing.proofs.Payloads.{payload_fits, some_091}

-- ---- what reading a payload says of it

method_told : {M : Type 0} (r : Result (Option M) ℕ) (m : M) → methods.told r ≡ Ok m → r ≡ Ok (Some m)
method_told {M} (Ok (Some x)) m e = ap (λ (y : M). Ok (Some y)) (ok_is x m e)
method_told (Ok None) m e = absurd cc
method_told (Err at) m e = absurd cc

header_told : (r : Result (Result Parts (At HeaderFault)) ℕ) (h : Parts) → contents.told r ≡ Ok h → r ≡ Ok (Ok h)
header_told (Ok (Ok x)) h e = ap (λ (y : Parts). Ok (Ok y)) (ok_is x h e)
header_told (Ok (Err x)) h e = absurd cc
header_told (Err at) h e = absurd cc

-- ---- what is found is a unit

method_found : (at channel : ℕ) (payload text words : List ℕ) (r : methods.Read) → IsFrame091 (frame_091 Method channel payload) text → IsBytes payload
    → methods.method_in payload ≡ r → method_in at channel r ≡ Ok words → Shows091 at words text
method_found at channel payload text words (Ok m) f fits is e =
    subst (λ (w : List ℕ). Shows091 at w text) (ok_is {F = At UnitFault} _ words e)
    (MethodLine channel (class_of m.0) (id_of m.0) payload text f
    (m, method_readers.read_is_spelled payload m fits (method_told (methods.payload_in payload) m is), refl, refl))
method_found at channel payload text words (Err x) f fits is e = absurd cc

content_found : (at channel : ℕ) (payload text words : List ℕ) (r : Result Parts (At HeaderFault)) → IsFrame091 (frame_091 Header channel payload) text
    → IsBytes payload → contents.header_in payload ≡ r → content_in at channel r ≡ Ok words → Shows091 at words text
content_found at channel payload text words (Ok h) f fits is e =
    subst (λ (w : List ℕ). Shows091 at w text) (ok_is {F = At UnitFault} _ words e)
    (ContentLine channel payload text h f (content_readers.read_is_spelled payload h fits (header_told (contents.payload_in payload) h is)))
content_found at channel payload text words (Err x) f fits is e = absurd cc

payload_found : (at : ℕ) (kind : Kind91) (channel : ℕ) (payload text words : List ℕ) → IsFrame091 (frame_091 kind channel payload) text → IsBytes payload
    → payload_in at kind channel payload ≡ Ok words → Shows091 at words text
payload_found at Method channel payload text words f fits e = method_found at channel payload text words (methods.method_in payload) f fits refl e
payload_found at Header channel payload text words f fits e = content_found at channel payload text words (contents.header_in payload) f fits refl e
payload_found at Body channel payload text words f fits e =
    subst (λ (w : List ℕ). Shows091 at w text) (ok_is {F = At UnitFault} _ words e) (BodyLine channel payload text f)
payload_found at Heartbeat channel payload text words f fits e =
    subst (λ (w : List ℕ). Shows091 at w text) (ok_is {F = At UnitFault} _ words e) (HeartbeatLine channel payload text f)

-- a unit of so many bytes stands at the front
pub record IsFirst (at : ℕ) (bytes words : List ℕ) (size : ℕ) : Type 0 where
  pub there : size ≤ length bytes
  pub some : 1 ≤ size
  pub shows : Shows091 at words (take size bytes)

sized : (n size : ℕ) (text words : List ℕ) → (let r : Found = Ok (text, n) in r) ≡ Ok (words, size) → (text ≡ words) × (n ≡ size)
sized n size text words e =
    let both = ok_is {F = At UnitFault} (text, n) (words, size) e in (ap (λ (x : List ℕ × ℕ). x.0) both, ap (λ (x : List ℕ × ℕ). x.1) both)

frame_found : (end at : ℕ) (bytes words : List ℕ) (size : ℕ) (s : Scan Frame91 (At FrameFault)) → IsBytes bytes → Scans IsFrame091 bytes s
    → frame_091_in end at s ≡ Ok (words, size) → IsFirst at bytes words size
frame_found end at bytes words size (Whole frame n) fits (there, f) e =
    let b = bind_is (payload_in at frame.kind frame.channel frame.payload) (λ (text : List ℕ). let r : Found = Ok (text, n) in r) (words, size) e in
    let same = sized n size b.0 words b.2 in
    let n_is : n ≡ size = same.1 in
    let words_is : b.0 ≡ words = same.0 in
    let text = take n bytes in
    let shows = payload_found at frame.kind frame.channel frame.payload text b.0 f (payload_fits frame text f (IsBytes-take n bytes fits)) b.1 in
    record {
      there = omega arith;
      some = omega (arith, some_091 frame text f, length-take-le n bytes there);
      shows = subst (λ (k : ℕ). Shows091 at words (take k bytes)) n_is (subst (λ (w : List ℕ). Shows091 at w text) words_is shows);
    }
frame_found end at bytes words size More fits h e = absurd cc
frame_found end at bytes words size (Bad x) fits h e = absurd cc

header_found : (end at : ℕ) (bytes words : List ℕ) (size : ℕ) (s : Scan (Unit {0}) (At NotHeader)) → at ≡ 0 → Scans IsHeader bytes s
    → header_091_in end s ≡ Ok (words, size) → IsFirst at bytes words size
header_found end at bytes words size (Whole x n) zero (there, is) e =
    let same = sized n size (codes "header 0-9-1") words e in
    let n_is : n ≡ size = same.1 in
    let whole : length (take n bytes) ≡ 8 = ap length is in
    record {
      there = omega arith;
      some = omega (arith, whole, length-take-le n bytes there);
      shows = subst (λ (k : ℕ). Shows091 at words (take k bytes)) n_is
          (subst (λ (t : List ℕ). Shows091 at words t) (sym is) (subst (λ (w : List ℕ). Shows091 at w header_bytes) same.0 (HeaderLine zero)));
    }
header_found end at bytes words size More zero h e = absurd cc
header_found end at bytes words size (Bad x) zero h e = absurd cc

pub unit_found : (end : ℕ) (bytes words : List ℕ) (size : ℕ) → IsBytes bytes → unit_091_in end bytes ≡ Ok (words, size)
    → IsFirst (place end bytes) bytes words size
unfolding unit_091_in
unit_found end bytes words size fits e = by_place (begins_with_a bytes && (place end bytes == 0)) refl e
  where
    at : ℕ
    at = place end bytes

    by_place : (t : Bool) → (begins_with_a bytes && (at == 0)) ≡ t
        → cond t (header_091_in end (header_scan bytes)) (frame_091_in end at (scan_of most_091 bytes)) ≡ Ok (words, size) → IsFirst at bytes words size
    by_place true t e = header_found end at bytes words size (header_scan bytes) (eqb-true at 0 (and_parts _ _ t).1) (headers.scans bytes) e
    by_place false t e = frame_found end at bytes words size (scan_of most_091 bytes) fits (frames.scans most_091 bytes (omega arith) fits) e

-- ---- a fault that is told is there

method_faulty : (at channel : ℕ) (payload text bytes : List ℕ) (e : At UnitFault) (r : methods.Read)
    → BeginsWithFrame IsFrame091 (frame_091 Method channel payload) text bytes → IsBytes payload
    → methods.method_in payload ≡ r → method_in at channel r ≡ Err e → IsFault091 at bytes e
method_faulty at channel payload text bytes e (Ok m) b fits is h = absurd cc
method_faulty at channel payload text bytes e (Err x) b fits is h =
    subst (IsFault091 at bytes) (err_is {A = List ℕ} _ e h)
    (NoMethod channel payload text x b (method_laws.fault_by payload (Err x) fits (sym is)))

content_faulty : (at channel : ℕ) (payload text bytes : List ℕ) (e : At UnitFault) (r : Result Parts (At HeaderFault))
    → BeginsWithFrame IsFrame091 (frame_091 Header channel payload) text bytes → IsBytes payload
    → contents.header_in payload ≡ r → content_in at channel r ≡ Err e → IsFault091 at bytes e
content_faulty at channel payload text bytes e (Ok h) b fits is f = absurd cc
content_faulty at channel payload text bytes e (Err x) b fits is f =
    subst (IsFault091 at bytes) (err_is {A = List ℕ} _ e f)
    (NoContent channel payload text x b ((content_laws.fault_exactly payload x fits).0 is))

payload_faulty : (at : ℕ) (kind : Kind91) (channel : ℕ) (payload text bytes : List ℕ) (e : At UnitFault)
    → BeginsWithFrame IsFrame091 (frame_091 kind channel payload) text bytes → IsBytes payload
    → payload_in at kind channel payload ≡ Err e → IsFault091 at bytes e
payload_faulty at Method channel payload text bytes e b fits h = method_faulty at channel payload text bytes e (methods.method_in payload) b fits refl h
payload_faulty at Header channel payload text bytes e b fits h = content_faulty at channel payload text bytes e (contents.header_in payload) b fits refl h
payload_faulty at Body channel payload text bytes e b fits h = absurd cc
payload_faulty at Heartbeat channel payload text bytes e b fits h = absurd cc

-- the bytes end at the end of the input
at_end : (end at : ℕ) (bytes : List ℕ) (e : At UnitFault) → at + length bytes ≡ end → (let r : Found = Err (at_place fault.Cut end) in r) ≡ Err e
    → at_place fault.Cut (at + length bytes) ≡ e
at_end end at bytes e ends h = ap (λ (n : ℕ). at_place fault.Cut n) ends ∙ err_is {A = List ℕ × ℕ} (at_place fault.Cut end) e h

frame_faulty : (end at : ℕ) (bytes : List ℕ) (e : At UnitFault) (s : Scan Frame91 (At FrameFault)) → IsBytes bytes → bytes ≢ []
    → at + length bytes ≡ end → ¬ IsHeaderPlace at bytes → Scans IsFrame091 bytes s → IfBad s (IsFrameFault most_091 bytes)
    → frame_091_in end at s ≡ Err e → IsFault091 at bytes e
frame_faulty end at bytes e (Whole frame n) fits some ends other (there, f) bad h =
    elim (bind_fails (payload_in at frame.kind frame.channel frame.payload) (λ (text : List ℕ). let r : Found = Ok (text, n) in r) e h) [
      | inl g ↦ payload_faulty at frame.kind frame.channel frame.payload (take n bytes) bytes e (f, (drop n bytes, sym (take-append-drop n bytes)))
          (payload_fits frame (take n bytes) f (IsBytes-take n bytes fits)) g
      | inr (text, is, g) ↦ absurd (let no : (let r : Found = Ok (text, n) in r) ≡ Err e = g in cc)
    ]
frame_faulty end at bytes e More fits some ends other h bad g = subst (IsFault091 at bytes) (at_end end at bytes e ends g) (CutFrame other (some, h))
frame_faulty end at bytes e (Bad x) fits some ends other h bad g =
    subst (IsFault091 at bytes) (err_is {A = List ℕ × ℕ} _ e g) (NoFrame x other bad)

header_faulty : (end at : ℕ) (bytes : List ℕ) (e : At UnitFault) (s : Scan (Unit {0}) (At NotHeader)) → bytes ≢ []
    → at + length bytes ≡ end → IsHeaderPlace at bytes → Scans IsHeader bytes s → IfBad s (IsHeaderFault bytes)
    → header_091_in end s ≡ Err e → IsFault091 at bytes e
header_faulty end at bytes e (Whole x n) some ends here h bad g = absurd cc
header_faulty end at bytes e More some ends here h bad g = subst (IsFault091 at bytes) (at_end end at bytes e ends g) (CutHeader here (some, h))
header_faulty end at bytes e (Bad x) some ends here h bad g =
    subst (IsFault091 at bytes) (err_is {A = List ℕ × ℕ} _ e g) (NoHeader x.at here bad)

-- no header is looked for here
not_here : (at : ℕ) (bytes : List ℕ) → (begins_with_a bytes && (at == 0)) ≡ false → ¬ IsHeaderPlace at bytes
not_here at bytes other (zero, letter) = absurd (cc (other, and_from (begins_with_a bytes) (at == 0) (eq-eqb (get_or bytes 0 0) 65 letter) (eq-eqb at 0 zero)))

pub unit_faulty : (end : ℕ) (bytes : List ℕ) (e : At UnitFault) → IsBytes bytes → bytes ≢ [] → place end bytes + length bytes ≡ end
    → unit_091_in end bytes ≡ Err e → IsFault091 (place end bytes) bytes e
unfolding unit_091_in
unit_faulty end bytes e fits some ends h = by_place (begins_with_a bytes && (place end bytes == 0)) refl h
  where
    at : ℕ
    at = place end bytes

    by_place : (t : Bool) → (begins_with_a bytes && (at == 0)) ≡ t
        → cond t (header_091_in end (header_scan bytes)) (frame_091_in end at (scan_of most_091 bytes)) ≡ Err e → IsFault091 at bytes e
    by_place true t h =
        let both = and_parts _ _ t in
        header_faulty end at bytes e (header_scan bytes) some ends (eqb-true at 0 both.1, eqb-true (get_or bytes 0 0) 65 both.0)
        (headers.scans bytes) (headers.faults bytes) h
    by_place false t h =
        frame_faulty end at bytes e (scan_of most_091 bytes) fits some ends (not_here at bytes t) (frames.scans most_091 bytes (omega arith) fits)
        (frames.faults most_091 bytes) h

-- ---- a unit is found again

kind_no_a : (kind : Kind91) → (kind_byte kind == 65) ≡ false
kind_no_a Method = refl
kind_no_a Header = refl
kind_no_a Body = refl
kind_no_a Heartbeat = refl

no_a : (frame : Frame91) (rest : List ℕ) → begins_with_a (frame_text frame ++ rest) ≡ false
unfolding frame_text
no_a frame rest = kind_no_a frame.kind

frame_again : (end : ℕ) (frame : Frame91) (text rest words : List ℕ) → IsFrame091 frame text
    → payload_in (place end (text ++ rest)) frame.kind frame.channel frame.payload ≡ Ok words → unit_091_in end (text ++ rest) ≡ Ok (words, length text)
unfolding unit_091_in
frame_again end frame text rest words f e =
    let other : begins_with_a (text ++ rest) ≡ false = ap (λ (t : List ℕ). begins_with_a (t ++ rest)) f.spelled ∙ no_a frame rest in
    let scan : scan_of most_091 (text ++ rest) ≡ Whole frame (length text) = frames.whole_again most_091 frame text rest f in
    rw (other, scan, e) refl

pub unit_again : (end at : ℕ) (words text rest : List ℕ) → Shows091 at words text → place end (text ++ rest) ≡ at
    → unit_091_in end (text ++ rest) ≡ Ok (words, length text)
unfolding unit_091_in
unit_again end at _ _ rest (HeaderLine zero) here =
    let first : place end (header_bytes ++ rest) ≡ 0 = here ∙ zero in
    let scan : header_scan (header_bytes ++ rest) ≡ Whole tt 8 = headers.whole_again tt header_bytes rest refl in
    rw (eq-eqb (place end (header_bytes ++ rest)) 0 first, scan) refl
unit_again end at _ _ rest (MethodLine channel class id payload text f (m, is, class_is, id_is)) here =
    frame_again end (frame_091 Method channel payload) text rest _ f
    (ap (method_in (place end (text ++ rest)) channel) (ap methods.told (method_readers.spelled_is_read payload m is)) ∙ rw (class_is, id_is) refl)
unit_again end at _ _ rest (ContentLine channel payload text h f is) here =
    frame_again end (frame_091 Header channel payload) text rest _ f
    (ap (content_in (place end (text ++ rest)) channel) (ap contents.told (content_readers.spelled_is_read payload h is)))
unit_again end at _ _ rest (BodyLine channel payload text f) here = frame_again end (frame_091 Body channel payload) text rest _ f refl
unit_again end at _ _ rest (HeartbeatLine channel payload text f) here = frame_again end (frame_091 Heartbeat channel payload) text rest _ f refl

-- a unit has bytes
pub unit_some : (at : ℕ) (words text : List ℕ) → Shows091 at words text → 1 ≤ length text
unit_some at _ _ (HeaderLine zero) = omega arith
unit_some at _ _ (MethodLine channel class id payload text f is) = some_091 _ text f
unit_some at _ _ (ContentLine channel payload text h f is) = some_091 _ text f
unit_some at _ _ (BodyLine channel payload text f) = some_091 _ text f
unit_some at _ _ (HeartbeatLine channel payload text f) = some_091 _ text f
