-- The first unit of AMQP 1.0: what is found is a unit, a fault that is told is there, and a unit is found again, whatever follows.
use Rattle.std.proofs.Common.{◌≡◌, ◌≢◌, ℕ, ◌+◌, ◌-◌, ◌≤◌, Bool, true, false, cond, ◌==◌, List, []}
use Rattle.std.proofs.Common.{◌∷◌, ◌++◌, length, take, drop, get_or, Result, Ok, Err, refl, sym, ap}
use Rattle.std.proofs.Common.{subst, ◌∙◌, inl, inr, arith}
use Rattle.std.proofs.lemmas.Bool.{eqb-true, eq-eqb, ne_eqb}
use Rattle.std.proofs.lemmas.List.{take-append-drop, length-take-le, nil_from_length}
use Rattle.wire_base.specs.Bytes.{IsBytes}
use Rattle.wire_base.specs.Headers.{PartAt}
use Rattle.wire_base.specs.Scans.{Scans, IfBad}
use Rattle.wire_base.specs.declared.scan.At.{At}
use Rattle.wire_base.specs.declared.scan.Scan.{Scan}
use Rattle.wire_base.specs.declared.scan.Scan.TheVariants.{Whole, More, Bad}
use Rattle.wire_base.proofs.Bytes.{IsBytes-take}
use Rattle.wire_base.proofs.Laws.{bind_is, ok_is}
use Rattle.wire_base.proofs.FaultLaws.{bind_fails, err_is}
use Rattle.wire_base.proofs.Headers as headers
use Rattle.frames_10.specs.declared.frame.Kind10.{Kind10}
use Rattle.frames_10.specs.declared.frame.Kind10.TheVariants.{Amqp, Sasl}
use Rattle.frames_10.specs.declared.frame.Frame10.{Frame10}
use Rattle.frames_10.specs.declared.frame.FrameFault10.{FrameFault10}
use Rattle.frames_10.specs.declared.header.NotHeader.{NotHeader}
use Rattle.frames_10.specs.FrameFaults.{IsFrameFault}
use Rattle.frames_10.specs.FrameScan.{scan_of, stated_size}
use Rattle.frames_10.specs.Frames.{size_behind}
use Rattle.frames_10.specs.Headers.{IsHeader, header_bytes, header_scan}
use Rattle.frames_10.proofs.FrameLaws as frames
use Rattle.frames_10.proofs.FrameParts.{size_text}
use Rattle.frames_10.proofs.FrameScanning.{size_places}
use Rattle.performatives_10.specs.Reading as performatives
use Rattle.performatives_10.specs.declared.fault.PerfFault.{PerfFault}
use Rattle.performatives_10.proofs.PerfLaws as perf_laws
use Rattle.gate_listing.specs.Units.{most_10, IsFrame10, frame_10, BeginsWithPerf, is_empty}
use Rattle.gate_listing.specs.Units.{header_words, empty_words, performative_words, Shows10}
use Rattle.gate_listing.specs.Units.{HeaderLine10, EmptyLine, PerformativeLine}
use Rattle.gate_listing.specs.Faults.{IsFault10, BeginsLikeHeader, BeginsWithFrame, at_place}
use Rattle.gate_listing.specs.Faults.{CutHeader10, CutFrame10, NoHeader10, NoFrame10}
use Rattle.gate_listing.specs.Faults.{NoPerformative}
use Rattle.gate_listing.specs.Scanning.{Found, begins_with_a, place, performative_in, body_in}
use Rattle.gate_listing.specs.Scanning.{frame_10_in, header_10_in, unit_10_in}
use Rattle.gate_listing.specs.declared.fault.UnitFault.{UnitFault}
use Rattle.gate_listing.specs.declared.fault.UnitFault.TheVariants as fault
use Rattle.gate_listing.proofs.Payloads.{body_fits, some_10}

none : NotHeader
none = record {}

-- ---- what is found is a unit

performative_found : (at start : ℕ) (kind : Kind10) (channel : ℕ) (body text words : List ℕ) (r : Result (performatives.Parts × ℕ) PerfFault)
    → IsFrame10 (frame_10 kind channel body) text → IsBytes body → performatives.perf_at body ≡ r
    → performative_in at start (frame_10 kind channel body) r ≡ Ok words → Shows10 words text
performative_found at start kind channel body text words (Ok (p, after)) f fits is e =
    subst (λ (w : List ℕ). Shows10 w text) (ok_is {F = At UnitFault} _ words e)
    (PerformativeLine kind channel body text p after f (perf_laws.bytes_ok body p after fits is))
performative_found at start kind channel body text words (Err x) f fits is e = absurd cc

no_bytes : (body : List ℕ) → (length body == 0) ≡ true → body ≡ []
no_bytes body e = nil_from_length body (eqb-true (length body) 0 e)

body_found : (at start : ℕ) (kind : Kind10) (channel : ℕ) (body text words : List ℕ) → IsFrame10 (frame_10 kind channel body) text → IsBytes body
    → body_in at start (frame_10 kind channel body) ≡ Ok words → Shows10 words text
body_found at start Sasl channel body text words f fits e =
    performative_found at start Sasl channel body text words (performatives.perf_at body) f fits refl e
body_found at start Amqp channel body text words f fits e = by_length (length body == 0) refl e
  where
    by_length : (t : Bool) → (length body == 0) ≡ t
        → cond t (Ok (empty_words channel)) (performative_in at start (frame_10 Amqp channel body) (performatives.perf_at body)) ≡ Ok words
        → Shows10 words text
    by_length true t e =
        subst (λ (w : List ℕ). Shows10 w text) (ok_is {F = At UnitFault} _ words e)
        (EmptyLine channel text (subst (λ (b : List ℕ). IsFrame10 (frame_10 Amqp channel b) text) (no_bytes body t) f))
    by_length false t e = performative_found at start Amqp channel body text words (performatives.perf_at body) f fits refl e

-- a unit of so many bytes stands at the front
pub record IsFirst (bytes words : List ℕ) (size : ℕ) : Type 0 where
  pub there : size ≤ length bytes
  pub some : 1 ≤ size
  pub shows : Shows10 words (take size bytes)

sized : (n size : ℕ) (text words : List ℕ) → (let r : Found = Ok (text, n) in r) ≡ Ok (words, size) → (text ≡ words) × (n ≡ size)
sized n size text words e =
    let both = ok_is {F = At UnitFault} (text, n) (words, size) e in (ap (λ (x : List ℕ × ℕ). x.0) both, ap (λ (x : List ℕ × ℕ). x.1) both)

frame_found : (end at : ℕ) (bytes words : List ℕ) (size : ℕ) (s : Scan Frame10 (At FrameFault10)) → IsBytes bytes → Scans IsFrame10 bytes s
    → frame_10_in end at s ≡ Ok (words, size) → IsFirst bytes words size
frame_found end at bytes words size (Whole frame n) fits (there, f) e =
    let start = n - length frame.body in
    let b = bind_is (body_in at start frame) (λ (text : List ℕ). let r : Found = Ok (text, n) in r) (words, size) e in
    let same = sized n size b.0 words b.2 in
    let n_is : n ≡ size = same.1 in
    let words_is : b.0 ≡ words = same.0 in
    let text = take n bytes in
    let shows = body_found at start frame.kind frame.channel frame.body text b.0 f (body_fits frame text f (IsBytes-take n bytes fits)) b.1 in
    record {
      there = omega arith;
      some = omega (arith, some_10 frame text f, length-take-le n bytes there);
      shows = subst (λ (k : ℕ). Shows10 words (take k bytes)) n_is (subst (λ (w : List ℕ). Shows10 w text) words_is shows);
    }
frame_found end at bytes words size More fits h e = absurd cc
frame_found end at bytes words size (Bad x) fits h e = absurd cc

one_header : (kind : Kind10) (bytes words : List ℕ) (n size : ℕ) → n ≤ length bytes → IsHeader kind tt (take n bytes)
    → (let r : Found = Ok (header_words kind, n) in r) ≡ Ok (words, size) → IsFirst bytes words size
one_header kind bytes words n size there is e =
    let same = sized n size (header_words kind) words e in
    let n_is : n ≡ size = same.1 in
    let whole : length (take n bytes) ≡ length (header_bytes kind) = ap length is in
    record {
      there = omega arith;
      some = omega (arith, whole, length-take-le n bytes there, eight kind);
      shows = subst (λ (k : ℕ). Shows10 words (take k bytes)) n_is
          (subst (λ (t : List ℕ). Shows10 words t) (sym is) (subst (λ (w : List ℕ). Shows10 w (header_bytes kind)) same.0 (HeaderLine10 kind)));
    }
  where
    eight : (kind : Kind10) → length (header_bytes kind) ≡ 8
    eight Amqp = refl
    eight Sasl = refl

header_found : (end at : ℕ) (bytes words : List ℕ) (size : ℕ) (s t : Scan (Unit {0}) (At NotHeader)) → Scans (IsHeader Amqp) bytes s
    → Scans (IsHeader Sasl) bytes t → header_10_in end at s t ≡ Ok (words, size) → IsFirst bytes words size
header_found end at bytes words size (Whole x n) t (there, is) k e = one_header Amqp bytes words n size there is e
header_found end at bytes words size More t h k e = absurd cc
header_found end at bytes words size (Bad x) (Whole y n) h (there, is) e = one_header Sasl bytes words n size there is e
header_found end at bytes words size (Bad x) More h k e = absurd cc
header_found end at bytes words size (Bad x) (Bad y) h k e = absurd cc

scans : (kind : Kind10) (bytes : List ℕ) → Scans (IsHeader kind) bytes (header_scan kind bytes)
unfolding none
scans kind bytes = headers.scans none (header_bytes kind) bytes

parts : (kind : Kind10) (bytes : List ℕ) → IfBad (header_scan kind bytes) (λ x. PartAt (header_bytes kind) bytes x.at)
unfolding none
parts kind bytes = headers.parts none (header_bytes kind) bytes

pub unit_found : (end : ℕ) (bytes words : List ℕ) (size : ℕ) → IsBytes bytes → unit_10_in end bytes ≡ Ok (words, size) → IsFirst bytes words size
unfolding unit_10_in
unit_found end bytes words size fits e = by_letter (begins_with_a bytes) refl e
  where
    at : ℕ
    at = place end bytes

    by_letter : (t : Bool) → begins_with_a bytes ≡ t
        → cond t (header_10_in end at (header_scan Amqp bytes) (header_scan Sasl bytes)) (frame_10_in end at (scan_of most_10 bytes)) ≡ Ok (words, size)
        → IsFirst bytes words size
    by_letter true t e = header_found end at bytes words size (header_scan Amqp bytes) (header_scan Sasl bytes) (scans Amqp bytes) (scans Sasl bytes) e
    by_letter false t e = frame_found end at bytes words size (scan_of most_10 bytes) fits (frames.scans most_10 bytes (omega arith) fits) e

-- ---- a fault that is told is there

performative_faulty : (at : ℕ) (frame : Frame10) (text bytes : List ℕ) (e : At UnitFault) (r : Result (performatives.Parts × ℕ) PerfFault)
    → BeginsWithFrame IsFrame10 frame text bytes → IsBytes frame.body → is_empty frame.kind frame.body ≡ false
    → performatives.perf_at frame.body ≡ r → performative_in at (length text - length frame.body) frame r ≡ Err e → IsFault10 at bytes e
performative_faulty at frame text bytes e (Ok x) b fits full is h = absurd cc
performative_faulty at frame text bytes e (Err x) b fits full is h =
    subst (IsFault10 at bytes) (err_is {A = List ℕ} _ e h) (NoPerformative frame text x b full (perf_laws.bytes_err frame.body x fits is))

body_faulty : (at start : ℕ) (frame : Frame10) (text bytes : List ℕ) (e : At UnitFault) → BeginsWithFrame IsFrame10 frame text bytes
    → IsBytes frame.body → start ≡ length text - length frame.body → body_in at start frame ≡ Err e → IsFault10 at bytes e
body_faulty at start frame text bytes e b fits starts h = by_empty (is_empty frame.kind frame.body) refl (subst Told starts h)
  where
    Told : ℕ → Type 0
    Told n = body_in at n frame ≡ Err e

    by_empty : (t : Bool) → is_empty frame.kind frame.body ≡ t
        → cond t (Ok (empty_words frame.channel)) (performative_in at (length text - length frame.body) frame (performatives.perf_at frame.body)) ≡ Err e
        → IsFault10 at bytes e
    by_empty true t h = absurd cc
    by_empty false t h = performative_faulty at frame text bytes e (performatives.perf_at frame.body) b fits t refl h

-- the bytes end at the end of the input
at_end : (end at : ℕ) (bytes : List ℕ) (e : At UnitFault) → at + length bytes ≡ end → (let r : Found = Err (at_place fault.Cut end) in r) ≡ Err e
    → at_place fault.Cut (at + length bytes) ≡ e
at_end end at bytes e ends h = ap (λ (n : ℕ). at_place fault.Cut n) ends ∙ err_is {A = List ℕ × ℕ} (at_place fault.Cut end) e h

frame_faulty : (end at : ℕ) (bytes : List ℕ) (e : At UnitFault) (s : Scan Frame10 (At FrameFault10)) → IsBytes bytes → bytes ≢ []
    → at + length bytes ≡ end → ¬ BeginsLikeHeader bytes → Scans IsFrame10 bytes s → IfBad s (IsFrameFault most_10 bytes)
    → frame_10_in end at s ≡ Err e → IsFault10 at bytes e
frame_faulty end at bytes e (Whole frame n) fits some ends other (there, f) bad h =
    let size : length (take n bytes) ≡ n = length-take-le n bytes there in
    let starts : n - length frame.body ≡ length (take n bytes) - length frame.body = ap (λ (k : ℕ). k - length frame.body) (sym size) in
    elim (bind_fails (body_in at (n - length frame.body) frame) (λ (text : List ℕ). let r : Found = Ok (text, n) in r) e h) [
      | inl g ↦ body_faulty at (n - length frame.body) frame (take n bytes) bytes e (f, (drop n bytes, sym (take-append-drop n bytes)))
          (body_fits frame (take n bytes) f (IsBytes-take n bytes fits)) starts g
      | inr (text, is, g) ↦ absurd (let no : (let r : Found = Ok (text, n) in r) ≡ Err e = g in cc)
    ]
frame_faulty end at bytes e More fits some ends other h bad g = subst (IsFault10 at bytes) (at_end end at bytes e ends g) (CutFrame10 other (some, h))
frame_faulty end at bytes e (Bad x) fits some ends other h bad g =
    subst (IsFault10 at bytes) (err_is {A = List ℕ × ℕ} _ e g) (NoFrame10 x other bad)

header_faulty : (end at : ℕ) (bytes : List ℕ) (e : At UnitFault) (s t : Scan (Unit {0}) (At NotHeader)) → bytes ≢ [] → at + length bytes ≡ end
    → BeginsLikeHeader bytes → Scans (IsHeader Amqp) bytes s → Scans (IsHeader Sasl) bytes t
    → IfBad s (λ x. PartAt (header_bytes Amqp) bytes x.at) → IfBad t (λ x. PartAt (header_bytes Sasl) bytes x.at)
    → header_10_in end at s t ≡ Err e → IsFault10 at bytes e
header_faulty end at bytes e (Whole x n) t some ends here h k a b g = absurd cc
header_faulty end at bytes e More t some ends here h k a b g =
    subst (IsFault10 at bytes) (at_end end at bytes e ends g) (CutHeader10 Amqp here (some, h))
header_faulty end at bytes e (Bad x) (Whole y n) some ends here h k a b g = absurd cc
header_faulty end at bytes e (Bad x) More some ends here h k a b g =
    subst (IsFault10 at bytes) (at_end end at bytes e ends g) (CutHeader10 Sasl here (some, k))
header_faulty end at bytes e (Bad x) (Bad y) some ends here h k a b g =
    subst (IsFault10 at bytes) (err_is {A = List ℕ × ℕ} _ e g) (NoHeader10 x.at y.at here a b)

pub unit_faulty : (end : ℕ) (bytes : List ℕ) (e : At UnitFault) → IsBytes bytes → bytes ≢ [] → place end bytes + length bytes ≡ end
    → unit_10_in end bytes ≡ Err e → IsFault10 (place end bytes) bytes e
unfolding unit_10_in
unit_faulty end bytes e fits some ends h = by_letter (begins_with_a bytes) refl h
  where
    at : ℕ
    at = place end bytes

    by_letter : (t : Bool) → begins_with_a bytes ≡ t
        → cond t (header_10_in end at (header_scan Amqp bytes) (header_scan Sasl bytes)) (frame_10_in end at (scan_of most_10 bytes)) ≡ Err e
        → IsFault10 at bytes e
    by_letter true t h =
        header_faulty end at bytes e (header_scan Amqp bytes) (header_scan Sasl bytes) some ends (eqb-true (get_or bytes 0 0) 65 t)
        (scans Amqp bytes) (scans Sasl bytes) (parts Amqp bytes) (parts Sasl bytes) h
    by_letter false t h =
        frame_faulty end at bytes e (scan_of most_10 bytes) fits some ends (λ letter. absurd (cc (t, eq-eqb (get_or bytes 0 0) 65 letter)))
        (frames.scans most_10 bytes (omega arith) fits) (frames.faults most_10 bytes) h

-- ---- a unit is found again

-- the first byte of a frame is the highest of its size, which the limit keeps small
no_a : (frame : Frame10) (text rest : List ℕ) → IsFrame10 frame text → begins_with_a (text ++ rest) ≡ false
no_a frame text rest f =
    let size : stated_size (text ++ rest) ≡ size_behind f.words frame =
    ap (λ (t : List ℕ). stated_size (t ++ rest)) f.spelled ∙ size_text f.words f.extended frame rest f.size_fits in
    ne_eqb (get_or (text ++ rest) 0 0) 65 (λ letter. absurd (omega (arith, size, f.within_limit, size_places (text ++ rest), letter)))

frame_again : (end : ℕ) (frame : Frame10) (text rest words : List ℕ) → IsFrame10 frame text
    → body_in (place end (text ++ rest)) (length text - length frame.body) frame ≡ Ok words → unit_10_in end (text ++ rest) ≡ Ok (words, length text)
unfolding unit_10_in
frame_again end frame text rest words f e =
    let other : begins_with_a (text ++ rest) ≡ false = no_a frame text rest f in
    let scan : scan_of most_10 (text ++ rest) ≡ Whole frame (length text) = frames.whole_again most_10 frame text rest f in
    rw (other, scan, e) refl

again : (kind : Kind10) (rest : List ℕ) → header_scan kind (header_bytes kind ++ rest) ≡ Whole tt (length (header_bytes kind))
unfolding none
again kind rest = headers.whole_again none (header_bytes kind) tt (header_bytes kind) rest refl

-- the header of the security layer parts from the other at its fifth byte
parts_apart : (rest : List ℕ) → header_scan Amqp (header_bytes Sasl ++ rest) ≡ Bad (record { fault = none; at = 4 })
unfolding none
parts_apart rest = headers.told none (header_bytes Amqp) (header_bytes Sasl ++ rest) 4 (omega arith, omega arith, refl, λ e. absurd (omega (arith, e)))

-- a body with a performative isn't empty
some_body : (body : List ℕ) (p : performatives.Parts) (after : ℕ) → IsBytes body → BeginsWithPerf p body after → 1 ≤ length body
some_body [] p after fits h =
    let read : performatives.perf_at [] ≡ Ok (p, after) = perf_laws.bytes_is [] p after h.0 fits h.1 h.2 in absurd cc
some_body (b ∷ body) p after fits h = omega arith

body_again : (at start : ℕ) (kind : Kind10) (channel : ℕ) (body : List ℕ) (p : performatives.Parts) (after : ℕ) → IsBytes body
    → BeginsWithPerf p body after
    → body_in at start (frame_10 kind channel body) ≡ Ok (performative_words kind channel (performatives.code_of p.0) (length body - after))
body_again at start Sasl channel body p after fits h = ap (performative_in at start (frame_10 Sasl channel body)) (perf_laws.bytes_is body p after h.0 fits h.1 h.2)
body_again at start Amqp channel body p after fits h =
    let some = some_body body p after fits h in
    let other : (length body == 0) ≡ false = ne_eqb (length body) 0 (λ e. absurd (omega (arith, some, e))) in
    rw other (ap (performative_in at start (frame_10 Amqp channel body)) (perf_laws.bytes_is body p after h.0 fits h.1 h.2))

pub unit_again : (end : ℕ) (words text rest : List ℕ) → IsBytes text → Shows10 words text → unit_10_in end (text ++ rest) ≡ Ok (words, length text)
unfolding unit_10_in
unit_again end _ _ rest fits (HeaderLine10 Amqp) = rw (again Amqp rest) refl
unit_again end _ _ rest fits (HeaderLine10 Sasl) = rw (parts_apart rest, again Sasl rest) refl
unit_again end _ _ rest fits (EmptyLine channel text f) = frame_again end (frame_10 Amqp channel []) text rest _ f refl
unit_again end _ _ rest fits (PerformativeLine kind channel body text p after f h) =
    frame_again end (frame_10 kind channel body) text rest _ f
    (body_again (place end (text ++ rest)) (length text - length body) kind channel body p after (body_fits (frame_10 kind channel body) text f fits) h)

-- a unit has bytes
pub unit_some : (words text : List ℕ) → Shows10 words text → 1 ≤ length text
unit_some _ _ (HeaderLine10 Amqp) = omega arith
unit_some _ _ (HeaderLine10 Sasl) = omega arith
unit_some _ _ (EmptyLine channel text f) = some_10 _ text f
unit_some _ _ (PerformativeLine kind channel body text p after f h) = some_10 _ text f
