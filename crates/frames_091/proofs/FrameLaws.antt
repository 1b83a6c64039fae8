-- The laws of the grammar of frames and of its scan.
use Rattle.std.proofs.Common.{◌≡◌, ◌≢◌, ◌↔◌, ℕ, ◌+◌, ◌-◌, ◌^◌, ◌<◌, ◌≤◌, List, [], ◌∷◌, ◌++◌}
use Rattle.std.proofs.Common.{length, get_or, take, drop, replicate, Some, None, refl, sym, ◌∙◌, ap}
use Rattle.std.proofs.Common.{subst, arith}
use Rattle.std.specs.Int.{w16, w32, to_be_bytes}
use Rattle.std.proofs.lemmas.Nat.{from_be_bytes-to_be_bytes_2, from_be_bytes-to_be_bytes_4}
use Rattle.std.proofs.lemmas.List.{get_or-append-add, get_or_append_left, get_or_at, take_at}
use Rattle.std.proofs.lemmas.List.{take_all, append_assoc, length-append, length-drop}
use Rattle.std.proofs.lemmas.List.{length-take-le, length-replicate}
use Rattle.std.proofs.lemmas.Bool.{ne_eqb}
use Rattle.wire_base.specs.Bytes.{IsBytes}
use Rattle.wire_base.specs.Scans.{Scans, AreApart, IfBad}
use Rattle.wire_base.specs.declared.scan.At.{At}
use Rattle.wire_base.specs.declared.scan.Scan.{Scan}
use Rattle.wire_base.specs.declared.scan.Scan.TheVariants.{Whole, More, Bad}
use Rattle.wire_base.proofs.Bytes.{IsBytes-drop, IsBytes-append, IsBytes-replicate, IsBytes-one}
use Rattle.wire_base.proofs.Bytes.{zeros_keep}
use Rattle.wire_base.proofs.Scans.{IsScanner, apart_by, bad_by}
use Rattle.frames_091.specs.declared.frame.Kind91.{Kind91}
use Rattle.frames_091.specs.declared.frame.Kind91.TheVariants.{Heartbeat}
use Rattle.frames_091.specs.declared.frame.Frame91.{Frame91}
use Rattle.frames_091.specs.declared.frame.FrameFault.{FrameFault}
use Rattle.frames_091.specs.Frames.{kind_byte, frame_text, IsFrame}
use Rattle.frames_091.specs.FrameScan.{kind_of, stated_size, frame_in, bad, scan_of}
use Rattle.frames_091.specs.declared.frame.FrameFault.TheVariants.{Kind, Size, End}
use Rattle.frames_091.specs.FrameFaults.{BeginsWithKind, IsFaultOf, IsFrameFault}
use Rattle.frames_091.proofs.FrameScanning.{Begins, by_cases, answers_kind, answers_large}
use Rattle.frames_091.proofs.FrameScanning.{answers_there, answers_whole, size_places, size_same}
use Rattle.frames_091.proofs.FrameScanning.{stays}
use Rattle.frames_091.proofs.FrameParts.{kind_again, kind_is, frame_parts}

-- what follows the seven bytes before a payload
after : (frame : Frame91) (rest : List ℕ) → List ℕ
after frame rest = (frame.payload ++ 206 ∷ []) ++ rest

after_is : (frame : Frame91) (rest : List ℕ) → after frame rest ≡ frame.payload ++ 206 ∷ rest
unfolding after
after_is frame rest = append_assoc frame.payload (206 ∷ []) rest

length_text : (frame : Frame91) (rest : List ℕ) → length (frame_text frame ++ rest) ≡ length frame.payload + 8 + length rest
unfolding frame_text
length_text frame rest = omega (arith, length-append frame.payload (206 ∷ []), length-append (frame.payload ++ 206 ∷ []) rest)

size_text : (frame : Frame91) (rest : List ℕ) → length frame.payload < 2 ^ 32 → stated_size (frame_text frame ++ rest) ≡ length frame.payload
unfolding frame_text stated_size
size_text frame rest h = from_be_bytes-to_be_bytes_4 (length frame.payload) h

begins_text : (frame : Frame91) (rest : List ℕ) → Begins frame.kind (frame_text frame ++ rest)
unfolding frame_text
begins_text frame rest = record { some = omega arith; known = kind_again frame.kind }

end_text : (frame : Frame91) (rest : List ℕ) → get_or (frame_text frame ++ rest) (7 + length frame.payload) 0 ≡ 206
unfolding frame_text after
end_text frame rest =
    let front = kind_byte frame.kind ∷ to_be_bytes w16 frame.channel ++ to_be_bytes w32 (length frame.payload) in
    get_or-append-add front (after frame rest) (length frame.payload) 0
    ∙ ap (λ (t : List ℕ). get_or t (length frame.payload) 0) (after_is frame rest)
    ∙ get_or_at frame.payload 206 rest 0 (length frame.payload) refl

frame_text_in : (frame : Frame91) (rest : List ℕ) → frame.channel < 65536 → length frame.payload < 2 ^ 32
    → frame_in frame.kind (frame_text frame ++ rest) ≡ frame
unfolding frame_text frame_in after
frame_text_in frame rest h g =
    let channel = from_be_bytes-to_be_bytes_2 frame.channel h in
    let payload : take (stated_size (frame_text frame ++ rest)) (after frame rest) ≡ frame.payload =
    ap (λ (n : ℕ). take n (after frame rest)) (size_text frame rest g)
    ∙ ap (take (length frame.payload)) (after_is frame rest) ∙ take_at frame.payload (206 ∷ rest) (length frame.payload) refl in
    let Of : ℕ → List ℕ → Frame91 = λ c p. record { kind = frame.kind; channel = c; payload = p } in
    ap (λ (c : ℕ). Of c (take (stated_size (frame_text frame ++ rest)) (after frame rest))) channel ∙ ap (Of frame.channel) payload

-- a frame is read back, whatever follows
text_again : (limit : ℕ) (frame : Frame91) (rest : List ℕ) → frame.channel < 65536 → length frame.payload < 2 ^ 32
    → length frame.payload + 8 ≤ limit → scan_of limit (frame_text frame ++ rest) ≡ Whole frame (length frame.payload + 8)
text_again limit frame rest c p l =
    let size = size_text frame rest p in
    let ends = ap (λ (n : ℕ). get_or (frame_text frame ++ rest) (7 + n) 0) size ∙ end_text frame rest in
    answers_whole limit (frame_text frame ++ rest) frame.kind (begins_text frame rest) (omega arith) (omega (arith, length_text frame rest)) ends
    ∙ rw (frame_text_in frame rest c p, size) refl

length_alone : (frame : Frame91) → length (frame_text frame) ≡ length frame.payload + 8
unfolding frame_text
length_alone frame = omega (arith, length-append frame.payload (206 ∷ []))

pub whole_again : (limit : ℕ) (frame : Frame91) (unit rest : List ℕ) → IsFrame limit frame unit
    → scan_of limit (unit ++ rest) ≡ Whole frame (length unit)
whole_again limit frame unit rest f =
    rw (f.spelled, length_alone frame) (text_again limit frame rest f.channel_fits f.payload_fits f.within_limit)

channel_fits : (kind : Kind91) (bytes : List ℕ) → IsBytes bytes → (frame_in kind bytes).channel < 65536
unfolding frame_in
channel_fits kind bytes small = omega (arith, IsBytes-drop 1 bytes small 0, IsBytes-drop 1 bytes small 1)

size_fits : (bytes : List ℕ) → IsBytes bytes → stated_size bytes < 2 ^ 32
size_fits bytes small = omega (arith, size_places bytes, small 3, small 4, small 5, small 6)

payload_size : (kind : Kind91) (bytes : List ℕ) → stated_size bytes + 8 ≤ length bytes → length (frame_in kind bytes).payload ≡ stated_size bytes
unfolding frame_in
payload_size kind bytes h = length-take-le (stated_size bytes) (drop 7 bytes) (omega (arith, length-drop 7 bytes))

-- a whole frame that was found is spelled so
found : (limit : ℕ) (kind : Kind91) (bytes : List ℕ) → IsBytes bytes → Begins kind bytes → stated_size bytes + 8 ≤ limit
    → stated_size bytes + 8 ≤ length bytes → get_or bytes (7 + stated_size bytes) 0 ≡ 206
    → IsFrame limit (frame_in kind bytes) (take (stated_size bytes + 8) bytes)
found limit kind bytes small k fits there end =
    let size = payload_size kind bytes there in
    let text = frame_text (frame_in kind bytes) in
    let whole : length text ≡ stated_size bytes + 8 = length_alone (frame_in kind bytes) ∙ ap (λ (n : ℕ). n + 8) size in
    record {
      channel_fits = channel_fits kind bytes small;
      within_limit = omega arith;
      payload_fits = omega (arith, size_fits bytes small);
      spelled = ap (take (stated_size bytes + 8)) (frame_parts kind bytes small k there end)
          ∙ take_at text (drop (stated_size bytes + 1) (drop 7 bytes)) (stated_size bytes + 8) whole;
    }

pub scanner : (limit : ℕ) → IsScanner (IsFrame limit) (scan_of limit)
scanner limit = record { whole = whole_again limit; settled = stays limit }

pub apart : (limit : ℕ) → AreApart (IsFrame limit)
apart limit = apart_by (IsFrame limit) (scan_of limit) (scanner limit)

-- a frame that is begun, with zeros in place of what is missing and the end byte
begun : (limit : ℕ) (kind : Kind91) (bytes : List ℕ) → IsBytes bytes → Begins kind bytes → stated_size bytes + 8 ≤ limit
    → length bytes < stated_size bytes + 8 → Scans {T = Frame91} {F = At FrameFault} (IsFrame limit) bytes More
begun limit kind bytes small k fits short =
    let n = stated_size bytes + 7 - length bytes in
    let padded : List ℕ = bytes ++ replicate n 0 in
    let rest : List ℕ = replicate n 0 ++ 206 ∷ [] in
    let full : List ℕ = bytes ++ rest in
    let shape : padded ++ 206 ∷ [] ≡ full = append_assoc bytes (replicate n 0) (206 ∷ []) in
    let long : length padded ≡ stated_size bytes + 7 = omega (arith, length-append bytes (replicate n 0), length-replicate {A = ℕ} n 0) in
    let places : (i : ℕ) → i < stated_size bytes + 7 → get_or full i 0 ≡ get_or bytes i 0 =
    λ i l. ap (λ (t : List ℕ). get_or t i 0) (sym shape) ∙ get_or_append_left padded (206 ∷ []) 0 i (omega arith) ∙ zeros_keep bytes n i in
    let size : stated_size full ≡ stated_size bytes = size_same bytes full (λ i l. places i (omega arith)) in
    let whole : length full ≡ stated_size bytes + 8 = omega (arith, ap length shape, length-append padded (206 ∷ [])) in
    let ends : get_or full (7 + stated_size full) 0 ≡ 206 =
    ap (λ (t : List ℕ). get_or t (7 + stated_size full) 0) (sym shape) ∙ get_or_at padded 206 [] 0 (7 + stated_size full) (omega arith) in
    let bytes_full = IsBytes-append bytes rest small (IsBytes-append (replicate n 0) (206 ∷ []) (IsBytes-replicate n) (IsBytes-one 206 (omega arith))) in
    let starts : Begins kind full = record { some = omega arith; known = ap kind_of (places 0 (omega arith)) ∙ k.known } in
    let unit = found limit kind full bytes_full starts (omega arith) (omega arith) ends in
    let Is : List ℕ → Type 0 = IsFrame limit (frame_in kind full) in
    (frame_in kind full, rest, (λ e. absurd (omega (arith, ap length e, length-append {A = ℕ} (replicate n 0) (206 ∷ [])))), subst Is (take_all (stated_size full + 8) full (omega arith)) unit)

-- before the first byte, the shortest frame is a heartbeat
heartbeat : Frame91
heartbeat = record { kind = Heartbeat; channel = 0; payload = [] }

not_begun : (limit : ℕ) → 8 ≤ limit → Scans {T = Frame91} {F = At FrameFault} (IsFrame limit) [] More
unfolding heartbeat
not_begun limit h = (
  heartbeat,
  frame_text heartbeat,
  (λ e. absurd (omega (arith, ap length e, length_alone heartbeat))),
  record { channel_fits = omega arith; within_limit = h; payload_fits = omega arith; spelled = refl },
)

-- the scan answers what the grammar says
pub scans : (limit : ℕ) (bytes : List ℕ) → 8 ≤ limit → IsBytes bytes → Scans (IsFrame limit) bytes (scan_of limit bytes)
scans limit bytes h small = by_cases limit bytes (λ s. scan_of limit bytes ≡ s → Scans (IsFrame limit) bytes s)
    (λ none is. let P : List ℕ → Type 0 = λ t. Scans {T = Frame91} {F = At FrameFault} (IsFrame limit) t More in subst P (sym none) (not_begun limit h))
    (λ some unknown is. bad_by (IsFrame limit) (scan_of limit) bytes _ (scanner limit) is)
    (λ kind k large is. bad_by (IsFrame limit) (scan_of limit) bytes _ (scanner limit) is)
    (λ kind k fits short is. begun limit kind bytes small k fits short)
    (λ kind k fits there end is. (there, found limit kind bytes small k fits there end))
    (λ kind k fits there end is. bad_by (IsFrame limit) (scan_of limit) bytes _ (scanner limit) is)
    refl

-- and tells the fault that is there
pub faults : (limit : ℕ) (bytes : List ℕ) → IfBad (scan_of limit bytes) (IsFrameFault limit bytes)
faults limit bytes = by_cases limit bytes (λ s. IfBad s (IsFrameFault limit bytes))
    (λ none. tt)
    (λ some unknown. (refl, some, λ kind e. let other = ap kind_of e ∙ kind_again kind in cc (unknown, other)))
    (λ kind k large. (refl, (k.some, kind, kind_is _ kind k.known), large))
    (λ kind k fits short. tt)
    (λ kind k fits there end. tt)
    (λ kind k fits there end. (refl, (k.some, kind, kind_is _ kind k.known), fits, omega arith, end))

-- a byte of no kind
no_kind : (byte : ℕ) → ((kind : Kind91) → byte ≢ kind_byte kind) → kind_of byte ≡ None
no_kind byte none = elim (kind_of byte) as (λ o. kind_of byte ≡ o → o ≡ None)
    [ None ↦ (λ e. refl) | Some kind ↦ (λ e. absurd (none kind (kind_is byte kind e))) ] refl

begins_with : (bytes : List ℕ) (h : BeginsWithKind bytes) → Begins h.1 bytes
begins_with bytes h = record { some = h.0; known = ap kind_of h.2 ∙ kind_again h.1 }

-- and a fault that is there is told
told : (limit : ℕ) (fault : FrameFault) (at : ℕ) (bytes : List ℕ) → IsFaultOf fault at limit bytes → scan_of limit bytes ≡ bad fault at
told limit Kind at bytes h = answers_kind limit bytes None h.1 (no_kind _ h.2) ∙ ap (bad Kind) (sym h.0)
told limit Size at bytes h = answers_large limit bytes h.1.1 (begins_with bytes h.1) h.2 ∙ ap (bad Size) (sym h.0)
told limit End at bytes h =
    let Differs : ℕ → Type 0 = λ n. get_or bytes n 0 ≢ 206 in
    answers_there limit bytes h.1.1 (begins_with bytes h.1) h.2 (omega (arith, h.3, h.0))
    ∙ rw (ne_eqb (get_or bytes (7 + stated_size bytes) 0) 206 (subst Differs h.0 h.4)) (ap (bad End) (sym h.0))

pub faults_are : (limit : ℕ) (bytes : List ℕ) (at : At FrameFault) → (scan_of limit bytes ≡ Bad at) ↔ IsFrameFault limit bytes at
faults_are limit bytes at =
    let Told : Scan Frame91 (At FrameFault) → Type 0 = λ s. IfBad s (IsFrameFault limit bytes) in
    ((λ is. subst Told is (faults limit bytes)), told limit at.fault at.at bytes)

pub scans_by : (limit : ℕ) (bytes : List ℕ) (answer : Scan Frame91 (At FrameFault)) → 8 ≤ limit → IsBytes bytes
    → answer ≡ scan_of limit bytes → Scans (IsFrame limit) bytes answer
scans_by limit bytes answer h small is =
    let Answers : Scan Frame91 (At FrameFault) → Type 0 = Scans (IsFrame limit) bytes in subst Answers (sym is) (scans limit bytes h small)

pub faults_by : (limit : ℕ) (bytes : List ℕ) (answer : Scan Frame91 (At FrameFault)) → answer ≡ scan_of limit bytes
    → IfBad answer (IsFrameFault limit bytes)
faults_by limit bytes answer is =
    let Told : Scan Frame91 (At FrameFault) → Type 0 = λ s. IfBad s (IsFrameFault limit bytes) in subst Told (sym is) (faults limit bytes)
