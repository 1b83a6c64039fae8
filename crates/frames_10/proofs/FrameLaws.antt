-- The laws of the grammar of frames and of its scan.
use Rattle.std.proofs.Common.{◌≡◌, ◌≢◌, ◌↔◌, ℕ, zero, suc, ◌+◌, ◌-◌, ◌*◌, ◌^◌, ◌<◌, ◌≤◌, ◌⊎◌, inl}
use Rattle.std.proofs.Common.{inr, ⊎_elim, List, [], ◌∷◌, ◌++◌, length, get_or, take, drop}
use Rattle.std.proofs.Common.{replicate, Some, None, refl, sym, ◌∙◌, ap, subst, arith}
use Rattle.std.proofs.lemmas.List.{get_or_append_left, get_or_past, take_all, take-append-drop}
use Rattle.std.proofs.lemmas.List.{length-append, length-drop, length-take-le, length-replicate}
use Rattle.std.proofs.lemmas.Bool.{cases_lt}
use Rattle.std.proofs.lemmas.Grind.{get_or_default_zero}
use Rattle.wire_base.specs.Bytes.{IsBytes}
use Rattle.wire_base.specs.Scans.{Scans, AreApart, IfBad}
use Rattle.wire_base.specs.declared.scan.At.{At}
use Rattle.wire_base.specs.declared.scan.Scan.{Scan}
use Rattle.wire_base.specs.declared.scan.Scan.TheVariants.{Whole, More, Bad}
use Rattle.wire_base.proofs.Bytes.{IsBytes-drop, IsBytes-append, IsBytes-replicate, zeros_keep}
use Rattle.wire_base.proofs.Scans.{IsScanner, apart_by, bad_by}
use Rattle.frames_10.specs.declared.frame.Kind10.{Kind10}
use Rattle.frames_10.specs.declared.frame.Kind10.TheVariants.{Amqp}
use Rattle.frames_10.specs.declared.frame.Frame10.{Frame10}
use Rattle.frames_10.specs.declared.frame.FrameFault10.{FrameFault10}
use Rattle.frames_10.specs.declared.frame.FrameFault10.TheVariants.{FrameSize, DataOffset}
use Rattle.frames_10.specs.declared.frame.FrameFault10.TheVariants.{FrameType}
use Rattle.frames_10.specs.Frames.{kind_byte, size_behind, text_behind, frame_text, IsFrame}
use Rattle.frames_10.specs.FrameFaults.{HasSize, HasOffset, IsFaultOf, IsFrameFault}
use Rattle.frames_10.specs.FrameScan.{kind_of, stated_size, stated_offset, frame_in, bad, scan_of}
use Rattle.frames_10.proofs.FrameScanning.{IsSet, IsAstray, by_cases, answers_large, answers_small}
use Rattle.frames_10.proofs.FrameScanning.{answers_astray, answers_kind, answers_whole}
use Rattle.frames_10.proofs.FrameScanning.{astray_there, kind_there, size_places, size_same, stays}
use Rattle.frames_10.proofs.FrameParts.{kind_again, kind_is, frame_parts, frame_text_in, kind_text}
use Rattle.frames_10.proofs.FrameParts.{length_text, offset_text, size_text}

-- ---- what is spelled is read back

text_again : (limit words : ℕ) (extended : List ℕ) (frame : Frame10) (rest : List ℕ) → length extended ≡ 4 * words
    → frame.channel < 2 ^ 16 → size_behind words frame < 2 ^ 32 → size_behind words frame ≤ limit
    → scan_of limit (text_behind words extended frame ++ rest) ≡ Whole frame (size_behind words frame)
text_again limit words extended frame rest h c s l =
    let text : List ℕ = text_behind words extended frame ++ rest in
    let size = size_text words extended frame rest s in
    let offset = offset_text words extended frame rest in
    let long : length text ≡ size_behind words frame + length rest =
    omega (arith, length-append (text_behind words extended frame) rest, length_text words extended frame h) in
    let set : IsSet limit text = record {
      sized = (omega (arith, long), omega (arith, size), omega (arith, size));
      behind = omega (arith, offset);
      inside = omega (arith, size, offset);
    } in
    answers_whole limit text frame.kind set (kind_text words extended frame rest) (omega (arith, size, long))
    ∙ rw (frame_text_in words extended frame rest h c s, size) refl

pub whole_again : (limit : ℕ) (frame : Frame10) (unit rest : List ℕ) → IsFrame limit frame unit
    → scan_of limit (unit ++ rest) ≡ Whole frame (length unit)
whole_again limit frame unit rest f =
    rw (f.spelled, length_text f.words f.extended frame f.extended_fills)
    (text_again limit f.words f.extended frame rest f.extended_fills f.channel_fits f.size_fits f.within_limit)

pub scanner : (limit : ℕ) → IsScanner (IsFrame limit) (scan_of limit)
scanner limit = record { whole = whole_again limit; settled = stays limit }

pub apart : (limit : ℕ) → AreApart (IsFrame limit)
apart limit = apart_by (IsFrame limit) (scan_of limit) (scanner limit)

-- what is written is in the grammar
pub is_spelled : (limit : ℕ) (frame : Frame10) → frame.channel < 65536 → length frame.body + 8 < 2 ^ 32
    → length frame.body + 8 ≤ limit → IsFrame limit frame (frame_text frame)
is_spelled limit frame c s l = record {
  words = 0;
  extended = [];
  extended_fills = refl;
  offset_fits = omega arith;
  channel_fits = c;
  size_fits = omega arith;
  within_limit = omega arith;
  spelled = refl;
}

-- ---- a whole frame that was found is spelled so

channel_fits : (kind : Kind10) (bytes : List ℕ) → IsBytes bytes → (frame_in kind bytes).channel < 2 ^ 16
unfolding frame_in
channel_fits kind bytes small = omega (arith, IsBytes-drop 6 bytes small 0, IsBytes-drop 6 bytes small 1)

size_bound : (bytes : List ℕ) → IsBytes bytes → stated_size bytes < 2 ^ 32
size_bound bytes small = omega (arith, size_places bytes, small 0, small 1, small 2, small 3)

body_size : (kind : Kind10) (bytes : List ℕ) → stated_size bytes ≤ length bytes
    → length (frame_in kind bytes).body ≡ stated_size bytes - 4 * stated_offset bytes
unfolding frame_in
body_size kind bytes h =
    length-take-le (stated_size bytes - 4 * stated_offset bytes) (drop (4 * stated_offset bytes) bytes)
    (omega (arith, length-drop (4 * stated_offset bytes) bytes))

offset_place : (bytes : List ℕ) → 4 < length bytes → stated_offset bytes ≡ get_or bytes 4 0
unfolding stated_offset
offset_place bytes h = get_or_default_zero bytes 4 2 h

found : (limit : ℕ) (kind : Kind10) (bytes : List ℕ) → IsBytes bytes → IsSet limit bytes
    → kind_of (get_or bytes 5 0) ≡ Some kind → stated_size bytes ≤ length bytes
    → IsFrame limit (frame_in kind bytes) (take (stated_size bytes) bytes)
found limit kind bytes small s k there =
    let o : ℕ = get_or bytes 4 0 in
    let offset : stated_offset bytes ≡ o = offset_place bytes (omega (arith, s.sized.1)) in
    let size = body_size kind bytes there in
    let whole : size_behind (o - 2) (frame_in kind bytes) ≡ stated_size bytes =
    omega (arith, size, offset, s.behind, s.inside) in
    record {
      words = o - 2;
      extended = take (4 * o - 8) (drop 8 bytes);
      extended_fills = length-take-le (4 * o - 8) (drop 8 bytes) (omega (arith, offset, s.inside, length-drop 8 bytes))
          ∙ (let words : 4 * o - 8 ≡ 4 * (o - 2) = omega arith in words);
      offset_fits = omega (arith, offset, s.behind, small 4);
      channel_fits = channel_fits kind bytes small;
      size_fits = omega (arith, whole, size_bound bytes small);
      within_limit = omega (arith, whole, s.sized.2);
      spelled = frame_parts limit kind bytes small s k there;
    }

-- ---- a frame that is begun can be completed

-- what stands past the end of a text that goes on as another one does
continued : (text other : List ℕ) (x i : ℕ) → length text ≤ i → get_or (text ++ drop (length text) other) i x ≡ get_or other i x
continued [] other x i h = refl
continued (b ∷ text) other x zero h = absurd (omega arith)
continued (b ∷ text) [] x (suc i) h =
    get_or_past (text ++ drop (length (b ∷ text)) []) i x
    (omega (arith, length-append text (drop (length (b ∷ text)) []), length-drop {A = ℕ} (length (b ∷ text)) []))
continued (b ∷ text) (c ∷ other) x (suc i) h = continued text other x i (omega arith)

-- the bytes of a frame without an extended header, but for its size
filling : ℕ → List ℕ
filling n = 0 ∷ 0 ∷ 0 ∷ 0 ∷ 2 ∷ replicate (n - 5) 0

filling_starts : (n i : ℕ) → i < 4 → get_or (filling n) i 0 ≡ 0
unfolding filling
filling_starts n zero h = refl
filling_starts n (suc zero) h = refl
filling_starts n (suc (suc zero)) h = refl
filling_starts n (suc (suc (suc zero))) h = refl
filling_starts n (suc (suc (suc (suc i)))) h = absurd (omega arith)

filling_kind : (n : ℕ) → get_or (filling n) 5 0 ≡ 0
unfolding filling
filling_kind n = zeros_keep [] (n - 5) 0

filling_length : (n : ℕ) → 8 ≤ n → length (filling n) ≡ n
unfolding filling
filling_length n h = omega (arith, length-replicate {A = ℕ} (n - 5) 0)

filling_bytes : (n : ℕ) → IsBytes (filling n)
unfolding filling
filling_bytes n zero = omega arith
filling_bytes n (suc zero) = omega arith
filling_bytes n (suc (suc zero)) = omega arith
filling_bytes n (suc (suc (suc zero))) = omega arith
filling_bytes n (suc (suc (suc (suc zero)))) = omega arith
filling_bytes n (suc (suc (suc (suc (suc i))))) = IsBytes-replicate (n - 5) i

completed : ℕ → List ℕ → List ℕ
completed n bytes = bytes ++ drop (length bytes) (filling n)

completed_size : (n : ℕ) (bytes : List ℕ) → stated_size (completed n bytes) ≡ stated_size bytes
unfolding completed
completed_size n bytes = size_same bytes (completed n bytes) (λ i l. ⊎_elim
    (λ h. get_or_append_left bytes (drop (length bytes) (filling n)) 0 i h)
    (λ h. continued bytes (filling n) 0 i h ∙ filling_starts n i l ∙ sym (get_or_past bytes i 0 h))
    (cases_lt i (length bytes)))

completed_offset : (n : ℕ) (bytes : List ℕ) → stated_offset (completed n bytes) ≡ stated_offset bytes
unfolding completed stated_offset filling
completed_offset n bytes = ⊎_elim
    (λ h. get_or_append_left bytes (drop (length bytes) (filling n)) 2 4 h)
    (λ h. continued bytes (filling n) 2 4 h ∙ sym (get_or_past bytes 4 2 h))
    (cases_lt 4 (length bytes))

completed_kind : (n : ℕ) (bytes : List ℕ) → get_or (completed n bytes) 5 0 ≡ get_or bytes 5 0
unfolding completed
completed_kind n bytes = ⊎_elim
    (λ h. get_or_append_left bytes (drop (length bytes) (filling n)) 0 5 h)
    (λ h. continued bytes (filling n) 0 5 h ∙ filling_kind n ∙ sym (get_or_past bytes 5 0 h))
    (cases_lt 5 (length bytes))

completed_length : (n : ℕ) (bytes : List ℕ) → 8 ≤ n → length bytes ≤ n → length (completed n bytes) ≡ n
unfolding completed
completed_length n bytes h g = omega (
  arith,
  length-append bytes (drop (length bytes) (filling n)),
  length-drop (length bytes) (filling n),
  filling_length n h,
)

begun : (limit : ℕ) (kind : Kind10) (bytes : List ℕ) → IsBytes bytes → 8 ≤ stated_size bytes → stated_size bytes ≤ limit
    → 2 ≤ stated_offset bytes → 4 * stated_offset bytes ≤ stated_size bytes → kind_of (get_or bytes 5 0) ≡ Some kind
    → length bytes < stated_size bytes → Scans {T = Frame10} {F = At FrameFault10} (IsFrame limit) bytes More
unfolding completed
begun limit kind bytes small least fits behind inside k short =
    let n = stated_size bytes in
    let full = completed n bytes in
    let rest : List ℕ = drop (length bytes) (filling n) in
    let size = completed_size n bytes in
    let offset = completed_offset n bytes in
    let long = completed_length n bytes least (omega arith) in
    let all : IsBytes full = IsBytes-append bytes rest small (IsBytes-drop (length bytes) (filling n) (filling_bytes n)) in
    let set : IsSet limit full = record {
      sized = (omega (arith, long), omega (arith, size), omega (arith, size));
      behind = omega (arith, offset);
      inside = omega (arith, size, offset);
    } in
    let unit = found limit kind full all set (ap kind_of (completed_kind n bytes) ∙ k) (omega (arith, size, long)) in
    let Is : List ℕ → Type 0 = IsFrame limit (frame_in kind full) in (
      frame_in kind full,
      rest,
      (λ e. absurd (omega (arith, ap length e, length-drop (length bytes) (filling n), filling_length n least))),
      subst Is (take_all (stated_size full) full (omega (arith, size, long))) unit,
    )

-- the shortest frame
empty_frame : Frame10
empty_frame = record { kind = Amqp; channel = 0; body = [] }

empty_text : List ℕ
empty_text = 0 ∷ 0 ∷ 0 ∷ 8 ∷ 2 ∷ 0 ∷ 0 ∷ 0 ∷ []

empty_spelled : (limit : ℕ) → 8 ≤ limit → IsFrame limit empty_frame empty_text
unfolding empty_frame empty_text text_behind
empty_spelled limit h = record {
  words = 0;
  extended = [];
  extended_fills = refl;
  offset_fits = omega arith;
  channel_fits = omega arith;
  size_fits = omega arith;
  within_limit = h;
  spelled = refl;
}

-- a size of which some bytes are there, and that may be below 8, is so far that of the shortest frame
zeros : (bytes : List ℕ) → length bytes < 4 → stated_size bytes < 8 → bytes ≡ take (length bytes) empty_text
unfolding empty_text stated_size
zeros [] h s = refl
zeros (a ∷ []) h s = let x : a ≡ 0 = omega arith in cc
zeros (a ∷ b ∷ []) h s = let x : a ≡ 0 = omega arith in let y : b ≡ 0 = omega arith in cc
zeros (a ∷ b ∷ c ∷ []) h s =
    let x : a ≡ 0 = omega arith in let y : b ≡ 0 = omega arith in let z : c ≡ 0 = omega arith in cc
zeros (a ∷ b ∷ c ∷ d ∷ bytes) h s = absurd (omega arith)

not_sized : (limit : ℕ) (bytes : List ℕ) → 8 ≤ limit → length bytes < 4 → stated_size bytes < 8
    → Scans {T = Frame10} {F = At FrameFault10} (IsFrame limit) bytes More
unfolding empty_text
not_sized limit bytes h f s =
    let rest : List ℕ = drop (length bytes) empty_text in
    let whole : empty_text ≡ bytes ++ rest =
    sym (take-append-drop (length bytes) empty_text) ∙ ap (λ (t : List ℕ). t ++ rest) (sym (zeros bytes f s)) in
    let Is : List ℕ → Type 0 = IsFrame limit empty_frame in (
      empty_frame,
      rest,
      (λ e. absurd (omega (arith, ap length e, length-drop (length bytes) empty_text))),
      subst Is whole (empty_spelled limit h),
    )

-- fewer than four bytes, within the limit
few : (limit : ℕ) (bytes : List ℕ) → 8 ≤ limit → IsBytes bytes → stated_size bytes ≤ limit → length bytes < 4
    → Scans {T = Frame10} {F = At FrameFault10} (IsFrame limit) bytes More
unfolding stated_offset
few limit bytes h small fits f = ⊎_elim (not_sized limit bytes h f)
    (λ least. let offset : stated_offset bytes ≡ 2 = get_or_past bytes 4 2 (omega arith) in
    begun limit Amqp bytes small least fits (omega arith) (omega arith) (ap kind_of (get_or_past bytes 5 0 (omega arith))) (omega arith))
    (cases_lt (stated_size bytes) 8)

-- ---- the scan answers what the grammar says

pub scans : (limit : ℕ) (bytes : List ℕ) → 8 ≤ limit → IsBytes bytes → Scans (IsFrame limit) bytes (scan_of limit bytes)
scans limit bytes h small = by_cases limit bytes (λ s. scan_of limit bytes ≡ s → Scans (IsFrame limit) bytes s)
    (λ large is. bad_by (IsFrame limit) (scan_of limit) bytes _ (scanner limit) is)
    (λ fits f is. few limit bytes h small fits f)
    (λ fits four s is. bad_by (IsFrame limit) (scan_of limit) bytes _ (scanner limit) is)
    (λ sized astray is. bad_by (IsFrame limit) (scan_of limit) bytes _ (scanner limit) is)
    (λ set unknown is. bad_by (IsFrame limit) (scan_of limit) bytes _ (scanner limit) is)
    (λ kind set k short is. begun limit kind bytes small set.sized.1 set.sized.2 set.behind set.inside k short)
    (λ kind set k there is. (there, found limit kind bytes small set k there))
    refl

astray_place : (bytes : List ℕ) → 4 < length bytes → IsAstray bytes
    → (get_or bytes 4 0 < 2) ⊎ (stated_size bytes < 4 * get_or bytes 4 0)
astray_place bytes h (inl a) = inl (omega (arith, offset_place bytes h))
astray_place bytes h (inr b) = inr (omega (arith, offset_place bytes h))

astray_at : (bytes : List ℕ) → 4 < length bytes → (get_or bytes 4 0 < 2) ⊎ (stated_size bytes < 4 * get_or bytes 4 0)
    → IsAstray bytes
astray_at bytes h (inl a) = inl (omega (arith, offset_place bytes h))
astray_at bytes h (inr b) = inr (omega (arith, offset_place bytes h))

has_offset : (limit : ℕ) (bytes : List ℕ) → 4 < length bytes → IsSet limit bytes → HasOffset bytes
has_offset limit bytes h s =
    let offset = offset_place bytes h in (h, omega (arith, s.behind), omega (arith, s.inside))

is_set : (limit : ℕ) (bytes : List ℕ) → HasSize limit bytes → HasOffset bytes → IsSet limit bytes
is_set limit bytes h o =
    let offset = offset_place bytes o.0 in
    record { sized = h; behind = omega (arith, o.1); inside = omega (arith, o.2) }

-- and tells the fault that is there
pub faults : (limit : ℕ) (bytes : List ℕ) → IfBad (scan_of limit bytes) (IsFrameFault limit bytes)
faults limit bytes = by_cases limit bytes (λ s. IfBad s (IsFrameFault limit bytes))
    (λ large. (refl, inl large))
    (λ fits f. tt)
    (λ fits four s. (refl, inr (four, s)))
    (λ sized astray. let there = astray_there bytes sized.1 astray in (refl, sized, there, astray_place bytes there astray))
    (λ set unknown. let there = kind_there bytes unknown in
    (refl, set.sized, has_offset limit bytes (omega arith) set, there, λ kind e. let other = ap kind_of e ∙ kind_again kind in cc (unknown, other)))
    (λ kind set k short. tt)
    (λ kind set k there. tt)

-- a byte of no kind
no_kind : (byte : ℕ) → ((kind : Kind10) → byte ≢ kind_byte kind) → kind_of byte ≡ None
no_kind byte none = elim (kind_of byte) as (λ o. kind_of byte ≡ o → o ≡ None)
    [ None ↦ (λ e. refl) | Some kind ↦ (λ e. absurd (none kind (kind_is byte kind e))) ] refl

-- and a fault that is there is told
told : (limit : ℕ) (fault : FrameFault10) (at : ℕ) (bytes : List ℕ) → IsFaultOf fault at limit bytes → scan_of limit bytes ≡ bad fault at
told limit FrameSize at bytes h = size_told h.1 ∙ ap (bad FrameSize) (sym h.0)
  where
    size_told : (limit < stated_size bytes) ⊎ ((4 ≤ length bytes) × (stated_size bytes < 8)) → scan_of limit bytes ≡ bad FrameSize 0
    size_told (inl large) = answers_large limit bytes large
    size_told (inr s) = ⊎_elim (answers_large limit bytes) (λ fits. answers_small limit bytes fits s.0 s.1) (cases_lt limit (stated_size bytes))
told limit DataOffset at bytes h = answers_astray limit bytes h.1 (astray_at bytes h.2 h.3) ∙ ap (bad DataOffset) (sym h.0)
told limit FrameType at bytes h =
    answers_kind limit bytes None (is_set limit bytes h.1 h.2) (no_kind _ h.4) ∙ ap (bad FrameType) (sym h.0)

pub faults_are : (limit : ℕ) (bytes : List ℕ) (at : At FrameFault10) → (scan_of limit bytes ≡ Bad at) ↔ IsFrameFault limit bytes at
faults_are limit bytes at =
    let Told : Scan Frame10 (At FrameFault10) → Type 0 = λ s. IfBad s (IsFrameFault limit bytes) in
    ((λ is. subst Told is (faults limit bytes)), told limit at.fault at.at bytes)

pub scans_by : (limit : ℕ) (bytes : List ℕ) (answer : Scan Frame10 (At FrameFault10)) → 8 ≤ limit → IsBytes bytes
    → answer ≡ scan_of limit bytes → Scans (IsFrame limit) bytes answer
scans_by limit bytes answer h small is =
    let Answers : Scan Frame10 (At FrameFault10) → Type 0 = Scans (IsFrame limit) bytes in subst Answers (sym is) (scans limit bytes h small)

pub faults_by : (limit : ℕ) (bytes : List ℕ) (answer : Scan Frame10 (At FrameFault10)) → answer ≡ scan_of limit bytes
    → IfBad answer (IsFrameFault limit bytes)
faults_by limit bytes answer is =
    let Told : Scan Frame10 (At FrameFault10) → Type 0 = λ s. IfBad s (IsFrameFault limit bytes) in subst Told (sym is) (faults limit bytes)
