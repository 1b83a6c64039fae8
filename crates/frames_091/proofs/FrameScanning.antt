-- What a scan of frames answers, case by case, and that an answer other than More stays whatever bytes follow.
use Rattle.std.proofs.Common.{◌≡◌, ◌≢◌, ℕ, ◌+◌, ◌*◌, ◌^◌, ◌<◌, ◌≤◌, nat_eq, ltb, cond, List, []}
use Rattle.std.proofs.Common.{◌∷◌, ◌++◌, length, get_or, take, drop, Option, Some, None, refl, sym}
use Rattle.std.proofs.Common.{◌∙◌, ap, arith}
use Rattle.std.specs.Int.{w16, from_be_bytes}
use Rattle.std.proofs.lemmas.Bool.{eqb-true, eqb-false, eq-eqb, ne_eqb, ltb-true, ltb-false, lt-ltb}
use Rattle.std.proofs.lemmas.Bool.{le-ltb, cond_both}
use Rattle.std.proofs.lemmas.List.{get_or-drop, get_or_append_left, take-append-le, drop-append-le}
use Rattle.std.proofs.lemmas.List.{length-drop, length-append}
use Rattle.wire_base.proofs.Bytes.{get_or-append-le}
use Rattle.wire_base.specs.declared.scan.At.{At}
use Rattle.wire_base.specs.declared.scan.Scan.{Scan}
use Rattle.wire_base.specs.declared.scan.Scan.TheVariants.{Whole, More}
use Rattle.frames_091.specs.declared.frame.Kind91.{Kind91}
use Rattle.frames_091.specs.declared.frame.Frame91.{Frame91}
use Rattle.frames_091.specs.declared.frame.FrameFault.{FrameFault}
use Rattle.frames_091.specs.declared.frame.FrameFault.TheVariants as fault
use Rattle.frames_091.specs.FrameScan.{kind_of, stated_size, frame_in, bad, scan_kind, scan_of}

-- the bytes begin with that of a kind
pub record Begins (kind : Kind91) (bytes : List ℕ) : Type 0 where
  pub some : 0 < length bytes
  pub known : kind_of (get_or bytes 0 0) ≡ Some kind

-- the size by its places
pub size_places : (bytes : List ℕ) → stated_size bytes
    ≡ get_or bytes 3 0 * 256 ^ 3 + get_or bytes 4 0 * 256 ^ 2 + get_or bytes 5 0 * 256 ^ 1 + get_or bytes 6 0
unfolding stated_size
size_places bytes = simp (get_or-drop 3 bytes) refl

-- what follows only adds to a size
pub size_more : (bytes more : List ℕ) → stated_size bytes ≤ stated_size (bytes ++ more)
size_more bytes more = omega (
  arith,
  size_places bytes,
  size_places (bytes ++ more),
  get_or-append-le bytes more 3,
  get_or-append-le bytes more 4,
  get_or-append-le bytes more 5,
  get_or-append-le bytes more 6,
)

-- texts with the same first seven bytes state the same size
pub size_same : (bytes other : List ℕ) → ((i : ℕ) → i < 7 → get_or other i 0 ≡ get_or bytes i 0) → stated_size other ≡ stated_size bytes
size_same bytes other h = size_places other
    ∙ rw (h 3 (omega arith), h 4 (omega arith), h 5 (omega arith), h 6 (omega arith)) (sym (size_places bytes))

-- the ways of a scan
pub by_cases : (limit : ℕ) (bytes : List ℕ) (P : Scan Frame91 (At FrameFault) → Type 0)
    → (bytes ≡ [] → P More)
    → (0 < length bytes → kind_of (get_or bytes 0 0) ≡ None → P (bad fault.Kind 0))
    → ((kind : Kind91) → Begins kind bytes → limit < stated_size bytes + 8 → P (bad fault.Size 3))
    → ((kind : Kind91) → Begins kind bytes → stated_size bytes + 8 ≤ limit → length bytes < stated_size bytes + 8 → P More)
    → ((kind : Kind91) → Begins kind bytes → stated_size bytes + 8 ≤ limit → stated_size bytes + 8 ≤ length bytes
    → get_or bytes (7 + stated_size bytes) 0 ≡ 206 → P (Whole (frame_in kind bytes) (stated_size bytes + 8)))
    → ((kind : Kind91) → Begins kind bytes → stated_size bytes + 8 ≤ limit → stated_size bytes + 8 ≤ length bytes
    → get_or bytes (7 + stated_size bytes) 0 ≢ 206 → P (bad fault.End (7 + stated_size bytes)))
    → P (scan_of limit bytes)
unfolding scan_of
by_cases limit [] P none unknown large short whole ends = none refl
by_cases limit (b ∷ bytes) P none unknown large short whole ends = at (kind_of b) refl
  where
    at : (o : Option Kind91) → kind_of b ≡ o → P (scan_kind limit o (b ∷ bytes))
    at None q = unknown (omega arith) q
    at (Some kind) q =
        let k : Begins kind (b ∷ bytes) = record { some = omega arith; known = q } in
        let size = stated_size (b ∷ bytes) in
        cond_both (ltb limit (size + 8)) _ _ P (λ e. large kind k (ltb-true _ _ e))
        (λ e. let fits = ltb-false _ _ e in
        cond_both (ltb (length (b ∷ bytes)) (size + 8)) _ _ P (λ f. short kind k fits (ltb-true _ _ f))
        (λ f. let there = ltb-false _ _ f in
        cond_both (nat_eq (get_or (b ∷ bytes) (7 + size) 0) 206) _ _ P
        (λ g. whole kind k fits there (eqb-true _ _ g)) (λ g. ends kind k fits there (eqb-false _ _ g))))

-- and what is answered there
pub answers_kind : (limit : ℕ) (bytes : List ℕ) (o : Option Kind91) → 0 < length bytes → kind_of (get_or bytes 0 0) ≡ o
    → scan_of limit bytes ≡ scan_kind limit o bytes
unfolding scan_of
answers_kind limit [] o h k = absurd (omega arith)
answers_kind limit (b ∷ bytes) o h k = ap (λ (o : Option Kind91). scan_kind limit o (b ∷ bytes)) k

pub answers_large : (limit : ℕ) (bytes : List ℕ) (kind : Kind91) → Begins kind bytes → limit < stated_size bytes + 8
    → scan_of limit bytes ≡ bad fault.Size 3
answers_large limit bytes kind k h = answers_kind limit bytes (Some kind) k.some k.known ∙ rw (lt-ltb limit (stated_size bytes + 8) h) refl

pub answers_there : (limit : ℕ) (bytes : List ℕ) (kind : Kind91) → Begins kind bytes → stated_size bytes + 8 ≤ limit
    → stated_size bytes + 8 ≤ length bytes
    → scan_of limit bytes ≡ cond (nat_eq (get_or bytes (7 + stated_size bytes) 0) 206)
    (Whole (frame_in kind bytes) (stated_size bytes + 8)) (bad fault.End (7 + stated_size bytes))
answers_there limit bytes kind k h g = answers_kind limit bytes (Some kind) k.some k.known
    ∙ rw (le-ltb limit (stated_size bytes + 8) h, le-ltb (length bytes) (stated_size bytes + 8) g) refl

pub answers_whole : (limit : ℕ) (bytes : List ℕ) (kind : Kind91) → Begins kind bytes → stated_size bytes + 8 ≤ limit
    → stated_size bytes + 8 ≤ length bytes → get_or bytes (7 + stated_size bytes) 0 ≡ 206
    → scan_of limit bytes ≡ Whole (frame_in kind bytes) (stated_size bytes + 8)
answers_whole limit bytes kind k h g e = answers_there limit bytes kind k h g ∙ rw (eq-eqb _ _ e) refl

-- a frame that is whole stays as it is
frame_same : (kind : Kind91) (bytes more : List ℕ) → stated_size bytes + 8 ≤ length bytes → stated_size (bytes ++ more) ≡ stated_size bytes
    → frame_in kind (bytes ++ more) ≡ frame_in kind bytes
unfolding frame_in
frame_same kind bytes more h same =
    let after : stated_size bytes ≤ length (drop 7 bytes) = omega (arith, length-drop 7 bytes) in
    let payload : take (stated_size (bytes ++ more)) (drop 7 (bytes ++ more)) ≡ take (stated_size bytes) (drop 7 bytes) =
    rw (same, drop-append-le 7 bytes more (omega arith)) (take-append-le (stated_size bytes) (drop 7 bytes) more after) in
    let channel : from_be_bytes w16 (drop 1 (bytes ++ more)) ≡ from_be_bytes w16 (drop 1 bytes) =
    simp (get_or-drop 1 (bytes ++ more), get_or-drop 1 bytes)
    (rw (get_or_append_left bytes more 0 1 (omega arith), get_or_append_left bytes more 0 2 (omega arith)) refl) in
    cc

begins_more : (kind : Kind91) (bytes more : List ℕ) → Begins kind bytes → Begins kind (bytes ++ more)
begins_more kind bytes more k = record {
  some = omega (arith, length-append bytes more, k.some);
  known = ap kind_of (get_or_append_left bytes more 0 0 k.some) ∙ k.known;
}

-- the seven bytes before a payload that are there stay
size_stays : (bytes more : List ℕ) → 7 ≤ length bytes → stated_size (bytes ++ more) ≡ stated_size bytes
size_stays bytes more h = size_same bytes (bytes ++ more) (λ i l. get_or_append_left bytes more 0 i (omega arith))

-- and so does what is answered once the whole frame is there
there_stays : (limit : ℕ) (bytes more : List ℕ) (kind : Kind91) → Begins kind bytes → stated_size bytes + 8 ≤ limit
    → stated_size bytes + 8 ≤ length bytes
    → scan_of limit (bytes ++ more) ≡ cond (nat_eq (get_or bytes (7 + stated_size bytes) 0) 206)
    (Whole (frame_in kind bytes) (stated_size bytes + 8)) (bad fault.End (7 + stated_size bytes))
there_stays limit bytes more kind k h g =
    let same = size_stays bytes more (omega arith) in
    answers_there limit (bytes ++ more) kind (begins_more kind bytes more k) (omega (arith, same)) (omega (arith, same, length-append bytes more))
    ∙ rw (same, frame_same kind bytes more g same, get_or_append_left bytes more 0 (7 + stated_size bytes) (omega arith)) refl

-- an answer other than More stays
pub stays : (limit : ℕ) (bytes more : List ℕ) → scan_of limit bytes ≢ More → scan_of limit (bytes ++ more) ≡ scan_of limit bytes
stays limit bytes more = by_cases limit bytes (λ s. s ≢ More → scan_of limit (bytes ++ more) ≡ s)
    (λ e ne. absurd (ne refl))
    (λ h k ne. answers_kind limit (bytes ++ more) None (omega (arith, length-append bytes more))
    (ap kind_of (get_or_append_left bytes more 0 0 h) ∙ k))
    (λ kind k h ne. answers_large limit (bytes ++ more) kind (begins_more kind bytes more k) (omega (arith, size_more bytes more)))
    (λ kind k h g ne. absurd (ne refl))
    (λ kind k h g e ne. there_stays limit bytes more kind k h g ∙ rw (eq-eqb _ _ e) refl)
    (λ kind k h g e ne. there_stays limit bytes more kind k h g ∙ rw (ne_eqb _ _ e) refl)
