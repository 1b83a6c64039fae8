-- What a scan of frames answers, case by case, and that an answer other than More stays whatever bytes follow.
use Rattle.std.proofs.Common.{◌≡◌, ◌≢◌, ℕ, ◌+◌, ◌-◌, ◌*◌, ◌^◌, ◌<◌, ◌≤◌, ◌⊎◌, inl, inr, ⊎_elim, ltb}
use Rattle.std.proofs.Common.{List, ◌++◌, length, get_or, take, drop, Option, Some, None, refl, sym}
use Rattle.std.proofs.Common.{◌∙◌, ap, arith}
use Rattle.std.specs.Int.{w16, from_be_bytes}
use Rattle.std.proofs.lemmas.Bool.{ltb-true, ltb-false, lt-ltb, le-ltb, cond_both, cases_lt}
use Rattle.std.proofs.lemmas.List.{get_or-drop, get_or_append_left, get_or_past, take-append-le}
use Rattle.std.proofs.lemmas.List.{drop-append-le, length-drop, length-append}
use Rattle.wire_base.proofs.Bytes.{get_or-append-le}
use Rattle.wire_base.specs.declared.scan.At.{At}
use Rattle.wire_base.specs.declared.scan.Scan.{Scan}
use Rattle.wire_base.specs.declared.scan.Scan.TheVariants.{Whole, More}
use Rattle.frames_10.specs.declared.frame.Kind10.{Kind10}
use Rattle.frames_10.specs.declared.frame.Frame10.{Frame10}
use Rattle.frames_10.specs.declared.frame.FrameFault10.{FrameFault10}
use Rattle.frames_10.specs.declared.frame.FrameFault10.TheVariants as fault
use Rattle.frames_10.specs.FrameFaults.{HasSize}
use Rattle.frames_10.specs.FrameScan.{kind_of, stated_size, stated_offset, frame_in, bad, scan_kind}
use Rattle.frames_10.specs.FrameScan.{scan_of}

-- the size and the data offset are right, the offset perhaps as it is not there
pub record IsSet (limit : ℕ) (bytes : List ℕ) : Type 0 where
  pub sized : HasSize limit bytes
  pub behind : 2 ≤ stated_offset bytes
  pub inside : 4 * stated_offset bytes ≤ stated_size bytes

-- the data offset is wrong
abbrev pub IsAstray : List ℕ → Type 0
IsAstray bytes = (stated_offset bytes < 2) ⊎ (stated_size bytes < 4 * stated_offset bytes)

-- the size by its places
pub size_places : (bytes : List ℕ) → stated_size bytes
    ≡ get_or bytes 0 0 * 256 ^ 3 + get_or bytes 1 0 * 256 ^ 2 + get_or bytes 2 0 * 256 ^ 1 + get_or bytes 3 0
unfolding stated_size
size_places bytes = refl

-- what follows only adds to a size
pub size_more : (bytes more : List ℕ) → stated_size bytes ≤ stated_size (bytes ++ more)
size_more bytes more = omega (
  arith,
  size_places bytes,
  size_places (bytes ++ more),
  get_or-append-le bytes more 0,
  get_or-append-le bytes more 1,
  get_or-append-le bytes more 2,
  get_or-append-le bytes more 3,
)

-- texts with the same first four bytes state the same size
pub size_same : (bytes other : List ℕ) → ((i : ℕ) → i < 4 → get_or other i 0 ≡ get_or bytes i 0) → stated_size other ≡ stated_size bytes
size_same bytes other h = size_places other
    ∙ rw (h 0 (omega arith), h 1 (omega arith), h 2 (omega arith), h 3 (omega arith)) (sym (size_places bytes))

-- a data offset that is not 2 is there
pub offset_there : (bytes : List ℕ) → stated_offset bytes ≢ 2 → 4 < length bytes
unfolding stated_offset
offset_there bytes h = ⊎_elim (λ l. l) (λ g. absurd (h (get_or_past bytes 4 2 g))) (cases_lt 4 (length bytes))

-- and so is one that is wrong
pub astray_there : (bytes : List ℕ) → 8 ≤ stated_size bytes → IsAstray bytes → 4 < length bytes
astray_there bytes h (inl s) = offset_there bytes (λ e. omega arith)
astray_there bytes h (inr l) = offset_there bytes (λ e. omega arith)

-- and a type of no kind
pub kind_there : (bytes : List ℕ) → kind_of (get_or bytes 5 0) ≡ None → 5 < length bytes
kind_there bytes h = ⊎_elim (λ l. l) (λ g. let zero_kind = ap kind_of (get_or_past bytes 5 0 g) in absurd (cc (zero_kind, h))) (cases_lt 5 (length bytes))

-- the ways of a scan
pub by_cases : (limit : ℕ) (bytes : List ℕ) (P : Scan Frame10 (At FrameFault10) → Type 0)
    → (limit < stated_size bytes → P (bad fault.FrameSize 0))
    → (stated_size bytes ≤ limit → length bytes < 4 → P More)
    → (stated_size bytes ≤ limit → 4 ≤ length bytes → stated_size bytes < 8 → P (bad fault.FrameSize 0))
    → (HasSize limit bytes → IsAstray bytes → P (bad fault.DataOffset 4))
    → (IsSet limit bytes → kind_of (get_or bytes 5 0) ≡ None → P (bad fault.FrameType 5))
    → ((kind : Kind10) → IsSet limit bytes → kind_of (get_or bytes 5 0) ≡ Some kind → length bytes < stated_size bytes → P More)
    → ((kind : Kind10) → IsSet limit bytes → kind_of (get_or bytes 5 0) ≡ Some kind → stated_size bytes ≤ length bytes
    → P (Whole (frame_in kind bytes) (stated_size bytes)))
    → P (scan_of limit bytes)
unfolding scan_of
by_cases limit bytes P large few small astray unknown short whole =
    let size = stated_size bytes in
    cond_both (ltb limit size) _ _ P (λ e. large (ltb-true _ _ e))
    (λ e. let fits = ltb-false _ _ e in cond_both (ltb (length bytes) 4) _ _ P (λ f. few fits (ltb-true _ _ f))
    (λ f. let four = ltb-false _ _ f in cond_both (ltb size 8) _ _ P (λ g. small fits four (ltb-true _ _ g))
    (λ g. let sized : HasSize limit bytes = (four, ltb-false _ _ g, fits) in
    cond_both (ltb (stated_offset bytes) 2) _ _ P (λ a. astray sized (inl (ltb-true _ _ a)))
    (λ a. cond_both (ltb size (4 * stated_offset bytes)) _ _ P (λ b. astray sized (inr (ltb-true _ _ b)))
    (λ b. at (kind_of (get_or bytes 5 0)) refl (record { sized = sized; behind = ltb-false _ _ a; inside = ltb-false _ _ b }))))))
  where
    at : (o : Option Kind10) → kind_of (get_or bytes 5 0) ≡ o → IsSet limit bytes → P (scan_kind o bytes)
    at None q s = unknown s q
    at (Some kind) q s = cond_both (ltb (length bytes) (stated_size bytes)) _ _ P (λ e. short kind s q (ltb-true _ _ e))
        (λ e. whole kind s q (ltb-false _ _ e))

-- and what is answered there
pub answers_large : (limit : ℕ) (bytes : List ℕ) → limit < stated_size bytes → scan_of limit bytes ≡ bad fault.FrameSize 0
unfolding scan_of
answers_large limit bytes h = rw (lt-ltb limit (stated_size bytes) h) refl

pub answers_small : (limit : ℕ) (bytes : List ℕ) → stated_size bytes ≤ limit → 4 ≤ length bytes → stated_size bytes < 8
    → scan_of limit bytes ≡ bad fault.FrameSize 0
unfolding scan_of
answers_small limit bytes h f s =
    rw (le-ltb limit (stated_size bytes) h, le-ltb (length bytes) 4 f, lt-ltb (stated_size bytes) 8 s) refl

pub answers_astray : (limit : ℕ) (bytes : List ℕ) → HasSize limit bytes → IsAstray bytes → scan_of limit bytes ≡ bad fault.DataOffset 4
unfolding scan_of
answers_astray limit bytes h (inl a) =
    rw (le-ltb limit (stated_size bytes) h.2, le-ltb (length bytes) 4 h.0, le-ltb (stated_size bytes) 8 h.1, lt-ltb (stated_offset bytes) 2 a) refl
answers_astray limit bytes h (inr b) =
    rw (le-ltb limit (stated_size bytes) h.2, le-ltb (length bytes) 4 h.0, le-ltb (stated_size bytes) 8 h.1)
    (cond_both (ltb (stated_offset bytes) 2) _ _ (λ s. s ≡ bad fault.DataOffset 4) (λ e. refl)
    (λ e. rw (lt-ltb (stated_size bytes) (4 * stated_offset bytes) b) refl))

pub answers_kind : (limit : ℕ) (bytes : List ℕ) (o : Option Kind10) → IsSet limit bytes → kind_of (get_or bytes 5 0) ≡ o
    → scan_of limit bytes ≡ scan_kind o bytes
unfolding scan_of
answers_kind limit bytes o s k =
    rw (
      le-ltb limit (stated_size bytes) s.sized.2,
      le-ltb (length bytes) 4 s.sized.0,
      le-ltb (stated_size bytes) 8 s.sized.1,
      le-ltb (stated_offset bytes) 2 s.behind,
      le-ltb (stated_size bytes) (4 * stated_offset bytes) s.inside,
    )
    (ap (λ (o : Option Kind10). scan_kind o bytes) k)

pub answers_whole : (limit : ℕ) (bytes : List ℕ) (kind : Kind10) → IsSet limit bytes → kind_of (get_or bytes 5 0) ≡ Some kind
    → stated_size bytes ≤ length bytes → scan_of limit bytes ≡ Whole (frame_in kind bytes) (stated_size bytes)
answers_whole limit bytes kind s k h = answers_kind limit bytes (Some kind) s k ∙ rw (le-ltb (length bytes) (stated_size bytes) h) refl

-- the eight bytes of a header that are there stay
size_stays : (bytes more : List ℕ) → 4 ≤ length bytes → stated_size (bytes ++ more) ≡ stated_size bytes
size_stays bytes more h = size_same bytes (bytes ++ more) (λ i l. get_or_append_left bytes more 0 i (omega arith))

offset_stays : (bytes more : List ℕ) → 4 < length bytes → stated_offset (bytes ++ more) ≡ stated_offset bytes
unfolding stated_offset
offset_stays bytes more h = get_or_append_left bytes more 2 4 h

sized_more : (limit : ℕ) (bytes more : List ℕ) → HasSize limit bytes → HasSize limit (bytes ++ more)
sized_more limit bytes more h =
    let same = size_stays bytes more h.0 in (omega (arith, h.0, length-append bytes more), omega (arith, h.1, same), omega (arith, h.2, same))

set_more : (limit : ℕ) (bytes more : List ℕ) → IsSet limit bytes → 4 < length bytes → IsSet limit (bytes ++ more)
set_more limit bytes more s h =
    let size = size_stays bytes more (omega arith) in let offset = offset_stays bytes more h in
    record {
      sized = sized_more limit bytes more s.sized;
      behind = omega (arith, s.behind, offset);
      inside = omega (arith, s.inside, size, offset);
    }

astray_more : (bytes more : List ℕ) → 4 < length bytes → IsAstray bytes → IsAstray (bytes ++ more)
astray_more bytes more h (inl a) = inl (omega (arith, offset_stays bytes more h))
astray_more bytes more h (inr b) = inr (omega (arith, offset_stays bytes more h, size_stays bytes more (omega arith)))

kind_stays : (bytes more : List ℕ) (o : Option Kind10) → 5 < length bytes → kind_of (get_or bytes 5 0) ≡ o
    → kind_of (get_or (bytes ++ more) 5 0) ≡ o
kind_stays bytes more o h k = ap kind_of (get_or_append_left bytes more 0 5 h) ∙ k

-- a frame that is whole stays as it is
frame_same : (kind : Kind10) (bytes more : List ℕ) → 8 ≤ length bytes → stated_size bytes ≤ length bytes
    → 4 * stated_offset bytes ≤ stated_size bytes → frame_in kind (bytes ++ more) ≡ frame_in kind bytes
unfolding frame_in
frame_same kind bytes more g h inside =
    let size = size_stays bytes more (omega arith) in let offset = offset_stays bytes more (omega arith) in
    let start : ℕ = 4 * stated_offset bytes in
    let body : take (stated_size (bytes ++ more) - 4 * stated_offset (bytes ++ more)) (drop (4 * stated_offset (bytes ++ more)) (bytes ++ more))
    ≡ take (stated_size bytes - start) (drop start bytes) =
    rw (size, offset, drop-append-le start bytes more (omega arith))
    (take-append-le (stated_size bytes - start) (drop start bytes) more (omega (arith, length-drop start bytes))) in
    let channel : from_be_bytes w16 (drop 6 (bytes ++ more)) ≡ from_be_bytes w16 (drop 6 bytes) =
    simp (get_or-drop 6 (bytes ++ more), get_or-drop 6 bytes)
    (rw (get_or_append_left bytes more 0 6 (omega arith), get_or_append_left bytes more 0 7 (omega arith)) refl) in
    cc

-- an answer other than More stays
pub stays : (limit : ℕ) (bytes more : List ℕ) → scan_of limit bytes ≢ More → scan_of limit (bytes ++ more) ≡ scan_of limit bytes
stays limit bytes more = by_cases limit bytes (λ s. s ≢ More → scan_of limit (bytes ++ more) ≡ s)
    (λ h ne. answers_large limit (bytes ++ more) (omega (arith, size_more bytes more)))
    (λ h f ne. absurd (ne refl))
    (λ h f s ne. let same = size_stays bytes more f in
    answers_small limit (bytes ++ more) (omega arith) (omega (arith, length-append bytes more)) (omega arith))
    (λ h a ne. answers_astray limit (bytes ++ more) (sized_more limit bytes more h)
    (astray_more bytes more (astray_there bytes h.1 a) a))
    (λ s k ne. let there = kind_there bytes k in
    answers_kind limit (bytes ++ more) None (set_more limit bytes more s (omega arith)) (kind_stays bytes more None there k))
    (λ kind s k h ne. absurd (ne refl))
    (λ kind s k h ne. let eight : 8 ≤ length bytes = omega (arith, s.sized.1) in
    let same = size_stays bytes more (omega arith) in
    answers_whole limit (bytes ++ more) kind (set_more limit bytes more s (omega arith)) (kind_stays bytes more (Some kind) (omega arith) k)
    (omega (arith, same, length-append bytes more)) ∙ rw (same, frame_same kind bytes more eight h s.inside) refl)
