-- Laws of a protocol header and of its scan, for any header and any fault.
use Rattle.std.proofs.Common.{◌≡◌, ◌≢◌, ◌↔◌, ℕ, ◌+◌, ◌<◌, ◌≤◌, min, nat_eq, Bool, true, false, zero}
use Rattle.std.proofs.Common.{suc, cond, List, [], ◌∷◌, ◌++◌, length, get_or, take, drop, refl, sym}
use Rattle.std.proofs.Common.{◌∙◌, ap, subst, arith}
use Rattle.std.specs.List.{common_prefix_len}
use Rattle.std.proofs.lemmas.Bool.{eqb-true, eqb-false, eq-eqb, ne_eqb, cond_both}
use Rattle.std.proofs.lemmas.List.{take_all, take-append-drop, length-append, length-drop}
use Rattle.std.proofs.lemmas.List.Sums.{common_prefix_len-le, common_prefix_len-drop_yes}
use Rattle.std.proofs.lemmas.List.Sums.{common_prefix_len-drop_no}
use Rattle.wire_base.specs.Headers.{IsHeaderOf, agreed_with, scan_agreed, first_header, PartAt}
use Rattle.wire_base.specs.Scans.{Scans, AreApart, IfBad}
use Rattle.wire_base.specs.declared.scan.At.{At}
use Rattle.wire_base.specs.declared.scan.Scan.{Scan}
use Rattle.wire_base.specs.declared.scan.Scan.TheVariants.{Whole, More, Bad}
use Rattle.wire_base.proofs.Scans.{IsScanner, apart_by, bad_by}

-- ---- how far two texts agree, from one place on

pub agrees_more : (xs ys : List ℕ) (i : ℕ) → i < length xs → i < length ys → get_or xs i 0 ≡ get_or ys i 0
    → common_prefix_len nat_eq (drop i xs) (drop i ys) ≡ 1 + common_prefix_len nat_eq (drop (i + 1) xs) (drop (i + 1) ys)
agrees_more xs ys i h k e = common_prefix_len-drop_yes nat_eq xs ys i 0 0 h k (eq-eqb _ _ e)

pub agrees_no_more : (xs ys : List ℕ) (i : ℕ) → i < length xs → i < length ys → get_or xs i 0 ≢ get_or ys i 0
    → common_prefix_len nat_eq (drop i xs) (drop i ys) ≡ 0
agrees_no_more xs ys i h k e = common_prefix_len-drop_no nat_eq xs ys i 0 0 h k (ne_eqb _ _ e)

pub agrees_all : (xs ys : List ℕ) (i : ℕ) → min (length xs) (length ys) ≤ i
    → common_prefix_len nat_eq (drop i xs) (drop i ys) ≡ 0
agrees_all [] ys zero h = refl
agrees_all [] ys (suc i) h = refl
agrees_all (x ∷ xs) [] zero h = refl
agrees_all (x ∷ xs) [] (suc i) h = at (drop i xs)
  where
    at : (zs : List ℕ) → common_prefix_len nat_eq zs [] ≡ 0
    at [] = refl
    at (z ∷ zs) = refl
agrees_all (x ∷ xs) (y ∷ ys) zero h = absurd (omega arith)
agrees_all (x ∷ xs) (y ∷ ys) (suc i) h = agrees_all xs ys i (omega arith)

-- ---- the texts before and at that place

-- texts agree before the place where they part
agreed_front : (header bytes : List ℕ) → take (agreed_with header bytes) bytes ≡ take (agreed_with header bytes) header
agreed_front header [] = refl
agreed_front [] (b ∷ bytes) = refl
agreed_front (h ∷ header) (b ∷ bytes) =
    let Same : ℕ → Type 0 = λ n. take n (b ∷ bytes) ≡ take n (h ∷ header) in
    cond_both (nat_eq b h) (1 + agreed_with header bytes) 0 Same
    (λ e. let next : suc (agreed_with header bytes) ≡ 1 + agreed_with header bytes = omega arith in
    let same = eqb-true b h e in let front = agreed_front header bytes in subst Same next cc)
    (λ e. refl)

-- and differ there
parted : (header bytes : List ℕ) → agreed_with header bytes < length bytes → agreed_with header bytes < length header
    → get_or bytes (agreed_with header bytes) 0 ≢ get_or header (agreed_with header bytes) 0
parted header [] h g = absurd (omega arith)
parted [] (b ∷ bytes) h g = absurd (omega arith)
parted (h ∷ header) (b ∷ bytes) l g =
    let Differs : ℕ → Type 0 = λ n. get_or (b ∷ bytes) n 0 ≢ get_or (h ∷ header) n 0 in
    cond_both (nat_eq b h) (1 + agreed_with header bytes) 0 (λ n. n < length (b ∷ bytes) → n < length (h ∷ header) → Differs n)
    (λ e l g. let next : suc (agreed_with header bytes) ≡ 1 + agreed_with header bytes = omega arith in
    subst Differs next (parted header bytes (omega arith) (omega arith)))
    (λ e l g. eqb-false b h e) l g

-- more bytes change nothing where the texts have parted
agreed_stays : (header bytes more : List ℕ) → agreed_with header bytes ≢ length bytes
    → agreed_with header (bytes ++ more) ≡ agreed_with header bytes
agreed_stays header [] more p = absurd (p refl)
agreed_stays [] (b ∷ bytes) more p = refl
agreed_stays (h ∷ header) (b ∷ bytes) more p =
    let old = agreed_with header bytes in let new = agreed_with header (bytes ++ more) in
    elim (nat_eq b h) as (λ t. nat_eq b h ≡ t → cond t (1 + new) 0 ≡ cond t (1 + old) 0) [
      | true ↦ (λ e. ap (λ (n : ℕ). 1 + n) (agreed_stays header bytes more (λ q. p (ap (λ (t : Bool). cond t (1 + old) 0) e ∙ omega (arith, q)))))
      | false ↦ (λ e. refl)
    ] refl

-- nor where the whole header has come
agreed_none : (bytes : List ℕ) → agreed_with [] bytes ≡ 0
agreed_none [] = refl
agreed_none (b ∷ bytes) = refl

agreed_full : (header bytes more : List ℕ) → agreed_with header bytes ≡ length header → agreed_with header (bytes ++ more) ≡ length header
agreed_full [] bytes more p = agreed_none (bytes ++ more)
agreed_full (h ∷ header) [] more p = absurd (omega arith)
agreed_full (h ∷ header) (b ∷ bytes) more p =
    let old = agreed_with header bytes in let new = agreed_with header (bytes ++ more) in
    elim (nat_eq b h) as (λ t. cond t (1 + old) 0 ≡ suc (length header) → cond t (1 + new) 0 ≡ suc (length header)) [
      | true ↦ (λ q. omega (arith, agreed_full header bytes more (omega arith)))
      | false ↦ (λ q. absurd (omega arith))
    ] p

agreed_whole : (header more : List ℕ) → agreed_with header (header ++ more) ≡ length header
agreed_whole [] more = agreed_none more
agreed_whole (h ∷ header) more =
    ap (λ (t : Bool). cond t (1 + agreed_with header (header ++ more)) 0) (eq-eqb h h refl) ∙ omega (arith, agreed_whole header more)

-- the ways of a scan
by_cases : {F : Type 0} (fault : F) (agreed : ℕ) (header bytes : List ℕ) (P : Scan (Unit {0}) (At F) → Type 0)
    → (agreed ≡ length header → P (Whole tt (length header))) → (agreed ≢ length header → agreed ≡ length bytes → P More)
    → (agreed ≢ length header → agreed ≢ length bytes → P (Bad (record { fault = fault; at = agreed })))
    → P (scan_agreed fault agreed header bytes)
by_cases fault agreed header bytes P whole more bad = cond_both (nat_eq agreed (length header)) _ _ P (λ e. whole (eqb-true _ _ e))
    (λ e. cond_both (nat_eq agreed (length bytes)) _ _ P (λ f. more (eqb-false _ _ e) (eqb-true _ _ f))
    (λ f. bad (eqb-false _ _ e) (eqb-false _ _ f)))

answers_whole : {F : Type 0} (fault : F) (header bytes : List ℕ) → agreed_with header bytes ≡ length header
    → first_header fault header bytes ≡ Whole tt (length header)
unfolding first_header
answers_whole fault header bytes e = rw (eq-eqb _ _ e) refl

answers_bad : {F : Type 0} (fault : F) (header bytes : List ℕ) (n : ℕ) → agreed_with header bytes ≡ n → n ≢ length header
    → n ≢ length bytes → first_header fault header bytes ≡ Bad (record { fault = fault; at = n })
unfolding first_header
answers_bad fault header bytes n e g h = rw (e, ne_eqb n (length header) g, ne_eqb n (length bytes) h) refl

-- an answer other than More stays
pub stays : {F : Type 0} (fault : F) (header bytes more : List ℕ) → first_header fault header bytes ≢ More
    → first_header fault header (bytes ++ more) ≡ first_header fault header bytes
unfolding first_header
stays fault header bytes more =
    let bound = common_prefix_len-le nat_eq bytes header in
    by_cases fault (agreed_with header bytes) header bytes (λ s. s ≢ More → first_header fault header (bytes ++ more) ≡ s)
    (λ e ne. answers_whole fault header (bytes ++ more) (agreed_full header bytes more e))
    (λ e h ne. absurd (ne refl))
    (λ e h ne. answers_bad fault header (bytes ++ more) _ (agreed_stays header bytes more h) e (omega (arith, bound.0, length-append bytes more)))

-- a header is read back, whatever follows
pub whole_again : {F : Type 0} (fault : F) (header : List ℕ) (x : Unit {0}) (unit rest : List ℕ) → IsHeaderOf header x unit
    → first_header fault header (unit ++ rest) ≡ Whole x (length unit)
whole_again fault header x unit rest h = rw h (answers_whole fault header (header ++ rest) (agreed_whole header rest))

pub scanner : {F : Type 0} (fault : F) (header : List ℕ) → IsScanner (IsHeaderOf header) (first_header fault header)
scanner fault header = record { whole = whole_again fault header; settled = stays fault header }

pub apart : (header : List ℕ) → AreApart (IsHeaderOf header)
apart header =
    let none : Unit {0} = tt in apart_by (IsHeaderOf header) (first_header none header) (scanner none header)

-- the scan answers what the grammar says
pub scans : {F : Type 0} (fault : F) (header bytes : List ℕ) → Scans (IsHeaderOf header) bytes (first_header fault header bytes)
unfolding first_header
scans {F} fault header bytes =
    let bound = common_prefix_len-le nat_eq bytes header in
    let n = agreed_with header bytes in
    let front = agreed_front header bytes in
    by_cases fault n header bytes (λ s. first_header fault header bytes ≡ s → Scans (IsHeaderOf header) bytes s)
    (λ e is. (
      omega (arith, bound.0),
      ap (λ (k : ℕ). take k bytes) (sym e) ∙ front ∙ ap (λ (k : ℕ). take k header) e ∙ take_all (length header) header (omega arith),
    ))
    (λ e h is. (
      tt,
      drop n header,
      (λ q. absurd (omega (arith, bound.1, ap length q, length-drop n header))),
      ap (λ (t : List ℕ). t ++ drop n header) (sym (take_all n bytes (omega arith)) ∙ front) ∙ take-append-drop n header,
    ))
    (λ e h is. bad_by (IsHeaderOf header) (first_header fault header) bytes _ (scanner fault header) is)
    refl

-- and tells where the bytes part from it
pub parts : {F : Type 0} (fault : F) (header bytes : List ℕ) → IfBad (first_header fault header bytes) (λ at. PartAt header bytes at.at)
unfolding first_header
parts fault header bytes =
    let bound = common_prefix_len-le nat_eq bytes header in
    let n = agreed_with header bytes in
    by_cases fault n header bytes (λ s. IfBad s (λ at. PartAt header bytes at.at)) (λ e. tt) (λ e h. tt)
    (λ e h. let in_bytes : n < length bytes = omega (arith, bound.0) in let in_header : n < length header = omega (arith, bound.1) in
    (in_bytes, in_header, agreed_front header bytes, parted header bytes in_bytes in_header))

-- where texts agree before a place and differ there, they agree so far
agrees_so_far : (header bytes : List ℕ) (n : ℕ) → n < length bytes → n < length header → take n bytes ≡ take n header
    → get_or bytes n 0 ≢ get_or header n 0 → agreed_with header bytes ≡ n
agrees_so_far header [] n h g e d = absurd (omega arith)
agrees_so_far [] (b ∷ bytes) n h g e d = absurd (omega arith)
agrees_so_far (h ∷ header) (b ∷ bytes) zero l g e d = rw (ne_eqb b h d) refl
agrees_so_far (h ∷ header) (b ∷ bytes) (suc n) l g e d =
    let same : b ≡ h = cc in let rest : take n bytes ≡ take n header = cc in
    let more = agrees_so_far header bytes n (omega arith) (omega arith) rest d in
    rw (eq-eqb b h same) (omega (arith, more))

-- and a parting that is there is told
pub told : {F : Type 0} (fault : F) (header bytes : List ℕ) (n : ℕ) → PartAt header bytes n
    → first_header fault header bytes ≡ Bad (record { fault = fault; at = n })
told fault header bytes n h =
    answers_bad fault header bytes n (agrees_so_far header bytes n h.0 h.1 h.2 h.3) (omega (arith, h.1)) (omega (arith, h.0))
