-- The laws of the protocol header and of its scan.
use Rattle.std.proofs.Common.{◌≡◌, ◌≢◌, ◌↔◌, ℕ, ◌<◌, ◌≤◌, ltb, Bool, true, false, List, ◌++◌, length}
use Rattle.std.proofs.Common.{take, drop, refl, sym, ◌∙◌, ap, subst, arith}
use Rattle.std.proofs.lemmas.Bool.{ltb-true, ltb-false}
use Rattle.std.proofs.lemmas.List.{append_assoc, take_all, take-append-drop, length-append}
use Rattle.std.proofs.lemmas.List.{length-take-le, nil_from_length}
use Rattle.wire_base.specs.Scans.{Scans, AreApart, IfBad}
use Rattle.wire_base.specs.declared.scan.At.{At}
use Rattle.wire_base.specs.declared.scan.Scan.{Scan}
use Rattle.wire_base.specs.declared.scan.Scan.TheVariants.{Whole, More, Bad}
use Rattle.wire_base.proofs.Headers as of_any
use Rattle.frames_091.specs.declared.header.NotHeader.{NotHeader}
use Rattle.frames_091.specs.Headers.{IsHeader, IsHeaderFault, header_bytes, header_scan}

pub stays : (bytes more : List ℕ) → header_scan bytes ≢ More → header_scan (bytes ++ more) ≡ header_scan bytes
unfolding header_scan
stays = of_any.stays (record {}) header_bytes

pub whole_again : (x : Unit {0}) (unit rest : List ℕ) → IsHeader x unit → header_scan (unit ++ rest) ≡ Whole x (length unit)
unfolding header_scan
whole_again = of_any.whole_again (record {}) header_bytes

pub apart : AreApart IsHeader
apart = of_any.apart header_bytes

-- the scan answers what the grammar says
pub scans : (bytes : List ℕ) → Scans IsHeader bytes (header_scan bytes)
unfolding header_scan
scans = of_any.scans (record {}) header_bytes

-- and tells the fault that is there
pub faults : (bytes : List ℕ) → IfBad (header_scan bytes) (IsHeaderFault bytes)
unfolding header_scan
faults = of_any.parts (record {}) header_bytes

told : (bytes : List ℕ) (at : At NotHeader) → IsHeaderFault bytes at → header_scan bytes ≡ Bad at
unfolding header_scan
told bytes at = of_any.told (record {}) header_bytes bytes at.at

pub faults_are : (bytes : List ℕ) (at : At NotHeader) → (header_scan bytes ≡ Bad at) ↔ IsHeaderFault bytes at
faults_are bytes at =
    let Told : Scan (Unit {0}) (At NotHeader) → Type 0 = λ s. IfBad s (IsHeaderFault bytes) in
    ((λ is. subst Told is (faults bytes)), told bytes at)

pub scans_by : (bytes : List ℕ) (answer : Scan (Unit {0}) (At NotHeader)) → answer ≡ header_scan bytes → Scans IsHeader bytes answer
scans_by bytes answer is =
    let Answers : Scan (Unit {0}) (At NotHeader) → Type 0 = Scans IsHeader bytes in subst Answers (sym is) (scans bytes)

pub faults_by : (bytes : List ℕ) (answer : Scan (Unit {0}) (At NotHeader)) → answer ≡ header_scan bytes → IfBad answer (IsHeaderFault bytes)
faults_by bytes answer is =
    let Told : Scan (Unit {0}) (At NotHeader) → Type 0 = λ s. IfBad s (IsHeaderFault bytes) in subst Told (sym is) (faults bytes)

-- eight bytes tell whether they are the header, whatever follows
eight_tell : (text : List ℕ) → 8 ≤ length text → header_scan text ≢ More
eight_tell text long is =
    let more : Scans {F = NotHeader} IsHeader text More = scans_by text More (sym is) in
    let rest : List ℕ = more.1 in
    let is_header : text ++ rest ≡ header_bytes = more.3 in
    more.2 (nil_from_length rest (omega (arith, long, ap length is_header, length-append text rest)))

-- so no more than eight bytes of what came behind others have to be looked at
pub first_tell : (kept bytes : List ℕ) (n : ℕ) → n ≤ length bytes → (n < 8 → n ≡ length bytes)
    → header_scan (kept ++ take n bytes) ≡ header_scan (kept ++ bytes)
first_tell kept bytes n le all = by (ltb n 8) refl
  where
    by : (x : Bool) → ltb n 8 ≡ x → header_scan (kept ++ take n bytes) ≡ header_scan (kept ++ bytes)
    by true e = ap (λ (t : List ℕ). header_scan (kept ++ t)) (take_all n bytes (omega (arith, all (ltb-true _ _ e))))
    by false e =
        let whole : (kept ++ take n bytes) ++ drop n bytes ≡ kept ++ bytes =
        append_assoc kept (take n bytes) (drop n bytes) ∙ ap (λ (t : List ℕ). kept ++ t) (take-append-drop n bytes) in
        let long : 8 ≤ length (kept ++ take n bytes) = omega (arith, ltb-false _ _ e, length-append kept (take n bytes), length-take-le n bytes le) in
        sym (ap header_scan (sym whole) ∙ stays (kept ++ take n bytes) (drop n bytes) (eight_tell _ long))
