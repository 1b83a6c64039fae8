-- What a sink holds before anything was written, and after one line more.
use Rattle.std.proofs.Common.{◌≡◌, ℕ, ◌+◌, List, [], ◌∷◌, ◌++◌, length, Option, None, Some, sym, ap}
use Rattle.std.proofs.Common.{subst, ◌∙◌, append_assoc, append-nil, arith}
use Rattle.std.proofs.lemmas.List.{length-append}
use Rattle.gate_outside.specs.Streams.{Appends, AppendsFront}
use Rattle.gate_outside.proofs.Appending.{appends_then}
use Rattle.gate_listing.specs.Listing.{Piece, Shows, AreUnits, BeginsWith, bytes_of, line, lines}
use Rattle.gate_listing.specs.declared.listing.Dialect.{Dialect}

pub appends_nothing : (a : Option (List ℕ)) → Appends a a []
appends_nothing None = tt
appends_nothing (Some held) = sym (append-nil held)

front_of_second : (a b c : Option (List ℕ)) (xs ys : List ℕ) → Appends a b xs → AppendsFront b c ys → AppendsFront a c (xs ++ ys)
front_of_second a b c xs ys p h = record {
  front = xs ++ h.front;
  back = h.back;
  parts = ap (λ (s : List ℕ). xs ++ s) h.parts ∙ sym (append_assoc xs h.front h.back);
  added = appends_then a b c xs h.front p h.added;
}

lines_last : (at : ℕ) (us : List Piece) (u : Piece) → lines at (us ++ u ∷ []) ≡ lines at us ++ line (at + length (bytes_of us)) u.0
lines_last at [] u =
    let same : at + 0 ≡ at = omega arith in
    rw same (append-nil (line at u.0))
lines_last at (x ∷ us) u =
    let same : (at + length x.1) + length (bytes_of us) ≡ at + length (bytes_of (x ∷ us)) = omega (arith, length-append x.1 (bytes_of us)) in
    ap (λ (s : List ℕ). line at x.0 ++ s) (lines_last (at + length x.1) us u ∙ ap (λ (n : ℕ). lines (at + length x.1) us ++ line n u.0) same)
    ∙ sym (append_assoc (line at x.0) (lines (at + length x.1) us) (line (at + length (bytes_of (x ∷ us))) u.0))

pub one_line_more : (a b c : Option (List ℕ)) (us : List Piece) (u : Piece) → Appends a b (lines 0 us) → Appends b c (line (length (bytes_of us)) u.0)
    → Appends a c (lines 0 (us ++ u ∷ []))
one_line_more a b c us u p q =
    let same : 0 + length (bytes_of us) ≡ length (bytes_of us) = omega arith in
    subst (λ (s : List ℕ). Appends a c s) (sym (lines_last 0 us u ∙ ap (λ (n : ℕ). lines 0 us ++ line n u.0) same))
    (appends_then a b c (lines 0 us) (line (length (bytes_of us)) u.0) p q)

pub front_of_line : (a b c : Option (List ℕ)) (us : List Piece) (u : Piece) → Appends a b (lines 0 us)
    → AppendsFront b c (line (length (bytes_of us)) u.0) → AppendsFront a c (lines 0 (us ++ u ∷ []))
front_of_line a b c us u p q =
    let same : 0 + length (bytes_of us) ≡ length (bytes_of us) = omega arith in
    subst (λ (s : List ℕ). AppendsFront a c s) (sym (lines_last 0 us u ∙ ap (λ (n : ℕ). lines 0 us ++ line n u.0) same))
    (front_of_second a b c (lines 0 us) (line (length (bytes_of us)) u.0) p q)

-- ---- one unit more

bytes_last : (us : List Piece) (u : Piece) → bytes_of (us ++ u ∷ []) ≡ bytes_of us ++ u.1
bytes_last [] u = append-nil u.1
bytes_last (x ∷ us) u = ap (λ (s : List ℕ). x.1 ++ s) (bytes_last us u) ∙ sym (append_assoc x.1 (bytes_of us) u.1)

units_last : (d : Dialect) (at : ℕ) (us : List Piece) (u : Piece) → AreUnits d at us → Shows d (at + length (bytes_of us)) u.0 u.1
    → AreUnits d at (us ++ u ∷ [])
units_last d at [] u h p =
    let same : at + 0 ≡ at = omega arith in
    (subst (λ (n : ℕ). Shows d n u.0 u.1) same p, tt)
units_last d at (x ∷ us) u h p =
    let same : at + length (bytes_of (x ∷ us)) ≡ (at + length x.1) + length (bytes_of us) = omega (arith, length-append x.1 (bytes_of us)) in
    (h.0, units_last d (at + length x.1) us u h.1 (subst (λ (n : ℕ). Shows d n u.0 u.1) same p))

pub one_unit_more : (d : Dialect) (us : List Piece) (u : Piece) (rest after bytes : List ℕ) → BeginsWith d us rest bytes
    → Shows d (length (bytes_of us)) u.0 u.1 → rest ≡ u.1 ++ after → BeginsWith d (us ++ u ∷ []) after bytes
one_unit_more d us u rest after bytes b shows parts =
    let same : length (bytes_of us) ≡ 0 + length (bytes_of us) = omega arith in
    record {
      units = units_last d 0 us u b.units (subst (λ (n : ℕ). Shows d n u.0 u.1) same shows);
      parts = b.parts ∙ ap (λ (s : List ℕ). bytes_of us ++ s) parts ∙ sym (append_assoc (bytes_of us) u.1 after)
          ∙ ap (λ (s : List ℕ). s ++ after) (sym (bytes_last us u));
    }
