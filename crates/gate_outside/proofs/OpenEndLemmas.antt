-- Lists in which each open end stands once are no longer than twice the count of the pairs.
use Rattle.std.proofs.Common.{◌≡◌, ℕ, ◌*◌, ◌<◌, ◌≤◌, zero, suc, Bool, true, false, not, cond, ◌||◌}
use Rattle.std.proofs.Common.{nat_eq, List, [], ◌∷◌, ◌++◌, length, refl, sym, ◌∙◌, ap, arith}
use Rattle.std.proofs.lemmas.Bool.{eqb-true, eqb-false, eq-eqb, ne_eqb, and_parts, or_parts}
use Rattle.gate_outside.specs.declared.ports.End.{End}
use Rattle.gate_outside.specs.declared.ports.End.TheVariants.{Client, Up}
use Rattle.gate_outside.specs.Ends.{same_end, is_end, is_open, closed}
use Rattle.gate_outside.specs.OpenEnds.{AreBelow, AreDistinct}

neither_from : (a b : Bool) → a ≡ false → b ≡ false → (a || b) ≡ false
neither_from true b p q = p
neither_from false b p q = q

same_end-true : (e f : End) → same_end e f ≡ true → e ≡ f
same_end-true Client Client h = refl
same_end-true Client Up h = cc
same_end-true Up Client h = cc
same_end-true Up Up h = refl

same_end_swapped : (e f : End) → same_end e f ≡ same_end f e
same_end_swapped Client Client = refl
same_end_swapped Client Up = refl
same_end_swapped Up Client = refl
same_end_swapped Up Up = refl

nat_eq_swapped : (a b : ℕ) → nat_eq a b ≡ nat_eq b a
nat_eq_swapped a b = elim (nat_eq a b) as (λ x. nat_eq a b ≡ x → x ≡ nat_eq b a) [
  | true ↦ (λ q. sym (eq-eqb b a (sym (eqb-true a b q))))
  | false ↦ (λ q. sym (ne_eqb b a (λ e. eqb-false a b q (sym e))))
] refl

is_end_swapped : (p q : ℕ) (e f : End) → is_end p e (q, f) ≡ is_end q f (p, e)
is_end_swapped p q e f =
    let pairs = nat_eq_swapped q p in
    let ends = same_end_swapped f e in cc

-- the end that an element is
is_end-true : (p : ℕ) (e : End) (x : ℕ × End) → is_end p e x ≡ true → (x.0 ≡ p) × (x.1 ≡ e)
is_end-true p e x h =
    let parts = and_parts (nat_eq x.0 p) (same_end x.1 e) h in
    (eqb-true x.0 p parts.0, same_end-true x.1 e parts.1)

open_push : (q : ℕ) (f : End) (xs : List (ℕ × End)) (p : ℕ) (e : End) → is_open q f xs ≡ false → is_end q f (p, e) ≡ false
    → is_open q f (xs ++ (p, e) ∷ []) ≡ false
open_push q f [] p e h g = neither_from _ _ g refl
open_push q f (x ∷ xs) p e h g =
    let parts = or_parts (is_end q f x) (is_open q f xs) h in
    neither_from _ _ parts.0 (open_push q f xs p e parts.1 g)

pub distinct_push : (xs : List (ℕ × End)) (p : ℕ) (e : End) → AreDistinct xs → is_open p e xs ≡ false
    → AreDistinct (xs ++ (p, e) ∷ [])
distinct_push [] p e h o = (refl, tt)
distinct_push (x ∷ xs) p e h o =
    let parts = or_parts (is_end p e x) (is_open p e xs) o in
    (open_push x.0 x.1 xs p e h.0 (is_end_swapped x.0 p x.1 e ∙ parts.0), distinct_push xs p e h.1 parts.1)

pub below_push : (n : ℕ) (xs : List (ℕ × End)) (p : ℕ) (e : End) → AreBelow n xs → p < n → AreBelow n (xs ++ (p, e) ∷ [])
below_push n [] p e h l = (l, tt)
below_push n (x ∷ xs) p e h l = (h.0, below_push n xs p e h.1 l)

pub below_more : (n m : ℕ) (xs : List (ℕ × End)) → n ≤ m → AreBelow n xs → AreBelow m xs
below_more n m [] l h = tt
below_more n m (x ∷ xs) l h = (omega (arith, h.0), below_more n m xs l h.1)

not_self : (n : ℕ) (e : End) (x : ℕ × End) → x.0 < n → is_end n e x ≡ false
not_self n e x l = elim (is_end n e x) as (λ b. is_end n e x ≡ b → b ≡ false)
    [ true ↦ λ q. absurd (let at : x.0 ≡ n = (is_end-true n e x q).0 in omega arith) | false ↦ λ q. refl ] refl

-- an end of the next pair is not open
pub below_free : (n : ℕ) (e : End) (xs : List (ℕ × End)) → AreBelow n xs → is_open n e xs ≡ false
below_free n e [] h = refl
below_free n e (x ∷ xs) h = neither_from _ _ (not_self n e x h.0) (below_free n e xs h.1)

pub below_closed : (n p : ℕ) (e : End) (xs : List (ℕ × End)) → AreBelow n xs → AreBelow n (closed p e xs)
below_closed n p e [] h = tt
below_closed n p e (x ∷ xs) h =
    elim (is_end p e x) as (λ b. AreBelow n (cond (not b) (x ∷ closed p e xs) (closed p e xs)))
    [ true ↦ below_closed n p e xs h.1 | false ↦ (h.0, below_closed n p e xs h.1) ]

free_closed : (q : ℕ) (f : End) (p : ℕ) (e : End) (xs : List (ℕ × End)) → is_open q f xs ≡ false
    → is_open q f (closed p e xs) ≡ false
free_closed q f p e [] h = refl
free_closed q f p e (x ∷ xs) h =
    let parts = or_parts (is_end q f x) (is_open q f xs) h in
    let rest = free_closed q f p e xs parts.1 in
    elim (is_end p e x) as (λ b. is_open q f (cond (not b) (x ∷ closed p e xs) (closed p e xs)) ≡ false)
    [ true ↦ rest | false ↦ neither_from _ _ parts.0 rest ]

pub distinct_closed : (p : ℕ) (e : End) (xs : List (ℕ × End)) → AreDistinct xs → AreDistinct (closed p e xs)
distinct_closed p e [] h = tt
distinct_closed p e (x ∷ xs) h =
    let rest = distinct_closed p e xs h.1 in
    elim (is_end p e x) as (λ b. AreDistinct (cond (not b) (x ∷ closed p e xs) (closed p e xs)))
    [ true ↦ rest | false ↦ (free_closed x.0 x.1 p e xs h.0, rest) ]

-- closing an end that is not open leaves the list as it was
length_free : (p : ℕ) (e : End) (xs : List (ℕ × End)) → is_open p e xs ≡ false → length (closed p e xs) ≡ length xs
length_free p e [] h = refl
length_free p e (x ∷ xs) h =
    let parts = or_parts (is_end p e x) (is_open p e xs) h in
    let rest = length_free p e xs parts.1 in
    elim (is_end p e x) as (λ b. is_end p e x ≡ b → length (cond (not b) (x ∷ closed p e xs) (closed p e xs)) ≡ suc (length xs))
    [ true ↦ λ q. cc (q, parts.0) | false ↦ λ q. ap suc rest ] refl

-- closing an end takes at most one from the list
length_closed : (p : ℕ) (e : End) (xs : List (ℕ × End)) → AreDistinct xs → length xs ≤ suc (length (closed p e xs))
length_closed p e [] h = omega arith
length_closed p e (x ∷ xs) h =
    let rest = length_closed p e xs h.1 in
    elim (is_end p e x) as (λ b. is_end p e x ≡ b → suc (length xs) ≤ suc (length (cond (not b) (x ∷ closed p e xs) (closed p e xs)))) [
      | true ↦ (λ q.
          let which = is_end-true p e x q in
          let free : is_open p e xs ≡ false = cc (which.0, which.1, h.0) in
          let same = length_free p e xs free in omega arith)
      | false ↦ (λ q. omega arith)
    ] refl

one_of_both : (m : ℕ) (x : ℕ × End) → is_end m Client x ≡ false → is_end m Up x ≡ false → x.0 ≡ m → ⊥
one_of_both m (p, Client) c u e = let at = eq-eqb p m e in cc
one_of_both m (p, Up) c u e = let at = eq-eqb p m e in cc

-- with both ends of the last pair closed, each end is of a pair before it
below_less : (m : ℕ) (xs : List (ℕ × End)) → AreBelow (suc m) xs → AreBelow m (closed m Up (closed m Client xs))
below_less m [] h = tt
below_less m (x ∷ xs) h =
    let rest = below_less m xs h.1 in
    let kept = closed m Client xs in
    elim (is_end m Client x) as (λ b. is_end m Client x ≡ b → AreBelow m (closed m Up (cond (not b) (x ∷ closed m Client xs) (closed m Client xs)))) [
      | true ↦ λ q. rest
      | false ↦ λ q. elim (is_end m Up x) as (λ b. is_end m Up x ≡ b
          → AreBelow m (cond (not b) (x ∷ closed m Up (closed m Client xs)) (closed m Up (closed m Client xs)))) [
            | true ↦ λ r. rest
            | false ↦ λ r. (let apart : x.0 ≡ m → ⊥ = one_of_both m x q r in omega (arith, apart, h.0), rest)
          ] refl
    ] refl

-- there are two ends of each pair
pub distinct_fit : (n : ℕ) (xs : List (ℕ × End)) → AreBelow n xs → AreDistinct xs → length xs ≤ 2 * n
distinct_fit zero [] b d = omega arith
distinct_fit zero (x ∷ xs) b d = absurd (omega (arith, b.0))
distinct_fit (suc m) xs b d =
    let kept = closed m Client xs in
    let kept_distinct = distinct_closed m Client xs d in
    let fewer = distinct_fit m (closed m Up (closed m Client xs)) (below_less m xs b) (distinct_closed m Up (closed m Client xs) kept_distinct) in
    let first = length_closed m Client xs d in
    let second = length_closed m Up (closed m Client xs) kept_distinct in
    omega (arith, fewer, first, second)
