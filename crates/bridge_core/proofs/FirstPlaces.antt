-- The place of the first unit that passes a test, with one unit more or less.
use Rattle.std.proofs.Common.{◌≡◌, ◌∙◌, ℕ, zero, suc, ◌+◌, ◌<◌, ◌≤◌, Bool, true, false, cond, not, List, [], ◌∷◌}
use Rattle.std.proofs.Common.{Some, refl, ap, arith, count_by, drop, length}
use Rattle.std.proofs.lemmas.List.Sums.{sum_by-cons}
use Rattle.std.specs.List.{position_or_len}
use Rattle.std.specs.Prelude.{slice_get}
use Rattle.machine_091.specs.declared.unit.Unit91.{Unit91}
use Rattle.gate_model.specs.Queue.{removed}

abbrev first : (Unit91 → Bool) → List Unit91 → ℕ
first p us = position_or_len p us

-- ---- without a unit that stands behind it

pub first_stays : (p : Unit91 → Bool) (i : ℕ) (us : List Unit91) → position_or_len p us < i → position_or_len p (removed i us) ≡ position_or_len p us
first_stays p i [] lt = refl
first_stays p zero (v ∷ us) lt = absurd (omega (arith, lt))
first_stays p (suc i) (v ∷ us) lt = by (p v) (first p us) (first p (removed i us)) lt (first_stays p i us)
  where
    by : (b : Bool) (m n : ℕ) → cond (not b) (1 + m) 0 < suc i → (m < i → n ≡ m) → cond (not b) (1 + n) 0 ≡ cond (not b) (1 + m) 0
    by true m n lt same = refl
    by false m n lt same = ap (λ (k : ℕ). 1 + k) (same (omega (arith, lt)))

-- ---- without one that stands before it

pub first_moves : (p : Unit91 → Bool) (i : ℕ) (us : List Unit91) → i < position_or_len p us → position_or_len p (removed i us) + 1 ≡ position_or_len p us
first_moves p i [] lt = absurd (omega (arith, lt))
first_moves p zero (v ∷ us) lt = by (p v) (first p us) lt
  where
    by : (b : Bool) (m : ℕ) → 0 < cond (not b) (1 + m) 0 → m + 1 ≡ cond (not b) (1 + m) 0
    by true m lt = absurd (omega (arith, lt))
    by false m lt = omega arith
first_moves p (suc i) (v ∷ us) lt = by (p v) (first p us) (first p (removed i us)) lt (first_moves p i us)
  where
    by : (b : Bool) (m n : ℕ) → suc i < cond (not b) (1 + m) 0 → (i < m → n + 1 ≡ m) → cond (not b) (1 + n) 0 + 1 ≡ cond (not b) (1 + m) 0
    by true m n lt more = absurd (omega (arith, lt))
    by false m n lt more = omega (arith, more (omega (arith, lt)))

-- ---- without itself: the next is looked for from its place on

pub first_next : (p : Unit91 → Bool) (i : ℕ) (us : List Unit91) → position_or_len p us ≡ i → position_or_len p (removed i us) ≡ i + position_or_len p (drop i (removed i us))
first_next p zero [] e = refl
first_next p (suc i) [] e = absurd (omega (arith, e))
first_next p zero (v ∷ us) e = omega arith
first_next p (suc i) (v ∷ us) e = by (p v) (first p us) (first p (removed i us)) (first p (drop i (removed i us))) e (first_next p i us)
  where
    by : (b : Bool) (m n k : ℕ) → cond (not b) (1 + m) 0 ≡ suc i → (m ≡ i → n ≡ i + k) → cond (not b) (1 + n) 0 ≡ suc i + k
    by true m n k e more = absurd (omega (arith, e))
    by false m n k e more = omega (arith, more (omega (arith, e)))

-- ---- what stands at a place

pub apart : (p : Unit91 → Bool) (i : ℕ) (us : List Unit91) (u : Unit91) → slice_get us i ≡ Some u → p u ≡ false → position_or_len p us ≡ i → ⊥
apart p i [] u e fails is = absurd cc
apart p zero (v ∷ us) u e fails is =
    let here : v ≡ u = cc in
    let none : p v ≡ false = ap p here ∙ fails in
    omega (arith, is, ap (λ (b : Bool). cond (not b) (1 + first p us) 0) none)
apart p (suc i) (v ∷ us) u e fails is = by (p v) (first p us) is (apart p i us u e fails)
  where
    by : (b : Bool) (m : ℕ) → cond (not b) (1 + m) 0 ≡ suc i → (m ≡ i → ⊥) → ⊥
    by true m is never = omega (arith, is)
    by false m is never = never (omega (arith, is))

pub no_later : (p : Unit91 → Bool) (i : ℕ) (us : List Unit91) (u : Unit91) → slice_get us i ≡ Some u → p u ≡ true → position_or_len p us ≤ i
no_later p i [] u e passes = absurd cc
no_later p zero (v ∷ us) u e passes =
    let here : v ≡ u = cc in
    omega (arith, ap (λ (b : Bool). cond (not b) (1 + first p us) 0) (ap p here ∙ passes))
no_later p (suc i) (v ∷ us) u e passes = by (p v) (first p us) (no_later p i us u e passes)
  where
    by : (b : Bool) (m : ℕ) → m ≤ i → cond (not b) (1 + m) 0 ≤ suc i
    by true m le = omega arith
    by false m le = omega (arith, le)

-- ---- by how many pass

pub first_of_none : (p : Unit91 → Bool) (us : List Unit91) → count_by p us ≡ 0 → position_or_len p us ≡ length us
first_of_none p [] e = refl
first_of_none p (v ∷ us) e = by (p v) (first p us) (count_by p us) (omega (arith, e, sum_by-cons (λ w. cond (p w) 1 0) v us)) (first_of_none p us)
  where
    by : (b : Bool) (m c : ℕ) → cond b 1 0 + c ≡ 0 → (c ≡ 0 → m ≡ length us) → cond (not b) (1 + m) 0 ≡ length (v ∷ us)
    by true m c e none = absurd (omega (arith, e))
    by false m c e none = omega (arith, none (omega (arith, e)))

pub first_of_some : (p : Unit91 → Bool) (us : List Unit91) → 1 ≤ count_by p us → position_or_len p us < length us
first_of_some p [] le = absurd (omega (arith, le))
first_of_some p (v ∷ us) le = by (p v) (first p us) (count_by p us) (omega (arith, le, sum_by-cons (λ w. cond (p w) 1 0) v us)) (first_of_some p us)
  where
    by : (b : Bool) (m c : ℕ) → 1 ≤ cond b 1 0 + c → (1 ≤ c → m < length us) → cond (not b) (1 + m) 0 < length (v ∷ us)
    by true m c le some = omega arith
    by false m c le some = omega (arith, some (omega (arith, le)))
