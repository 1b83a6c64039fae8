-- The first of rows of lives, and of lists put together.
use Rattle.std.proofs.Common.{◌≡◌, ℕ, ◌+◌, ◌<◌, length, List, [], ◌∷◌, ◌++◌, Option, Some, arith, suc, zero, refl, sym, ap, ◌∙◌}
use Rattle.gate_model.specs.declared.life.Life.{Life}
use Rattle.gate_model.specs.Lives.{each, life_at}
use Rattle.gate_model.specs.Upstream.{first}

-- each unit of a row of lives is of that row
pub first_each : {A : Type 0} (P : A → Type 0) (f : ℕ → Life → List A) (n : ℕ) (ls : List Life) (u : A)
    → ((k : ℕ) (l : Life) (v : A) → first (f k l) ≡ Some v → P v) → first (each f n ls) ≡ Some u → P u
first_each P f n [] u each_is e = absurd cc
first_each {A = A} P f n (l ∷ ls) u each_is e = by (f n l) refl e (first_each P f (n + 1) ls u each_is)
  where
    by : (us : List A) → f n l ≡ us → first (us ++ each f (n + 1) ls) ≡ Some u → (first (each f (n + 1) ls) ≡ Some u → P u) → P u
    by [] g e more = more e
    by (x ∷ us) g e more = each_is n l u (ap first g ∙ e)

-- a list is none, or has a first
pub data Has {A : Type 0} (us : List A) : Type 0 where
  HasNone : us ≡ [] → Has us
  HasFirst : (u : A) → first us ≡ Some u → Has us

pub has : {A : Type 0} (us : List A) → Has us
has [] = HasNone refl
has (u ∷ us) = HasFirst u refl

pub first_none : {A : Type 0} (us vs : List A) → us ≡ [] → first (us ++ vs) ≡ first vs
first_none {A = A} us vs e = ap (λ (x : List A). first (x ++ vs)) e

pub first_some : {A : Type 0} (us vs : List A) (u : A) → first us ≡ Some u → first (us ++ vs) ≡ Some u
first_some [] vs u e = absurd cc
first_some (x ∷ us) vs u e = e

pub same_first : {A : Type 0} (o : Option A) (u v : A) → o ≡ Some u → o ≡ Some v → u ≡ v
same_first o u v e f = let same : Some u ≡ Some v = sym e ∙ f in cc

-- the first of a row of lives is of one of them
first_from : {A : Type 0} (P : A → Type 0) (f : ℕ → Life → List A) (n : ℕ) (ls : List Life) (u : A)
    → ((k : ℕ) (v : A) → first (f (n + k) (life_at ls k)) ≡ Some v → P v) → first (each f n ls) ≡ Some u → P u
first_from P f n [] u is e = absurd cc
first_from {A = A} P f n (l ∷ ls) u is e = by (has (f n l)) (first_from P f (n + 1) ls u later)
  where
    later : (k : ℕ) (v : A) → first (f ((n + 1) + k) (life_at ls k)) ≡ Some v → P v
    later k v g = is (suc k) v (ap (λ (m : ℕ). first (f m (life_at ls k))) (let same : n + suc k ≡ (n + 1) + k = omega arith in same) ∙ g)

    by : Has (f n l) → (first (each f (n + 1) ls) ≡ Some u → P u) → P u
    by (HasFirst v g) more =
        let same : v ≡ u = same_first (first (f n l ++ each f (n + 1) ls)) v u (first_some (f n l) _ v g) e in
        is zero u (ap (λ (m : ℕ). first (f m l)) (let here : n + zero ≡ n = omega arith in here) ∙ g ∙ ap Some same)
    by (HasNone g) more = more (sym (first_none (f n l) _ g) ∙ e)

pub first_at : {A : Type 0} (P : A → Type 0) (f : ℕ → Life → List A) (ls : List Life) (u : A)
    → ((k : ℕ) (v : A) → first (f k (life_at ls k)) ≡ Some v → P v) → first (each f 0 ls) ≡ Some u → P u
first_at {A = A} P f ls u is e =
    first_from P f 0 ls u (λ k v g. is k v (ap (λ (m : ℕ). first (f m (life_at ls k))) (let same : k ≡ 0 + k = omega arith in same) ∙ g)) e

-- ---- rows without any

pub left_none : {A : Type 0} (us vs : List A) → us ++ vs ≡ [] → us ≡ []
left_none [] vs e = refl
left_none (u ∷ us) vs e = absurd cc

pub right_none : {A : Type 0} (us vs : List A) → us ++ vs ≡ [] → vs ≡ []
right_none [] vs e = e
right_none (u ∷ us) vs e = absurd cc

row_from : {A : Type 0} (f : ℕ → Life → List A) (n k : ℕ) (ls : List Life) → k < length ls → each f n ls ≡ [] → f (n + k) (life_at ls k) ≡ []
row_from f n k [] less e = absurd (omega (arith, less))
row_from f n zero (l ∷ ls) less e = ap (λ (m : ℕ). f m l) (let same : n + zero ≡ n = omega arith in same) ∙ left_none (f n l) _ e
row_from f n (suc k) (l ∷ ls) less e =
    ap (λ (m : ℕ). f m (life_at ls k)) (let same : n + suc k ≡ (n + 1) + k = omega arith in same)
    ∙ row_from f (n + 1) k ls (let so : k < length ls = omega (arith, less) in so) (right_none (f n l) _ e)

-- where a row has none, no channel has one in it
pub row_none : {A : Type 0} (f : ℕ → Life → List A) (k : ℕ) (ls : List Life) → k < length ls → each f 0 ls ≡ [] → f k (life_at ls k) ≡ []
row_none f k ls less e = ap (λ (m : ℕ). f m (life_at ls k)) (let same : k ≡ 0 + k = omega arith in same) ∙ row_from f 0 k ls less e
