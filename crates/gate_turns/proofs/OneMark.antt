-- A mark of one pair changes that pair's journal alone.
use Rattle.std.proofs.Common.{◌≡◌, ◌≢◌, ℕ, ◌==◌, Bool, true, false, not, if◌then◌else◌, refl, sym}
use Rattle.std.proofs.Common.{ap, inl, inr}
use Rattle.std.proofs.lemmas.Bool.Decides.{eqb_tells}

-- a test of a number with itself, and with another
pub is_same : (p : ℕ) → (p == p) ≡ true
is_same p = elim (eqb_tells p p) [ inl t ↦ t.0 | inr f ↦ absurd (f.1 refl) ]

pub is_other : (p q : ℕ) → p ≢ q → (p == q) ≡ false
is_other p q ne = elim (eqb_tells p q) [ inl t ↦ absurd (ne t.1) | inr f ↦ f.0 ]

pub if_same : {A : Type 0} (p : ℕ) (x y : A) → (if p == p then x else y) ≡ x
if_same {A} p x y = ap (λ (b : Bool). if b then x else y) (is_same p)

pub if_other : {A : Type 0} (p q : ℕ) (x y : A) → p ≢ q → (if p == q then x else y) ≡ y
if_other {A} p q x y ne = ap (λ (b : Bool). if b then x else y) (is_other p q ne)

-- of a mark of p, seen by q
pub if_not_mine : {A : Type 0} (p q : ℕ) (x y : A) → q ≢ p → (if p == q then x else y) ≡ y
if_not_mine {A} p q x y ne = if_other p q x y (λ e. ne (sym e))

-- what a test that is negated says
pub is_false : (b : Bool) → not b ≡ true → b ≡ false
is_false true e = absurd cc
is_false false e = refl

pub is_true : (b : Bool) → not b ≡ false → b ≡ true
is_true true e = refl
is_true false e = absurd cc
