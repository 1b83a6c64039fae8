-- Which pairs stand in a list of pairs.
use Rattle.std.proofs.Common.{◌≡◌, ◌≢◌, ℕ, ◌==◌, Bool, true, false, not, ◌&&◌, ◌||◌, List, [], ◌∷◌}
use Rattle.std.proofs.Common.{◌++◌, filter, if◌then◌else◌, Option, None, Some, ◌⊎◌, refl, sym, ap}
use Rattle.std.proofs.Common.{◌∙◌, subst, inl, inr}
use Rattle.std.specs.List.{AllByRecursion}
use Rattle.std.proofs.lemmas.Bool.Decides.{eqb_tells}
use Rattle.gate_runs.specs.Next.{without}
use Rattle.gate_turn_laws.specs.Pairs.{is_among}

-- a test of a number with itself, and with another
pub is_same : (p : ℕ) → (p == p) ≡ true
is_same p = elim (eqb_tells p p) [ inl t ↦ t.0 | inr f ↦ absurd (f.1 refl) ]

pub is_other : (p q : ℕ) → p ≢ q → (p == q) ≡ false
is_other p q ne = elim (eqb_tells p q) [ inl t ↦ absurd (ne t.1) | inr f ↦ f.0 ]

pub if_same : {A : Type 0} (p : ℕ) (x y : A) → (if p == p then x else y) ≡ x
if_same {A} p x y = ap (λ (b : Bool). if b then x else y) (is_same p)

pub if_other : {A : Type 0} (p q : ℕ) (x y : A) → p ≢ q → (if p == q then x else y) ≡ y
if_other {A} p q x y ne = ap (λ (b : Bool). if b then x else y) (is_other p q ne)

-- a test, and an option, by what they are
pub is_or_isnt : (b : Bool) → (b ≡ true) ⊎ (b ≡ false)
is_or_isnt true = inl refl
is_or_isnt false = inr refl

pub some_or_none : {A : Type 0} (o : Option A) → ((a : A) × (o ≡ Some a)) ⊎ (o ≡ None)
some_or_none None = inr refl
some_or_none (Some a) = inl (a, refl)

pub is_not : (b : Bool) → not b ≡ true → b ≡ false
is_not true e = absurd cc
is_not false e = refl

pub or_parts : (a b : Bool) → (a || b) ≡ true → (a ≡ true) ⊎ (b ≡ true)
or_parts true b e = inl refl
or_parts false b e = inr e

pub or_left : (a b : Bool) → a ≡ true → (a || b) ≡ true
or_left true b e = refl
or_left false b e = absurd cc

pub or_right : (a b : Bool) → b ≡ true → (a || b) ≡ true
or_right true b e = refl
or_right false b e = e

pub and_parts : (a b : Bool) → (a && b) ≡ true → (a ≡ true) × (b ≡ true)
and_parts true b e = (refl, e)
and_parts false b e = absurd cc

-- two values that a test tells apart
pub unlike : {A : Type 0} (t : A → Bool) (a b : A) → a ≡ b → t a ≡ false → t b ≡ true → ⊥
unlike t a b e no' yes' = let clash : false ≡ true = sym no' ∙ ap t e ∙ yes' in cc

-- equal by the test
pub is_unequal : (p q : ℕ) → (p == q) ≡ false → p ≢ q
is_unequal p q e s = let here : (p == q) ≡ true = subst (λ (x : ℕ). (p == x) ≡ true) s (is_same p) in let clash : false ≡ true = sym e ∙ here in cc

pub is_equal : (p q : ℕ) → (p == q) ≡ true → p ≡ q
is_equal p q e = elim (eqb_tells p q) [ inl t ↦ t.1 | inr f ↦ let no' : false ≡ true = sym f.0 ∙ e in absurd cc ]

pub among_first : (p : ℕ) (ps : List ℕ) → is_among p (p ∷ ps) ≡ true
among_first p ps = or_left (p == p) (is_among p ps) (is_same p)

-- what holds of all holds of each
pub all_at : (P : ℕ → Type 0) (p : ℕ) (ps : List ℕ) → AllByRecursion P ps → is_among p ps ≡ true → P p
all_at P p [] all e = absurd cc
all_at P p (q ∷ qs) all e = elim (or_parts (q == p) (is_among p qs) e) [
  | inl t ↦ subst P (is_equal q p t) all.0
  | inr t ↦ all_at P p qs all.1 t
]

-- one more at the end
pub among_push : (p q : ℕ) (ps : List ℕ) → is_among p (ps ++ q ∷ []) ≡ (is_among p ps || (q == p))
among_push p q [] = or_none (q == p)
  where
    or_none : (b : Bool) → (b || false) ≡ b
    or_none true = refl
    or_none false = refl
among_push p q (r ∷ ps) = ap (λ (b : Bool). (r == p) || b) (among_push p q ps) ∙ or_assoc (r == p) (is_among p ps) (q == p)
  where
    or_assoc : (a b c : Bool) → (a || (b || c)) ≡ ((a || b) || c)
    or_assoc true b c = refl
    or_assoc false b c = refl

pub among_pushed : (p : ℕ) (ps : List ℕ) → is_among p (ps ++ p ∷ []) ≡ true
among_pushed p ps = among_push p p ps ∙ or_right (is_among p ps) (p == p) (is_same p)

pub among_push-other : (p q : ℕ) (ps : List ℕ) → q ≢ p → is_among p (ps ++ q ∷ []) ≡ is_among p ps
among_push-other p q ps ne = among_push p q ps ∙ ap (λ (b : Bool). is_among p ps || b) (is_other q p ne) ∙ or_none (is_among p ps)
  where
    or_none : (b : Bool) → (b || false) ≡ b
    or_none true = refl
    or_none false = refl

-- what a filter keeps
pub among_filter : (t : ℕ → Bool) (p : ℕ) (ps : List ℕ) → is_among p (filter t ps) ≡ true → is_among p ps ≡ true
among_filter t p [] e = absurd cc
among_filter t p (q ∷ ps) e = elim (is_or_isnt (t q)) [
  | inl kept ↦ let here : ((q == p) || is_among p (filter t ps)) ≡ true = rw kept at e in elim (or_parts (q == p) (is_among p (filter t ps)) here) [
    | inl same ↦ or_left (q == p) (is_among p ps) same
    | inr more ↦ or_right (q == p) (is_among p ps) (among_filter t p ps more)
  ]
  | inr left ↦ let here : is_among p (filter t ps) ≡ true = rw left at e in or_right (q == p) (is_among p ps) (among_filter t p ps here)
]

pub among_kept : (t : ℕ → Bool) (p : ℕ) (ps : List ℕ) → is_among p ps ≡ true → t p ≡ true → is_among p (filter t ps) ≡ true
among_kept t p [] e passes = absurd cc
among_kept t p (q ∷ ps) e passes = elim (or_parts (q == p) (is_among p ps) e) [
  | inl same ↦ let here : t q ≡ true = ap t (is_equal q p same) ∙ passes in rw here (or_left (q == p) (is_among p (filter t ps)) same)
  | inr more ↦ elim (is_or_isnt (t q)) [
    | inl kept ↦ rw kept (or_right (q == p) (is_among p (filter t ps)) (among_kept t p ps more passes))
    | inr left ↦ rw left (among_kept t p ps more passes)
  ]
]

-- without p no p is left, and all others are
pub among_without : (p : ℕ) (ps : List ℕ) → is_among p (without p ps) ≡ false
among_without p [] = refl
among_without p (q ∷ ps) = elim (is_or_isnt (q == p)) [
  | inl same ↦ rw same (among_without p ps)
  | inr other ↦ rw (other, other) (among_without p ps)
]

pub among_without-other : (p q : ℕ) (ps : List ℕ) → q ≢ p → is_among p (without q ps) ≡ is_among p ps
among_without-other p q [] ne = refl
among_without-other p q (r ∷ ps) ne = elim (is_or_isnt (r == q)) [
  | inl same ↦ let gone : (r == p) ≡ false = is_other r p (λ e. ne (sym (is_equal r q same) ∙ e)) in rw (same, gone) (among_without-other p q ps ne)
  | inr other ↦ rw other (ap (λ (b : Bool). (r == p) || b) (among_without-other p q ps ne))
]
