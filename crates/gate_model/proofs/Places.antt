-- Lives by their numbers.
use Rattle.std.proofs.Common.{◌≡◌, ◌≢◌, ◌⊎◌, ℕ, zero, suc, ◌==◌, Bool, true, false, List, [], ◌∷◌, replicate, ap, arith, inl, inr, refl}
use Rattle.std.specs.Prelude.{slice_get}
use Rattle.std.proofs.lemmas.Bool.Decides.{nat_tests}
use Rattle.gate_model.specs.declared.life.Life.{Life}
use Rattle.gate_model.specs.Lives.{life_at, no_life, no_lives, or_none, with_life}

pub itself : (n : ℕ) → (n == n) ≡ true
itself n = grind (arith, nat_tests)

pub isnt : (k n : ℕ) → k ≢ n → (k == n) ≡ false
isnt k n d = by (k == n) refl
  where
    by : (b : Bool) → (k == n) ≡ b → b ≡ false
    by true e = let same : k ≡ n = grind (arith, nat_tests, e) in absurd (d same)
    by false e = refl

pub same_or_not : (k n : ℕ) → (k ≡ n) ⊎ (k ≢ n)
same_or_not zero zero = inl refl
same_or_not zero (suc n) = inr (λ e. cc)
same_or_not (suc k) zero = inr (λ e. cc)
same_or_not (suc k) (suc n) = elim (same_or_not k n) [ inl e ↦ inl (ap suc e) | inr d ↦ inr (λ e. d (let less : k ≡ n = omega (arith, e) in less)) ]

-- a life that is set is found under its number alone, which may be of none
pub data SetAt (ls : List Life) (k n : ℕ) (l : Life) : Type 0 where
  Here : k ≡ n → life_at (with_life k l ls) n ≡ l → SetAt ls k n l
  Elsewhere : k ≢ n → life_at (with_life k l ls) n ≡ life_at ls n → SetAt ls k n l
  Beyond : k ≡ n → life_at ls n ≡ no_life → life_at (with_life k l ls) n ≡ no_life → SetAt ls k n l

set_more : (x : Life) (ls : List Life) (k n : ℕ) (l : Life) → SetAt ls k n l → SetAt (x ∷ ls) (suc k) (suc n) l
set_more x ls k n l (Here e f) = Here (ap suc e) f
set_more x ls k n l (Elsewhere d f) = Elsewhere (λ e. d (let less : k ≡ n = omega (arith, e) in less)) f
set_more x ls k n l (Beyond e f g) = Beyond (ap suc e) f g

pub set_at : (ls : List Life) (k n : ℕ) (l : Life) → SetAt ls k n l
set_at [] k n l = elim (same_or_not k n) [ inl e ↦ Beyond e refl refl | inr d ↦ Elsewhere d refl ]
set_at (x ∷ ls) zero zero l = Here refl refl
set_at (x ∷ ls) zero (suc n) l = Elsewhere (λ e. cc) refl
set_at (x ∷ ls) (suc k) zero l = Elsewhere (λ e. cc) refl
set_at (x ∷ ls) (suc k) (suc n) l = set_more x ls k n l (set_at ls k n l)

none_at : (k n : ℕ) → or_none (slice_get (replicate k no_life) n) ≡ no_life
none_at zero n = refl
none_at (suc k) zero = refl
none_at (suc k) (suc n) = none_at k n

pub new_at : (n : ℕ) → life_at no_lives n ≡ no_life
unfolding no_lives
new_at n = none_at 256 n
