-- The first of those with the least key: the best so far, and the best of what is left.
use Rattle.std.proofs.Common.{◌≡◌, ◌∙◌, ℕ, ◌+◌, ◌<◌, List, [], ◌∷◌, Bool, true, false, refl, sym}
use Rattle.std.proofs.Common.{ap, subst, arith, Option, Some, None, cond, length, drop, get_or}
use Rattle.std.specs.Prelude.{filter, nat_lt}
use Rattle.std.specs.List.{AllByRecursion}
use Rattle.std.proofs.lemmas.Bool.Decides.{nat_tests}
use Rattle.std.proofs.lemmas.List.{drop_more}
use Rattle.open_items.proofs.Filtered.{all_weaker}
use Rattle.open_items.proofs.Numbered.{Rising, rising_above}
use Rattle.consume_path.specs.Offers.{sooner, soonest}

module _ {R : Type 0} (key : R → ℕ) where
  pub sooner_none : (r : Option R) → sooner key r None ≡ r
  sooner_none None = refl
  sooner_none (Some a) = refl

  -- the best of three
  best : (a b c : R) → sooner key (sooner key (Some a) (Some b)) (Some c) ≡ sooner key (Some a) (sooner key (Some b) (Some c))
  best a b c = by (nat_lt (key b) (key a)) (nat_lt (key c) (key b)) (nat_lt (key c) (key a)) refl refl refl
    where
      by : (x y z : Bool) → nat_lt (key b) (key a) ≡ x → nat_lt (key c) (key b) ≡ y → nat_lt (key c) (key a) ≡ z
          → sooner key (cond x (Some b) (Some a)) (Some c) ≡ sooner key (Some a) (cond y (Some c) (Some b))
      by true true true e f g = rw (f, g) refl
      by true true false e f g = absurd (grind (arith, nat_tests))
      by true false z e f g = rw (e, f) refl
      by false true z e f g = refl
      by false false true e f g = absurd (grind (arith, nat_tests))
      by false false false e f g = rw (e, g) refl

  pub sooner_assoc : (r s t : Option R) → sooner key (sooner key r s) t ≡ sooner key r (sooner key s t)
  sooner_assoc None s t = refl
  sooner_assoc (Some a) None t = refl
  sooner_assoc (Some a) (Some b) None = sooner_none (sooner key (Some a) (Some b))
  sooner_assoc (Some a) (Some b) (Some c) = best a b c

  -- one more is looked at
  pub sooner_more : {A : Type 0} (offer : A → Option R) (xs : List A) (i : ℕ) (d : A) (r s : Option R) → i < length xs → s ≡ offer (get_or xs i d)
      → sooner key (sooner key r s) (soonest key offer (drop (i + 1) xs)) ≡ sooner key r (soonest key offer (drop i xs))
  sooner_more offer xs i d r s lt is =
      sooner_assoc r s (soonest key offer (drop (i + 1) xs)) ∙ ap (λ t. sooner key r (sooner key t (soonest key offer (drop (i + 1) xs)))) is
      ∙ ap (λ ys. sooner key r (soonest key offer ys)) (sym (drop_more xs i d lt))

  -- what has nothing to offer may be left out
  pub soonest_filter : {A : Type 0} (o : A → Bool) (offer more : A → Option R) → ((x : A) → offer x ≡ more x) → ((x : A) → o x ≡ false → more x ≡ None) → (xs : List A) → soonest key offer (filter o xs) ≡ soonest key more xs
  soonest_filter o offer more same only [] = refl
  soonest_filter {A} o offer more same only (x ∷ xs) = by (o x) refl (soonest_filter o offer more same only xs)
    where
      by : (b : Bool) → o x ≡ b → soonest key offer (filter o xs) ≡ soonest key more xs → soonest key offer (cond b (x ∷ filter o xs) (filter o xs)) ≡ sooner key (more x) (soonest key more xs)
      by true e ih = ap (λ t. sooner key t (soonest key offer (filter o xs))) (same x) ∙ ap (sooner key (more x)) ih
      by false e ih = ih ∙ sym (ap (λ t. sooner key t (soonest key more xs)) (only x e))

  -- offered by one, and by no earlier one with as little a key
  abbrev Found : {A : Type 0} → (A → ℕ) → (A → Type 0) → (A → Option R) → R → List A → Type 0
  Found {A} number P offer s ys = (y : A) × P y × (offer y ≡ Some s) × AllByRecursion (λ z. number z < number y → (q : R) → offer z ≡ Some q → key s < key q) ys

  -- what is found is offered by one, and no earlier one offers as little
  pub soonest_first : {A : Type 0} (number : A → ℕ) (P : A → Type 0) (offer : A → Option R) (low : ℕ) (xs : List A) (r : R) → Rising number low xs → AllByRecursion P xs → soonest key offer xs ≡ Some r
      → Found number P offer r xs
  soonest_first number P offer low [] r rising a e = absurd (cc)
  soonest_first {A} number P offer low (x ∷ xs) r rising a e = by (offer x) (soonest key offer xs) refl refl e (λ s is. soonest_first number P offer (number x) xs s rising.1 a.1 is)
    where
      late : (s : R) (ys : List A) → AllByRecursion (λ y. number x < number y) ys → AllByRecursion (λ z. number z < number x → (q : R) → offer z ≡ Some q → key s < key q) ys
      late s ys up = all_weaker (λ y. number x < number y) _ (λ y above below. absurd (omega arith)) ys up

      here : (s : R) → offer x ≡ Some s → Found number P offer s (x ∷ xs)
      here s is = (x, a.0, is, ((λ below. absurd (omega arith)), late s xs (rising_above number (number x) xs rising.1)))

      by : (o t : Option R) → offer x ≡ o → soonest key offer xs ≡ t → sooner key o t ≡ Some r → ((s : R) → soonest key offer xs ≡ Some s → Found number P offer s xs) → Found number P offer r (x ∷ xs)
      by None t is rest e rec =
          let f = rec r (rest ∙ e) in
          (f.0, f.1, f.2, ((λ below q at. absurd (let no : None ≡ Some q = sym is ∙ at in cc)), f.3))
      by (Some s) None is rest e rec = here r (is ∙ e)
      by (Some s) (Some t) is rest e rec = pick (nat_lt (key t) (key s)) refl e
        where
          pick : (b : Bool) → nat_lt (key t) (key s) ≡ b → cond b (Some t) (Some s) ≡ Some r → Found number P offer r (x ∷ xs)
          pick true less e =
              let f = rec r (rest ∙ e) in
              (f.0, f.1, f.2, ((λ below q at. let same : q ≡ s = some_same q s (sym at ∙ is) in let that : t ≡ r = some_same t r e in subst (λ k. key r < key k) (sym same) (subst (λ k. key k < key s) that (grind (arith, nat_tests)))), f.3))
            where
              some_same : (u v : R) → Some u ≡ Some v → u ≡ v
              some_same u v e = cc
          pick false less e = here r (is ∙ e)

  -- what is found is offered by one
  pub soonest_found : {A : Type 0} (P : A → Type 0) (offer : A → Option R) (xs : List A) (r : R) → AllByRecursion P xs → soonest key offer xs ≡ Some r → (x : A) × P x × (offer x ≡ Some r)
  soonest_found P offer [] r a e = absurd (cc)
  soonest_found {A} P offer (x ∷ xs) r a e = by (offer x) (soonest key offer xs) refl refl e (λ s is. soonest_found P offer xs s a.1 is)
    where
      by : (o t : Option R) → offer x ≡ o → soonest key offer xs ≡ t → sooner key o t ≡ Some r → ((s : R) → soonest key offer xs ≡ Some s → (y : A) × P y × (offer y ≡ Some s)) → (y : A) × P y × (offer y ≡ Some r)
      by None t is rest e rec = rec r (rest ∙ e)
      by (Some s) None is rest e rec = (x, a.0, is ∙ e)
      by (Some s) (Some t) is rest e rec = pick (nat_lt (key t) (key s)) e
        where
          pick : (b : Bool) → cond b (Some t) (Some s) ≡ Some r → (y : A) × P y × (offer y ≡ Some r)
          pick true e = rec r (rest ∙ e)
          pick false e = (x, a.0, is ∙ e)
