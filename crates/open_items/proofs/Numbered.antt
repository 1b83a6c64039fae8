-- Lists of items with rising numbers.
use Rattle.std.proofs.Common.{◌≡◌, ◌∙◌, ℕ, ◌+◌, ◌≤◌, ◌<◌, List, [], ◌∷◌, ◌++◌, Bool, true, false}
use Rattle.std.proofs.Common.{refl, sym, ap, subst, arith, cond, map, inl, inr, Some}
use Rattle.std.specs.Prelude.{filter, find, ◌⊎◌}
use Rattle.std.specs.List.{AllByRecursion}
use Rattle.std.proofs.lemmas.List.{map-id}

module _ {X : Type 0} (number : X → ℕ) where
  -- the numbers rise, from above low
  abbrev pub Rising : ℕ → List X → Type 0
  Rising low [] = Unit {0}
  Rising low (x ∷ xs) = (low < number x) × Rising (number x) xs

  -- an item has this number
  abbrev pub Has : ℕ → List X → Type 0
  Has n [] = ⊥
  Has n (x ∷ xs) = (number x ≡ n) ⊎ Has n xs

  pub rising_weaker : (low high : ℕ) (xs : List X) → low ≤ high → Rising high xs → Rising low xs
  rising_weaker low high [] le r = tt
  rising_weaker low high (x ∷ xs) le r = let up = r.0 in (omega arith, r.1)

  pub rising_each : (o : X → Bool) (f : X → X) (same : (x : X) → number (f x) ≡ number x) (low : ℕ) (xs : List X) → Rising low xs → Rising low (filter o (map f xs))
  rising_each o f same low [] r = tt
  rising_each o f same low (x ∷ xs) r = by (o (f x)) (rising_each o f same (number x) xs r.1)
    where
      by : (b : Bool) → Rising (number x) (filter o (map f xs)) → Rising low (cond b (f x ∷ filter o (map f xs)) (filter o (map f xs)))
      by true ih = (subst (λ n. low < n) (sym (same x)) r.0, subst (λ n. Rising n (filter o (map f xs))) (sym (same x)) ih)
      by false ih = let up : low < number x = r.0 in rising_weaker low (number x) _ (omega arith) ih

  pub rising_map : (f : X → X) → ((x : X) → number (f x) ≡ number x) → (low : ℕ) (xs : List X) → Rising low xs → Rising low (map f xs)
  rising_map f same low [] r = tt
  rising_map f same low (x ∷ xs) r =
      (subst (λ n. low < n) (sym (same x)) r.0, subst (λ n. Rising n (map f xs)) (sym (same x)) (rising_map f same (number x) xs r.1))

  pub rising_filter : (o : X → Bool) (low : ℕ) (xs : List X) → Rising low xs → Rising low (filter o xs)
  rising_filter o low xs r = subst (λ ys. Rising low (filter o ys)) (map-id xs) (rising_each o (λ x. x) (λ x. refl) low xs r)

  pub rising_push : (low n : ℕ) (xs : List X) (y : X) → low ≤ n → AllByRecursion (λ x. number x ≤ n) xs → number y ≡ n + 1 → Rising low xs → Rising low (xs ++ y ∷ [])
  rising_push low n [] y le a e r = (omega arith, tt)
  rising_push low n (x ∷ xs) y le a e r = (r.0, rising_push (number x) n xs y a.0 a.1 e r.1)

  -- all are above low
  pub rising_above : (low : ℕ) (xs : List X) → Rising low xs → AllByRecursion (λ x. low < number x) xs
  rising_above low [] r = tt
  rising_above low (x ∷ xs) r = let up : low < number x = r.0 in (up, lift xs (rising_above (number x) xs r.1))
    where
      lift : (ys : List X) → AllByRecursion (λ y. number x < number y) ys → AllByRecursion (λ y. low < number y) ys
      lift [] a = tt
      lift (y ∷ ys) a = (let up : low < number x = r.0 in let more : number x < number y = a.0 in omega arith, lift ys a.1)

  -- a number in a rising list is above low
  pub has_above : (low : ℕ) (xs : List X) (k : ℕ) → Rising low xs → Has k xs → low < k
  has_above low [] k r has = elim has [ ]
  has_above low (x ∷ xs) k r (inl e) = subst (λ n. low < n) e r.0
  has_above low (x ∷ xs) k r (inr has) = let a = has_above (number x) xs k r.1 has in let b = r.0 in omega arith

  pub has_each : (o : X → Bool) (f : X → X) (same : (x : X) → number (f x) ≡ number x) (P : X → Type 0) (n : ℕ) → ((x : X) → P x → number x ≡ n → o (f x) ≡ true) → (xs : List X) → AllByRecursion P xs → Has n xs → Has n (filter o (map f xs))
  has_each o f same P n opens [] a has = has
  has_each o f same P n opens (x ∷ xs) a (inl e) = subst (λ b. Has n (cond b (f x ∷ filter o (map f xs)) (filter o (map f xs)))) (sym (opens x a.0 e)) (inl (same x ∙ e))
  has_each o f same P n opens (x ∷ xs) a (inr has) = by (o (f x)) (has_each o f same P n opens xs a.1 has)
    where
      by : (b : Bool) → Has n (filter o (map f xs)) → Has n (cond b (f x ∷ filter o (map f xs)) (filter o (map f xs)))
      by true ih = inr ih
      by false ih = ih

  pub has_front : (n : ℕ) (xs : List X) (y : X) → Has n xs → Has n (xs ++ y ∷ [])
  has_front n [] y has = elim has [ ]
  has_front n (x ∷ xs) y (inl e) = inl e
  has_front n (x ∷ xs) y (inr has) = inr (has_front n xs y has)

  pub has_last : (n : ℕ) (xs : List X) (y : X) → number y ≡ n → Has n (xs ++ y ∷ [])
  has_last n [] y e = inl e
  has_last n (x ∷ xs) y e = inr (has_last n xs y e)

  -- what holds of each holds of the one with this number
  pub all_has : (P : X → Type 0) (n : ℕ) (xs : List X) → AllByRecursion P xs → Has n xs → (x : X) × (number x ≡ n) × P x
  all_has P n [] a has = elim has [ ]
  all_has P n (x ∷ xs) a (inl e) = (x, e, a.0)
  all_has P n (x ∷ xs) a (inr has) = all_has P n xs a.1 has

-- what is found by a test that only one number passes
module _ {X : Type 0} (number : X → ℕ) (P : X → Type 0) (c : X → Bool) where
  -- each item that passes has this number: then what is found is the one that has it, and passes
  pub find_numbered : (n : ℕ) (xs : List X) → ((x : X) → c x ≡ true → number x ≡ n) → ((x : X) → P x → number x ≡ n → c x ≡ true) → AllByRecursion P xs → Has number n xs → (x : X) × (number x ≡ n) × P x × (find c xs ≡ Some x)
  find_numbered n [] only passes a has = elim has [ ]
  find_numbered n (x ∷ xs) only passes a (inl e) = (x, e, a.0, ap (λ b. cond b (Some x) (find c xs)) (passes x a.0 e))
  find_numbered n (x ∷ xs) only passes a (inr has) = by (c x) refl (find_numbered n xs only passes a.1 has)
    where
      by : (b : Bool) → c x ≡ b → (y : X) × (number y ≡ n) × P y × (find c xs ≡ Some y) → (y : X) × (number y ≡ n) × P y × (cond b (Some x) (find c xs) ≡ Some y)
      by true is r = (x, only x is, a.0, refl)
      by false is r = r
