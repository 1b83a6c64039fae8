-- A search and a count over a list of items are those over their numbers.
use Rattle.std.proofs.Common.{◌≡◌, ◌∙◌, ℕ, zero, suc, ◌+◌, ◌≤◌, ◌<◌, List, [], ◌∷◌, ◌++◌, Bool, true}
use Rattle.std.proofs.Common.{false, refl, sym, ap, subst, arith, cond, map, inl, inr, length, Some}
use Rattle.std.proofs.Common.{None}
use Rattle.std.specs.Prelude.{filter, find, count_by, ◌⊎◌}
use Rattle.std.specs.List.{AllByRecursion}
use Rattle.std.specs.Option.{option_map}
use Rattle.std.proofs.lemmas.Bool.{cases_eq}
use Rattle.std.proofs.lemmas.List.{length-map}
use Rattle.std.proofs.lemmas.List.Sums.{length-filter}
use Rattle.open_items.specs.Numbers.{passing_above, passing, first, least, how_many}
use Rattle.open_items.proofs.Filtered.{all_weaker}
use Rattle.open_items.proofs.Numbered.{Rising, Has, has_above}
use Rattle.open_items.proofs.Tracked.{Tracks}

first_found : {X : Type 0} (number : X → ℕ) (c : X → Bool) (xs : List X) → option_map number (find c xs) ≡ first (map number (filter c xs))
first_found number c [] = refl
first_found {X} number c (x ∷ xs) = by (c x) (first_found number c xs)
  where
    by : (b : Bool) → option_map number (find c xs) ≡ first (map number (filter c xs)) → option_map number (cond b (Some x) (find c xs)) ≡ first (map number (cond b (x ∷ filter c xs) (filter c xs)))
    by true ih = refl
    by false ih = ih

module _ {X : Type 0} (number : X → ℕ) (c : X → Bool) (t : ℕ → Bool) where
  Within : ℕ → List X → Type 0
  Within n xs = AllByRecursion (λ x. number x ≤ n) xs

  -- the items that pass have the numbers that pass, where each of these is in the list
  numbers_above : (m low : ℕ) (xs : List X) → Rising number low xs → AllByRecursion (λ x. number x ≤ low + m) xs → AllByRecursion (λ x. c x ≡ t (number x)) xs → ((k : ℕ) → low < k → k ≤ low + m → t k ≡ true → Has number k xs) → map number (filter c xs) ≡ passing_above t low m
  numbers_above zero low [] r le same has = refl
  numbers_above zero low (x ∷ xs) r le same has = let a = r.0 in let b = le.0 in absurd (omega arith)
  numbers_above (suc m) low [] r le same has = by (t (low + 1)) refl (numbers_above m (low + 1) [] tt tt tt (λ k above below is. has k (omega arith) (omega arith) is))
    where
      by : (b : Bool) → t (low + 1) ≡ b → [] ≡ passing_above t (low + 1) m → [] ≡ cond b ((low + 1) ∷ passing_above t (low + 1) m) (passing_above t (low + 1) m)
      by true e ih = elim (has (low + 1) (omega arith) (omega arith) e) [ ]
      by false e ih = ih
  numbers_above (suc m) low (x ∷ xs) r le same has =
      split (cases_eq (number x) (low + 1)) (λ r1. numbers_above m (low + 1) xs r1) (λ r1. numbers_above m (low + 1) (x ∷ xs) r1)
    where
      bound : (ys : List X) → AllByRecursion (λ x. number x ≤ low + suc m) ys → AllByRecursion (λ x. number x ≤ (low + 1) + m) ys
      bound ys a = all_weaker (λ x. number x ≤ low + suc m) (λ x. number x ≤ (low + 1) + m) (λ x h. omega arith) ys a

      tail_has : number x ≡ low + 1 → (k : ℕ) → low + 1 < k → k ≤ (low + 1) + m → t k ≡ true → Has number k xs
      tail_has e k above below is = pick (has k (omega arith) (omega arith) is)
        where
          pick : Has number k (x ∷ xs) → Has number k xs
          pick (inl f) = absurd (omega arith)
          pick (inr h) = h

      split : ((number x ≡ low + 1) ⊎ (number x ≡ low + 1 → ⊥))
          → (Rising number (low + 1) xs → AllByRecursion (λ x. number x ≤ (low + 1) + m) xs → AllByRecursion (λ x. c x ≡ t (number x)) xs → ((k : ℕ) → low + 1 < k → k ≤ (low + 1) + m → t k ≡ true → Has number k xs) → map number (filter c xs) ≡ passing_above t (low + 1) m)
          → (Rising number (low + 1) (x ∷ xs) → AllByRecursion (λ x. number x ≤ (low + 1) + m) (x ∷ xs) → AllByRecursion (λ x. c x ≡ t (number x)) (x ∷ xs) → ((k : ℕ) → low + 1 < k → k ≤ (low + 1) + m → t k ≡ true → Has number k (x ∷ xs)) → map number (filter c (x ∷ xs)) ≡ passing_above t (low + 1) m)
          → map number (filter c (x ∷ xs)) ≡ cond (t (low + 1)) ((low + 1) ∷ passing_above t (low + 1) m) (passing_above t (low + 1) m)
      split (inl e) tail whole = by (t (low + 1)) (same.0 ∙ ap t e) (tail (subst (λ n. Rising number n xs) e r.1) (bound xs le.1) same.1 (tail_has e))
        where
          by : (b : Bool) → c x ≡ b → map number (filter c xs) ≡ passing_above t (low + 1) m → map number (filter c (x ∷ xs)) ≡ cond b ((low + 1) ∷ passing_above t (low + 1) m) (passing_above t (low + 1) m)
          by true is ih = ap (λ b. map number (cond b (x ∷ filter c xs) (filter c xs))) is ∙ (ap (λ ns. number x ∷ ns) ih ∙ ap (λ n. n ∷ passing_above t (low + 1) m) e)
          by false is ih = ap (λ b. map number (cond b (x ∷ filter c xs) (filter c xs))) is ∙ ih
      split (inr ne) tail whole = by (t (low + 1)) refl (whole (let a = r.0 in (more (number x) a ne, r.1)) (bound (x ∷ xs) le) same (λ k above below is. has k (omega arith) (omega arith) is))
        where
          more : (n : ℕ) → low < n → (n ≡ low + 1 → ⊥) → low + 1 < n
          more n a ne = omega arith

          none : Has number (low + 1) (x ∷ xs) → ⊥
          none (inl e) = ne e
          none (inr h) = let a = has_above number (number x) xs (low + 1) r.1 h in let b = r.0 in omega arith

          by : (b : Bool) → t (low + 1) ≡ b → map number (filter c (x ∷ xs)) ≡ passing_above t (low + 1) m → map number (filter c (x ∷ xs)) ≡ cond b ((low + 1) ∷ passing_above t (low + 1) m) (passing_above t (low + 1) m)
          by true e ih = absurd (none (has (low + 1) (omega arith) (omega arith) e))
          by false e ih = ih

-- a test of the items of a tracked list, and one of the fates that says the same
module _ {X F : Type 0} (number : X → ℕ) (Matches : X → F → Type 0) (to_come : F → Bool) (c : X → Bool) (t : F → Bool) where
  pub numbers_passing : (fate : ℕ → F) (n : ℕ) (list : List X)
      → ((x : X) (f : F) → Matches x f → c x ≡ t f)
      → ((f : F) → t f ≡ true → to_come f ≡ true)
      → Tracks number Matches to_come fate n list → map number (filter c list) ≡ passing (λ k. t (fate k)) n
  numbers_passing fate n list same only k =
      numbers_above number c (λ i. t (fate i)) n 0 list k.rising
      (all_weaker (λ x. number x ≤ n) _ (λ x le. omega arith) list k.within)
      (all_weaker (λ x. Matches x (fate (number x))) _ (λ x m. same x _ m) list k.matches)
      (λ i above below is. k.complete i (omega arith) (omega arith) (only (fate i) is))

  -- the first that passes is the least number that does
  pub least_passing : (fate : ℕ → F) (n : ℕ) (list : List X)
      → ((x : X) (f : F) → Matches x f → c x ≡ t f)
      → ((f : F) → t f ≡ true → to_come f ≡ true)
      → Tracks number Matches to_come fate n list → option_map number (find c list) ≡ least (λ k. t (fate k)) n
  least_passing fate n list same only k = first_found number c list ∙ ap first (numbers_passing fate n list same only k)

  -- as many pass
  pub how_many_passing : (fate : ℕ → F) (n : ℕ) (list : List X)
      → ((x : X) (f : F) → Matches x f → c x ≡ t f)
      → ((f : F) → t f ≡ true → to_come f ≡ true)
      → Tracks number Matches to_come fate n list → count_by c list ≡ how_many (λ k. t (fate k)) n
  how_many_passing fate n list same only k =
      sym (length-filter c list) ∙ sym (length-map (filter c list) number) ∙ ap length (numbers_passing fate n list same only k)

-- one more number
pub passing_more : (t : ℕ → Bool) (low m : ℕ) → passing_above t low (suc m) ≡ passing_above t low m ++ cond (t (low + suc m)) ((low + suc m) ∷ []) []
passing_more t low zero = refl
passing_more t low (suc m) = by (t (low + 1)) (passing_more t (low + 1) m)
  where
    same : (low + 1) + suc m ≡ low + suc (suc m)
    same = omega arith

    last : ℕ → List ℕ
    last k = cond (t k) (k ∷ []) []

    by : (b : Bool) → passing_above t (low + 1) (suc m) ≡ passing_above t (low + 1) m ++ last ((low + 1) + suc m)
        → cond b ((low + 1) ∷ passing_above t (low + 1) (suc m)) (passing_above t (low + 1) (suc m)) ≡ cond b ((low + 1) ∷ passing_above t (low + 1) m) (passing_above t (low + 1) m) ++ last (low + suc (suc m))
    by true ih = ap (λ ns. (low + 1) ∷ ns) (ih ∙ ap (λ k. passing_above t (low + 1) m ++ last k) same)
    by false ih = ih ∙ ap (λ k. passing_above t (low + 1) m ++ last k) same

-- the least number that passes

least_above : (t : ℕ → Bool) (low m k : ℕ) → first (passing_above t low m) ≡ Some k → (low < k) × (k ≤ low + m) × (t k ≡ true) × ((j : ℕ) → low < j → j < k → t j ≡ false)
least_above t low zero k e = absurd (cc)
least_above t low (suc m) k e = by (t (low + 1)) refl (least_above t (low + 1) m k) e
  where
    by : (b : Bool) → t (low + 1) ≡ b
        → (first (passing_above t (low + 1) m) ≡ Some k → (low + 1 < k) × (k ≤ (low + 1) + m) × (t k ≡ true) × ((j : ℕ) → low + 1 < j → j < k → t j ≡ false))
        → first (cond b ((low + 1) ∷ passing_above t (low + 1) m) (passing_above t (low + 1) m)) ≡ Some k
        → (low < k) × (k ≤ low + suc m) × (t k ≡ true) × ((j : ℕ) → low < j → j < k → t j ≡ false)
    by true is rec e = let same : low + 1 ≡ k = cc in (omega arith, omega arith, subst (λ i. t i ≡ true) same is, λ j above below. absurd (omega arith))
    by false is rec e =
        let r = rec e in
        let above : low + 1 < k = r.0 in
        let within : k ≤ (low + 1) + m = r.1 in (
          omega arith,
          omega arith,
          r.2,
          λ j over under. elim (cases_eq j (low + 1)) [
            | inl here ↦ subst (λ i. t i ≡ false) (sym here) is
            | inr other ↦ r.3 j (omega arith) under
          ],
        )

pub least_is : (t : ℕ → Bool) (n k : ℕ) → least t n ≡ Some k → (1 ≤ k) × (k ≤ n) × (t k ≡ true) × ((j : ℕ) → 1 ≤ j → j < k → t j ≡ false)
least_is t n k e =
    let r = least_above t 0 n k e in
    let above : 0 < k = r.0 in
    let within : k ≤ 0 + n = r.1 in
    (omega arith, omega arith, r.2, λ j pos under. r.3 j (omega arith) under)

-- where there is none, none passes
pub least_none : (t : ℕ → Bool) (n : ℕ) → least t n ≡ None → (k : ℕ) → 1 ≤ k → k ≤ n → t k ≡ false
least_none t n e k pos le = none_above t 0 n e k (omega arith) (omega arith)
  where
    none_above : (t : ℕ → Bool) (low m : ℕ) → first (passing_above t low m) ≡ None → (k : ℕ) → low < k → k ≤ low + m → t k ≡ false
    none_above t low zero e k above le = absurd (omega arith)
    none_above t low (suc m) e k above le = by (t (low + 1)) refl e (none_above t (low + 1) m)
      where
        by : (b : Bool) → t (low + 1) ≡ b → first (cond b ((low + 1) ∷ passing_above t (low + 1) m) (passing_above t (low + 1) m)) ≡ None
            → (first (passing_above t (low + 1) m) ≡ None → (k : ℕ) → low + 1 < k → k ≤ (low + 1) + m → t k ≡ false) → t k ≡ false
        by true is e rec = absurd (cc)
        by false is e rec = elim (cases_eq k (low + 1)) [
          | inl here ↦ subst (λ i. t i ≡ false) (sym here) is
          | inr other ↦ rec e k (omega arith) (omega arith)
        ]
