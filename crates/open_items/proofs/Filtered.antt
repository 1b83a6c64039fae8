-- Lists that are changed in place, and lists of what passes a test.
use Rattle.std.proofs.Common.{◌≡◌, ◌∙◌, ℕ, zero, suc, ◌+◌, ◌-◌, ◌≤◌, ◌<◌, List, [], ◌∷◌, ◌++◌, Bool}
use Rattle.std.proofs.Common.{true, false, refl, sym, ap, subst, arith, cond, map, Some, take, drop}
use Rattle.std.proofs.Common.{set, get_or, length}
use Rattle.std.specs.Prelude.{filter, find, count_by, ◌||◌, sum_by}
use Rattle.std.specs.List.{AllByRecursion, list_any}
use Rattle.std.proofs.lemmas.List.{length-append, length-map, length-take, length-take-le}
use Rattle.std.proofs.lemmas.List.{length-drop, get_or_default, set-get_or, map-append}
use Rattle.std.proofs.lemmas.List.{take-append-drop}
use Rattle.std.proofs.lemmas.List.Edits.{map_over_more}
use Rattle.std.proofs.lemmas.List.Sums.{length-filter, sum_by-cons}

-- one more element is changed in place
pub changed_more : {X : Type 0} (f : X → X) (xs ys : List X) (i : ℕ) (d x : X) → i < length ys → ys ≡ map f (take i xs) ++ drop i xs → x ≡ f (get_or ys i d) → set ys i x ≡ map f (take (i + 1) xs) ++ drop (i + 1) xs
changed_more {X} f xs ys i d x here so_far is =
    let long : length (map f (take i xs) ++ drop i xs) ≡ length xs = simp (length-append, length-map, length-take, length-drop) (omega arith) in
    let within : i < length xs = omega (arith, ap length so_far, long) in
    ap (set ys i) is ∙ map_over_more f xs ys i (get_or ys i d) within so_far (get_or_default ys i d (get_or ys i d) here)

-- the first i are changed in place
module _ {X : Type 0} (f : X → X) (items now : List X) (i : ℕ) where
  pub same_long : i ≤ length items → now ≡ map f (take i items) ++ drop i items → length now ≡ length items
  same_long le so_far =
      let parts : length (map f (take i items) ++ drop i items) ≡ length (map f (take i items)) + length (drop i items) = length-append (map f (take i items)) (drop i items) in
      let front : length (map f (take i items)) ≡ i = length-map (take i items) f ∙ length-take-le i items le in
      let back : length (drop i items) ≡ length items - i = length-drop i items in
      omega (arith, ap length so_far)

  pub change_next : (x y : X) → i < length items → now ≡ map f (take i items) ++ drop i items → x ≡ get_or now i x → y ≡ f x → set now i y ≡ map f (take (i + 1) items) ++ drop (i + 1) items
  change_next x y lt so_far here is =
      let long : length now ≡ length items = same_long (omega arith) so_far in
      changed_more f items now i x y (omega arith) so_far (is ∙ ap f here)

  -- one more stays as it is
  pub stays_next : (x : X) → i < length items → now ≡ map f (take i items) ++ drop i items → x ≡ get_or now i x → f x ≡ x → now ≡ map f (take (i + 1) items) ++ drop (i + 1) items
  stays_next x lt so_far here same = sym (ap (set now i) here ∙ set-get_or now i x) ∙ change_next x x lt so_far here (sym same)

  -- the rest is left as it is
  pub ends_early : now ≡ map f (take i items) ++ drop i items → map f (drop i items) ≡ drop i items → now ≡ map f items
  ends_early so_far same =
      so_far ∙ ap (λ xs. map f (take i items) ++ xs) (sym same) ∙ sym (map-append f (take i items) (drop i items)) ∙ ap (map f) (take-append-drop i items)

module _ {X : Type 0} (o : X → Bool) where
  -- what is left out stays out
  pub filter-map-filter : (f : X → X) → ((x : X) → o x ≡ false → o (f x) ≡ false) → (xs : List X) → filter o (map f xs) ≡ filter o (map f (filter o xs))
  filter-map-filter f stays [] = refl
  filter-map-filter f stays (x ∷ xs) = by (o x) refl (filter-map-filter f stays xs)
    where
      by : (b : Bool) → o x ≡ b → filter o (map f xs) ≡ filter o (map f (filter o xs)) → cond (o (f x)) (f x ∷ filter o (map f xs)) (filter o (map f xs)) ≡ filter o (map f (cond b (x ∷ filter o xs) (filter o xs)))
      by true e ih = ap (λ ys. cond (o (f x)) (f x ∷ ys) ys) ih
      by false e ih = ap (λ b. cond b (f x ∷ filter o (map f xs)) (filter o (map f xs))) (stays x e) ∙ ih

  pub filter-filter : (xs : List X) → filter o (filter o xs) ≡ filter o xs
  filter-filter [] = refl
  filter-filter (x ∷ xs) = by (o x) refl (filter-filter xs)
    where
      by : (b : Bool) → o x ≡ b → filter o (filter o xs) ≡ filter o xs → filter o (cond b (x ∷ filter o xs) (filter o xs)) ≡ cond b (x ∷ filter o xs) (filter o xs)
      by true e ih = ap (λ b. cond b (x ∷ filter o (filter o xs)) (filter o (filter o xs))) e ∙ ap (λ ys. x ∷ ys) ih
      by false e ih = ih

  pub filter-push : (xs : List X) (y : X) → o y ≡ true → filter o (xs ++ y ∷ []) ≡ filter o xs ++ y ∷ []
  filter-push [] y e = ap (λ b. cond b (y ∷ []) []) e
  filter-push (x ∷ xs) y e = by (o x) (filter-push xs y e)
    where
      by : (b : Bool) → filter o (xs ++ y ∷ []) ≡ filter o xs ++ y ∷ [] → cond b (x ∷ filter o (xs ++ y ∷ [])) (filter o (xs ++ y ∷ [])) ≡ cond b (x ∷ filter o xs) (filter o xs) ++ y ∷ []
      by true ih = ap (λ ys. x ∷ ys) ih
      by false ih = ih

  -- a test that only what is kept passes: it finds the same
  pub find-filter : (p : X → Bool) → ((x : X) → o x ≡ false → p x ≡ false) → (xs : List X) → find p (filter o xs) ≡ find p xs
  find-filter p only [] = refl
  find-filter p only (x ∷ xs) = by (o x) refl (find-filter p only xs)
    where
      by : (b : Bool) → o x ≡ b → find p (filter o xs) ≡ find p xs → find p (cond b (x ∷ filter o xs) (filter o xs)) ≡ cond (p x) (Some x) (find p xs)
      by true e ih = ap (cond (p x) (Some x)) ih
      by false e ih = ih ∙ sym (ap (λ b. cond b (Some x) (find p xs)) (only x e))

  -- the same ones pass it
  pub filter-only : (p : X → Bool) → ((x : X) → o x ≡ false → p x ≡ false) → (xs : List X) → filter p (filter o xs) ≡ filter p xs
  filter-only p only [] = refl
  filter-only p only (x ∷ xs) = by (o x) refl (filter-only p only xs)
    where
      by : (b : Bool) → o x ≡ b → filter p (filter o xs) ≡ filter p xs → filter p (cond b (x ∷ filter o xs) (filter o xs)) ≡ cond (p x) (x ∷ filter p xs) (filter p xs)
      by true e ih = ap (λ ys. cond (p x) (x ∷ ys) ys) ih
      by false e ih = ih ∙ sym (ap (λ b. cond b (x ∷ filter p xs) (filter p xs)) (only x e))

  -- a sum to which only what is kept adds
  pub sum_by-filter : (g : X → ℕ) → ((x : X) → o x ≡ false → g x ≡ 0) → (xs : List X) → sum_by g (filter o xs) ≡ sum_by g xs
  sum_by-filter g only [] = refl
  sum_by-filter g only (x ∷ xs) = by (o x) refl (sum_by-filter g only xs) ∙ sym (sum_by-cons g x xs)
    where
      by : (b : Bool) → o x ≡ b → sum_by g (filter o xs) ≡ sum_by g xs → sum_by g (cond b (x ∷ filter o xs) (filter o xs)) ≡ g x + sum_by g xs
      by true e ih = sum_by-cons g x (filter o xs) ∙ ap (λ n. g x + n) ih
      by false e ih = let none : g x ≡ 0 = only x e in omega arith

  -- as many pass it
  pub count_by-filter : (p : X → Bool) → ((x : X) → o x ≡ false → p x ≡ false) → (xs : List X) → count_by p (filter o xs) ≡ count_by p xs
  count_by-filter p only xs = sym (length-filter p (filter o xs)) ∙ ap length (filter-only p only xs) ∙ length-filter p xs

  -- some pass it
  pub list_any-filter : (p : X → Bool) → ((x : X) → o x ≡ false → p x ≡ false) → (xs : List X) → list_any p (filter o xs) ≡ list_any p xs
  list_any-filter p only [] = refl
  list_any-filter p only (x ∷ xs) = by (o x) refl (list_any-filter p only xs)
    where
      by : (b : Bool) → o x ≡ b → list_any p (filter o xs) ≡ list_any p xs → list_any p (cond b (x ∷ filter o xs) (filter o xs)) ≡ (p x || list_any p xs)
      by true e ih = ap (λ b. p x || b) ih
      by false e ih = ih ∙ sym (ap (λ b. b || list_any p xs) (only x e))

module _ {X : Type 0} (p : X → Bool) where
  length-filter-map-le : (f : X → X) → ((x : X) → p (f x) ≡ true → p x ≡ true) → (xs : List X) → length (filter p (map f xs)) ≤ length (filter p xs)
  length-filter-map-le f fewer [] = omega arith
  length-filter-map-le f fewer (x ∷ xs) = by (p (f x)) (p x) refl refl (length-filter-map-le f fewer xs)
    where
      by : (a b : Bool) → p (f x) ≡ a → p x ≡ b → length (filter p (map f xs)) ≤ length (filter p xs) → length (cond a (f x ∷ filter p (map f xs)) (filter p (map f xs))) ≤ length (cond b (x ∷ filter p xs) (filter p xs))
      by true true e g ih = omega arith
      by true false e g ih = absurd (let h : p x ≡ true = fewer x e in cc)
      by false true e g ih = omega arith
      by false false e g ih = ih

  -- where none begins to pass, no more pass
  pub count_by-map-le : (f : X → X) → ((x : X) → p (f x) ≡ true → p x ≡ true) → (xs : List X) → count_by p (map f xs) ≤ count_by p xs
  count_by-map-le f fewer xs = rw (← length-filter p (map f xs), ← length-filter p xs) (length-filter-map-le f fewer xs)

-- where none adds more than before
pub sum_by-map-le : {X : Type 0} (g : X → ℕ) (f : X → X) → ((x : X) → g (f x) ≤ g x) → (xs : List X) → sum_by g (map f xs) ≤ sum_by g xs
sum_by-map-le g f less [] = omega arith
sum_by-map-le g f less (x ∷ xs) =
    let here : g (f x) ≤ g x = less x in
    let rest : sum_by g (map f xs) ≤ sum_by g xs = sum_by-map-le g f less xs in
    rw (sum_by-cons g x xs, sum_by-cons g (f x) (map f xs)) (omega arith)

-- what holds of each

pub all_each : {X : Type 0} (o : X → Bool) (f : X → X) (P Q : X → Type 0) → ((x : X) → P x → Q (f x)) → (xs : List X) → AllByRecursion P xs → AllByRecursion Q (filter o (map f xs))
all_each o f P Q step [] a = tt
all_each {X} o f P Q step (x ∷ xs) a = by (o (f x)) (all_each o f P Q step xs a.1)
  where
    by : (b : Bool) → AllByRecursion Q (filter o (map f xs)) → AllByRecursion Q (cond b (f x ∷ filter o (map f xs)) (filter o (map f xs)))
    by true ih = (step x a.0, ih)
    by false ih = ih

pub all_map : {X : Type 0} (f : X → X) (P Q : X → Type 0) → ((x : X) → P x → Q (f x)) → (xs : List X) → AllByRecursion P xs → AllByRecursion Q (map f xs)
all_map f P Q step [] a = tt
all_map f P Q step (x ∷ xs) a = (step x a.0, all_map f P Q step xs a.1)

pub all_filter : {X : Type 0} (o : X → Bool) (P : X → Type 0) (xs : List X) → AllByRecursion P xs → AllByRecursion P (filter o xs)
all_filter o P [] a = tt
all_filter {X} o P (x ∷ xs) a = by (o x) (all_filter o P xs a.1)
  where
    by : (b : Bool) → AllByRecursion P (filter o xs) → AllByRecursion P (cond b (x ∷ filter o xs) (filter o xs))
    by true ih = (a.0, ih)
    by false ih = ih

pub all_drop : {X : Type 0} (P : X → Type 0) (n : ℕ) (xs : List X) → AllByRecursion P xs → AllByRecursion P (drop n xs)
all_drop P zero xs a = a
all_drop P (suc n) [] a = tt
all_drop P (suc n) (x ∷ xs) a = all_drop P n xs a.1

pub all_weaker : {X : Type 0} (P Q : X → Type 0) → ((x : X) → P x → Q x) → (xs : List X) → AllByRecursion P xs → AllByRecursion Q xs
all_weaker P Q w [] a = tt
all_weaker P Q w (x ∷ xs) a = (w x a.0, all_weaker P Q w xs a.1)

pub all_both : {X : Type 0} (P Q : X → Type 0) (xs : List X) → AllByRecursion P xs → AllByRecursion Q xs → AllByRecursion (λ x. P x × Q x) xs
all_both P Q [] a b = tt
all_both P Q (x ∷ xs) a b = ((a.0, b.0), all_both P Q xs a.1 b.1)

pub all_push : {X : Type 0} (P : X → Type 0) (xs : List X) (y : X) → AllByRecursion P xs → P y → AllByRecursion P (xs ++ y ∷ [])
all_push P [] y a h = (h, tt)
all_push P (x ∷ xs) y a h = (a.0, all_push P xs y a.1 h)

-- what is found passes, and has what each has
pub all_find : {X : Type 0} (P : X → Type 0) (p : X → Bool) (xs : List X) (x : X) → AllByRecursion P xs → find p xs ≡ Some x → P x × (p x ≡ true)
all_find P p [] x a e = absurd (cc)
all_find {X} P p (y ∷ ys) x a e = by (p y) refl (all_find P p ys x a.1) e
  where
    by : (b : Bool) → p y ≡ b → (find p ys ≡ Some x → P x × (p x ≡ true)) → cond b (Some y) (find p ys) ≡ Some x → P x × (p x ≡ true)
    by true is rec e = let same : y ≡ x = cc in subst (λ z. P z × (p z ≡ true)) same (a.0, is)
    by false is rec e = rec e
