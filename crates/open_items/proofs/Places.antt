-- Places in a list, and the elements that pass a test.
use Rattle.std.proofs.Common.{◌≡◌, ◌∙◌, ℕ, zero, suc, ◌+◌, ◌-◌, ◌≤◌, ◌<◌, List, [], ◌∷◌, ◌++◌, Bool}
use Rattle.std.proofs.Common.{true, false, refl, sym, ap, subst, arith, cond, map, take, drop, length}
use Rattle.std.proofs.Common.{get_or, Some, None}
use Rattle.std.specs.Prelude.{filter, find, count_by, nat_lt, not, ◌||◌, IfSome, IsSome}
use Rattle.std.specs.List.{AllByRecursion, list_any, position, position_or_len}
use Rattle.std.proofs.lemmas.Bool.Decides.{nat_tests}
use Rattle.std.proofs.lemmas.List.{nil_from_length, length-append, length-map, length-drop, drop-map}
use Rattle.std.proofs.lemmas.List.{drop-drop, drop-append-le, take-append-drop}
use Rattle.std.proofs.lemmas.List.Elements.{filter-append}
use Rattle.std.proofs.lemmas.List.Sums.{length-filter, sum_by-cons, get_or-le-sum_by}
use Rattle.std.proofs.lemmas.List.Sums.{prefix_len-le-length}
use Rattle.open_items.specs.Places.{AllFrom, place_at, place_from}
use Rattle.open_items.proofs.Filtered.{filter-map-filter, find-filter, filter-only, list_any-filter}
use Rattle.open_items.proofs.Filtered.{all_weaker, all_both}

-- a change of each that leaves each as it is
pub map_same : {X : Type 0} (f : X → X) (xs : List X) → AllByRecursion (λ x. f x ≡ x) xs → map f xs ≡ xs
map_same f [] a = refl
map_same f (x ∷ xs) a = ap (λ y. y ∷ map f xs) a.0 ∙ ap (λ ys. x ∷ ys) (map_same f xs a.1)

one_more : (n : ℕ) → 1 + n ≡ suc n
one_more n = omega arith

module _ {X : Type 0} (t : X → Bool) where
  pub none_pass : (xs : List X) → filter t xs ≡ [] → AllByRecursion (λ x. t x ≡ false) xs
  none_pass [] e = tt
  none_pass (x ∷ xs) e = by (t x) refl e (none_pass xs)
    where
      by : (b : Bool) → t x ≡ b → cond b (x ∷ filter t xs) (filter t xs) ≡ [] → (filter t xs ≡ [] → AllByRecursion (λ x. t x ≡ false) xs) → (t x ≡ false) × AllByRecursion (λ x. t x ≡ false) xs
      by true is e rec = absurd (cc)
      by false is e rec = (is, rec e)

  -- none passes where the count is 0
  pub none_counted : (xs : List X) → count_by t xs ≡ 0 → AllByRecursion (λ x. t x ≡ false) xs
  none_counted xs e = none_pass xs (nil_from_length (filter t xs) (length-filter t xs ∙ e))

  pub one_counted : (x : X) (xs : List X) → count_by t (x ∷ xs) ≡ cond (t x) 1 0 + count_by t xs
  one_counted x xs = sum_by-cons (λ y. cond (t y) 1 0) x xs

  -- fewer pass where some are left out
  pub count_open : (o : X → Bool) (xs : List X) → count_by t (filter o xs) ≤ count_by t xs
  count_open o [] = omega arith
  count_open o (x ∷ xs) =
      let all : count_by t (x ∷ xs) ≡ cond (t x) 1 0 + count_by t xs = one_counted x xs in
      let most : count_by t (filter o (x ∷ xs)) ≤ cond (t x) 1 0 + count_by t xs = by (o x) (count_open o xs) in
      omega arith
    where
      by : (b : Bool) → count_by t (filter o xs) ≤ count_by t xs → count_by t (cond b (x ∷ filter o xs) (filter o xs)) ≤ cond (t x) 1 0 + count_by t xs
      by true ih = let kept : count_by t (x ∷ filter o xs) ≡ cond (t x) 1 0 + count_by t (filter o xs) = one_counted x (filter o xs) in omega arith
      by false ih = omega arith

  -- the place that is found

  pub found_within : (from : ℕ) (items : List X) → from ≤ length items → IfSome (position t (drop from items)) (λ ahead. from + ahead < length items)
  found_within from items le = by (nat_lt n (length (drop from items))) refl
    where
      n : ℕ
      n = position_or_len t (drop from items)

      by : (b : Bool) → nat_lt n (length (drop from items)) ≡ b → IfSome (cond b (Some n) None) (λ ahead. from + ahead < length items)
      by true e = let long : length (drop from items) ≡ length items - from = length-drop from items in let lt : n < length (drop from items) = grind (arith, nat_tests) in omega arith
      by false e = tt

  pub place_is : (from : ℕ) (items : List X) → from ≤ length items → place_from t from items ≡ from + position_or_len t (drop from items)
  place_is from items le = by (nat_lt n (length (drop from items))) refl
    where
      n : ℕ
      n = position_or_len t (drop from items)

      by : (b : Bool) → nat_lt n (length (drop from items)) ≡ b → place_at from (length items) (cond b (Some n) None) ≡ from + n
      by true e = refl
      by false e =
          let long : length (drop from items) ≡ length items - from = length-drop from items in
          let most : n ≤ length (drop from items) = prefix_len-le-length (λ x. not (t x)) (drop from items) in
          let least : length (drop from items) ≤ n = grind (arith, nat_tests) in
          omega arith

  -- none before the first passes
  first_behind : (xs : List X) → filter t (drop (position_or_len t xs) xs) ≡ filter t xs
  first_behind [] = refl
  first_behind (x ∷ xs) = by (t x) refl (first_behind xs)
    where
      n : ℕ
      n = position_or_len t xs

      by : (b : Bool) → t x ≡ b → filter t (drop n xs) ≡ filter t xs → filter t (drop (cond (not b) (1 + n) 0) (x ∷ xs)) ≡ cond b (x ∷ filter t xs) (filter t xs)
      by true e ih = ap (λ b. cond b (x ∷ filter t xs) (filter t xs)) e
      by false e ih = ap (λ k. filter t (drop k (x ∷ xs))) (one_more n) ∙ ih

  -- some pass where the first that does is within
  pub any_found : (xs : List X) → list_any t xs ≡ nat_lt (position_or_len t xs) (length xs)
  any_found [] = refl
  any_found (x ∷ xs) = by (t x) (any_found xs)
    where
      zero_less : (n : ℕ) → true ≡ nat_lt 0 (suc n)
      zero_less n = grind (arith, nat_tests)

      more : (m n : ℕ) → nat_lt m n ≡ nat_lt (1 + m) (suc n)
      more m n = grind (arith, nat_tests)

      by : (b : Bool) → list_any t xs ≡ nat_lt (position_or_len t xs) (length xs) → (b || list_any t xs) ≡ nat_lt (cond (not b) (1 + position_or_len t xs) 0) (suc (length xs))
      by true ih = zero_less (length xs)
      by false ih = ih ∙ more (position_or_len t xs) (length xs)

  -- where one is found, its place is within
  pub found_before : (xs : List X) → IsSome (find t xs) → position_or_len t xs < length xs
  found_before [] some = absurd (cc)
  found_before (x ∷ xs) some = by (t x) some (found_before xs)
    where
      by : (b : Bool) → IsSome (cond b (Some x) (find t xs)) → (IsSome (find t xs) → position_or_len t xs < length xs) → cond (not b) (1 + position_or_len t xs) 0 < suc (length xs)
      by true some rec = omega arith
      by false some rec = let lt : position_or_len t xs < length xs = rec some in omega arith

  -- all that pass

  pub from_start : (items : List X) → AllFrom t 0 items
  from_start items = record { within = omega arith; behind = refl }

  pub from_on : (place : ℕ) (items : List X) → AllFrom t place items → AllFrom t (place_from t place items) items
  from_on place items a =
      let within : place ≤ length items = a.within in
      let n = position_or_len t (drop place items) in
      let long : length (drop place items) ≡ length items - place = length-drop place items in
      let most : n ≤ length (drop place items) = prefix_len-le-length (λ x. not (t x)) (drop place items) in
      subst (λ k. AllFrom t k items) (sym (place_is place items within)) (record {
        within = omega arith;
        behind = ap (filter t) (sym (drop-drop n place items)) ∙ first_behind (drop place items) ∙ a.behind;
      })

  -- a test that only some of those pass
  pub from_fewer : (u : X → Bool) (place : ℕ) (items : List X) → ((x : X) → t x ≡ false → u x ≡ false) → AllFrom t place items → AllFrom u place items
  from_fewer u place items only a = record {
    within = a.within;
    behind = sym (filter-only t u only (drop place items)) ∙ ap (filter u) a.behind ∙ filter-only t u only items;
  }

  -- where none begins to pass
  pub from_map : (f : X → X) (place : ℕ) (items : List X) → ((x : X) → t x ≡ false → t (f x) ≡ false) → AllFrom t place items → AllFrom t place (map f items)
  from_map f place items stays a = record {
    within = let within = a.within in let long : length (map f items) ≡ length items = length-map items f in omega arith;
    behind =
        ap (filter t) (drop-map f place items) ∙ filter-map-filter t f stays (drop place items) ∙ ap (λ xs. filter t (map f xs)) a.behind
        ∙ sym (filter-map-filter t f stays items);
  }

  pub from_push : (place : ℕ) (items : List X) (x : X) → AllFrom t place items → AllFrom t place (items ++ x ∷ [])
  from_push place items x a =
      let within : place ≤ length items = a.within in
      let long : length (items ++ x ∷ []) ≡ length items + 1 = length-append items (x ∷ []) in
      record {
        within = omega arith;
        behind =
            ap (filter t) (drop-append-le place items (x ∷ []) within) ∙ filter-append t (drop place items) (x ∷ []) ∙ ap (λ xs. xs ++ filter t (x ∷ [])) a.behind
            ∙ sym (filter-append t items (x ∷ []));
      }

  -- what is found there is what is found in all

  pub from_find : (u : X → Bool) (place : ℕ) (items : List X) → ((x : X) → t x ≡ false → u x ≡ false) → AllFrom t place items → find u (drop place items) ≡ find u items
  from_find u place items only a = sym (find-filter t u only (drop place items)) ∙ ap (find u) a.behind ∙ find-filter t u only items

  pub from_any : (u : X → Bool) (place : ℕ) (items : List X) → ((x : X) → t x ≡ false → u x ≡ false) → AllFrom t place items → list_any u (drop place items) ≡ list_any u items
  from_any u place items only a = sym (list_any-filter t u only (drop place items)) ∙ ap (list_any u) a.behind ∙ list_any-filter t u only items

  pub from_filter : (u : X → Bool) (place : ℕ) (items : List X) → ((x : X) → t x ≡ false → u x ≡ false) → AllFrom t place items → filter u (drop place items) ≡ filter u items
  from_filter u place items only a = (from_fewer u place items only a).behind

  -- what changes none but those is a change of those behind the place alone
  pub from_same : (f : X → X) (place : ℕ) (items : List X) → ((x : X) → t x ≡ false → f x ≡ x) → AllFrom t place items → map f (take place items) ≡ take place items
  from_same f place items same a = map_same f (take place items) (all_weaker (λ x. t x ≡ false) _ same (take place items) (none_pass (take place items) none))
    where
      none : filter t (take place items) ≡ []
      none =
          let all : filter t (take place items) ++ filter t (drop place items) ≡ filter t (drop place items) = sym (filter-append t (take place items) (drop place items)) ∙ ap (filter t) (take-append-drop place items) ∙ sym a.behind in
          let long : length (filter t (take place items) ++ filter t (drop place items)) ≡ length (filter t (take place items)) + length (filter t (drop place items)) = length-append (filter t (take place items)) (filter t (drop place items)) in
          nil_from_length (filter t (take place items)) (omega (arith, ap length all))

-- what passes after a change passed another test before it
pub count_fewer : {X : Type 0} (p q : X → Bool) (f : X → X) (P : X → Type 0) → ((x : X) → P x → p (f x) ≡ true → q x ≡ true) → (xs : List X) → AllByRecursion P xs → count_by p (map f xs) ≤ count_by q xs
count_fewer p q f P step [] a = omega arith
count_fewer {X} p q f P step (x ∷ xs) a =
    let before : count_by p (f x ∷ map f xs) ≡ cond (p (f x)) 1 0 + count_by p (map f xs) = one_counted p (f x) (map f xs) in
    let after : count_by q (x ∷ xs) ≡ cond (q x) 1 0 + count_by q xs = one_counted q x xs in
    let most : cond (p (f x)) 1 0 + count_by p (map f xs) ≤ cond (q x) 1 0 + count_by q xs = by (p (f x)) (q x) refl refl (count_fewer p q f P step xs a.1) in
    omega arith
  where
    by : (b c : Bool) → p (f x) ≡ b → q x ≡ c → count_by p (map f xs) ≤ count_by q xs → cond b 1 0 + count_by p (map f xs) ≤ cond c 1 0 + count_by q xs
    by true true e g ih = omega arith
    by true false e g ih = absurd (let h : q x ≡ true = step x a.0 e in cc)
    by false true e g ih = omega arith
    by false false e g ih = omega arith

-- what a change may change stands between these places
pub record IsBetween {X : Type 0} (f : X → X) (from to : ℕ) (items : List X) : Type 0 where
  pub order : from ≤ to
  pub within : to ≤ length items
  pub before : map f (take from items) ≡ take from items
  pub behind : map f (drop to items) ≡ drop to items

-- a change of what passes alone leaves the others as they are
module _ {X : Type 0} (t : X → Bool) (f : X → X) (P : X → Type 0) (same : (x : X) → P x → t x ≡ false → f x ≡ x) where
  none_changed : (xs : List X) → AllByRecursion P xs → AllByRecursion (λ x. t x ≡ false) xs → map f xs ≡ xs
  none_changed xs a b = map_same f xs (all_weaker (λ x. P x × (t x ≡ false)) _ (λ x h. same x h.0 h.1) xs (all_both P _ xs a b))

  -- where one passes, and no more than one

  pub before_alone : (xs : List X) (i : ℕ) (d : X) → AllByRecursion P xs → count_by t xs ≤ 1 → i < length xs → t (get_or xs i d) ≡ true → map f (take i xs) ≡ take i xs
  before_alone [] i d a one lt is = absurd (omega arith)
  before_alone (x ∷ xs) zero d a one lt is = refl
  before_alone (x ∷ xs) (suc i) d a one lt is =
      let within : i < length xs = omega arith in
      let there : 1 ≤ count_by t xs = subst (λ b. cond b 1 0 ≤ count_by t xs) is (get_or-le-sum_by (λ y. cond (t y) 1 0) xs i d within) in
      let all : cond (t x) 1 0 + count_by t xs ≤ 1 = subst (λ n. n ≤ 1) (one_counted t x xs) one in
      let here : t x ≡ false = none (t x) (count_by t xs) all there in
      ap (λ y. y ∷ map f (take i xs)) (same x a.0 here)
      ∙ ap (λ ys. x ∷ ys) (before_alone xs i d a.1 (fewer (t x) (count_by t xs) all) within is)
    where
      none : (b : Bool) (n : ℕ) → cond b 1 0 + n ≤ 1 → 1 ≤ n → b ≡ false
      none true n all there = absurd (omega arith)
      none false n all there = refl

      fewer : (b : Bool) (n : ℕ) → cond b 1 0 + n ≤ 1 → n ≤ 1
      fewer true n all = omega arith
      fewer false n all = omega arith

  pub behind_alone : (xs : List X) (i : ℕ) (d : X) → AllByRecursion P xs → count_by t xs ≤ 1 → i < length xs → t (get_or xs i d) ≡ true → map f (drop (i + 1) xs) ≡ drop (i + 1) xs
  behind_alone [] i d a one lt is = absurd (omega arith)
  behind_alone (x ∷ xs) zero d a one lt is =
      let all : cond (t x) 1 0 + count_by t xs ≤ 1 = subst (λ n. n ≤ 1) (one_counted t x xs) one in
      none_changed xs a.1 (none_counted t xs (none (t x) (count_by t xs) all is))
    where
      none : (b : Bool) (n : ℕ) → cond b 1 0 + n ≤ 1 → b ≡ true → n ≡ 0
      none true n all e = omega arith
      none false n all e = absurd (cc)
  behind_alone (x ∷ xs) (suc i) d a one lt is =
      let next : suc i + 1 ≡ suc (i + 1) = omega arith in
      let all : cond (t x) 1 0 + count_by t xs ≤ 1 = subst (λ n. n ≤ 1) (one_counted t x xs) one in
      subst (λ k. map f (drop k (x ∷ xs)) ≡ drop k (x ∷ xs)) (sym next) (behind_alone xs i d a.1 (fewer (t x) (count_by t xs) all) (omega arith) is)
    where
      fewer : (b : Bool) (n : ℕ) → cond b 1 0 + n ≤ 1 → n ≤ 1
      fewer true n all = omega arith
      fewer false n all = omega arith
