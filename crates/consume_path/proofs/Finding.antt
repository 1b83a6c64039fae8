-- A link is found by its number, after each change of the links.
use Rattle.std.proofs.Common.{◌≡◌, ◌∙◌, ℕ, List, [], ◌∷◌, ◌++◌, Bool, true, false, refl, sym, ap}
use Rattle.std.proofs.Common.{arith, Some, None, cond, map}
use Rattle.std.specs.Prelude.{not, ◌==◌, filter}
use Rattle.std.specs.Option.{option_map, option_or}
use Rattle.std.specs.List.{AllByRecursion}
use Rattle.std.proofs.lemmas.Bool.Decides.{nat_tests}
use Rattle.open_items.proofs.Filtered.{all_both, all_weaker, all_push}
use Rattle.consume_path.specs.declared.receiving.ReceivingLink.{ReceivingLink}
use Rattle.consume_path.specs.Links.{has_number, link_of, without, change_first}

-- a change that leaves the number
pub find_map : (f : ReceivingLink → ReceivingLink) → ((l : ReceivingLink) → (f l).link ≡ l.link) → (links : List ReceivingLink) (k : ℕ) → link_of (map f links) k ≡ option_map f (link_of links k)
find_map f same [] k = refl
find_map f same (l ∷ ls) k = ap (λ i. cond (i == k) (Some (f l)) (link_of (map f ls) k)) (same l) ∙ by (l.link == k) (find_map f same ls k)
  where
    by : (b : Bool) → link_of (map f ls) k ≡ option_map f (link_of ls k) → cond b (Some (f l)) (link_of (map f ls) k) ≡ option_map f (cond b (Some l) (link_of ls k))
    by true ih = refl
    by false ih = ih

pub find_push : (links : List ReceivingLink) (l : ReceivingLink) (k : ℕ) → link_of (links ++ l ∷ []) k ≡ option_or (link_of links k) (cond (l.link == k) (Some l) None)
find_push [] l k = refl
find_push (x ∷ xs) l k = by (x.link == k) (find_push xs l k)
  where
    by : (b : Bool) → link_of (xs ++ l ∷ []) k ≡ option_or (link_of xs k) (cond (l.link == k) (Some l) None) → cond b (Some x) (link_of (xs ++ l ∷ []) k) ≡ option_or (cond b (Some x) (link_of xs k)) (cond (l.link == k) (Some l) None)
    by true ih = refl
    by false ih = ih

equal : (i j : ℕ) → (i == j) ≡ true → i ≡ j
equal i j e = grind (arith, nat_tests)

pub find_without : (j k : ℕ) (links : List ReceivingLink) → link_of (without j links) k ≡ cond (k == j) None (link_of links k)
find_without j k [] = by (k == j)
  where
    by : (b : Bool) → link_of [] k ≡ cond b None (link_of [] k)
    by true = refl
    by false = refl
find_without j k (l ∷ ls) = by (l.link == j) (l.link == k) (k == j) refl refl refl (find_without j k ls)
  where
    twice : l.link ≡ j → l.link ≡ k → (k == j) ≡ true
    twice e f = grind (arith, nat_tests)

    apart : l.link ≡ k → (l.link == j) ≡ false → (k == j) ≡ false
    apart e f = grind (arith, nat_tests)

    by : (a b c : Bool) → (l.link == j) ≡ a → (l.link == k) ≡ b → (k == j) ≡ c → link_of (without j ls) k ≡ cond c None (link_of ls k)
        → link_of (cond (not a) (l ∷ without j ls) (without j ls)) k ≡ cond c None (cond b (Some l) (link_of ls k))
    by true true true e f g ih = ih
    by true true false e f g ih = absurd (let yes : (k == j) ≡ true = twice (equal l.link j e) (equal l.link k f) in cc)
    by true false c e f g ih = ih
    by false true true e f g ih = absurd (let no : (k == j) ≡ false = apart (equal l.link k f) e in cc)
    by false true false e f g ih = ap (λ b. cond b (Some l) (link_of (without j ls) k)) f
    by false false c e f g ih = ap (λ b. cond b (Some l) (link_of (without j ls) k)) f ∙ ih

-- the link with number j is changed
pub find_change : (f : ReceivingLink → ReceivingLink) → ((l : ReceivingLink) → (f l).link ≡ l.link) → (j k : ℕ) (links : List ReceivingLink) → link_of (change_first (has_number j) f links) k ≡ cond (k == j) (option_map f (link_of links k)) (link_of links k)
find_change f same j k [] = by (k == j)
  where
    by : (b : Bool) → link_of [] k ≡ cond b (option_map f (link_of [] k)) (link_of [] k)
    by true = refl
    by false = refl
find_change f same j k (l ∷ ls) = by (l.link == j) (l.link == k) (k == j) refl refl refl (find_change f same j k ls)
  where
    twice : l.link ≡ j → l.link ≡ k → (k == j) ≡ true
    twice e f = grind (arith, nat_tests)

    other : l.link ≡ j → (l.link == k) ≡ false → (k == j) ≡ false
    other e f = grind (arith, nat_tests)

    apart : l.link ≡ k → (l.link == j) ≡ false → (k == j) ≡ false
    apart e f = grind (arith, nat_tests)

    number : (b : Bool) → (l.link == k) ≡ b → ((f l).link == k) ≡ b
    number b e = ap (λ i. i == k) (same l) ∙ e

    by : (a b c : Bool) → (l.link == j) ≡ a → (l.link == k) ≡ b → (k == j) ≡ c → link_of (change_first (has_number j) f ls) k ≡ cond c (option_map f (link_of ls k)) (link_of ls k)
        → link_of (cond a (f l ∷ ls) (l ∷ change_first (has_number j) f ls)) k ≡ cond c (option_map f (cond b (Some l) (link_of ls k))) (cond b (Some l) (link_of ls k))
    by true true true e g i ih = ap (λ b. cond b (Some (f l)) (link_of ls k)) (number true g)
    by true true false e g i ih = absurd (let yes : (k == j) ≡ true = twice (equal l.link j e) (equal l.link k g) in cc)
    by true false true e g i ih = absurd (let no : (k == j) ≡ false = other (equal l.link j e) g in cc)
    by true false false e g i ih = ap (λ b. cond b (Some (f l)) (link_of ls k)) (number false g)
    by false true true e g i ih = absurd (let no : (k == j) ≡ false = apart (equal l.link k g) e in cc)
    by false true false e g i ih = ap (λ b. cond b (Some l) (link_of (change_first (has_number j) f ls) k)) g
    by false false c e g i ih = ap (λ b. cond b (Some l) (link_of (change_first (has_number j) f ls) k)) g ∙ ih

pub found_number : (links : List ReceivingLink) (k : ℕ) (l : ReceivingLink) → link_of links k ≡ Some l → l.link ≡ k
found_number [] k l e = absurd (cc)
found_number (x ∷ xs) k l e = by (x.link == k) refl e (found_number xs k l)
  where
    by : (b : Bool) → (x.link == k) ≡ b → cond b (Some x) (link_of xs k) ≡ Some l → (link_of xs k ≡ Some l → l.link ≡ k) → l.link ≡ k
    by true is e ih = let same : x ≡ l = cc in ap (λ (y : ReceivingLink). y.link) (sym same) ∙ equal x.link k is
    by false is e ih = ih e

-- no two have one number

abbrev pub Apart : ReceivingLink → ReceivingLink → Type 0
Apart l m = m.link ≡ l.link → ⊥

abbrev pub Distinct : List ReceivingLink → Type 0
Distinct [] = Unit {0}
Distinct (l ∷ ls) = AllByRecursion (Apart l) ls × Distinct ls

pub distinct_map : (f : ReceivingLink → ReceivingLink) → ((l : ReceivingLink) → (f l).link ≡ l.link) → (links : List ReceivingLink) → Distinct links → Distinct (map f links)
distinct_map f same [] d = tt
distinct_map f same (l ∷ ls) d = (apart ls d.0, distinct_map f same ls d.1)
  where
    apart : (ms : List ReceivingLink) → AllByRecursion (Apart l) ms → AllByRecursion (Apart (f l)) (map f ms)
    apart [] a = tt
    apart (m ∷ ms) a = ((λ e. a.0 (sym (same m) ∙ e ∙ same l)), apart ms a.1)

pub distinct_filter : (t : ReceivingLink → Bool) (links : List ReceivingLink) → Distinct links → Distinct (filter t links)
distinct_filter t [] d = tt
distinct_filter t (l ∷ ls) d = by (t l) (apart ls d.0) (distinct_filter t ls d.1)
  where
    apart : (ms : List ReceivingLink) → AllByRecursion (Apart l) ms → AllByRecursion (Apart l) (filter t ms)
    apart [] a = tt
    apart (m ∷ ms) a = pick (t m) (apart ms a.1)
      where
        pick : (b : Bool) → AllByRecursion (Apart l) (filter t ms) → AllByRecursion (Apart l) (cond b (m ∷ filter t ms) (filter t ms))
        pick true ih = (a.0, ih)
        pick false ih = ih

    by : (b : Bool) → AllByRecursion (Apart l) (filter t ls) → Distinct (filter t ls) → Distinct (cond b (l ∷ filter t ls) (filter t ls))
    by true a ih = (a, ih)
    by false a ih = ih

pub distinct_change : (j : ℕ) (f : ReceivingLink → ReceivingLink) → ((l : ReceivingLink) → (f l).link ≡ l.link) → (links : List ReceivingLink) → Distinct links → Distinct (change_first (has_number j) f links)
distinct_change j f same [] d = tt
distinct_change j f same (l ∷ ls) d = by (l.link == j) (apart ls d.0) (distinct_change j f same ls d.1)
  where
    apart : (ms : List ReceivingLink) → AllByRecursion (Apart l) ms → AllByRecursion (Apart l) (change_first (has_number j) f ms)
    apart [] a = tt
    apart (m ∷ ms) a = pick (m.link == j) (apart ms a.1)
      where
        pick : (b : Bool) → AllByRecursion (Apart l) (change_first (has_number j) f ms) → AllByRecursion (Apart l) (cond b (f m ∷ ms) (m ∷ change_first (has_number j) f ms))
        pick true ih = ((λ e. a.0 (sym (same m) ∙ e)), a.1)
        pick false ih = (a.0, ih)

    by : (b : Bool) → AllByRecursion (Apart l) (change_first (has_number j) f ls) → Distinct (change_first (has_number j) f ls) → Distinct (cond b (f l ∷ ls) (l ∷ change_first (has_number j) f ls))
    by true a ih = (all_weaker (Apart l) (Apart (f l)) (λ m differ e. differ (e ∙ same l)) ls d.0, d.1)
    by false a ih = (a, ih)

pub distinct_push : (links : List ReceivingLink) (l : ReceivingLink) → link_of links l.link ≡ None → Distinct links → Distinct (links ++ l ∷ [])
distinct_push [] l none d = (tt, tt)
distinct_push (x ∷ xs) l none d = by (x.link == l.link) refl none (λ e. distinct_push xs l e d.1)
  where
    differ : (x.link == l.link) ≡ false → Apart x l
    differ e f = let yes : (x.link == l.link) ≡ true = grind (arith, nat_tests) in cc

    by : (b : Bool) → (x.link == l.link) ≡ b → cond b (Some x) (link_of xs l.link) ≡ None → (link_of xs l.link ≡ None → Distinct (xs ++ l ∷ [])) → AllByRecursion (Apart x) (xs ++ l ∷ []) × Distinct (xs ++ l ∷ [])
    by true is e rec = absurd (cc)
    by false is e rec = (all_push (Apart x) xs l d.0 (differ is), rec e)

-- so each is found by its number
pub each_found : (links : List ReceivingLink) → Distinct links → AllByRecursion (λ l. link_of links l.link ≡ Some l) links
each_found [] d = tt
each_found (l ∷ ls) d =
    (ap (λ b. cond b (Some l) (link_of ls l.link)) (self l.link), all_weaker (λ m. Apart l m × (link_of ls m.link ≡ Some m)) _ later ls (all_both (Apart l) _ ls d.0 (each_found ls d.1)))
  where
    self : (i : ℕ) → (i == i) ≡ true
    self i = grind (arith, nat_tests)

    other : (i j : ℕ) → (j ≡ i → ⊥) → (i == j) ≡ false
    other i j differ = grind (arith, nat_tests)

    later : (m : ReceivingLink) → Apart l m × (link_of ls m.link ≡ Some m) → cond (l.link == m.link) (Some l) (link_of ls m.link) ≡ Some m
    later m a = ap (λ b. cond b (Some l) (link_of ls m.link)) (other l.link m.link a.0) ∙ a.1
