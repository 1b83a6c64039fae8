-- What stands at a place of an array or a table, and how deep it is.
use Rattle.std.proofs.Common.{◌≡◌, ℕ, zero, suc, ◌+◌, ◌≤◌, max, leb, Bool, true, false, List, []}
use Rattle.std.proofs.Common.{◌∷◌, length, drop, Option, Some, None, option_map, slice_get, refl}
use Rattle.std.proofs.Common.{sym, ap, ◌∙◌, arith}
use Rattle.std.proofs.lemmas.Bool.{leb-true, leb-false, le-leb, lt-leb}
use Rattle.tables_091.specs.Tree.{Tree, depth, list_depth, entries_depth}

abbrev there : {A : Type 0} → A → Option A
there x = Some x

pub there_is : {A : Type 0} (x y : A) → there x ≡ there y → x ≡ y
there_is x y e = cc

-- what is found at a place stands there
pub found_at : {A B : Type 0} (f : A → B) (o : Option A) (x : A) (ys : List B) (k : ℕ) → o ≡ Some x → option_map f o ≡ slice_get ys k → slice_get ys k ≡ Some (f x)
found_at {A} f o x ys k is e = sym e ∙ ap (λ (p : Option A). option_map f p) is

-- the rest from a place on begins with what stands there
pub rest_at : {A : Type 0} (xs : List A) (k : ℕ) (x : A) → slice_get xs k ≡ Some x → drop k xs ≡ x ∷ drop (suc k) xs
rest_at [] k x e = absurd (cc e)
rest_at (y ∷ ys) zero x e = let same : y ≡ x = there_is y x e in rw same refl
rest_at (y ∷ ys) (suc k) x e = rest_at ys k x e

-- past the end nothing is found, and before it something
pub none_past : {A B : Type 0} (f : A → B) (o : Option A) (ys : List B) (k : ℕ) → o ≡ None → option_map f o ≡ slice_get ys k → length ys ≤ k
none_past {A} {B} f o ys k is e = at ys k (sym e ∙ ap (λ (p : Option A). option_map f p) is)
  where
    at : (zs : List B) (j : ℕ) → slice_get zs j ≡ None → length zs ≤ j
    at [] j e = omega arith
    at (z ∷ zs) zero e = absurd (cc e)
    at (z ∷ zs) (suc j) e = omega (arith, at zs j e)

pub rest_past : {A : Type 0} (xs : List A) (k : ℕ) → length xs ≤ k → drop k xs ≡ []
rest_past [] zero h = refl
rest_past [] (suc k) h = refl
rest_past (x ∷ xs) zero h = absurd (omega (arith, h))
rest_past (x ∷ xs) (suc k) h = rest_past xs k (omega (arith, h))

-- ---- depth

pub list_holds : (ts : List Tree) (k : ℕ) (t : Tree) → slice_get ts k ≡ Some t → depth t ≤ list_depth ts
list_holds [] k t e = absurd (cc e)
list_holds (u ∷ us) zero t e = omega (arith, ap depth (there_is u t e))
list_holds (u ∷ us) (suc k) t e = omega (arith, list_holds us k t e)

pub table_holds : (ms : List (List ℕ × Tree)) (k : ℕ) (m : List ℕ × Tree) → slice_get ms k ≡ Some m → depth m.1 ≤ entries_depth ms
table_holds [] k m e = absurd (cc e)
table_holds (n ∷ ns) zero m e = omega (arith, ap (λ (p : List ℕ × Tree). depth p.1) (there_is n m e))
table_holds (n ∷ ns) (suc k) m e = omega (arith, table_holds ns k m e)

-- whether the rest from a place on is within a depth is known from what stands there and the rest behind it
max_fits : (a b m : ℕ) → leb a m ≡ true → leb (max a b) m ≡ leb b m
max_fits a b m h = at (leb b m) refl
  where
    at : (t : Bool) → leb b m ≡ t → leb (max a b) m ≡ t
    at true e = le-leb _ _ (omega (arith, leb-true _ _ h, leb-true _ _ e))
    at false e = lt-leb _ _ (omega (arith, leb-true _ _ h, leb-false _ _ e))

max_fails : (a b m : ℕ) → leb a m ≡ false → leb (max a b) m ≡ false
max_fails a b m h = lt-leb _ _ (omega (arith, leb-false _ _ h))

pub list_next : (ts : List Tree) (k : ℕ) (t : Tree) (m : ℕ) (total : Bool) → slice_get ts k ≡ Some t → leb (depth t) m ≡ true → leb (list_depth (drop k ts)) m ≡ total → leb (list_depth (drop (k + 1) ts)) m ≡ total
list_next ts k t m total is fits so_far =
    let one : k + 1 ≡ suc k = omega arith in
    let here : leb (list_depth (drop k ts)) m ≡ leb (list_depth (drop (suc k) ts)) m = ap (λ (xs : List Tree). leb (list_depth xs) m) (rest_at ts k t is) ∙ max_fits (depth t) (list_depth (drop (suc k) ts)) m fits in
    rw one (sym here ∙ so_far)

pub list_ends : (ts : List Tree) (k : ℕ) (t : Tree) (m : ℕ) (total : Bool) → slice_get ts k ≡ Some t → leb (depth t) m ≡ false → leb (list_depth (drop k ts)) m ≡ total → false ≡ total
list_ends ts k t m total is fails so_far =
    let here : leb (list_depth (drop k ts)) m ≡ false = ap (λ (xs : List Tree). leb (list_depth xs) m) (rest_at ts k t is) ∙ max_fails (depth t) (list_depth (drop (suc k) ts)) m fails in
    sym here ∙ so_far

pub list_over : (ts : List Tree) (k m : ℕ) (total : Bool) → length ts ≤ k → leb (list_depth (drop k ts)) m ≡ total → true ≡ total
list_over ts k m total past so_far = sym (ap (λ (xs : List Tree). leb (list_depth xs) m) (rest_past ts k past) ∙ le-leb 0 m (omega arith)) ∙ so_far

abbrev Entry : Type 0
Entry = List ℕ × Tree

pub table_next : (ts : List Entry) (k : ℕ) (t : Entry) (m : ℕ) (total : Bool) → slice_get ts k ≡ Some t → leb (depth t.1) m ≡ true → leb (entries_depth (drop k ts)) m ≡ total → leb (entries_depth (drop (k + 1) ts)) m ≡ total
table_next ts k t m total is fits so_far =
    let one : k + 1 ≡ suc k = omega arith in
    let here : leb (entries_depth (drop k ts)) m ≡ leb (entries_depth (drop (suc k) ts)) m = ap (λ (xs : List Entry). leb (entries_depth xs) m) (rest_at ts k t is) ∙ max_fits (depth t.1) (entries_depth (drop (suc k) ts)) m fits in
    rw one (sym here ∙ so_far)

pub table_ends : (ts : List Entry) (k : ℕ) (t : Entry) (m : ℕ) (total : Bool) → slice_get ts k ≡ Some t → leb (depth t.1) m ≡ false → leb (entries_depth (drop k ts)) m ≡ total → false ≡ total
table_ends ts k t m total is fails so_far =
    let here : leb (entries_depth (drop k ts)) m ≡ false = ap (λ (xs : List Entry). leb (entries_depth xs) m) (rest_at ts k t is) ∙ max_fails (depth t.1) (entries_depth (drop (suc k) ts)) m fails in
    sym here ∙ so_far

pub table_over : (ts : List Entry) (k m : ℕ) (total : Bool) → length ts ≤ k → leb (entries_depth (drop k ts)) m ≡ total → true ≡ total
table_over ts k m total past so_far = sym (ap (λ (xs : List Entry). leb (entries_depth xs) m) (rest_past ts k past) ∙ le-leb 0 m (omega arith)) ∙ so_far
