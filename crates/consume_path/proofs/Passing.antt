-- The places that a change visits, and what passes a test there.
use Rattle.std.proofs.Common.{◌≡◌, ◌∙◌, ℕ, ◌+◌, ◌≤◌, ◌<◌, List, [], ◌∷◌, Bool, true, false, refl}
use Rattle.std.proofs.Common.{sym, ap, subst, arith, cond, map, drop, length, get_or}
use Rattle.std.specs.Prelude.{count_by, nat_lt, ◌&&◌, ◌==◌, Option, None, Some}
use Rattle.std.specs.List.{AllByRecursion, slice_get}
use Rattle.std.proofs.Math.Seq.{drop-length}
use Rattle.std.proofs.lemmas.Bool.Decides.{nat_tests}
use Rattle.std.proofs.lemmas.Option.{get_or_from_slice_get}
use Rattle.open_items.specs.Places.{AllFrom}
use Rattle.open_items.proofs.Numbered.{Rising}
use Rattle.open_items.proofs.Places.{one_counted, IsBetween, before_alone, behind_alone}
use Rattle.consume_path.specs.declared.delivery.Delivery.{Delivery}
use Rattle.consume_path.specs.declared.places.Visit.{Visit}
use Rattle.consume_path.specs.Kept.{number_of, is_numbered, is_there, visit_at}
use Rattle.consume_path.specs.Offers.{soonest}
use Rattle.consume_path.proofs.Least.{soonest_filter}

-- the places that a change visits
pub visit_between : (t : Delivery → Bool) (f : Delivery → Delivery) (P : Delivery → Type 0) → ((d : Delivery) → P d → t d ≡ false → f d ≡ d) → (items : List Delivery) → AllByRecursion P items
    → (here : Bool) (place end : ℕ) → end ≡ length items → (here ≡ true → (count_by t items ≤ 1) × (is_there t (slice_get items place) ≡ true)) → IsBetween f (visit_at here place end).from (visit_at here place end).to items
visit_between t f P same items a here place end long alone = by (here && nat_lt place end) refl
  where
    both : (b c : Bool) → (b && c) ≡ true → (b ≡ true) × (c ≡ true)
    both true true e = (refl, refl)
    both true false e = absurd (cc)
    both false c e = absurd (cc)

    less : (m n : ℕ) → nat_lt m n ≡ true → m < n
    less m n e = grind (arith, nat_tests)

    by : (b : Bool) → (here && nat_lt place end) ≡ b → IsBetween f (cond {A = Visit} b (record { from = place; to = place + 1 }) (record { from = 0; to = end })).from (cond {A = Visit} b (record { from = place; to = place + 1 }) (record { from = 0; to = end })).to items
    by false e = record { order = omega arith; within = omega arith; before = refl; behind = let none : drop end items ≡ [] = ap (λ k. drop k items) long ∙ drop-length items in ap (map f) none ∙ sym none }
    by true e =
        let lt : place < length items = subst (λ n. place < n) long (less place end (both here (nat_lt place end) e).1) in
        let found = alone (both here (nat_lt place end) e).0 in
        there (slice_get items place) refl found.1 lt found.0
      where
        there : (o : Option Delivery) → slice_get items place ≡ o → is_there t o ≡ true → place < length items → count_by t items ≤ 1 → IsBetween f place (place + 1) items
        there None g is lt one = absurd (cc)
        there (Some d) g is lt one =
            let at : t (get_or items place d) ≡ true = ap t (get_or_from_slice_get items place d d g) ∙ is in
            record { order = omega arith; within = omega arith; before = before_alone t f P same items place d a one lt at; behind = behind_alone t f P same items place d a one lt at }

-- no two have the same number
none_numbered : (number low : ℕ) (ds : List Delivery) → number ≤ low → Rising number_of low ds → count_by (is_numbered number) ds ≡ 0
none_numbered number low [] le r = refl
none_numbered number low (d ∷ ds) le r =
    let up : low < d.number = r.0 in
    let here : is_numbered number d ≡ false = other d.number number (omega arith) in
    one_counted (is_numbered number) d ds ∙ ap (λ b. cond b 1 0 + count_by (is_numbered number) ds) here ∙ none (count_by (is_numbered number) ds) (none_numbered number d.number ds (omega arith) r.1)
  where
    none : (n : ℕ) → n ≡ 0 → 0 + n ≡ 0
    none n e = omega arith

    other : (m n : ℕ) → n < m → (m == n) ≡ false
    other m n lt = grind (arith, nat_tests)

pub numbered_once : (number low : ℕ) (ds : List Delivery) → Rising number_of low ds → count_by (is_numbered number) ds ≤ 1
numbered_once number low [] r = omega arith
numbered_once number low (d ∷ ds) r = subst (λ n. n ≤ 1) (sym (one_counted (is_numbered number) d ds)) (by (is_numbered number d) refl (numbered_once number d.number ds r.1))
  where
    equal : (m n : ℕ) → (m == n) ≡ true → m ≡ n
    equal m n e = grind (arith, nat_tests)

    by : (b : Bool) → is_numbered number d ≡ b → count_by (is_numbered number) ds ≤ 1 → cond b 1 0 + count_by (is_numbered number) ds ≤ 1
    by true e ih = let same : d.number ≡ number = equal d.number number e in let none : count_by (is_numbered number) ds ≡ 0 = none_numbered number d.number ds (omega arith) r.1 in omega arith
    by false e ih = omega arith

-- what is found there is what is found in all
pub from_soonest : {R : Type 0} (key : R → ℕ) (t : Delivery → Bool) (offer : Delivery → Option R) (place : ℕ) (items : List Delivery) → ((d : Delivery) → t d ≡ false → offer d ≡ None) → AllFrom t place items → soonest key offer (drop place items) ≡ soonest key offer items
from_soonest key t offer place items only a =
    sym (soonest_filter key t offer offer (λ d. refl) only (drop place items)) ∙ ap (soonest key offer) a.behind ∙ soonest_filter key t offer offer (λ d. refl) only items
