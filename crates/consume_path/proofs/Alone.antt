-- What is found at a place that was kept, and the one delivery that passes a test.
use Rattle.std.proofs.Common.{◌≡◌, ◌∙◌, ℕ, zero, suc, ◌+◌, ◌≤◌, ◌%◌, ◌^◌, List, [], ◌∷◌, Bool, true, false}
use Rattle.std.proofs.Common.{refl, ap, subst, arith, cond, Option, Some, None}
use Rattle.std.specs.Prelude.{find, count_by, is_some, ◌==◌, ◌&&◌, ◌||◌}
use Rattle.std.specs.List.{AllByRecursion, list_any, slice_get}
use Rattle.std.specs.Option.{option_map}
use Rattle.std.proofs.lemmas.Bool.Decides.{nat_tests}
use Rattle.std.proofs.lemmas.List.Sums.{sum_by-cons, get_or-le-sum_by}
use Rattle.std.proofs.lemmas.Option.{get_or_from_slice_get, slice_get_within}
use Rattle.links_10.specs.Send.{advanced}
use Rattle.open_items.proofs.Places.{none_counted}
use Rattle.consume_path.specs.declared.delivery.Delivery.{Delivery}
use Rattle.consume_path.specs.declared.delivery.NextSettle.{NextSettle}
use Rattle.consume_path.specs.declared.delivery.Place.{Place}
use Rattle.consume_path.specs.declared.delivery.Place.TheVariants.{Held, Out, Owed, Settled}
use Rattle.consume_path.specs.declared.delivery.Settle.{Settle}
use Rattle.consume_path.specs.Items.{owes, owes_as, owed_settle}
use Rattle.consume_path.specs.Offers.{owes_id, owes_of, run_to, settle_in, settle_from, next_settle_of}
use Rattle.consume_path.specs.Kept.{is_there, is_owing, settle_alone, alone_of, only_settle}

-- what stands at a place is in the list
pub found_any : (t : Delivery → Bool) (ds : List Delivery) (i : ℕ) → is_there t (slice_get ds i) ≡ true → list_any t ds ≡ true
found_any t [] i e = absurd (cc)
found_any t (d ∷ ds) zero e = ap (λ b. b || list_any t ds) e
found_any t (d ∷ ds) (suc i) e = ap (λ b. t d || b) (found_any t ds i e) ∙ either (t d)
  where
    either : (b : Bool) → (b || true) ≡ true
    either true = refl
    either false = refl

module _ {X : Type 0} (t : X → Bool) where
  -- one that stands behind another is the only one
  none_before : (x : X) (xs : List X) (i : ℕ) (d : X) → count_by t (x ∷ xs) ≤ 1 → slice_get xs i ≡ Some d → t d ≡ true → (t x ≡ false) × (count_by t xs ≤ 1)
  none_before x xs i d one at is =
      let all : cond (t x) 1 0 + count_by t xs ≤ 1 = subst (λ n. n ≤ 1) (sum_by-cons (λ y. cond (t y) 1 0) x xs) one in
      let there : 1 ≤ count_by t xs = subst (λ b. cond b 1 0 ≤ count_by t xs) (ap t (get_or_from_slice_get xs i d d at) ∙ is) (get_or-le-sum_by (λ y. cond (t y) 1 0) xs i d (slice_get_within xs i d at)) in
      by (t x) (count_by t xs) all there
    where
      by : (b : Bool) (n : ℕ) → cond b 1 0 + n ≤ 1 → 1 ≤ n → (b ≡ false) × (n ≤ 1)
      by true n all there = absurd (omega arith)
      by false n all there = (refl, omega arith)

  none_behind : (x : X) (xs : List X) → count_by t (x ∷ xs) ≤ 1 → t x ≡ true → count_by t xs ≡ 0
  none_behind x xs one is =
      let all : cond (t x) 1 0 + count_by t xs ≤ 1 = subst (λ n. n ≤ 1) (sum_by-cons (λ y. cond (t y) 1 0) x xs) one in
      by (t x) (count_by t xs) all is
    where
      by : (b : Bool) (n : ℕ) → cond b 1 0 + n ≤ 1 → b ≡ true → n ≡ 0
      by true n all e = omega arith
      by false n all e = absurd (cc)

  -- it is found
  pub found_alone : (xs : List X) (i : ℕ) (d : X) → count_by t xs ≤ 1 → slice_get xs i ≡ Some d → t d ≡ true → find t xs ≡ Some d
  found_alone [] i d one at is = absurd (cc)
  found_alone (x ∷ xs) zero d one at is = let same : x ≡ d = cc in ap (λ b. cond b (Some x) (find t xs)) (ap t same ∙ is) ∙ at
  found_alone (x ∷ xs) (suc i) d one at is =
      let rest = none_before x xs i d one at is in
      ap (λ b. cond b (Some x) (find t xs)) rest.0 ∙ found_alone xs i d rest.1 at is

  -- what it doesn't pass, none passes
  pub none_other : (q : X → Bool) → ((x : X) → t x ≡ false → q x ≡ false) → (xs : List X) (i : ℕ) (d : X) → count_by t xs ≤ 1 → slice_get xs i ≡ Some d → t d ≡ true → q d ≡ false → list_any q xs ≡ false
  none_other q only [] i d one at is fails = refl
  none_other q only (x ∷ xs) zero d one at is fails =
      let same : x ≡ d = cc in
      ap (λ b. b || list_any q xs) (ap q same ∙ fails) ∙ none xs (none_counted t xs (none_behind x xs one (ap t same ∙ is)))
    where
      none : (ys : List X) → AllByRecursion (λ y. t y ≡ false) ys → list_any q ys ≡ false
      none [] a = refl
      none (y ∷ ys) a = ap (λ b. b || list_any q ys) (only y a.0) ∙ none ys a.1
  none_other q only (x ∷ xs) (suc i) d one at is fails =
      let rest = none_before x xs i d one at is in
      ap (λ b. b || list_any q xs) (only x rest.0) ∙ none_other q only xs i d rest.1 at is fails

-- the disposition of the one that is owed one

not_next : (n : ℕ) → (n == (n + 1) % 2 ^ 32) ≡ false
not_next n = by (n == (n + 1) % 2 ^ 32) refl
  where
    equal : (i j : ℕ) → (i == j) ≡ true → i ≡ j
    equal i j e = grind (arith, nat_tests)

    by : (b : Bool) → (n == (n + 1) % 2 ^ 32) ≡ b → b ≡ false
    by true e = absurd (let same : n ≡ (n + 1) % 2 ^ 32 = equal n ((n + 1) % 2 ^ 32) e in omega arith)
    by false e = refl

not_owed : (s : Settle) (id : ℕ) (d : Delivery) → is_owing d ≡ false → owes_id s id d ≡ false
not_owed s id d e = by d.place e
  where
    by : (place : Place) → owes place ≡ false → (owes_as s place && (d.id == id)) ≡ false
    by Held e = refl
    by Out e = refl
    by (Owed t) e = absurd (cc)
    by Settled e = refl

run_ends : (n : ℕ) (s : Settle) (items : List Delivery) (id : ℕ) → list_any (owes_id s (advanced id 1)) items ≡ false → run_to n s items id ≡ id
run_ends zero s items id e = refl
run_ends (suc n) s items id e = ap (λ b. cond b (run_to n s items (advanced id 1)) id) e

pub only_seen : (items : List Delivery) (owed place : ℕ) (next : NextSettle) → owed ≡ count_by is_owing items → only_settle owed (slice_get items place) ≡ Some next → next_settle_of items ≡ Some next
only_seen items owed place next counted found = at (slice_get items place) refl found
  where
    one : (m : ℕ) → (m == 1) ≡ true → m ≤ 1
    one m e = grind (arith, nat_tests)

    no : (b : Bool) → (b && false) ≡ false
    no true = refl
    no false = refl

    owes_one : (d : Delivery) → slice_get items place ≡ Some d → count_by is_owing items ≤ 1 → (o : Option Settle) → owed_settle d.place ≡ o → option_map (settle_alone d.id) o ≡ Some next → next_settle_of items ≡ Some next
    owes_one d g alone None is e = absurd (cc)
    owes_one d g alone (Some s) is e =
        let owing : is_owing d ≡ true = ap is_some is in
        let end : list_any (owes_id s (advanced d.id 1)) items ≡ false = none_other is_owing (owes_id s (advanced d.id 1)) (not_owed s (advanced d.id 1)) items place d alone g owing (ap (λ b. owes_as s d.place && b) (not_next d.id) ∙ no (owes_as s d.place)) in
        ap (settle_from items) (found_alone is_owing items place d alone g owing) ∙ ap (λ o. settle_in items o d.id) is
        ∙ ap (λ last. Some (record { first = d.id; last = last; settle = s })) (run_ends (count_by (owes_of s) items) s items d.id end) ∙ e

    counts_one : (d : Delivery) → slice_get items place ≡ Some d → (b : Bool) → (owed == 1) ≡ b → cond b (alone_of d) None ≡ Some next → next_settle_of items ≡ Some next
    counts_one d g true is e = owes_one d g (subst (λ m. m ≤ 1) counted (one owed is)) (owed_settle d.place) refl e
    counts_one d g false is e = absurd (cc)

    at : (o : Option Delivery) → slice_get items place ≡ o → only_settle owed o ≡ Some next → next_settle_of items ≡ Some next
    at None g e = absurd (cc)
    at (Some d) g e = counts_one d g (owed == 1) refl e
