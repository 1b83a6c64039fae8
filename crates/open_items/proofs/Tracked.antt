-- A list of open items, each as a journal says of its number.
use Rattle.std.proofs.Common.{◌≡◌, ◌∙◌, ℕ, ◌+◌, ◌≤◌, List, [], ◌∷◌, ◌++◌, Bool, true, sym, ap}
use Rattle.std.proofs.Common.{subst, arith, map, inl, inr}
use Rattle.std.specs.Prelude.{filter}
use Rattle.std.specs.List.{AllByRecursion}
use Rattle.std.proofs.lemmas.Bool.{cases_lt}
use Rattle.open_items.proofs.Filtered.{all_each, all_weaker, all_both, all_push}
use Rattle.open_items.proofs.Numbered.{Rising, Has, rising_each, rising_push, has_each, has_front}
use Rattle.open_items.proofs.Numbered.{has_last}

-- number: of an item; Matches: an item is as its fate says; to_come: of a fate, that something is
-- still to come
module _ {X F : Type 0} (number : X → ℕ) (Matches : X → F → Type 0) (to_come : F → Bool) where
  -- n numbers were given; fate is what the journal says of each
  pub record Tracks (fate : ℕ → F) (n : ℕ) (list : List X) : Type 0 where
    pub rising : Rising number 0 list
    pub within : AllByRecursion (λ x. number x ≤ n) list
    pub matches : AllByRecursion (λ x. Matches x (fate (number x))) list
    pub complete : (k : ℕ) → 1 ≤ k → k ≤ n → to_come (fate k) ≡ true → Has number k list

  pub none_tracked : (fate : ℕ → F) → Tracks fate 0 []
  none_tracked fate = record { rising = tt; within = tt; matches = tt; complete = λ k pos le is. absurd (omega arith) }

  -- an event that changes each item by itself
  pub each_tracked : (o : X → Bool) (f : X → X) (fate later : ℕ → F) (n : ℕ) (list : List X)
      → ((x : X) → number (f x) ≡ number x)
      → ((x : X) (t : F) → Matches x t → to_come t ≡ true → o x ≡ true)
      → ((x : X) → Matches x (fate (number x)) → Matches (f x) (later (number x)))
      → ((k : ℕ) → to_come (later k) ≡ true → to_come (fate k) ≡ true)
      → Tracks fate n list → Tracks later n (filter o (map f list))
  each_tracked o f fate later n list same opens keeps before k = record {
    rising = rising_each number o f same 0 list k.rising;
    within = all_each o f _ _ (λ x le. subst (λ i. i ≤ n) (sym (same x)) le) list k.within;
    matches = all_each o f _ _ after list k.matches;
    complete = λ i pos le is.
        has_each number o f same _ i (λ x m at. opens (f x) _ (after x m) (ap (λ j. to_come (later j)) (same x ∙ at) ∙ is)) list k.matches
        (k.complete i pos le (before i is));
  }
    where
      after : (x : X) → Matches x (fate (number x)) → Matches (f x) (later (number (f x)))
      after x m = subst (λ i. Matches (f x) (later i)) (sym (same x)) (keeps x m)

  -- an event that adds an item, under the next number
  pub push_tracked : (fate later : ℕ → F) (n : ℕ) (list : List X) (y : X) → number y ≡ n + 1
      → ((k : ℕ) → k ≤ n → later k ≡ fate k)
      → Matches y (later (n + 1))
      → Tracks fate n list → Tracks later (n + 1) (list ++ y ∷ [])
  push_tracked fate later n list y at same new k = record {
    rising = rising_push number 0 n list y (omega arith) k.within at k.rising;
    within = all_push _ list y (all_weaker (λ x. number x ≤ n) _ (λ x le. omega arith) list k.within) (omega arith);
    matches = all_push _ list y
        (all_weaker (λ x. (number x ≤ n) × Matches x (fate (number x))) _ (λ x m. subst (Matches x) (sym (same (number x) m.0)) m.1) list (all_both _ _ list k.within k.matches))
        (subst (λ i. Matches y (later i)) (sym at) new);
    complete = λ i pos le is.
        elim (cases_lt n i) [
          | inl above ↦ has_last number i list y (omega arith)
          | inr under ↦ has_front number i list y (k.complete i pos under (subst (λ t. to_come t ≡ true) (same i under) is))
        ];
  }
