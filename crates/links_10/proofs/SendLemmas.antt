-- The count and the credit of a sending link are the folds of the standard.
use Rattle.std.proofs.Common.{◌≡◌, ℕ, ◌-◌, ◌^◌, ◌≤◌, ◌<◌, List, [], ◌∷◌, ◌∙◌, ap, subst, arith}
use Rattle.links_10.specs.Send.{advanced, left_of, or_initial}
use Rattle.links_10.specs.SendFolds.{SendEvent, Flowed, Begun, Drained, after_events, stated_last}
use Rattle.links_10.specs.SendFolds.{left_at, count_of, AreEvents, IsFold}

-- a transfer takes one of what is left
takes_one : (stated credit n : ℕ) → stated < 2 ^ 32 → credit < 2 ^ 32 → n < 2 ^ 32
    → 1 ≤ left_of stated credit n → left_of stated credit n - 1 ≡ left_of stated credit (advanced n 1)
takes_one stated credit n i w r left = omega (arith, i, w, r, left)

-- nothing is left past all of it
takes_all : (stated credit n : ℕ) → stated < 2 ^ 32 → credit < 2 ^ 32 → n < 2 ^ 32
    → 0 ≡ left_of stated credit (advanced n (left_of stated credit n))
takes_all stated credit n i w r = omega (arith, i, w, r)

-- what the container stated has 32 bits, and so has the count
stated_range : (h : List SendEvent) → AreEvents h → ((stated_last h).0 < 2 ^ 32) × ((stated_last h).1 < 2 ^ 32)
stated_range [] e = (omega arith, omega arith)
stated_range (Flowed count credit ∷ h) e = e.0
stated_range (Begun ∷ h) e = stated_range h e.1
stated_range (Drained ∷ h) e = stated_range h e.1

count_range : (h : List SendEvent) → count_of h < 2 ^ 32
count_range [] = omega arith
count_range (Flowed count credit ∷ h) = count_range h
count_range (Begun ∷ h) = omega arith
count_range (Drained ∷ h) = omega arith

pub folds : (h : List SendEvent) → AreEvents h → IsFold h (after_events h)
folds [] e = record { count = omega arith; credit = omega arith }
folds (Flowed count credit ∷ h) e = let f : IsFold h (after_events h) = folds h e.1 in record {
  count = f.count;
  credit = ap (left_of (or_initial count) credit) f.count;
}
folds (Begun ∷ h) e =
    let f : IsFold h (after_events h) = folds h e.1 in
    let range : ((stated_last h).0 < 2 ^ 32) × ((stated_last h).1 < 2 ^ 32) = stated_range h e.1 in
    let room : 1 ≤ left_at (count_of h) h = subst (λ (n : ℕ). 1 ≤ n) f.credit e.0 in
    record {
      count = ap (λ (n : ℕ). advanced n 1) f.count;
      credit = ap (λ (n : ℕ). n - 1) f.credit ∙ takes_one (stated_last h).0 (stated_last h).1 (count_of h) range.0 range.1 (count_range h) room;
    }
folds (Drained ∷ h) e =
    let f : IsFold h (after_events h) = folds h e.1 in
    let range : ((stated_last h).0 < 2 ^ 32) × ((stated_last h).1 < 2 ^ 32) = stated_range h e.1 in
    record {
      count = ap (λ (n : ℕ). advanced n (after_events h).credit) f.count ∙ ap (advanced (count_of h)) f.credit;
      credit = takes_all (stated_last h).0 (stated_last h).1 (count_of h) range.0 range.1 (count_range h);
    }
