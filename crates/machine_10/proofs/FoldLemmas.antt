-- The windows and ids of a session are the folds of the standard.
use Rattle.std.proofs.Common.{◌≡◌, ℕ, ◌+◌, ◌-◌, ◌%◌, ◌^◌, ◌≤◌, ◌<◌, List, [], ◌∷◌, ◌∙◌, ap, subst}
use Rattle.std.proofs.Common.{arith}
use Rattle.machine_10.specs.Session.{left_of, or_first, next_id}
use Rattle.machine_10.specs.SessionFolds.{Event10, Began, Flowed, Sent, Got, FlowSent, after_events}
use Rattle.machine_10.specs.SessionFolds.{sent, incoming, stated_last, AreEvents, IsFold}

next_of : (n : ℕ) → (n % 2 ^ 32 + 1) % 2 ^ 32 ≡ (n + 1) % 2 ^ 32
next_of n = omega arith

-- a frame takes one of what is left
takes_one : (id window n : ℕ) → id < 2 ^ 32 → window < 2 ^ 32 → 1 ≤ left_of id window (n % 2 ^ 32)
    → left_of id window (n % 2 ^ 32) - 1 ≡ left_of id window ((n + 1) % 2 ^ 32)
takes_one id window n i w left = omega (arith, i, w, left)

-- what the container stated has 32 bits
stated_range : (h : List Event10) → AreEvents h → ((stated_last h).0 < 2 ^ 32) × ((stated_last h).1 < 2 ^ 32)
stated_range [] e = (omega arith, omega arith)
stated_range (Began next window handle_max ∷ h) e = (omega arith, e.0.1)
stated_range (Flowed id window ∷ h) e = e.0
stated_range (Sent ∷ h) e = stated_range h e.1
stated_range (Got ∷ h) e = stated_range h e.1
stated_range (FlowSent ∷ h) e = stated_range h e.1

pub folds : (h : List Event10) → AreEvents h → IsFold h (after_events h)
folds [] e = record { next_outgoing = omega arith; next_incoming = omega arith; window = omega arith; stated = omega arith }
folds (Began next window handle_max ∷ h) e = let f : IsFold h (after_events h) = folds h e.1 in let r : next < 2 ^ 32 = e.0.0 in record {
  next_outgoing = f.next_outgoing;
  next_incoming = omega (arith, r);
  window = ap (λ (n : ℕ). left_of 0 window n) f.next_outgoing;
  stated = f.stated;
}
folds (Flowed id window ∷ h) e = let f : IsFold h (after_events h) = folds h e.1 in record {
  next_outgoing = f.next_outgoing;
  next_incoming = f.next_incoming;
  window = ap (λ (n : ℕ). left_of (or_first id) window n) f.next_outgoing;
  stated = f.stated;
}
folds (Sent ∷ h) e =
    let f : IsFold h (after_events h) = folds h e.1 in
    let range : ((stated_last h).0 < 2 ^ 32) × ((stated_last h).1 < 2 ^ 32) = stated_range h e.1 in
    let room : 1 ≤ left_of (stated_last h).0 (stated_last h).1 (sent h % 2 ^ 32) = subst (λ (n : ℕ). 1 ≤ n) f.window e.0 in
    record {
      next_outgoing = ap next_id f.next_outgoing ∙ next_of (sent h);
      next_incoming = f.next_incoming;
      window = ap (λ (n : ℕ). n - 1) f.window ∙ takes_one (stated_last h).0 (stated_last h).1 (sent h) range.0 range.1 room;
      stated = f.stated;
    }
folds (Got ∷ h) e = let f : IsFold h (after_events h) = folds h e.1 in record {
  next_outgoing = f.next_outgoing;
  next_incoming = ap next_id f.next_incoming ∙ next_of (incoming h);
  window = f.window;
  stated = ap (λ (n : ℕ). n - 1) f.stated ∙ omega arith;
}
folds (FlowSent ∷ h) e = let f : IsFold h (after_events h) = folds h e.1 in record {
  next_outgoing = f.next_outgoing;
  next_incoming = f.next_incoming;
  window = f.window;
  stated = omega arith;
}
