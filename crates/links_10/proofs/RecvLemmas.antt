-- The count, the credit and the limit of a receiving link are the folds of the standard.
use Rattle.std.proofs.Common.{◌≡◌, ◌∙◌, ℕ, ◌+◌, ◌-◌, ◌%◌, ◌^◌, ◌<◌, List, [], ◌∷◌, Bool, true}
use Rattle.std.proofs.Common.{false, refl, sym, ap, subst, arith, cond}
use Rattle.std.specs.Prelude.{nat_lt}
use Rattle.std.proofs.lemmas.Bool.Decides.{nat_tests}
use Rattle.links_10.specs.declared.recv.Receiving.{Receiving}
use Rattle.links_10.specs.Send.{advanced, past}
use Rattle.links_10.specs.Recv.{left_by, gave_up, greater}
use Rattle.links_10.specs.RecvFolds.{RecvEvent, Attached, PeerFlowed, Granted, Arrived, Counted}
use Rattle.links_10.specs.RecvFolds.{Cancelled, after_events, initial_of, Reckoning}
use Rattle.links_10.specs.RecvFolds.{reckoned, AreEvents, IsRecvFold}

one_more : (i p : ℕ) → advanced ((i + p) % 2 ^ 32) 1 ≡ (i + (p + 1)) % 2 ^ 32
one_more i p = omega arith

more : (i p n : ℕ) → advanced ((i + p) % 2 ^ 32) n ≡ (i + (p + n)) % 2 ^ 32
more i p n = omega arith

less_one : (l p : ℕ) → l - p - 1 ≡ l - (p + 1)
less_one l p = omega arith

greater_left : (g p c : ℕ) → greater (g - p) c ≡ greater g (p + c) - p
greater_left g p c = by (nat_lt (g - p) c) (nat_lt g (p + c)) refl refl
  where
    by : (a b : Bool) → nat_lt (g - p) c ≡ a → nat_lt g (p + c) ≡ b → cond a c (g - p) ≡ cond b (p + c) g - p
    by true true e f = omega arith
    by true false e f = grind (arith, nat_tests)
    by false true e f = grind (arith, nat_tests)
    by false false e f = refl

-- what the container gave up, where x is left of the credit
gives : (i x : ℕ) (r : Reckoning) (s : Receiving) (b : Bool) → s.count ≡ (i + r.passed) % 2 ^ 32 → s.credit ≡ r.limit - r.passed → s.limit_left ≡ r.greatest - r.passed → nat_lt x (r.limit - r.passed) ≡ b
    → let t = cond b (gave_up x s) s in let q = cond b (record r { passed = r.passed + ((r.limit - r.passed) - x) }) r in
    (t.count ≡ (i + q.passed) % 2 ^ 32) × (t.credit ≡ q.limit - q.passed) × (t.limit_left ≡ q.greatest - q.passed)
gives i x r s false c d l e = (c, d, l)
gives i x r s true c d l e =
    let lt : x < r.limit - r.passed = grind (arith, nat_tests) in (
      rw (c, d) (more i r.passed ((r.limit - r.passed) - x)),
      omega arith,
      rw (l, d) (omega arith),
    )

flows : (count : ℕ) (h : List RecvEvent) (s : Receiving) → IsRecvFold h s → IsRecvFold (PeerFlowed count ∷ h) (cond (nat_lt (left_by count s) s.credit) (gave_up (left_by count s) s) s)
flows count h s f =
    let r = reckoned h in
    let i = initial_of h in
    let x = past ((i + (r.passed + (r.limit - r.passed))) % 2 ^ 32) count in
    let same : left_by count s ≡ x = ap (λ n. past n count) (rw (f.count, f.credit) (more i r.passed (r.limit - r.passed))) in
    let g = gives i x r s (nat_lt x (r.limit - r.passed)) f.count f.credit f.limit_left refl in
    let test : nat_lt (left_by count s) s.credit ≡ nat_lt x (r.limit - r.passed) = rw (same, f.credit) refl in
    let all : IsRecvFold (PeerFlowed count ∷ h) (cond (nat_lt x (r.limit - r.passed)) (gave_up x s) s) = record { count = g.0; credit = g.1; limit_left = g.2 } in
    subst (λ b. IsRecvFold (PeerFlowed count ∷ h) (cond b (gave_up (left_by count s) s) s)) (sym test)
    (subst (λ y. IsRecvFold (PeerFlowed count ∷ h) (cond (nat_lt x (r.limit - r.passed)) (gave_up y s) s)) (sym same) all)

pub folds : (quota : ℕ) (h : List RecvEvent) → AreEvents h → IsRecvFold h (after_events quota h)
folds quota [] e = record { count = omega arith; credit = omega arith; limit_left = omega arith }
folds quota (Attached count ∷ h) e = let range : count < 2 ^ 32 = e.0 in record { count = omega arith; credit = omega arith; limit_left = omega arith }
folds quota (PeerFlowed count ∷ h) e = flows count h (after_events quota h) (folds quota h e.1)
folds quota (Granted credit ∷ h) e =
    let f = folds quota h e.1 in
    let r = reckoned h in
    record { count = f.count; credit = omega arith; limit_left = ap (λ n. greater n credit) f.limit_left ∙ greater_left r.greatest r.passed credit }
folds quota (Arrived ∷ h) e =
    let f = folds quota h e.1 in
    let r = reckoned h in
    record {
      count = ap (λ n. advanced n 1) f.count ∙ one_more (initial_of h) r.passed;
      credit = ap (λ n. n - 1) f.credit ∙ less_one r.limit r.passed;
      limit_left = ap (λ n. n - 1) f.limit_left ∙ less_one r.greatest r.passed;
    }
folds quota (Counted counted ∷ h) e = let f = folds quota h e.1 in record { count = f.count; credit = f.credit; limit_left = f.limit_left }
folds quota (Cancelled ∷ h) e = let f = folds quota h e.1 in record { count = f.count; credit = f.credit; limit_left = f.limit_left }
