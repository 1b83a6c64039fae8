-- The list of the live pairs, split at one of them.
use Rattle.std.proofs.Common.{◌≡◌, ◌≢◌, ℕ, ◌+◌, ◌<◌, ◌≤◌, ◌==◌, nat_lt, Bool, true, false, ◌||◌}
use Rattle.std.proofs.Common.{List, [], ◌∷◌, ◌++◌, refl, sym, ap, ◌∙◌, arith}
use Rattle.std.proofs.lemmas.Bool.Decides.{nat_tests}
use Rattle.std.specs.List.{AllByRecursion}
use Rattle.gate_runs.specs.Next.{beyond, without}
use Rattle.gate_turns.specs.declared.live.Live.{Live}
use Rattle.gate_turns.specs.Parts.{AreOthers}
use Rattle.gate_turns.specs.Rounds.{IsRising, numbers, is_among}
use Rattle.gate_turns.proofs.OneMark.{is_same, is_other}

-- ---- numbers that rise from above p

pub all_beyond : {A : Type 0} (p low : ℕ) (bs : List (Live A)) → p < low → IsRising low bs → beyond p (numbers bs) ≡ numbers bs
all_beyond {A} p low [] lt r = refl
all_beyond {A} p low (b ∷ bs) lt r =
    let yes : nat_lt p b.number ≡ true = grind (arith, nat_tests, r.0) in
    rw yes (ap (λ (xs : List ℕ). b.number ∷ xs) (all_beyond p (b.number + 1) bs (omega (arith, r.0)) r.1))

pub all_others : {A : Type 0} (p low : ℕ) (bs : List (Live A)) → p < low → IsRising low bs → AreOthers p (numbers bs)
all_others {A} p low [] lt r = tt
all_others {A} p low (b ∷ bs) lt r = ((λ e. omega (arith, r.0)), all_others p (b.number + 1) bs (omega (arith, r.0)) r.1)

pub none_without : {A : Type 0} (p low : ℕ) (bs : List (Live A)) → p < low → IsRising low bs → without p (numbers bs) ≡ numbers bs
none_without {A} p low [] lt r = refl
none_without {A} p low (b ∷ bs) lt r =
    let no : (b.number == p) ≡ false = is_other b.number p (λ e. omega (arith, r.0)) in
    rw no (ap (λ (xs : List ℕ). b.number ∷ xs) (none_without p (b.number + 1) bs (omega (arith, r.0)) r.1))

-- ---- what a split of a rising list says of its middle

split_low : {A : Type 0} (low : ℕ) (front back : List (Live A)) (b : Live A) → IsRising low (front ++ b ∷ back) → low ≤ b.number
split_low {A} low [] back b r = r.0
split_low {A} low (x ∷ front) back b r = omega (arith, r.0, split_low (x.number + 1) front back b r.1)

pub split_back : {A : Type 0} (low : ℕ) (front back : List (Live A)) (b : Live A) → IsRising low (front ++ b ∷ back) → IsRising (b.number + 1) back
split_back {A} low [] back b r = r.1
split_back {A} low (x ∷ front) back b r = split_back (x.number + 1) front back b r.1

pub split_beyond : {A : Type 0} (low : ℕ) (front back : List (Live A)) (b : Live A) → IsRising low (front ++ b ∷ back)
    → beyond b.number (numbers (front ++ b ∷ back)) ≡ numbers back
split_beyond {A} low [] back b r =
    let no : nat_lt b.number b.number ≡ false = grind (arith, nat_tests) in
    rw no (all_beyond b.number (b.number + 1) back (omega arith) r.1)
split_beyond {A} low (x ∷ front) back b r =
    let less : x.number + 1 ≤ b.number = split_low (x.number + 1) front back b r.1 in
    let no : nat_lt b.number x.number ≡ false = grind (arith, nat_tests, less) in
    rw no (split_beyond (x.number + 1) front back b r.1)

pub split_without : {A : Type 0} (low : ℕ) (front back : List (Live A)) (b : Live A) → IsRising low (front ++ b ∷ back)
    → without b.number (numbers (front ++ b ∷ back)) ≡ numbers (front ++ back)
split_without {A} low [] back b r = rw (is_same b.number) (none_without b.number (b.number + 1) back (omega arith) r.1)
split_without {A} low (x ∷ front) back b r =
    let less : x.number + 1 ≤ b.number = split_low (x.number + 1) front back b r.1 in
    let no : (x.number == b.number) ≡ false = is_other x.number b.number (λ e. omega (arith, less)) in
    rw no (ap (λ (xs : List ℕ). x.number ∷ xs) (split_without (x.number + 1) front back b r.1))

-- ---- with another state of the pair, or without the pair

pub set_numbers : {A : Type 0} (front back : List (Live A)) (b new : Live A) → new.number ≡ b.number → numbers (front ++ new ∷ back) ≡ numbers (front ++ b ∷ back)
set_numbers {A} [] back b new e = ap (λ (p : ℕ). p ∷ numbers back) e
set_numbers {A} (x ∷ front) back b new e = ap (λ (xs : List ℕ). x.number ∷ xs) (set_numbers front back b new e)

pub set_rising : {A : Type 0} (low : ℕ) (front back : List (Live A)) (b new : Live A) → new.number ≡ b.number → IsRising low (front ++ b ∷ back) → IsRising low (front ++ new ∷ back)
set_rising {A} low [] back b new e r = rw e r
set_rising {A} low (x ∷ front) back b new e r = (r.0, set_rising (x.number + 1) front back b new e r.1)

rising_lower : {A : Type 0} (low high : ℕ) (bs : List (Live A)) → low ≤ high → IsRising high bs → IsRising low bs
rising_lower {A} low high [] le r = tt
rising_lower {A} low high (b ∷ bs) le r = (omega (arith, r.0), r.1)

pub remove_rising : {A : Type 0} (low : ℕ) (front back : List (Live A)) (b : Live A) → IsRising low (front ++ b ∷ back) → IsRising low (front ++ back)
remove_rising {A} low [] back b r = rising_lower low (b.number + 1) back (omega (arith, r.0)) r.1
remove_rising {A} low (x ∷ front) back b r = (r.0, remove_rising (x.number + 1) front back b r.1)

pub all_middle : {A : Type 0} (P : Live A → Type 0) (front back : List (Live A)) (b : Live A) → AllByRecursion P (front ++ b ∷ back) → P b
all_middle {A} P [] back b all = all.0
all_middle {A} P (x ∷ front) back b all = all_middle P front back b all.1

-- what pairs of other numbers keep
pub keep_back : {A : Type 0} (P Q : Live A → Type 0) (p low : ℕ) (bs : List (Live A)) → p < low → ((x : Live A) → x.number ≢ p → P x → Q x)
    → IsRising low bs → AllByRecursion P bs → AllByRecursion Q bs
keep_back {A} P Q p low [] lt keeps r all = tt
keep_back {A} P Q p low (b ∷ bs) lt keeps r all =
    (keeps b (λ e. omega (arith, r.0)) all.0, keep_back P Q p (b.number + 1) bs (omega (arith, r.0)) keeps r.1 all.1)

pub keep_set : {A : Type 0} (P Q : Live A → Type 0) (low : ℕ) (front back : List (Live A)) (b new : Live A) → ((x : Live A) → x.number ≢ b.number → P x → Q x)
    → IsRising low (front ++ b ∷ back) → AllByRecursion P (front ++ b ∷ back) → Q new → AllByRecursion Q (front ++ new ∷ back)
keep_set {A} P Q low [] back b new keeps r all q = (q, keep_back P Q b.number (b.number + 1) back (omega arith) keeps r.1 all.1)
keep_set {A} P Q low (x ∷ front) back b new keeps r all q =
    let less : x.number + 1 ≤ b.number = split_low (x.number + 1) front back b r.1 in
    (keeps x (λ e. omega (arith, less)) all.0, keep_set P Q (x.number + 1) front back b new keeps r.1 all.1 q)

pub keep_removed : {A : Type 0} (P Q : Live A → Type 0) (low : ℕ) (front back : List (Live A)) (b : Live A) → ((x : Live A) → x.number ≢ b.number → P x → Q x)
    → IsRising low (front ++ b ∷ back) → AllByRecursion P (front ++ b ∷ back) → AllByRecursion Q (front ++ back)
keep_removed {A} P Q low [] back b keeps r all = keep_back P Q b.number (b.number + 1) back (omega arith) keeps r.1 all.1
keep_removed {A} P Q low (x ∷ front) back b keeps r all =
    let less : x.number + 1 ≤ b.number = split_low (x.number + 1) front back b r.1 in
    (keeps x (λ e. omega (arith, less)) all.0, keep_removed P Q (x.number + 1) front back b keeps r.1 all.1)

-- ---- which numbers are among those of a split list

or_true : (a : Bool) → (a || true) ≡ true
or_true true = refl
or_true false = refl

among_middle : {A : Type 0} (front back : List (Live A)) (b : Live A) → is_among b.number (numbers (front ++ b ∷ back)) ≡ true
among_middle {A} [] back b = rw (is_same b.number) refl
among_middle {A} (x ∷ front) back b = rw (among_middle front back b) (or_true (x.number == b.number))

pub among_others : {A : Type 0} (q : ℕ) (front back : List (Live A)) (b : Live A) → q ≢ b.number → is_among q (numbers (front ++ b ∷ back)) ≡ is_among q (numbers (front ++ back))
among_others {A} q [] back b ne = rw (is_other b.number q (λ e. ne (sym e))) refl
among_others {A} q (x ∷ front) back b ne = ap (λ (t : Bool). (x.number == q) || t) (among_others q front back b ne)

pub not_middle : {A : Type 0} (q : ℕ) (front back : List (Live A)) (b : Live A) → is_among q (numbers (front ++ b ∷ back)) ≡ false → q ≢ b.number
not_middle {A} q front back b h e = let clash : true ≡ false = sym (among_middle front back b) ∙ ap (λ (i : ℕ). is_among i (numbers (front ++ b ∷ back))) (sym e) ∙ h in absurd cc
