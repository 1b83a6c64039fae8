-- How many units are of each channel, with one more or less.
use Rattle.std.proofs.Common.{◌≡◌, ◌≢◌, ◌∙◌, ℕ, zero, suc, ◌+◌, ◌-◌, ◌<◌, ◌≤◌}
use Rattle.std.proofs.Common.{Bool, true, false, cond, if◌then◌else◌, List, [], ◌∷◌, ◌++◌}
use Rattle.std.proofs.Common.{Some, refl, sym, ap, arith, count_by, get_or-set_other, get_or-set_same, length}
use Rattle.std.proofs.Common.{replicate}
use Rattle.std.proofs.lemmas.Bool.{eq-eqb, eqb-false, eqb-true}
use Rattle.std.proofs.lemmas.List.Sums.{sum_by-cons, sum_by_push}
use Rattle.std.specs.Prelude.{◌==◌, slice_get, slice_index_or, slice_set}
use Rattle.machine_091.specs.declared.unit.Unit91.{Unit91}
use Rattle.gate_model.specs.Queue.{removed}
use Rattle.bridge_core.specs.Held.{AreCounted, is_counted_at, place_of}

abbrev one : Bool → ℕ
one b = cond b 1 0

pub none_counted : AreCounted [] (replicate 257 0)
none_counted n lt = reads 257 n
  where
    reads : (k n : ℕ) → slice_index_or (replicate k zero) n zero ≡ zero
    reads zero n = refl
    reads (suc k) zero = refl
    reads (suc k) (suc n) = reads k n

-- a count at a place is another
pub count_set : (counts : List ℕ) (k n count : ℕ) → length counts ≡ 257 → n < 257
    → slice_index_or (slice_set counts k count) n 0 ≡ (if k == n then count else slice_index_or counts n 0)
count_set counts k n count long lt = by (k == n) refl
  where
    by : (b : Bool) → (k == n) ≡ b → slice_index_or (slice_set counts k count) n 0 ≡ (if b then count else slice_index_or counts n 0)
    by true e =
        let same : k ≡ n = eqb-true k n e in
        ap (λ (j : ℕ). slice_index_or (slice_set counts j count) n 0) same ∙ get_or-set_same counts n count 0 (omega (arith, long, lt))
    by false e =
        let apart : n ≢ k = λ same. eqb-false k n e (sym same) in
        get_or-set_other counts k n count 0 apart

pub counted_more : (us : List Unit91) (u : Unit91) (counts : List ℕ) (k count : ℕ) → length counts ≡ 257 → k ≡ place_of u
    → count ≡ slice_index_or counts k 0 + 1 → AreCounted us counts → AreCounted (us ++ u ∷ []) (slice_set counts k count)
counted_more us u counts k count long at more known n lt =
    count_set counts k n count long lt ∙ by (k == n) refl ∙ sym (sum_by_push (λ v. cond (is_counted_at n v) 1 0) us u)
  where
    by : (b : Bool) → (k == n) ≡ b → (if b then count else slice_index_or counts n 0) ≡ count_by (is_counted_at n) us + cond (is_counted_at n u) 1 0
    by true e =
        let same : k ≡ n = eqb-true k n e in
        let here : is_counted_at n u ≡ true = ap (λ (j : ℕ). j == n) (sym at) ∙ e in
        more ∙ ap (λ (j : ℕ). slice_index_or counts j 0 + 1) same ∙ ap (λ (m : ℕ). m + 1) (known n lt)
        ∙ ap (λ (b : Bool). count_by (is_counted_at n) us + cond b 1 0) (sym here)
    by false e =
        let other : is_counted_at n u ≡ false = ap (λ (j : ℕ). j == n) (sym at) ∙ e in
        known n lt ∙ omega arith ∙ ap (λ (b : Bool). count_by (is_counted_at n) us + cond b 1 0) (sym other)

-- one less
count_less : (n i : ℕ) (us : List Unit91) (u : Unit91) → slice_get us i ≡ Some u → count_by (is_counted_at n) (removed i us) + cond (is_counted_at n u) 1 0 ≡ count_by (is_counted_at n) us
count_less n i [] u e = absurd cc
count_less n zero (v ∷ us) u e =
    let here : v ≡ u = cc in
    omega (arith, sum_by-cons (λ w. cond (is_counted_at n w) 1 0) v us, ap (λ (w : Unit91). one (is_counted_at n w)) here)
count_less n (suc i) (v ∷ us) u e =
    omega (arith, sum_by-cons (λ w. cond (is_counted_at n w) 1 0) v us, sum_by-cons (λ w. cond (is_counted_at n w) 1 0) v (removed i us), count_less n i us u e)

pub some_counted : (us : List Unit91) (u : Unit91) (i : ℕ) (counts : List ℕ) (k : ℕ) → slice_get us i ≡ Some u → k ≡ place_of u → AreCounted us counts
    → 1 ≤ slice_index_or counts k 0
some_counted us u i counts k e at known =
    let here : is_counted_at k u ≡ true = eq-eqb (place_of u) k (sym at) in
    omega (arith, known k (omega (arith, at)), count_less k i us u e, ap one here)

pub counted_less : (us : List Unit91) (u : Unit91) (i : ℕ) (counts : List ℕ) (k : ℕ) → slice_get us i ≡ Some u → length counts ≡ 257 → k ≡ place_of u
    → AreCounted us counts → AreCounted (removed i us) (slice_set counts k (slice_index_or counts k 0 - 1))
counted_less us u i counts k there long at known n lt = count_set counts k n (slice_index_or counts k 0 - 1) long lt ∙ by (k == n) refl
  where
    by : (b : Bool) → (k == n) ≡ b → (if b then slice_index_or counts k 0 - 1 else slice_index_or counts n 0) ≡ count_by (is_counted_at n) (removed i us)
    by true e =
        let same : k ≡ n = eqb-true k n e in
        let here : is_counted_at n u ≡ true = ap (λ (j : ℕ). j == n) (sym at) ∙ e in
        omega (arith, ap (λ (j : ℕ). slice_index_or counts j 0) same, known n lt, count_less n i us u there, ap one here)
    by false e =
        let other : is_counted_at n u ≡ false = ap (λ (j : ℕ). j == n) (sym at) ∙ e in
        omega (arith, known n lt, count_less n i us u there, ap one other)

-- none is left where the count says so
pub counted_left : (us : List Unit91) (u : Unit91) (i : ℕ) (counts : List ℕ) (k : ℕ) (vs : List Unit91) → slice_get us i ≡ Some u → length counts ≡ 257 → k ≡ place_of u
    → AreCounted us counts → slice_index_or (slice_set counts k (slice_index_or counts k 0 - 1)) k 0 ≤ 0 → vs ≡ removed i us
    → count_by (is_counted_at k) vs ≡ 0
counted_left us u i counts k vs there long at known none units =
    omega (arith, ap (count_by (is_counted_at k)) units, counted_less us u i counts k there long at known k (omega (arith, at)), none)
