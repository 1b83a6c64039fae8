-- Parts of bytes in two pieces.
use Rattle.std.proofs.Common.{◌≡◌, ◌∙◌, ◌≤◌, ℕ, zero, suc, ◌-◌, List, [], ◌∷◌, ◌++◌, take, drop, length, refl, ap}
use Rattle.std.proofs.Common.{arith}

none_left : (n : ℕ) → 0 - n ≡ 0
none_left n = omega arith

all_left : (n : ℕ) → n - 0 ≡ n
all_left n = omega arith

one_less : (n k : ℕ) → suc n - suc k ≡ n - k
one_less n k = omega arith

pub drop_both : (n : ℕ) (front back : List ℕ) → drop n front ++ drop (n - length front) back ≡ drop n (front ++ back)
drop_both zero [] back = refl
drop_both (suc n) [] back = ap (λ k. drop k back) (all_left (suc n))
drop_both zero (x ∷ front) back = ap (λ k. (x ∷ front) ++ drop k back) (none_left (length (x ∷ front)))
drop_both (suc n) (x ∷ front) back = ap (λ k. drop n front ++ drop k back) (one_less n (length front)) ∙ drop_both n front back

pub take_both : (n : ℕ) (front back : List ℕ) → take n front ++ take (n - length front) back ≡ take n (front ++ back)
take_both zero [] back = refl
take_both (suc n) [] back = ap (λ k. take k back) (all_left (suc n))
take_both zero (x ∷ front) back = ap (λ k. take k back) (none_left (length (x ∷ front)))
take_both (suc n) (x ∷ front) back =
    ap (λ k. x ∷ take n front ++ take k back) (one_less n (length front)) ∙ ap (λ bytes. x ∷ bytes) (take_both n front back)

pub take_past : (n : ℕ) (bytes : List ℕ) → length bytes ≤ n → take n bytes ≡ bytes
take_past zero [] le = refl
take_past (suc n) [] le = refl
take_past zero (x ∷ bytes) le = absurd (omega (arith, le))
take_past (suc n) (x ∷ bytes) le = ap (λ rest. x ∷ rest) (take_past n bytes (omega (arith, le)))
