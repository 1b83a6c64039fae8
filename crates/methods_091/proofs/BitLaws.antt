-- Flags in an octet are read back.
use Rattle.std.proofs.Common.{◌≡◌, ℕ, zero, suc, ◌+◌, ◌*◌, ◌/◌, ◌%◌, ◌^◌, ◌<◌, ◌≤◌, Bool, true}
use Rattle.std.proofs.Common.{false, eqb, List, [], ◌∷◌, length, lit≤, refl, ap, ◌∙◌, arith}
use Rattle.std.proofs.Math.Nat.{pow-suc, pow-le-pow_right}
use Rattle.std.proofs.lemmas.Nat.{pow_pos, div-add-mod', div-mul-add, mod_below}
use Rattle.methods_091.specs.Grammar.{bit_at, bits_from}
use Rattle.methods_091.specs.Writing.{octet_of}

-- without the lowest bit, each bit stands one place lower
halved : (b n i : ℕ) → b ≤ 1 → (b + 2 * n) / 2 ^ (i + 1) ≡ n / 2 ^ i
halved b n i small =
    let wide : 2 ^ (i + 1) ≡ 2 ^ i * 2 = ap (λ (k : ℕ). 2 ^ k) {x = i + 1} {y = suc i} (omega arith) ∙ pow-suc 2 i in
    let below = mod_below n (2 ^ i) (pow_pos i) in
    let split : b + 2 * n ≡ n / 2 ^ i * (2 ^ i * 2) + (2 * (n % 2 ^ i) + b) = omega (arith, div-add-mod' n (2 ^ i)) in
    ap (λ (k : ℕ). (b + 2 * n) / k) wide ∙ ap (λ (k : ℕ). k / (2 ^ i * 2)) split ∙ div-mul-add (n / 2 ^ i) (2 ^ i * 2) (2 * (n % 2 ^ i) + b) (omega (arith, below))

bits_behind : (b n place count : ℕ) → b ≤ 1 → bits_from (place + 1) count (b + 2 * n) ≡ bits_from place count n
bits_behind b n place zero small = refl
bits_behind b n place (suc count) small =
    let first : bit_at (place + 1) (b + 2 * n) ≡ bit_at place n = ap (λ (q : ℕ). eqb (q % 2) 1) (halved b n place small) in
    let later = bits_behind b n (place + 1) count small in
    rw (first, later) refl

pub flags_back : (bs : List Bool) → bits_from 0 (length bs) (octet_of bs) ≡ bs
unfolding octet_of
flags_back [] = refl
flags_back (true ∷ bs) =
    let first : (1 + 2 * octet_of bs) / 1 % 2 ≡ 1 = omega arith in
    let later : bits_from 1 (length bs) (1 + 2 * octet_of bs) ≡ bs = bits_behind 1 (octet_of bs) 0 (length bs) (omega arith) ∙ flags_back bs in
    rw (first, later) refl
flags_back (false ∷ bs) =
    let first : (0 + 2 * octet_of bs) / 1 % 2 ≡ 0 = omega arith in
    let later : bits_from 1 (length bs) (0 + 2 * octet_of bs) ≡ bs = bits_behind 0 (octet_of bs) 0 (length bs) (omega arith) ∙ flags_back bs in
    rw (first, later) refl

octet_fits : (bs : List Bool) → octet_of bs < 2 ^ length bs
unfolding octet_of
octet_fits [] = omega arith
octet_fits (true ∷ bs) = omega (arith, octet_fits bs, pow-suc 2 (length bs))
octet_fits (false ∷ bs) = omega (arith, octet_fits bs, pow-suc 2 (length bs))

pub octet_below : (bs : List Bool) → length bs ≤ 8 → octet_of bs < 256
octet_below bs few =
    let most : 2 ^ length bs ≤ 2 ^ 8 = pow-le-pow_right (lit≤ tt) few in
    omega (arith, most, octet_fits bs)
