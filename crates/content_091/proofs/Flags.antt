-- Of the flags that are written exactly the bits of the properties that are there are set.
use Rattle.std.proofs.Common.{◌≡◌, ℕ, zero, suc, ◌+◌, ◌*◌, ◌/◌, ◌%◌, ◌^◌, ◌<◌, ◌≤◌, Bool, true}
use Rattle.std.proofs.Common.{false, eqb, List, [], ◌∷◌, Option, Some, None, refl, ap, ◌∙◌, arith}
use Rattle.std.proofs.Math.Nat.{pow-suc}
use Rattle.std.proofs.lemmas.Nat.{pow_pos, div-mul-add}
use Rattle.content_091.specs.Rows.{Row}
use Rattle.content_091.specs.Properties.{Property, Properties}
use Rattle.content_091.specs.Grammar.{bit_at}
use Rattle.content_091.specs.Writing.{flag_of, flags_of}

-- the bits of rows go down by one from a bit on, to bit 2
abbrev pub Descend : ℕ → List Row → Type 0
Descend top [] = top ≡ 2
Descend top (row ∷ others) = (top ≡ row.0 + 1) × Descend row.0 others

-- whether a property is there
abbrev pub is_there : Option Property → Bool
is_there None = false
is_there (Some v) = true

-- the same as a number
abbrev pub there : Option Property → ℕ
there None = 0
there (Some v) = 1

wide : (bit : ℕ) → 2 ^ (bit + 1) ≡ 2 ^ bit * 2
wide bit = ap (λ (k : ℕ). 2 ^ k) {x = bit + 1} {y = suc bit} (omega arith) ∙ pow-suc 2 bit

flag_is : (bit : ℕ) (v : Option Property) → flag_of bit v ≡ there v * 2 ^ bit
unfolding flag_of
flag_is bit None = omega arith
flag_is bit (Some v) = omega arith

few : (v : Option Property) → there v ≤ 1
few None = omega arith
few (Some v) = omega arith

-- the flags of rows are below the bit above them
pub flags_below : (top : ℕ) (rows : List Row) (vs : Properties) → Descend top rows → flags_of rows vs < 2 ^ top
unfolding flag_of
flags_below top [] vs d = pow_pos top
flags_below top (row ∷ others) [] d = pow_pos top
flags_below top (row ∷ others) (v ∷ vs) d =
    let power : 2 ^ top ≡ 2 ^ row.0 * 2 = ap (λ (k : ℕ). 2 ^ k) d.0 ∙ wide row.0 in
    omega (arith, power, flags_below row.0 others vs d.1, flag_small row.0 v)
  where
    flag_small : (bit : ℕ) (v : Option Property) → flag_of bit v ≤ 2 ^ bit
    flag_small bit None = omega arith
    flag_small bit (Some v) = omega arith

-- ---- multiples of four

four_of : (bit : ℕ) → 2 ≤ bit → (n : ℕ) × (2 ^ bit ≡ 4 * n)
four_of zero le = absurd (omega arith)
four_of (suc zero) le = absurd (omega arith)
four_of (suc (suc k)) le = (2 ^ k, omega (arith, pow-suc 2 (suc k), pow-suc 2 k))

at_least : (top : ℕ) (rows : List Row) → Descend top rows → 2 ≤ top
at_least top [] d = omega (arith, d)
at_least top (row ∷ others) d = omega (arith, d.0, at_least row.0 others d.1)

pub flags_by_four : (top : ℕ) (rows : List Row) (vs : Properties) → Descend top rows → (n : ℕ) × (flags_of rows vs ≡ 4 * n)
unfolding flag_of
flags_by_four top [] vs d = (0, refl)
flags_by_four top (row ∷ others) [] d = (0, refl)
flags_by_four top (row ∷ others) (None ∷ vs) d =
    let later = flags_by_four row.0 others vs d.1 in
    (later.0, omega (arith, later.1))
flags_by_four top (row ∷ others) (Some v ∷ vs) d =
    let first = four_of row.0 (at_least row.0 others d.1) in
    let later = flags_by_four row.0 others vs d.1 in
    (first.0 + later.0, omega (arith, first.1, later.1))

-- ---- the bit of a property

-- above a bit, at it, and below it
abbrev pub AreSplit : ℕ → ℕ → ℕ → ℕ → Type 0
AreSplit flags high bit low = (flags ≡ high * 2 ^ bit + low) × (low < 2 ^ bit)

even : (n : ℕ) → (2 * n) % 2 ≡ 0
even n = omega arith

odd : (n : ℕ) → (2 * n + 1) % 2 ≡ 1
odd n = omega arith

pub bit_is : (flags high bit low : ℕ) (v : Option Property) → AreSplit flags (2 * high + there v) bit low → bit_at bit flags ≡ is_there v
bit_is flags high bit low None s =
    let above : flags / 2 ^ bit ≡ 2 * high + 0 = ap (λ (n : ℕ). n / 2 ^ bit) s.0 ∙ div-mul-add (2 * high + 0) (2 ^ bit) low s.1 in
    let parity : flags / 2 ^ bit % 2 ≡ 0 = omega (arith, above) in
    ap (λ (n : ℕ). eqb n 1) parity
bit_is flags high bit low (Some v) s =
    let above : flags / 2 ^ bit ≡ 2 * high + 1 = ap (λ (n : ℕ). n / 2 ^ bit) s.0 ∙ div-mul-add (2 * high + 1) (2 ^ bit) low s.1 in
    let parity : flags / 2 ^ bit % 2 ≡ 1 = omega (arith, above) in
    ap (λ (n : ℕ). eqb n 1) parity

-- one bit further down
pub split_next : (flags high top bit low : ℕ) (v : Option Property) → top ≡ bit + 1 → low < 2 ^ bit → flags ≡ high * 2 ^ top + (flag_of bit v + low)
    → AreSplit flags (2 * high + there v) bit low
split_next flags high top bit low v e below sum =
    let power : 2 ^ top ≡ 2 ^ bit * 2 = ap (λ (k : ℕ). 2 ^ k) e ∙ wide bit in
    let upper : high * 2 ^ top ≡ (2 * high) * 2 ^ bit = ap (λ (n : ℕ). high * n) power ∙ regroup high (2 ^ bit) in
    let whole : (2 * high + there v) * 2 ^ bit ≡ (2 * high) * 2 ^ bit + there v * 2 ^ bit = over_sum (2 * high) (there v) (2 ^ bit) in
    (omega (arith, sum, upper, whole, flag_is bit v), below)
  where
    regroup : (a b : ℕ) → a * (b * 2) ≡ (2 * a) * b
    regroup a b = omega arith

    over_sum : (a b c : ℕ) → (a + b) * c ≡ a * c + b * c
    over_sum a b c = omega arith
