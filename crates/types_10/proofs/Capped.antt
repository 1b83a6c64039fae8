-- Products that saturate, and what they leave of a room.
use Rattle.std.proofs.Common.{◌≡◌, ℕ, zero, suc, ◌-◌, ◌*◌, ◌^◌, ◌<◌, ◌≤◌, true, false, ltb}
use Rattle.std.proofs.Common.{Ok, Err, refl, arith}
use Rattle.std.proofs.lemmas.Bool.{lt-ltb, le-ltb}
use Rattle.types_10.specs.Reading.{Fault, spent_in}
use Rattle.types_10.specs.Measures.{capped}

-- a product of one that saturates saturates at the same place
pub capped_times : (n e : ℕ) → capped (n * capped e) ≡ capped (n * e)
capped_times zero e = omega arith
capped_times (suc n) e = omega (arith, capped_times n e)

-- where a saturated product is more than the room, so is the product
pub none_left : (cut : Fault) (room n e : ℕ) → room < 2 ^ 32 → room < capped (n * capped e) → spent_in cut room (n * e) ≡ Err cut
none_left cut room n e small more =
    let less : ltb room (n * e) ≡ true = lt-ltb _ _ (omega (arith, more, capped_times n e)) in
    rw less refl

-- else it is left
pub some_left : (cut : Fault) (room n e : ℕ) → room < 2 ^ 32 → capped (n * capped e) ≤ room → spent_in cut room (n * e) ≡ Ok (room - capped (n * capped e))
some_left cut room n e small fits =
    let enough : ltb room (n * e) ≡ false = le-ltb _ _ (omega (arith, small, fits, capped_times n e)) in
    let same : capped (n * capped e) ≡ n * e = omega (arith, small, fits, capped_times n e) in
    rw (enough, same) refl
