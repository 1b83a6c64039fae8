-- The first item of a list that passes a test.
use Rattle.std.proofs.Common.{◌≡◌, ℕ, ◌+◌, ◌<◌, suc, Bool, true, false, not, cond, nat_lt, List, []}
use Rattle.std.proofs.Common.{◌∷◌, length, get_or, set, position, None, Some, refl, sym, ◌∙◌, ap}
use Rattle.std.proofs.Common.{arith}
use Rattle.std.specs.List.{find, position_or_len}
use Rattle.std.proofs.lemmas.Bool.{ltb-true, ltb-false}
use Rattle.std.proofs.lemmas.List.Folds.{find_at}
use Rattle.std.proofs.lemmas.Option.{slice_get-get_or, slice_get_past}
use Rattle.gate_outside.specs.declared.ports.End.{End}
use Rattle.gate_outside.specs.declared.ports.Got.{Got}
use Rattle.gate_outside.specs.declared.ports.Got.TheVariants as got
use Rattle.gate_outside.specs.declared.pieces.Piece.{Piece}
use Rattle.gate_outside.specs.Script.{first_changed, is_left, piece_after, pieces_after}

-- the index that a search answers is that of the first item that passes
pub place_of : {X : Type 0} (test : X → Bool) (xs : List X) (i : ℕ) → position test xs ≡ Some i
    → (i ≡ position_or_len test xs) × (i < length xs)
place_of test xs i h =
    elim (nat_lt (position_or_len test xs) (length xs)) as (λ b. nat_lt (position_or_len test xs) (length xs) ≡ b
    → cond b (Some (position_or_len test xs)) None ≡ Some i → (i ≡ position_or_len test xs) × (i < length xs)) [
      | true ↦ (λ q e. let at : position_or_len test xs ≡ i = cc in
          (sym at, omega (arith, ltb-true _ _ q)))
      | false ↦ (λ q e. cc)
    ] refl h

pub find_found : {X : Type 0} (test : X → Bool) (xs : List X) (i : ℕ) (x : X) → position test xs ≡ Some i → x ≡ get_or xs i x
    → find test xs ≡ Some x
find_found test xs i x h e =
    let place = place_of test xs i h in
    let first = find_at test xs in
    let there = slice_get-get_or xs i x place.1 in
    cc (place.0, first, there, e)

pub find_none : {X : Type 0} (test : X → Bool) (xs : List X) → position test xs ≡ None → find test xs ≡ None
find_none test xs h =
    elim (nat_lt (position_or_len test xs) (length xs)) as (λ b. nat_lt (position_or_len test xs) (length xs) ≡ b
    → cond b (Some (position_or_len test xs)) None ≡ None → find test xs ≡ None) [
      | true ↦ (λ q e. cc)
      | false ↦ (λ q e. find_at test xs ∙ slice_get_past xs (position_or_len test xs) (omega (arith, ltb-false _ _ q)))
    ] refl h

pub changed_at : {X : Type 0} (test : X → Bool) (change : X → X) (xs : List X) (d : X)
    → first_changed test change xs ≡ set xs (position_or_len test xs) (change (get_or xs (position_or_len test xs) d))
changed_at test change [] d = refl
changed_at {X = X} test change (x ∷ xs) d =
    let rest = changed_at test change xs d in
    let step : 1 + position_or_len test xs ≡ suc (position_or_len test xs) = omega arith in
    elim (test x) as (λ b. cond b (change x ∷ xs) (x ∷ first_changed test change xs)
    ≡ set (x ∷ xs) (cond (not b) (1 + position_or_len test xs) 0) (change (get_or (x ∷ xs) (cond (not b) (1 + position_or_len test xs) 0) d))) [
      | true ↦ refl
      | false ↦ rw step (ap (λ (ys : List X). x ∷ ys) rest)
    ]

-- one write at its index changes the first item
pub changed_found : {X : Type 0} (test : X → Bool) (change : X → X) (xs : List X) (i : ℕ) (x y : X) → position test xs ≡ Some i
    → x ≡ get_or xs i x → y ≡ change x → set xs i y ≡ first_changed test change xs
changed_found test change xs i x y h e f =
    let place = place_of test xs i h in
    let changed = changed_at test change xs x in
    cc (place.0, changed, e, f)

-- a change that changes nothing
pub changed_same : {X : Type 0} (test : X → Bool) (change : X → X) → ((x : X) → change x ≡ x) → (xs : List X)
    → first_changed test change xs ≡ xs
changed_same test change h [] = refl
changed_same {X = X} test change h (x ∷ xs) =
    let rest = changed_same test change h xs in
    elim (test x) as (λ b. cond b (change x ∷ xs) (x ∷ first_changed test change xs) ≡ x ∷ xs)
    [ true ↦ ap (λ (y : X). y ∷ xs) (h x) | false ↦ ap (λ (ys : List X). x ∷ ys) rest ]

-- an answer changes the current piece alone
pub piece_changed : (pair : ℕ) (end : End) (answer : Got) (pieces : List Piece)
    → first_changed (is_left pair end) (piece_after answer) pieces ≡ pieces_after pair end answer pieces
piece_changed pair end (got.Bytes n) pieces = refl
piece_changed pair end got.Ended pieces = refl
piece_changed pair end got.NotYet pieces = changed_same _ _ (λ (piece : Piece). refl) pieces
piece_changed pair end got.Failed pieces = changed_same _ _ (λ (piece : Piece). refl) pieces
