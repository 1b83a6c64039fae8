-- A list that is copied item by item.
use Rattle.std.proofs.Common.{◌≡◌, ℕ, ◌+◌, ◌<◌, List, [], ◌∷◌, ◌++◌, length, take, slice_get, None}
use Rattle.std.proofs.Common.{Some, arith}
use Rattle.std.proofs.lemmas.List.{take_more}
use Rattle.std.proofs.lemmas.Option.{slice_get_within, get_or_from_slice_get, slice_get-get_or}

pub one_more_copy : {X : Type 0} (xs ys : List X) (k : ℕ) (x : X) → ys ≡ take k xs → Some x ≡ slice_get xs k
    → ys ++ x ∷ [] ≡ take (k + 1) xs
one_more_copy xs ys k x h e =
    let there : slice_get xs k ≡ Some x = cc in
    let more = take_more xs k x (slice_get_within xs k x there) in
    let item = get_or_from_slice_get xs k x x there in
    cc (more, item, h)

pub not_past : {X : Type 0} (xs : List X) (k : ℕ) → k < length xs → None ≡ slice_get xs k → ⊥
not_past [] k h e = omega arith
not_past (x ∷ xs) k h e = let there = slice_get-get_or (x ∷ xs) k x h in cc
