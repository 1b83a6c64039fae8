-- Lists that a loop makes item by item: what was made, in front of what is still made.
use Rattle.std.proofs.Common.{◌≡◌, ℕ, suc, ◌+◌, ◌≤◌, List, [], ◌∷◌, ◌++◌, length, drop, Some}
use Rattle.std.proofs.Common.{slice_get, Result, Ok, Err, refl, sym, ap, ◌∙◌, arith}
use Rattle.wire_base.specs.Reading.{◌>>=◌, Stops}
use Rattle.wire_base.specs.declared.stop.Stop.{Stop}
use Rattle.wire_base.specs.declared.stop.Stop.TheVariants as stop
use Rattle.property_map.specs.Steps.{joined, behind}
use Rattle.property_map.proofs.Places.{rest_at, rest_past}

-- an item, and what is still made behind it
abbrev pub then_more : {Y R F : Type 0} → (Y → R → R) → Y → Result R F → Result R F
then_more cons y read = read >>= λ r. Ok (cons y r)

module _ {Y R : Type 0} (cons : Y → R → R) where
  pushed : (ys : List Y) (y : Y) (r : R) → joined cons ys (cons y r) ≡ joined cons (ys ++ y ∷ []) r
  pushed [] y r = refl
  pushed (x ∷ ys) y r = ap (cons x) (pushed ys y r)

module _ {Y R F : Type 0} (cons : Y → R → R) where
  moved : (ys : List Y) (y : Y) (read : Result R F) → behind cons ys (then_more cons y read) ≡ behind cons (ys ++ y ∷ []) read
  moved ys y (Ok r) = ap (λ (s : R). Ok s) (pushed cons ys y r)
  moved ys y (Err f) = refl

  pub next : (ys : List Y) (y : Y) (here more total : Result R F) → here ≡ then_more cons y more → behind cons ys here ≡ total → behind cons (ys ++ y ∷ []) more ≡ total
  next ys y here more total is so_far = sym (moved ys y more) ∙ ap (behind cons ys) (sym is) ∙ so_far

  pub fail : (e : Stop F) (ys : List Y) (here total : Result R F) → Stops e here → behind cons ys here ≡ total → Stops e total
  fail stop.Memory ys here total is so_far = tt
  fail (stop.Fault f) ys here total is so_far = sym so_far ∙ ap (behind cons ys) is

  pub over : (ys : List Y) (here : Result R F) (nil : R) (total : Result R F) → here ≡ Ok nil → behind cons ys here ≡ total → total ≡ Ok (joined cons ys nil)
  over ys here nil total is so_far = sym so_far ∙ ap (behind cons ys) is

-- items that are made of others one by one, as a loop does it place by place
module _ {X Y R F : Type 0} (cons : Y → R → R) (one : X → Result Y F) (many : List X → Result R F) where
  pub next_at : ((x : X) (xs : List X) (y : Y) → one x ≡ Ok y → many (x ∷ xs) ≡ then_more cons y (many xs))
      → (ys : List Y) (xs : List X) (k : ℕ) (x : X) (y : Y) (total : Result R F) → slice_get xs k ≡ Some x → one x ≡ Ok y
      → behind cons ys (many (drop k xs)) ≡ total → behind cons (ys ++ y ∷ []) (many (drop (k + 1) xs)) ≡ total
  next_at made ys xs k x y total is e so_far =
      let after : k + 1 ≡ suc k = omega arith in
      rw after (next cons ys y (many (drop k xs)) (many (drop (suc k) xs)) total (ap many (rest_at xs k x is) ∙ made x (drop (suc k) xs) y e) so_far)

  pub fail_at : ((x : X) (xs : List X) (e : Stop F) → Stops e (one x) → Stops e (many (x ∷ xs)))
      → (e : Stop F) (ys : List Y) (xs : List X) (k : ℕ) (x : X) (total : Result R F) → slice_get xs k ≡ Some x → Stops e (one x) → behind cons ys (many (drop k xs)) ≡ total → Stops e total
  fail_at stops e ys xs k x total is h so_far = fail cons e ys (many (drop k xs)) total (rw (rest_at xs k x is) (stops x (drop (suc k) xs) e h)) so_far

  pub over_at : (nil : R) → many [] ≡ Ok nil → (ys : List Y) (xs : List X) (k : ℕ) (total : Result R F) → length xs ≤ k → behind cons ys (many (drop k xs)) ≡ total → total ≡ Ok (joined cons ys nil)
  over_at nil empty ys xs k total past so_far = over cons ys (many (drop k xs)) nil total (ap many (rest_past xs k past) ∙ empty) so_far
