-- Items in front of others that are still to be made.
use Rattle.std.specs.Prelude.{List, [], ◌∷◌, Ok, Result}
use Rattle.wire_base.specs.Reading.{◌>>=◌}

-- items in front of others, which cons puts one in front of
abbrev pub joined : {Y R : Type 0} → (Y → R → R) → List Y → R → R
joined cons [] r = r
joined cons (y ∷ ys) r = cons y (joined cons ys r)

abbrev pub behind : {Y R F : Type 0} → (Y → R → R) → List Y → Result R F → Result R F
behind cons ys read = read >>= λ r. Ok (joined cons ys r)
