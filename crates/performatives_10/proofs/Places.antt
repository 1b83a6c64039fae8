-- What stands at a place of a list of values.
use Rattle.std.proofs.Common.{◌≡◌, ℕ, zero, suc, List, [], ◌∷◌, Option, slice_get, refl, ap, ◌∙◌}
use Rattle.types_10.specs.Tree.{Tree, trees_of}
use Rattle.types_10.specs.Fields.{maybe, a_value, tree_at}

there : (ts : List Tree) (k : ℕ) → maybe a_value (slice_get ts k) ≡ tree_at (trees_of ts) k
there [] k = refl
there (t ∷ ts) zero = refl
there (t ∷ ts) (suc k) = there ts k

-- what is found there is what stands there
pub found_is : (o : Option Tree) (ts : List Tree) (k : ℕ) → o ≡ slice_get ts k → maybe a_value o ≡ tree_at (trees_of ts) k
found_is o ts k e = ap (maybe a_value) e ∙ there ts k
