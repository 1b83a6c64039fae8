-- What stands at a place of a list of values, or of pairs.
use Rattle.std.proofs.Common.{◌≡◌, ◌+◌, ◌<◌, ◌≤◌, ℕ, zero, suc, true, false, if◌then◌else◌, List}
use Rattle.std.proofs.Common.{[], ◌∷◌, length, drop, Option, Some, None, option_map, slice_get}
use Rattle.std.proofs.Common.{refl, sym, ap, ◌∙◌, arith}
use Rattle.types_10.specs.Tree.{Tree, trees_of, pairs_of}
use Rattle.types_10.specs.Fields.{maybe, tree_at}
use Rattle.sections_10.specs.Reading.{is_key_of, key_found, key_at, keys_are}
use Rattle.sections_10.specs.declared.sections.Keys.{Keys}

abbrev itself : Tree → Tree
itself t = t

there : (ts : List Tree) (k : ℕ) → maybe itself (slice_get ts k) ≡ tree_at (trees_of ts) k
there [] k = refl
there (t ∷ ts) zero = refl
there (t ∷ ts) (suc k) = there ts k

seen_so : {A : Type 0} (f : A → Tree) (o : Option A) → maybe f o ≡ maybe itself (option_map f o)
seen_so f None = refl
seen_so f (Some x) = refl

-- what is found there is what stands there
pub found_is : {A : Type 0} (f : A → Tree) (o : Option A) (ts : List Tree) (k : ℕ) → option_map f o ≡ slice_get ts k → maybe f o ≡ tree_at (trees_of ts) k
found_is f o ts k e = seen_so f o ∙ ap (maybe itself) e ∙ there ts k

-- ---- keys

pub key_there : (ks : Keys) (ps : List (Tree × Tree)) (k : ℕ) → key_found ks (slice_get ps k) ≡ key_at ks ps k
key_there ks [] k = refl
key_there ks (p ∷ ps) zero = refl
key_there ks (p ∷ ps) (suc k) = key_there ks ps k

pub key_seen : {A : Type 0} (f : A → Tree × Tree) (ks : Keys) (o : Option A) (x : A) (ps : List (Tree × Tree)) (k : ℕ) → o ≡ Some x → option_map f o ≡ slice_get ps k → is_key_of ks (f x).0 ≡ key_at ks ps k
key_seen {A} f ks o x ps k is e = ap (λ (p : Option A). key_found ks (option_map f p)) (sym is) ∙ ap (key_found ks) e ∙ key_there ks ps k

pub key_missing : {A : Type 0} (f : A → Tree × Tree) (ks : Keys) (o : Option A) (ps : List (Tree × Tree)) (k : ℕ) → o ≡ None → option_map f o ≡ slice_get ps k → true ≡ key_at ks ps k
key_missing {A} f ks o ps k is e = ap (λ (p : Option A). key_found ks (option_map f p)) (sym is) ∙ ap (key_found ks) e ∙ key_there ks ps k

-- of the pairs from a place on all have such keys if the first has one, and those behind it have
keys_next : (ks : Keys) (ps : List (Tree × Tree)) (k : ℕ) → k < length ps
    → keys_are (is_key_of ks) (pairs_of (drop k ps)) ≡ (if key_at ks ps k then keys_are (is_key_of ks) (pairs_of (drop (suc k) ps)) else false)
keys_next ks [] k h = absurd (omega (arith, h))
keys_next ks (p ∷ ps) zero h = refl
keys_next ks (p ∷ ps) (suc k) h = keys_next ks ps k (omega (arith, h))

pub keys_done : (ks : Keys) (ps : List (Tree × Tree)) (k : ℕ) → length ps ≤ k → keys_are (is_key_of ks) (pairs_of (drop k ps)) ≡ true
keys_done ks [] zero h = refl
keys_done ks [] (suc k) h = refl
keys_done ks (p ∷ ps) zero h = absurd (omega (arith, h))
keys_done ks (p ∷ ps) (suc k) h = keys_done ks ps k (omega (arith, h))

-- the same while they are told one by one
pub keys_go_on : (ks : Keys) (ps : List (Tree × Tree)) (k : ℕ) → k < length ps → key_at ks ps k ≡ true
    → keys_are (is_key_of ks) (pairs_of (drop k ps)) ≡ keys_are (is_key_of ks) (pairs_of ps)
    → keys_are (is_key_of ks) (pairs_of (drop (k + 1) ps)) ≡ keys_are (is_key_of ks) (pairs_of ps)
keys_go_on ks ps k h is so_far =
    let next : keys_are (is_key_of ks) (pairs_of (drop k ps)) ≡ keys_are (is_key_of ks) (pairs_of (drop (suc k) ps)) = keys_next ks ps k h ∙ rw is refl in
    let one : k + 1 ≡ suc k = omega arith in
    rw one (sym next ∙ so_far)

pub keys_end : (ks : Keys) (ps : List (Tree × Tree)) (k : ℕ) → k < length ps → key_at ks ps k ≡ false
    → keys_are (is_key_of ks) (pairs_of (drop k ps)) ≡ keys_are (is_key_of ks) (pairs_of ps) → false ≡ keys_are (is_key_of ks) (pairs_of ps)
keys_end ks ps k h is so_far =
    let next : keys_are (is_key_of ks) (pairs_of (drop k ps)) ≡ false = keys_next ks ps k h ∙ rw is refl in
    sym next ∙ so_far
