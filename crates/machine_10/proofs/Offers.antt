-- Which of the offered mechanisms has a name.
use Rattle.std.proofs.Common.{◌≡◌, ◌+◌, ◌<◌, ◌≤◌, ℕ, zero, suc, true, false, if◌then◌else◌, List}
use Rattle.std.proofs.Common.{[], ◌∷◌, length, drop, Option, Some, None, option_map, slice_get}
use Rattle.std.proofs.Common.{refl, sym, ap, ◌∙◌, arith}
use Rattle.types_10.specs.Tree.{Tree, trees_of}
use Rattle.types_10.specs.Fields.{maybe, tree_at}
use Rattle.machine_10.specs.Reading.{is_named, any_named}

abbrev itself : Tree → Tree
itself t = t

there : (ts : List Tree) (k : ℕ) → maybe itself (slice_get ts k) ≡ tree_at (trees_of ts) k
there [] k = refl
there (t ∷ ts) zero = refl
there (t ∷ ts) (suc k) = there ts k

seen_so : {A : Type 0} (f : A → Tree) (o : Option A) → maybe f o ≡ maybe itself (option_map f o)
seen_so f None = refl
seen_so f (Some x) = refl

-- what is found there is what stands there
pub found_is : {A : Type 0} (f : A → Tree) (o : Option A) (ts : List Tree) (k : ℕ) → option_map f o ≡ slice_get ts k → maybe f o ≡ tree_at (trees_of ts) k
found_is f o ts k e = seen_so f o ∙ ap (maybe itself) e ∙ there ts k

-- of the values from a place on one has the name if the first has it, or one behind it
named_next : (name : List ℕ) (ts : List Tree) (k : ℕ) → k < length ts
    → any_named name (trees_of (drop k ts)) ≡ (if is_named name (tree_at (trees_of ts) k) then true else any_named name (trees_of (drop (suc k) ts)))
named_next name [] k h = absurd (omega (arith, h))
named_next name (u ∷ ts) zero h = refl
named_next name (u ∷ ts) (suc k) h = named_next name ts k (omega (arith, h))

pub named_done : (name : List ℕ) (ts : List Tree) (k : ℕ) → length ts ≤ k → any_named name (trees_of (drop k ts)) ≡ false
named_done name [] zero h = refl
named_done name [] (suc k) h = refl
named_done name (t ∷ ts) zero h = absurd (omega (arith, h))
named_done name (t ∷ ts) (suc k) h = named_done name ts k (omega (arith, h))

-- the same while they are told one by one
pub named_go_on : (name : List ℕ) (ts : List Tree) (k : ℕ) → k < length ts → is_named name (tree_at (trees_of ts) k) ≡ false
    → any_named name (trees_of (drop k ts)) ≡ any_named name (trees_of ts) → any_named name (trees_of (drop (k + 1) ts)) ≡ any_named name (trees_of ts)
named_go_on name ts k h is so_far =
    let next : any_named name (trees_of (drop k ts)) ≡ any_named name (trees_of (drop (suc k) ts)) = named_next name ts k h ∙ rw is refl in
    let one : k + 1 ≡ suc k = omega arith in
    rw one (sym next ∙ so_far)

pub named_found : (name : List ℕ) (ts : List Tree) (k : ℕ) → k < length ts → is_named name (tree_at (trees_of ts) k) ≡ true
    → any_named name (trees_of (drop k ts)) ≡ any_named name (trees_of ts) → true ≡ any_named name (trees_of ts)
named_found name ts k h is so_far =
    let next : any_named name (trees_of (drop k ts)) ≡ true = named_next name ts k h ∙ rw is refl in
    sym next ∙ so_far

-- at the end none had it
pub none_named : (name : List ℕ) (ts : List Tree) (k : ℕ) → length ts ≤ k
    → any_named name (trees_of (drop k ts)) ≡ any_named name (trees_of ts) → false ≡ any_named name (trees_of ts)
none_named name ts k h so_far = sym (named_done name ts k h) ∙ so_far
