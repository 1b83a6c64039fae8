-- Null is the one absent value, and a list without the nulls at its end has the same fields.
use Rattle.std.proofs.Common.{◌≡◌, ℕ, zero, suc, Bool, true, false, List, [], ◌∷◌, ◌++◌, refl, sym}
use Rattle.std.proofs.Common.{ap, ◌∙◌, ◌+◌, ◌-◌, ◌<◌, append_assoc, append-nil, arith}
use Rattle.types_10.specs.Tree.{Scalar, Tree, scalar, list, mapping, array, described, trees_of}
use Rattle.types_10.specs.Tree as value
use Rattle.types_10.specs.Fields.{absent, is_null, is_absent, tree_at, in_front, trim, ends_absent, nulls}

-- ---- nulls

null_is : (s : Scalar) → is_null s ≡ true → scalar s ≡ absent
null_is value.null e = refl
null_is (value.boolean b) e = absurd cc
null_is (value.ubyte n) e = absurd cc
null_is (value.byte z) e = absurd cc
null_is (value.ushort n) e = absurd cc
null_is (value.short z) e = absurd cc
null_is (value.uint n) e = absurd cc
null_is (value.int z) e = absurd cc
null_is (value.ulong n) e = absurd cc
null_is (value.long z) e = absurd cc
null_is (value.float n) e = absurd cc
null_is (value.double n) e = absurd cc
null_is (value.decimal32 n) e = absurd cc
null_is (value.decimal64 n) e = absurd cc
null_is (value.decimal128 s) e = absurd cc
null_is (value.char n) e = absurd cc
null_is (value.timestamp z) e = absurd cc
null_is (value.uuid s) e = absurd cc
null_is (value.binary s) e = absurd cc
null_is (value.string s) e = absurd cc
null_is (value.symbol s) e = absurd cc

pub absent_is : (t : Tree) → is_absent t ≡ true → t ≡ absent
absent_is (scalar s) e = null_is s e
absent_is (list ts) e = absurd cc
absent_is (mapping ps) e = absurd cc
absent_is (array ts) e = absurd cc
absent_is (described d t) e = absurd cc

-- ---- lists without the nulls at their end

pub trim_absent : (ts : List Tree) (t : Tree) → is_absent t ≡ true → trim (ts ++ t ∷ []) ≡ trim ts
trim_absent [] t e = rw e refl
trim_absent (u ∷ us) t e = ap (in_front u) (trim_absent us t e)

pub ends_push : (ts : List Tree) (t : Tree) → ends_absent (ts ++ t ∷ []) ≡ is_absent t
ends_push [] t = refl
ends_push (u ∷ []) t = refl
ends_push (u ∷ v ∷ vs) t = ends_push (v ∷ vs) t

-- ---- nulls that are counted

pub nulls_next : (xs : List Tree) (n : ℕ) → 0 < n → (xs ++ absent ∷ []) ++ nulls (n - 1) ≡ xs ++ nulls n
nulls_next xs zero h = absurd (omega (arith, h))
nulls_next xs (suc n) h = let less : suc n - 1 ≡ n = omega arith in rw less (append_assoc xs (absent ∷ []) (nulls n))

nulls_more : (n : ℕ) → nulls (n + 1) ≡ nulls n ++ absent ∷ []
nulls_more zero = refl
nulls_more (suc n) = let one : suc n + 1 ≡ suc (n + 1) = omega arith in rw one (ap (λ ts. absent ∷ ts) (nulls_more n))

pub nulls_pushed : (xs : List Tree) (n : ℕ) → xs ++ nulls (n + 1) ≡ (xs ++ nulls n) ++ absent ∷ []
nulls_pushed xs n = ap (λ ts. xs ++ ts) (nulls_more n) ∙ sym (append_assoc xs (nulls n) (absent ∷ []))

pub trim_nulls : (ts : List Tree) (n : ℕ) → trim (ts ++ nulls n) ≡ trim ts
trim_nulls ts zero = ap trim (append-nil ts)
trim_nulls ts (suc n) = ap trim (sym (append_assoc ts (absent ∷ []) (nulls n))) ∙ trim_nulls (ts ++ absent ∷ []) n ∙ trim_absent ts absent refl

-- where the last isn't null, nothing is left out
pub trim_all : (ts : List Tree) → ends_absent ts ≡ false → trim ts ≡ ts
trim_all [] e = refl
trim_all (t ∷ []) e = rw e refl
trim_all (t ∷ u ∷ us) e = ap (in_front t) (trim_all (u ∷ us) e)

-- ---- their fields

front_at : (t : Tree) (us : List Tree) (k : ℕ) → tree_at (trees_of (in_front t us)) k ≡ tree_at (trees_of (t ∷ us)) k
front_at t [] k = step (is_absent t) refl k
  where
    step : (b : Bool) → is_absent t ≡ b → (i : ℕ) → tree_at (trees_of (in_front t [])) i ≡ tree_at (trees_of (t ∷ [])) i
    step true e zero = rw e (sym (absent_is t e))
    step true e (suc i) = rw e refl
    step false e i = rw e refl
front_at t (u ∷ us) k = refl

behind_at : (t : Tree) (us vs : List Tree) → ((k : ℕ) → tree_at (trees_of us) k ≡ tree_at (trees_of vs) k) → (k : ℕ) → tree_at (trees_of (t ∷ us)) k ≡ tree_at (trees_of (t ∷ vs)) k
behind_at t us vs h zero = refl
behind_at t us vs h (suc k) = h k

pub trimmed_at : (ts : List Tree) (k : ℕ) → tree_at (trees_of (trim ts)) k ≡ tree_at (trees_of ts) k
trimmed_at [] k = refl
trimmed_at (t ∷ ts) k = front_at t (trim ts) k ∙ behind_at t (trim ts) ts (trimmed_at ts) k
