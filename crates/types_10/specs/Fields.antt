-- The fields of a list (AMQP 1.0 1.4). Null is an absent field, and so is a field past the end.
use Rattle.std.specs.Prelude.{ℕ, zero, suc, ℤ, Bool, true, false, if◌then◌else◌, List, [], ◌∷◌}
use Rattle.std.specs.Prelude.{Option, Some, None}
use Rattle.types_10.specs.Tree.{Scalar, Tree, scalar, Trees, no_trees, tree}
use Rattle.types_10.specs.Tree as value

-- ---- values

abbrev pub a_boolean : Bool → Tree
a_boolean b = scalar (value.boolean b)

abbrev pub a_ubyte : ℕ → Tree
a_ubyte n = scalar (value.ubyte n)

abbrev pub a_ushort : ℕ → Tree
a_ushort n = scalar (value.ushort n)

abbrev pub a_uint : ℕ → Tree
a_uint n = scalar (value.uint n)

abbrev pub a_ulong : ℕ → Tree
a_ulong n = scalar (value.ulong n)

abbrev pub a_timestamp : ℤ → Tree
a_timestamp z = scalar (value.timestamp z)

abbrev pub a_binary : List ℕ → Tree
a_binary s = scalar (value.binary s)

abbrev pub a_string : List ℕ → Tree
a_string s = scalar (value.string s)

abbrev pub a_symbol : List ℕ → Tree
a_symbol s = scalar (value.symbol s)

abbrev pub a_value : Tree → Tree
a_value t = t

abbrev pub absent : Tree
absent = scalar value.null

-- what is there, or absent
abbrev pub maybe : {A : Type 0} → (A → Tree) → Option A → Tree
maybe f None = absent
maybe f (Some x) = f x

-- ---- reading

-- the value at a place; past the end it is absent
abbrev pub tree_at : Trees → ℕ → Tree
tree_at no_trees k = absent
tree_at (tree t ts) zero = t
tree_at (tree t ts) (suc k) = tree_at ts k

abbrev pub is_null : Scalar → Bool
is_null value.null = true
is_null s = false

abbrev pub is_absent : Tree → Bool
is_absent (scalar s) = is_null s
is_absent t = false

-- ---- writing

-- a value in front of others, unless both are nothing
abbrev pub in_front : Tree → List Tree → List Tree
in_front t [] = if is_absent t then [] else t ∷ []
in_front t (u ∷ us) = t ∷ u ∷ us

-- the values without the nulls at their end
abbrev pub trim : List Tree → List Tree
trim [] = []
trim (t ∷ ts) = in_front t (trim ts)

-- so many nulls
abbrev pub nulls : ℕ → List Tree
nulls zero = []
nulls (suc n) = absent ∷ nulls n

-- the last of these values is null
abbrev pub ends_absent : List Tree → Bool
ends_absent [] = false
ends_absent (t ∷ []) = is_absent t
ends_absent (t ∷ u ∷ us) = ends_absent (u ∷ us)
