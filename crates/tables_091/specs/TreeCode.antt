-- How the values of fields are told apart: codes of the types of Tree, and nothing else.
use Rattle.std.specs.Prelude.{◌≡◌, ℕ, true, false, List, [], ◌∷◌, ℤ, pos, if◌then◌else◌, ◌==◌, refl}
use Rattle.std.specs.Coded.{Coded, code_by, coded×, coded_ℕ, coded_ℤ, coded_list}
use Rattle.std.proofs.Common.{ap}
use base.Stored.{Gv, gnil, gnum, gcons}
use Rattle.tables_091.specs.Tree.{Scalar, boolean, int8, uint8, int16, uint16, int32, uint32, int64}
use Rattle.tables_091.specs.Tree.{float32, float64, decimal, longstr, timestamp, void, blob, Tree}
use Rattle.tables_091.specs.Tree.{scalar, array, table, Trees, no_trees, tree, Members, no_members}
use Rattle.tables_091.specs.Tree.{member}

-- ---- fields that hold no other

-- which it is, its integer, and its other numbers or bytes
abbrev pub scalar_parts : Scalar → ℕ × (ℤ × List ℕ)
scalar_parts (boolean false) = (0, (pos 0, 0 ∷ []))
scalar_parts (boolean true) = (0, (pos 0, 1 ∷ []))
scalar_parts (int8 z) = (1, (z, []))
scalar_parts (uint8 n) = (2, (pos 0, n ∷ []))
scalar_parts (int16 z) = (3, (z, []))
scalar_parts (uint16 n) = (4, (pos 0, n ∷ []))
scalar_parts (int32 z) = (5, (z, []))
scalar_parts (uint32 n) = (6, (pos 0, n ∷ []))
scalar_parts (int64 z) = (7, (z, []))
scalar_parts (float32 n) = (8, (pos 0, n ∷ []))
scalar_parts (float64 n) = (9, (pos 0, n ∷ []))
scalar_parts (decimal scale n) = (10, (pos 0, scale ∷ n ∷ []))
scalar_parts (longstr s) = (11, (pos 0, s))
scalar_parts (timestamp n) = (12, (pos 0, n ∷ []))
scalar_parts void = (13, (pos 0, []))
scalar_parts (blob s) = (14, (pos 0, s))

abbrev first : List ℕ → ℕ
first [] = 0
first (n ∷ ns) = n

abbrev others : List ℕ → List ℕ
others [] = []
others (n ∷ ns) = ns

abbrev pub scalar_back : ℕ × (ℤ × List ℕ) → Scalar
scalar_back p =
    let z = p.1.0 in
    let ns = p.1.1 in
    if p.0 == 0 then boolean (first ns == 1)
    else if p.0 == 1 then int8 z
    else if p.0 == 2 then uint8 (first ns)
    else if p.0 == 3 then int16 z
    else if p.0 == 4 then uint16 (first ns)
    else if p.0 == 5 then int32 z
    else if p.0 == 6 then uint32 (first ns)
    else if p.0 == 7 then int64 z
    else if p.0 == 8 then float32 (first ns)
    else if p.0 == 9 then float64 (first ns)
    else if p.0 == 10 then decimal (first ns) (first (others ns))
    else if p.0 == 11 then longstr ns
    else if p.0 == 12 then timestamp (first ns)
    else if p.0 == 13 then void
    else blob ns

pub scalar_again : (s : Scalar) → scalar_back (scalar_parts s) ≡ s
scalar_again (boolean false) = refl
scalar_again (boolean true) = refl
scalar_again (int8 z) = refl
scalar_again (uint8 n) = refl
scalar_again (int16 z) = refl
scalar_again (uint16 n) = refl
scalar_again (int32 z) = refl
scalar_again (uint32 n) = refl
scalar_again (int64 z) = refl
scalar_again (float32 n) = refl
scalar_again (float64 n) = refl
scalar_again (decimal scale n) = refl
scalar_again (longstr s) = refl
scalar_again (timestamp n) = refl
scalar_again void = refl
scalar_again (blob s) = refl

abbrev pub scalar_code : Coded Scalar
scalar_code =
    code_by (ℕ × (ℤ × List ℕ)) (coded× coded_ℕ (coded× coded_ℤ
    (coded_list coded_ℕ))) scalar_parts scalar_back scalar_again

-- ---- fields

abbrev mutual
  pub tree_gv : Tree → Gv
  tree_gv (scalar s) = gcons (gnum 0) (scalar_code.code s)
  tree_gv (array ts) = gcons (gnum 1) (trees_gv ts)
  tree_gv (table ms) = gcons (gnum 2) (members_gv ms)

  pub trees_gv : Trees → Gv
  trees_gv no_trees = gnil
  trees_gv (tree t ts) = gcons (tree_gv t) (trees_gv ts)

  pub members_gv : Members → Gv
  members_gv no_members = gnil
  members_gv (member name t ms) = gcons ((coded_list coded_ℕ).code name) (gcons (tree_gv t)
      (members_gv ms))

mutual
  pub tree_inj : (x y : Tree) → tree_gv x ≡ tree_gv y → x ≡ y
  tree_inj (scalar s) (scalar t) e = ap scalar (scalar_code.inj s t cc)
  tree_inj (scalar s) (array t) e = absurd cc
  tree_inj (scalar s) (table t) e = absurd cc
  tree_inj (array s) (scalar t) e = absurd cc
  tree_inj (array s) (array t) e = ap array (trees_inj s t cc)
  tree_inj (array s) (table t) e = absurd cc
  tree_inj (table s) (scalar t) e = absurd cc
  tree_inj (table s) (array t) e = absurd cc
  tree_inj (table s) (table t) e = ap table (members_inj s t cc)

  pub trees_inj : (x y : Trees) → trees_gv x ≡ trees_gv y → x ≡ y
  trees_inj no_trees no_trees e = refl
  trees_inj no_trees (tree u us) e = absurd cc
  trees_inj (tree t ts) no_trees e = absurd cc
  trees_inj (tree t ts) (tree u us) e =
      let a : t ≡ u = tree_inj t u cc in
      let b : ts ≡ us = trees_inj ts us cc in
      cc

  pub members_inj : (x y : Members) → members_gv x ≡ members_gv y → x ≡ y
  members_inj no_members no_members e = refl
  members_inj no_members (member n u us) e = absurd cc
  members_inj (member n t ts) no_members e = absurd cc
  members_inj (member n t ts) (member m u us) e =
      let a : n ≡ m = (coded_list coded_ℕ).inj n m cc in
      let b : t ≡ u = tree_inj t u cc in
      let c : ts ≡ us = members_inj ts us cc in
      cc

abbrev pub tree_code : Coded Tree
tree_code = record { code = tree_gv; inj = tree_inj }

-- the values of a list of fields, and of a list of entries
abbrev pub trees_code : Coded (List Tree)
trees_code = coded_list tree_code

abbrev pub members_code : Coded (List (List ℕ × Tree))
members_code = coded_list (coded× (coded_list coded_ℕ) tree_code)
