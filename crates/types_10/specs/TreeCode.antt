-- How values are told apart: codes of the types of Tree, and nothing else.
use Rattle.std.specs.Prelude.{◌≡◌, ℕ, true, false, List, [], ◌∷◌, ℤ, pos, if◌then◌else◌, ◌==◌, refl}
use Rattle.std.specs.Coded.{Coded, code_by, coded×, coded_ℕ, coded_ℤ, coded_list}
use Rattle.std.proofs.Common.{ap}
use base.Stored.{Gv, gnil, gnum, gcons}
use Rattle.types_10.specs.Tree.{Scalar, null, boolean, ubyte, byte, ushort, short, uint, int, ulong}
use Rattle.types_10.specs.Tree.{long, float, double, decimal32, decimal64, decimal128, char}
use Rattle.types_10.specs.Tree.{timestamp, uuid, binary, string, symbol, Tree, scalar, list}
use Rattle.types_10.specs.Tree.{mapping, array, described, Trees, no_trees, tree, Pairs, no_pairs}
use Rattle.types_10.specs.Tree.{pair}

-- ---- values that hold no other

-- which it is, its integer, and its number or bytes
abbrev pub scalar_parts : Scalar → ℕ × (ℤ × List ℕ)
scalar_parts null = (0, (pos 0, []))
scalar_parts (boolean false) = (1, (pos 0, 0 ∷ []))
scalar_parts (boolean true) = (1, (pos 0, 1 ∷ []))
scalar_parts (ubyte n) = (2, (pos 0, n ∷ []))
scalar_parts (byte z) = (3, (z, []))
scalar_parts (ushort n) = (4, (pos 0, n ∷ []))
scalar_parts (short z) = (5, (z, []))
scalar_parts (uint n) = (6, (pos 0, n ∷ []))
scalar_parts (int z) = (7, (z, []))
scalar_parts (ulong n) = (8, (pos 0, n ∷ []))
scalar_parts (long z) = (9, (z, []))
scalar_parts (float n) = (10, (pos 0, n ∷ []))
scalar_parts (double n) = (11, (pos 0, n ∷ []))
scalar_parts (decimal32 n) = (12, (pos 0, n ∷ []))
scalar_parts (decimal64 n) = (13, (pos 0, n ∷ []))
scalar_parts (decimal128 s) = (14, (pos 0, s))
scalar_parts (char n) = (15, (pos 0, n ∷ []))
scalar_parts (timestamp z) = (16, (z, []))
scalar_parts (uuid s) = (17, (pos 0, s))
scalar_parts (binary s) = (18, (pos 0, s))
scalar_parts (string s) = (19, (pos 0, s))
scalar_parts (symbol s) = (20, (pos 0, s))

abbrev first : List ℕ → ℕ
first [] = 0
first (n ∷ ns) = n

abbrev pub scalar_back : ℕ × (ℤ × List ℕ) → Scalar
scalar_back p =
    let z = p.1.0 in
    let ns = p.1.1 in
    if p.0 == 0 then null
    else if p.0 == 1 then boolean (first ns == 1)
    else if p.0 == 2 then ubyte (first ns)
    else if p.0 == 3 then byte z
    else if p.0 == 4 then ushort (first ns)
    else if p.0 == 5 then short z
    else if p.0 == 6 then uint (first ns)
    else if p.0 == 7 then int z
    else if p.0 == 8 then ulong (first ns)
    else if p.0 == 9 then long z
    else if p.0 == 10 then float (first ns)
    else if p.0 == 11 then double (first ns)
    else if p.0 == 12 then decimal32 (first ns)
    else if p.0 == 13 then decimal64 (first ns)
    else if p.0 == 14 then decimal128 ns
    else if p.0 == 15 then char (first ns)
    else if p.0 == 16 then timestamp z
    else if p.0 == 17 then uuid ns
    else if p.0 == 18 then binary ns
    else if p.0 == 19 then string ns
    else symbol ns

pub scalar_again : (s : Scalar) → scalar_back (scalar_parts s) ≡ s
scalar_again null = refl
scalar_again (boolean false) = refl
scalar_again (boolean true) = refl
scalar_again (ubyte n) = refl
scalar_again (byte z) = refl
scalar_again (ushort n) = refl
scalar_again (short z) = refl
scalar_again (uint n) = refl
scalar_again (int z) = refl
scalar_again (ulong n) = refl
scalar_again (long z) = refl
scalar_again (float n) = refl
scalar_again (double n) = refl
scalar_again (decimal32 n) = refl
scalar_again (decimal64 n) = refl
scalar_again (decimal128 s) = refl
scalar_again (char n) = refl
scalar_again (timestamp z) = refl
scalar_again (uuid s) = refl
scalar_again (binary s) = refl
scalar_again (string s) = refl
scalar_again (symbol s) = refl

abbrev pub scalar_code : Coded Scalar
scalar_code =
    code_by (ℕ × (ℤ × List ℕ)) (coded× coded_ℕ (coded× coded_ℤ
    (coded_list coded_ℕ))) scalar_parts scalar_back scalar_again

-- ---- values

abbrev mutual
  pub tree_gv : Tree → Gv
  tree_gv (scalar s) = gcons (gnum 0) (scalar_code.code s)
  tree_gv (list ts) = gcons (gnum 1) (trees_gv ts)
  tree_gv (mapping ps) = gcons (gnum 2) (pairs_gv ps)
  tree_gv (array ts) = gcons (gnum 3) (trees_gv ts)
  tree_gv (described d t) = gcons (gnum 4) (gcons (tree_gv d) (tree_gv t))

  pub trees_gv : Trees → Gv
  trees_gv no_trees = gnil
  trees_gv (tree t ts) = gcons (tree_gv t) (trees_gv ts)

  pub pairs_gv : Pairs → Gv
  pairs_gv no_pairs = gnil
  pairs_gv (pair k t ps) = gcons (tree_gv k) (gcons (tree_gv t) (pairs_gv ps))

mutual
  pub tree_inj : (x y : Tree) → tree_gv x ≡ tree_gv y → x ≡ y
  tree_inj (scalar s) (scalar t) e = ap scalar (scalar_code.inj s t cc)
  tree_inj (scalar s) (list t) e = absurd cc
  tree_inj (scalar s) (mapping t) e = absurd cc
  tree_inj (scalar s) (array t) e = absurd cc
  tree_inj (scalar s) (described td tt) e = absurd cc
  tree_inj (list s) (scalar t) e = absurd cc
  tree_inj (list s) (list t) e = ap list (trees_inj s t cc)
  tree_inj (list s) (mapping t) e = absurd cc
  tree_inj (list s) (array t) e = absurd cc
  tree_inj (list s) (described td tt) e = absurd cc
  tree_inj (mapping s) (scalar t) e = absurd cc
  tree_inj (mapping s) (list t) e = absurd cc
  tree_inj (mapping s) (mapping t) e = ap mapping (pairs_inj s t cc)
  tree_inj (mapping s) (array t) e = absurd cc
  tree_inj (mapping s) (described td tt) e = absurd cc
  tree_inj (array s) (scalar t) e = absurd cc
  tree_inj (array s) (list t) e = absurd cc
  tree_inj (array s) (mapping t) e = absurd cc
  tree_inj (array s) (array t) e = ap array (trees_inj s t cc)
  tree_inj (array s) (described td tt) e = absurd cc
  tree_inj (described sd st) (scalar t) e = absurd cc
  tree_inj (described sd st) (list t) e = absurd cc
  tree_inj (described sd st) (mapping t) e = absurd cc
  tree_inj (described sd st) (array t) e = absurd cc
  tree_inj (described sd st) (described td tt2) e =
      let a : sd ≡ td = tree_inj sd td cc in
      let b : st ≡ tt2 = tree_inj st tt2 cc in
      cc

  pub trees_inj : (x y : Trees) → trees_gv x ≡ trees_gv y → x ≡ y
  trees_inj no_trees no_trees e = refl
  trees_inj no_trees (tree u us) e = absurd cc
  trees_inj (tree t ts) no_trees e = absurd cc
  trees_inj (tree t ts) (tree u us) e =
      let a : t ≡ u = tree_inj t u cc in
      let b : ts ≡ us = trees_inj ts us cc in
      cc

  pub pairs_inj : (x y : Pairs) → pairs_gv x ≡ pairs_gv y → x ≡ y
  pairs_inj no_pairs no_pairs e = refl
  pairs_inj no_pairs (pair k u us) e = absurd cc
  pairs_inj (pair k t ts) no_pairs e = absurd cc
  pairs_inj (pair k t ts) (pair l u us) e =
      let a : k ≡ l = tree_inj k l cc in
      let b : t ≡ u = tree_inj t u cc in
      let c : ts ≡ us = pairs_inj ts us cc in
      cc

abbrev pub tree_code : Coded Tree
tree_code = record { code = tree_gv; inj = tree_inj }

-- the values of a list of values, and of a list of pairs
abbrev pub trees_code : Coded (List Tree)
trees_code = coded_list tree_code

abbrev pub pairs_code : Coded (List (Tree × Tree))
pairs_code = coded_list (coded× tree_code tree_code)
