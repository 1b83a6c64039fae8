-- What has a canonical spelling is as a value must be to be written: its texts are proper, and its arrays are of one type and not too long.
use Rattle.std.proofs.Common.{◌≡◌, ◌≢◌, ℕ, zero, suc, ◌+◌, ◌*◌, ◌^◌, ◌<◌, ◌≤◌, true}
use Rattle.std.proofs.Common.{List, [], ◌∷◌, ◌++◌, length, refl, sym, ap, subst, ◌∙◌, arith}
use mathlib.Core.Logic.{◌⊎◌, inl, inr}
use Rattle.std.specs.Bool.{IsTrue}
use Rattle.wire_base.specs.Spelling.{IsPair, IsItems}
use Rattle.types_10.specs.Tree.{Scalar, null, boolean, ubyte, byte, ushort, short, uint, int, ulong}
use Rattle.types_10.specs.Tree.{long, float, double, decimal32, decimal64, decimal128, char}
use Rattle.types_10.specs.Tree.{timestamp, uuid, binary, string, symbol, Tree, scalar, list}
use Rattle.types_10.specs.Tree.{mapping, array, described, Trees, no_trees, tree, trees_of}
use Rattle.types_10.specs.Tree.{pairs_of}
use Rattle.types_10.specs.Kinds.{kind_byte, is_bare, bare_scalar, octet_scalar, wide_scalar}
use Rattle.types_10.specs.Kinds.{sixteen_scalar}
use Rattle.types_10.specs.Grammar.{Elements, Spelled, IsDescriptorOf, IsConstructorOf}
use Rattle.types_10.specs.Grammar.{IsSingle, IsFlat, IsDeepOf, IsElement}
use Rattle.types_10.specs.Canonical.{IsFirstCode, IsFirstConstructor, IsFirstElements, canonical}
use Rattle.types_10.specs.Canonical.{IsCanonicalOf, IsCanonical}
use Rattle.types_10.specs.Ranges.{IsInRange, IsRanged, EachInTrees, EachInPairs}
use Rattle.types_10.specs.Writing.{scalar_type, type_of, descriptors, list_kind}
use Rattle.types_10.specs.Writing.{written, written_each, value_text, IsProper}
use Rattle.types_10.specs.Writing.{EachIsAlike, AreOfOneType, IsWritable, EachIsWritable}
use Rattle.types_10.specs.Writing.{PairsAreWritable, HasSpelling}
use Rattle.types_10.specs.Measures.{head_len, scalar_body, body_len, bodies_len}
use Rattle.types_10.proofs.Wider.{kind_type, scalar_type_is, IsWider}
use Rattle.types_10.proofs.Written.{first_type, single_first}
use Rattle.types_10.proofs.Elements.{late_plain, constructor_late, element_told}
use Rattle.types_10.proofs.Types.{tree_type, tree_late, none_text, EachIsWider, shared_wide}
use Rattle.types_10.proofs.Types.{list_type}
use Rattle.types_10.proofs.Held.{list_empty}
use Rattle.types_10.proofs.Measures.{contents_len}
use Rattle.types_10.proofs.Alone.{trees_same}
use Rattle.types_10.proofs.Form.{level_within, canonical_is_plain}
use Rattle.types_10.proofs.Depths.{items_depth, level_depth, plain_depth}
use Rattle.types_10.proofs.Canonical.{tree_list, trees_again, list_count}
use Rattle.types_10.proofs.Canonical.{each_described, each_well, elements_are}
use Rattle.types_10.specs.declared.kind.Kind.{Kind}
use Rattle.types_10.specs.declared.kind.Kind.TheVariants as kind
use Rattle.types_10.specs.declared.kind.Single.{Single}
use Rattle.types_10.specs.declared.kind.Single.TheVariants as single
use Rattle.types_10.specs.declared.kind.Bare.{Bare}
use Rattle.types_10.specs.declared.kind.Bare.TheVariants as bare
use Rattle.types_10.specs.declared.kind.Octet.{Octet}
use Rattle.types_10.specs.declared.kind.Octet.TheVariants as octet
use Rattle.types_10.specs.declared.kind.Wide.{Wide}
use Rattle.types_10.specs.declared.kind.Wide.TheVariants as wide
use Rattle.types_10.specs.declared.kind.Sixteen.{Sixteen}
use Rattle.types_10.specs.declared.kind.Sixteen.TheVariants as sixteen
use Rattle.types_10.specs.declared.kind.Text.TheVariants as text
use Rattle.types_10.specs.declared.kind.Size.TheVariants as size

-- ---- values that hold no other are proper

bare_proper : (k : Bare) → IsProper (bare_scalar k)
bare_proper bare.Null = tt
bare_proper bare.True = tt
bare_proper bare.False = tt
bare_proper bare.Uint = tt
bare_proper bare.Ulong = tt

octet_proper : (k : Octet) (n : ℕ) → IsProper (octet_scalar k n)
octet_proper octet.Ubyte n = tt
octet_proper octet.Byte n = tt
octet_proper octet.Uint n = tt
octet_proper octet.Int n = tt
octet_proper octet.Ulong n = tt
octet_proper octet.Long n = tt

wide_proper : (k : Wide) (n : ℕ) → IsProper (wide_scalar k n)
wide_proper wide.Ushort n = tt
wide_proper wide.Short n = tt
wide_proper wide.Uint n = tt
wide_proper wide.Int n = tt
wide_proper wide.Float n = tt
wide_proper wide.Decimal32 n = tt
wide_proper wide.Ulong n = tt
wide_proper wide.Long n = tt
wide_proper wide.Double n = tt
wide_proper wide.Timestamp n = tt
wide_proper wide.Decimal64 n = tt

sixteen_proper : (k : Sixteen) (s : List ℕ) → IsProper (sixteen_scalar k s)
sixteen_proper sixteen.Decimal128 s = tt
sixteen_proper sixteen.Uuid s = tt

single_proper : (k : Single) (s : Scalar) (text : List ℕ) → IsSingle k s text → IsProper s
single_proper (single.Bare k) s text h = subst IsProper (sym h.0) (bare_proper k)
single_proper single.Boolean s text h = subst IsProper (sym h.1) tt
single_proper (single.Octet k) s text h = subst IsProper (sym h.1) (octet_proper k h.0)
single_proper (single.Wide k) s text h = subst IsProper (sym h.1) (wide_proper k h.0)
single_proper single.Char s text h = subst IsProper (sym h.1) h.2.0
single_proper (single.Sixteen k) s text h = subst IsProper (sym h.1) (sixteen_proper k h.0)
single_proper (single.Text text.Binary z) s bytes h = subst IsProper (sym h.1) tt
single_proper (single.Text text.String z) s bytes h = subst IsProper (sym h.1) h.2.0
single_proper (single.Text text.Symbol z) s bytes h = subst IsProper (sym h.1) h.2.0

-- ---- the type of what has a content

flat_type : (k : Kind) (t : Tree) (text : List ℕ) → IsFlat k t text → type_of t ≡ kind_type k
flat_type (kind.Single k) t text h = ap type_of h.1 ∙ sym (first_type h.0) ∙ (single_first k h.0 text h.2).alike
flat_type kind.EmptyList t text h = absurd h
flat_type (kind.List z) t text h = absurd h
flat_type (kind.Map z) t text h = absurd h
flat_type (kind.Array z) t text h = absurd h
flat_type kind.Described t text h = absurd h

deep_type : (s : Spelled) (k : Kind) (t : Tree) (text : List ℕ) → 64 ≤ kind_byte k → IsDeepOf (IsFirstCode s.content) (IsFirstElements s) k t text → type_of t ≡ kind_type k
deep_type s (kind.Single k) t text late h = ap type_of h.1 ∙ sym (first_type h.0) ∙ (single_first k h.0 text h.2).alike
deep_type s kind.EmptyList t text late h = ap type_of h.0
deep_type s (kind.List z) t text late h = ap type_of h.1
deep_type s (kind.Map z) t text late h = ap type_of h.1
deep_type s (kind.Array z) t text late h = ap type_of h.1
deep_type s kind.Described t text late h = absurd (omega (arith, late))

pub element_type : (d : ℕ) (c : Elements) (t : Tree) (text : List ℕ) → 64 ≤ kind_byte c.1 → (canonical d).element c t text → type_of t ≡ kind_type c.1
unfolding canonical
element_type zero ([], k) t text late h = flat_type k t text h
element_type zero (x ∷ xs, k) t text late h = absurd h.1.2
element_type (suc d) ([], k) t text late h = deep_type (canonical d) k t text late h
element_type (suc d) (x ∷ xs, k) t text late h = ap type_of h.1.1 ∙ element_type d (xs, k) h.1.0 text late h.1.2

-- elements behind one constructor are of one type
each_alike : (d : ℕ) (c : Elements) (t : Tree) → 64 ≤ kind_byte c.1 → c.0 ≡ descriptors t → type_of t ≡ kind_type c.1 → (ts : List Tree) (text : List ℕ) → IsItems ((canonical d).element c) ts text → EachIsAlike t (trees_of ts)
each_alike d c t late told type [] text h = tt
each_alike d c t late told type (u ∷ us) text h =
    ((sym (element_told d c late u h.0 h.2) ∙ told, element_type d c u h.0 late h.2 ∙ sym type), each_alike d c t late told type us h.1 h.3)

of_one_type : (d : ℕ) (c : Elements) → 64 ≤ kind_byte c.1 → (ts : List Tree) (text : List ℕ) → IsItems ((canonical d).element c) ts text → AreOfOneType (trees_of ts)
of_one_type d c late [] text h = tt
of_one_type d c late (t ∷ ts) text h = each_alike d c t late (element_told d c late t h.0 h.2) (element_type d c t h.0 late h.2) ts h.1 h.3

-- ---- elements without bytes

-- a code among the first six is that of a kind without a content
early_octet : (k : Octet) → kind_byte (kind.Single (single.Octet k)) ≤ 69 → ⊥
early_octet octet.Ubyte h = omega (arith, h)
early_octet octet.Byte h = omega (arith, h)
early_octet octet.Uint h = omega (arith, h)
early_octet octet.Int h = omega (arith, h)
early_octet octet.Ulong h = omega (arith, h)
early_octet octet.Long h = omega (arith, h)

early_wide : (k : Wide) → kind_byte (kind.Single (single.Wide k)) ≤ 69 → ⊥
early_wide wide.Ushort h = omega (arith, h)
early_wide wide.Short h = omega (arith, h)
early_wide wide.Uint h = omega (arith, h)
early_wide wide.Int h = omega (arith, h)
early_wide wide.Float h = omega (arith, h)
early_wide wide.Decimal32 h = omega (arith, h)
early_wide wide.Ulong h = omega (arith, h)
early_wide wide.Long h = omega (arith, h)
early_wide wide.Double h = omega (arith, h)
early_wide wide.Timestamp h = omega (arith, h)
early_wide wide.Decimal64 h = omega (arith, h)

early_bare : (k : Kind) → 64 ≤ kind_byte k → kind_byte k ≤ 69 → is_bare k ≡ true
early_bare (kind.Single (single.Bare k)) late early = refl
early_bare (kind.Single single.Boolean) late early = absurd (omega (arith, early))
early_bare (kind.Single (single.Octet k)) late early = absurd (early_octet k early)
early_bare (kind.Single (single.Wide k)) late early = absurd (early_wide k early)
early_bare (kind.Single single.Char) late early = absurd (omega (arith, early))
early_bare (kind.Single (single.Sixteen sixteen.Decimal128)) late early = absurd (omega (arith, early))
early_bare (kind.Single (single.Sixteen sixteen.Uuid)) late early = absurd (omega (arith, early))
early_bare (kind.Single (single.Text text.Binary size.Short)) late early = absurd (omega (arith, early))
early_bare (kind.Single (single.Text text.Binary size.Long)) late early = absurd (omega (arith, early))
early_bare (kind.Single (single.Text text.String size.Short)) late early = absurd (omega (arith, early))
early_bare (kind.Single (single.Text text.String size.Long)) late early = absurd (omega (arith, early))
early_bare (kind.Single (single.Text text.Symbol size.Short)) late early = absurd (omega (arith, early))
early_bare (kind.Single (single.Text text.Symbol size.Long)) late early = absurd (omega (arith, early))
early_bare kind.EmptyList late early = refl
early_bare (kind.List size.Short) late early = absurd (omega (arith, early))
early_bare (kind.List size.Long) late early = absurd (omega (arith, early))
early_bare (kind.Map size.Short) late early = absurd (omega (arith, early))
early_bare (kind.Map size.Long) late early = absurd (omega (arith, early))
early_bare (kind.Array size.Short) late early = absurd (omega (arith, early))
early_bare (kind.Array size.Long) late early = absurd (omega (arith, early))
early_bare kind.Described late early = absurd (omega (arith, late))

-- what is known of a kind without a content
record IsEarly (k : Kind) : Type 0 where
  byte : kind_byte k ≤ 69
  head : head_len k ≡ 0
  type : (kind_type k < 148) ⊎ (k ≡ kind.EmptyList)

bare_early : (k : Kind) → is_bare k ≡ true → IsEarly k
bare_early (kind.Single (single.Bare bare.Null)) b = record { byte = omega arith; head = refl; type = inl (omega arith) }
bare_early (kind.Single (single.Bare bare.True)) b = record { byte = omega arith; head = refl; type = inl (omega arith) }
bare_early (kind.Single (single.Bare bare.False)) b = record { byte = omega arith; head = refl; type = inl (omega arith) }
bare_early (kind.Single (single.Bare bare.Uint)) b = record { byte = omega arith; head = refl; type = inl (omega arith) }
bare_early (kind.Single (single.Bare bare.Ulong)) b = record { byte = omega arith; head = refl; type = inl (omega arith) }
bare_early (kind.Single single.Boolean) b = absurd cc
bare_early (kind.Single (single.Octet k)) b = absurd cc
bare_early (kind.Single (single.Wide k)) b = absurd cc
bare_early (kind.Single single.Char) b = absurd cc
bare_early (kind.Single (single.Sixteen k)) b = absurd cc
bare_early (kind.Single (single.Text k z)) b = absurd cc
bare_early kind.EmptyList b = record { byte = omega arith; head = refl; type = inr refl }
bare_early (kind.List z) b = absurd cc
bare_early (kind.Map z) b = absurd cc
bare_early (kind.Array z) b = absurd cc
bare_early kind.Described b = absurd cc

-- numbers have no bytes but those that the kind decides
scalar_short : (s : Scalar) → scalar_type s < 148 → scalar_body s ≡ 0
scalar_short (decimal128 s) h = absurd (omega (arith, h))
scalar_short (uuid s) h = absurd (omega (arith, h))
scalar_short (binary s) h = absurd (omega (arith, h))
scalar_short (string s) h = absurd (omega (arith, h))
scalar_short (symbol s) h = absurd (omega (arith, h))
scalar_short null h = refl
scalar_short (boolean b) h = refl
scalar_short (ubyte n) h = refl
scalar_short (byte z) h = refl
scalar_short (ushort n) h = refl
scalar_short (short z) h = refl
scalar_short (uint n) h = refl
scalar_short (int z) h = refl
scalar_short (ulong n) h = refl
scalar_short (long z) h = refl
scalar_short (float n) h = refl
scalar_short (double n) h = refl
scalar_short (decimal32 n) h = refl
scalar_short (decimal64 n) h = refl
scalar_short (char n) h = refl
scalar_short (timestamp z) h = refl

-- an element of such a kind has no bytes at all
body_none : (t : Tree) (k : Kind) → IsEarly k → IsWider (written t).kind k → body_len t ≡ 0
body_none (scalar s) k e w = by e.type
  where
    same : kind_type k ≡ scalar_type s
    same = sym w.alike ∙ first_type s

    by : (kind_type k < 148) ⊎ (k ≡ kind.EmptyList) → scalar_body s ≡ 0
    by (inl low) = scalar_short s (omega (arith, low, same))
    by (inr empty) = absurd (omega (arith, same, scalar_type_is s, ap kind_type empty))
body_none (list ts) k e w = by e.type
  where
    by : (kind_type k < 148) ⊎ (k ≡ kind.EmptyList) → length (written_each ts).text ≡ 0
    by (inl low) = absurd (omega (arith, low, w.alike, list_type (written_each ts).count (written_each ts).text))
    by (inr empty) =
        let none = list_empty (written_each ts).count (written_each ts).text (subst (IsWider (list_kind (written_each ts).count (written_each ts).text)) empty w) in
        ap length (none_text ts none)
body_none (mapping ps) k e w = by e.type
  where
    same : kind_type k ≡ 209
    same = sym w.alike ∙ tree_type (mapping ps)

    by : (kind_type k < 148) ⊎ (k ≡ kind.EmptyList) → body_len (mapping ps) ≡ 0
    by (inl low) = absurd (omega (arith, low, same))
    by (inr empty) = absurd (omega (arith, same, ap kind_type empty))
body_none (array ts) k e w = by e.type
  where
    same : kind_type k ≡ 240
    same = sym w.alike ∙ tree_type (array ts)

    by : (kind_type k < 148) ⊎ (k ≡ kind.EmptyList) → body_len (array ts) ≡ 0
    by (inl low) = absurd (omega (arith, low, same))
    by (inr empty) = absurd (omega (arith, same, ap kind_type empty))
body_none (described x t) k e w = body_none t k e w

bodies_none : (ts : Trees) (k : Kind) → IsEarly k → EachIsWider ts k → bodies_len ts ≡ 0
bodies_none no_trees k e w = refl
bodies_none (tree t ts) k e w = omega (arith, body_none t k e w.0, bodies_none ts k e w.1)

contents_none : (ts : Trees) (k : Kind) → IsEarly k → EachIsWider ts k → length ((written_each ts).contents k) ≡ 0
contents_none ts k e w = contents_len ts k w ∙ ap (λ (h : ℕ). (written_each ts).count * h + bodies_len ts) e.head ∙ omega (arith, bodies_none ts k e w)

pub list_again : (ts : List Tree) → tree_list (trees_of ts) ≡ ts
list_again ts = trees_same (tree_list (trees_of ts)) ts (sym (trees_again (trees_of ts)))

-- where the kind that is written of the elements has no content, the first constructor's has none
few_elements : (d : ℕ) (c : Elements) (ts : List Tree) (front text : List ℕ) → IsConstructorOf (IsCanonicalOf d) c front → IsItems ((canonical d).element c) ts text → IsFirstConstructor (canonical d) c ts
    → EachInTrees IsInRange (trees_of ts) → EachIsWritable (trees_of ts) → ts ≢ [] → is_bare (written_each (trees_of ts)).kind ≡ true → is_bare c.1 ≡ true
few_elements d c [] front text told items first ranged writable some b = absurd (some refl)
few_elements d c (t ∷ ts) front text told items first ranged writable some b =
    let w = written_each (trees_of (t ∷ ts)) in
    let late = constructor_late (IsCanonicalOf d) c front told in
    let early = bare_early w.kind b in
    let alike = of_one_type d c late (t ∷ ts) text items in
    let wide = (shared_wide t t (trees_of ts) refl alike).1 in
    let deep = items_depth d ((canonical d).element c) (λ u text h. (level_depth d).element c u text ((level_within d).element c u text h)) (t ∷ ts) text items in
    let wells = each_well d (trees_of (t ∷ ts)) deep ranged writable in
    let brief : length (w.contents w.kind) < 2 ^ 32 = omega (arith, contents_none (trees_of (t ∷ ts)) w.kind early wide) in
    let same : descriptors t ≡ c.0 = sym (element_told d c late t items.0 items.2) in
    let each = elements_are d (descriptors t) (trees_of (t ∷ ts)) w.kind wells wide (refl, each_described t (trees_of ts) alike) brief in
    let behind : IsItems ((canonical d).element (c.0, w.kind)) (t ∷ ts) (w.contents w.kind) =
    subst (λ (us : List Tree). IsItems ((canonical d).element (c.0, w.kind)) us (w.contents w.kind)) (list_again (t ∷ ts)) (subst (λ (ds : List Tree). IsItems ((canonical d).element (ds, w.kind)) (tree_list (trees_of (t ∷ ts))) (w.contents w.kind)) same each) in
    let kept : 64 ≤ kind_byte w.kind = omega (arith, tree_late t, wide.0.up.later) in
    let again : IsConstructorOf (IsCanonicalOf d) (c.0, w.kind) (told.0 ++ (kind_byte w.kind ∷ [])) = (told.0, kind_byte w.kind ∷ [], told.2, (late_plain w.kind kept, refl), refl) in
    early_bare c.1 late (omega (arith, early.byte, (first (c.0, w.kind) _ _ again behind).1))

-- ---- values

-- a value whose numbers are of their types is as it must be
abbrev pub IsFine : Tree → Type 0
IsFine t = IsRanged t → IsWritable t

abbrev pub AreFine : List Tree → Type 0
AreFine [] = Unit {0}
AreFine (t ∷ ts) = IsFine t × AreFine ts

-- what stands inside values of at most this depth
pub record AreInsideFine (d : ℕ) : Type 0 where
  pub content : (k : Kind) (t : Tree) (text : List ℕ) → (canonical d).content k t text → IsFine t
  pub element : (c : Elements) (t : Tree) (text : List ℕ) → AreFine c.0 → (canonical d).element c t text → IsFine t

items_fine : (R : Tree → List ℕ → Type 0) → ((t : Tree) (text : List ℕ) → R t text → IsFine t) → (ts : List Tree) (text : List ℕ) → IsItems R ts text → EachInTrees IsInRange (trees_of ts) → EachIsWritable (trees_of ts)
items_fine R fine [] text h r = tt
items_fine R fine (t ∷ ts) text h r = (fine t h.0 h.2 r.0, items_fine R fine ts h.1 h.3 r.1)

pairs_fine : (R : Tree → List ℕ → Type 0) → ((t : Tree) (text : List ℕ) → R t text → IsFine t) → (ps : List (Tree × Tree)) (text : List ℕ) → IsItems (IsPair R R) ps text → EachInPairs IsInRange (pairs_of ps) → PairsAreWritable (pairs_of ps)
pairs_fine R fine [] text h r = tt
pairs_fine R fine (p ∷ ps) text h r = (fine p.0 h.2.0 h.2.2 r.0, fine p.1 h.2.1 h.2.3 r.1, pairs_fine R fine ps h.1 h.3 r.2)

descriptors_fine : (R : Tree → List ℕ → Type 0) → ((t : Tree) (text : List ℕ) → R t text → IsFine t) → (ts : List Tree) (text : List ℕ) → IsItems (IsDescriptorOf R) ts text → AreFine ts
descriptors_fine R fine [] text h = tt
descriptors_fine R fine (t ∷ ts) text h = (fine t h.2.0 h.2.1, descriptors_fine R fine ts h.1 h.3)

flat_fine : (k : Kind) (t : Tree) (text : List ℕ) → IsFlat k t text → IsFine t
flat_fine (kind.Single k) t text h r = subst IsWritable (sym h.1) (single_proper k h.0 text h.2)
flat_fine kind.EmptyList t text h r = absurd h
flat_fine (kind.List z) t text h r = absurd h
flat_fine (kind.Map z) t text h r = absurd h
flat_fine (kind.Array z) t text h r = absurd h
flat_fine kind.Described t text h r = absurd h

pub value_fine : (d : ℕ) → AreInsideFine d → (t : Tree) (text : List ℕ) → IsCanonicalOf d t text → IsFine t
value_fine d i t text h = i.content h.0 t h.1 h.2

-- the elements of an array
elements_fine : (d : ℕ) → AreInsideFine d → (c : Elements) (n : ℕ) (ts : List Tree) (front text : List ℕ) → IsConstructorOf (IsCanonicalOf d) c front → IsFirstConstructor (canonical d) c ts → (IsTrue (is_bare c.1) → n ≤ 65536)
    → length ts ≡ n → IsItems ((canonical d).element c) ts text → EachInTrees IsInRange (trees_of ts) → IsWritable (array (trees_of ts))
elements_fine d i c n ts front text told first few count items r = (writable, of_one_type d c (constructor_late (IsCanonicalOf d) c front told) ts text items, most ts refl)
  where
    writable : EachIsWritable (trees_of ts)
    writable = items_fine ((canonical d).element c) (λ t text h. i.element c t text (descriptors_fine (IsCanonicalOf d) (value_fine d i) c.0 told.0 told.2) h) ts text items r

    same : (written_each (trees_of ts)).count ≡ n
    same = sym (list_count (trees_of ts)) ∙ ap length (list_again ts) ∙ count

    most : (us : List Tree) → us ≡ ts → IsTrue (is_bare (written_each (trees_of ts)).kind) → (written_each (trees_of ts)).count ≤ 65536
    most [] e b = omega (arith, same, count, ap length e)
    most (u ∷ us) e b = omega (arith, same, few (few_elements d c ts front text told items first r writable (λ none. absurd (cc (e, none))) b))

deep_fine : (d : ℕ) → AreInsideFine d → (k : Kind) (t : Tree) (text : List ℕ) → IsDeepOf (IsFirstCode (canonical d).content) (IsFirstElements (canonical d)) k t text → IsFine t
deep_fine d i (kind.Single k) t text h r = subst IsWritable (sym h.1) (single_proper k h.0 text h.2)
deep_fine d i kind.EmptyList t text h r = subst IsWritable (sym h.0) tt
deep_fine d i (kind.List z) t text h r =
    let items = h.2.1 in
    subst IsWritable (sym h.1) (items_fine (IsCanonicalOf d) (value_fine d i) h.0 items.2 items.4.1 (subst IsRanged h.1 r))
deep_fine d i (kind.Map z) t text h r =
    let items = h.2.1 in
    subst IsWritable (sym h.1) (pairs_fine (IsCanonicalOf d) (value_fine d i) h.0 items.2 items.4.1 (subst IsRanged h.1 r))
deep_fine d i (kind.Array z) t text h r =
    let n = h.2.1.0 in
    let shape = h.2.1.4 in
    subst IsWritable (sym h.1) (elements_fine d i shape.0 n h.0 shape.1 shape.2 shape.3 shape.4.0 shape.4.1 shape.4.2.0 shape.4.2.1 (subst IsRanged h.1 r))
deep_fine d i kind.Described t text h r =
    let ranged = subst IsRanged h.1 r in
    subst IsWritable (sym h.1) (value_fine d i h.0.0 h.2.0 h.2.2 ranged.0, value_fine d i h.0.1 h.2.1 h.2.3 ranged.1)

pub level_fine : (d : ℕ) → AreInsideFine d
unfolding canonical
level_fine zero = record { content = flat_fine; element = element }
  where
    element : (c : Elements) (t : Tree) (text : List ℕ) → AreFine c.0 → IsElement 0 IsFlat (λ c t text. ⊥) c t text → IsFine t
    element ([], k) t text fine h = flat_fine k t text h
    element (x ∷ xs, k) t text fine h = absurd h.1.2
level_fine (suc d) = record { content = deep_fine d (level_fine d); element = element (level_fine d) }
  where
    element : AreInsideFine d → (c : Elements) (t : Tree) (text : List ℕ) → AreFine c.0 → IsElement d (IsDeepOf (IsFirstCode (canonical d).content) (IsFirstElements (canonical d))) (canonical d).element c t text → IsFine t
    element i ([], k) t text fine h = deep_fine d i k t text h
    element i (x ∷ xs, k) t text fine h = λ r.
        let ranged = subst IsRanged h.1.1 r in
        subst IsWritable (sym h.1.1) (fine.0 ranged.0, i.element (xs, k) h.1.0 text fine.1 h.1.2 ranged.1)

-- what has a canonical spelling can be written, if what is written of it is shorter than 4 GiB
pub canonical_has_spelling : (t : Tree) (text : List ℕ) → IsRanged t → IsCanonical t text → length (value_text t) < 2 ^ 32 → HasSpelling t
canonical_has_spelling t text r h below =
    (plain_depth t text (canonical_is_plain t text h.0), value_fine 16 (level_fine 16) t text h.0 r, below, h.1)
