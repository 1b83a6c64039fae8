-- What is written of a value is its canonical spelling.
use Rattle.std.proofs.Common.{◌≡◌, ℕ, zero, suc, ◌*◌, ◌^◌, ◌<◌, ◌≤◌, Bool, true, false, List, []}
use Rattle.std.proofs.Common.{◌∷◌, ◌++◌, length, refl, sym, ap, subst, ◌∙◌, append_assoc, arith}
use Rattle.std.specs.Bool.{IsTrue}
use mathlib.Core.Logic.{◌⊎◌, inl, inr}
use Rattle.std.proofs.lemmas.List.{length-append, nil_from_length}
use Rattle.wire_base.specs.Spelling.{IsPair, IsItems}
use Rattle.types_10.specs.Tree.{Scalar, Tree, scalar, list, mapping, array, described, Trees}
use Rattle.types_10.specs.Tree.{no_trees, tree, trees_of, Pairs, no_pairs, pair, pairs_of, depth}
use Rattle.types_10.specs.Tree.{trees_depth, pairs_depth}
use Rattle.types_10.specs.Kinds.{kind_byte, is_bare}
use Rattle.types_10.specs.Grammar.{Elements, IsDescriptorOf, IsConstructorOf, IsTimes}
use Rattle.types_10.specs.Canonical.{IsFirstConstructor, canonical, IsCanonicalOf, IsCanonical}
use Rattle.types_10.specs.Ranges.{IsInRange, IsRanged, EachInTrees, EachInPairs}
use Rattle.types_10.specs.Writing.{single_kind, single_content, scalar_content, descriptors}
use Rattle.types_10.specs.Writing.{Written, plain, array_body, list_kind, map_kind, array_kind}
use Rattle.types_10.specs.Writing.{held_content, written, written_each, written_pairs, value_text}
use Rattle.types_10.specs.Writing.{IsProper, EachIsAlike, AreOfOneType, IsWritable, EachIsWritable}
use Rattle.types_10.specs.Writing.{PairsAreWritable, HasSpelling}
use Rattle.types_10.proofs.Wider.{of_list, of_map, of_array, scalar_type_is, IsUpTo, IsWider}
use Rattle.types_10.proofs.Wider.{same_wider, later_wider, shared_first}
use Rattle.types_10.proofs.Written.{first_type, single_first, single_has_content}
use Rattle.types_10.proofs.Elements.{late_plain, constructor_late, plain_constructor, element_told}
use Rattle.types_10.proofs.Elements.{plain_in, plain_out, scalar_in, scalar_out, element_some}
use Rattle.types_10.proofs.Elements.{items_count}
use Rattle.types_10.proofs.Alone.{IsFirstBody, trees_same, pairs_same, values_alone, entries_alone}
use Rattle.types_10.proofs.Alone.{bodies_alone}
use Rattle.types_10.proofs.Types.{list_type, map_type, array_type, tree_late, EachIsWider}
use Rattle.types_10.proofs.Types.{shared_wide, none_text}
use Rattle.types_10.proofs.Held.{IsHeld, list_for, empty_for, list_empty, list_held, sized_for}
use Rattle.types_10.proofs.Held.{sized_held, filled_is, filled_has, body_short}
use Rattle.types_10.specs.declared.kind.Kind.{Kind}
use Rattle.types_10.specs.declared.kind.Kind.TheVariants as kind
use Rattle.types_10.specs.declared.kind.Single.TheVariants as single
use Rattle.types_10.specs.declared.kind.Bare.TheVariants as bare
use Rattle.types_10.specs.declared.kind.Size.{Size}

-- what is written of a value of at most this depth: the canonical spelling where it stands alone; its descriptors; the element under
-- each kind for it; and no earlier kind has an element
pub record IsWell (d : ℕ) (t : Tree) (w : Written) : Type 0 where
  pub text : length w.text < 2 ^ 32 → IsCanonicalOf d t w.text
  front : length w.front < 2 ^ 32 → IsItems (IsDescriptorOf (IsCanonicalOf d)) (descriptors t) w.front
  element : (k : Kind) → IsWider w.kind k → length (w.content k) < 2 ^ 32 → (canonical d).element (descriptors t, k) t (w.content k)
  first : (k : Kind) → IsWider w.kind k → length (w.content k) < 2 ^ 32 → (e : Elements) → 64 ≤ kind_byte e.1 → (text : List ℕ) → (canonical d).element e t text → IsWider w.kind e.1

-- ---- values that are not described

-- the contents of a value, and that no earlier kind has one
record HasContents (d : ℕ) (t : Tree) (first_kind : Kind) (content : Kind → List ℕ) : Type 0 where
  has : (k : Kind) → IsWider first_kind k → length (content k) < 2 ^ 32 → (canonical d).content k t (content k)
  first : (k : Kind) → IsWider first_kind k → length (content k) < 2 ^ 32 → (j : Kind) (other : List ℕ) → (canonical d).content j t other → IsWider first_kind j

plain_well : (d : ℕ) (t : Tree) (k : Kind) (content : Kind → List ℕ) → descriptors t ≡ [] → HasContents d t k content → IsWell d t (plain k content)
plain_well d t k content e h = record { text = alone; front = front; element = element; first = first }
  where
    alone : length (kind_byte k ∷ content k) < 2 ^ 32 → IsCanonicalOf d t (kind_byte k ∷ content k)
    alone l =
        let short : length (content k) < 2 ^ 32 = omega arith in
        (k, content k, h.has k (same_wider k) short, refl, λ j other g. (h.first k (same_wider k) short j other g).up.later)

    front : length {A = ℕ} [] < 2 ^ 32 → IsItems (IsDescriptorOf (IsCanonicalOf d)) (descriptors t) []
    front l = subst (λ (ds : List Tree). IsItems (IsDescriptorOf (IsCanonicalOf d)) ds []) (sym e) refl

    element : (j : Kind) → IsWider k j → length (content j) < 2 ^ 32 → (canonical d).element (descriptors t, j) t (content j)
    element j w l = subst (λ (ds : List Tree). (canonical d).element (ds, j) t (content j)) (sym e) (plain_in d j t (content j) (h.has j w l))

    first : (j : Kind) → IsWider k j → length (content j) < 2 ^ 32 → (c : Elements) → 64 ≤ kind_byte c.1 → (text : List ℕ) → (canonical d).element c t text → IsWider k c.1
    first j w l c late text g =
        let none : c.0 ≡ [] = element_told d c late t text g ∙ e in
        h.first j w l c.1 text (plain_out d c.1 t text (subst (λ (ds : List Tree). (canonical d).element (ds, c.1) t text) none g))

-- ---- values that hold no other

scalar_contents : (d : ℕ) (s : Scalar) → IsInRange s → IsProper s → HasContents d (scalar s) (kind.Single (single_kind s)) (λ k. scalar_content k s)
scalar_contents d s r p = record { has = has; first = λ k w l. first }
  where
    has : (k : Kind) → IsWider (kind.Single (single_kind s)) k → length (scalar_content k s) < 2 ^ 32 → (canonical d).content k (scalar s) (scalar_content k s)
    has (kind.Single k) w l = scalar_in d k s (single_content k s) (single_has_content k s w r p l)
    has kind.EmptyList w l = absurd (omega (arith, w.alike, first_type s, scalar_type_is s))
    has (kind.List z) w l = absurd (omega (arith, w.alike, first_type s, scalar_type_is s))
    has (kind.Map z) w l = absurd (omega (arith, w.alike, first_type s, scalar_type_is s))
    has (kind.Array z) w l = absurd (omega (arith, w.alike, first_type s, scalar_type_is s))
    has kind.Described w l = absurd (omega (arith, w.alike, first_type s, scalar_type_is s))

    first : (j : Kind) (other : List ℕ) → (canonical d).content j (scalar s) other → IsWider (kind.Single (single_kind s)) j
    first j other h =
        let o = scalar_out d j s other h in
        subst (λ (j : Kind). IsWider (kind.Single (single_kind s)) j) (sym o.1) (single_first o.0 s other o.2)

scalar_well : (d : ℕ) (s : Scalar) → IsInRange s → IsProper s → IsWell d (scalar s) (written (scalar s))
scalar_well d s r p = plain_well d (scalar s) (kind.Single (single_kind s)) (λ k. scalar_content k s) refl (scalar_contents d s r p)

-- ---- what is written of each value of a list, and of a map

abbrev pub tree_list : Trees → List Tree
tree_list no_trees = []
tree_list (tree t ts) = t ∷ tree_list ts

abbrev pub pair_list : Pairs → List (Tree × Tree)
pair_list no_pairs = []
pair_list (pair k t ps) = (k, t) ∷ pair_list ps

pub trees_again : (ts : Trees) → ts ≡ trees_of (tree_list ts)
trees_again no_trees = refl
trees_again (tree t ts) = ap (tree t) (trees_again ts)

pub pairs_again : (ps : Pairs) → ps ≡ pairs_of (pair_list ps)
pairs_again no_pairs = refl
pairs_again (pair k t ps) = ap (pair k t) (pairs_again ps)

abbrev pub EachIsWell : ℕ → Trees → Type 0
EachIsWell d no_trees = Unit {0}
EachIsWell d (tree t ts) = IsWell d t (written t) × EachIsWell d ts

abbrev PairsAreWell : ℕ → Pairs → Type 0
PairsAreWell d no_pairs = Unit {0}
PairsAreWell d (pair k t ps) = IsWell d k (written k) × IsWell d t (written t) × PairsAreWell d ps

-- the values, one after another
texts_are : (d : ℕ) (ts : Trees) → EachIsWell d ts → length (written_each ts).text < 2 ^ 32 → IsItems (IsCanonicalOf d) (tree_list ts) (written_each ts).text
texts_are d no_trees h l = refl
texts_are d (tree t ts) h l =
    let parts = length-append (written t).text (written_each ts).text in
    ((written t).text, (written_each ts).text, h.0.text (omega (arith, parts)), texts_are d ts h.1 (omega (arith, parts)), refl)

entries_are : (d : ℕ) (ps : Pairs) → PairsAreWell d ps → length (written_pairs ps).1 < 2 ^ 32 → IsItems (IsPair (IsCanonicalOf d) (IsCanonicalOf d)) (pair_list ps) (written_pairs ps).1
entries_are d no_pairs h l = refl
entries_are d (pair k t ps) h l =
    let front = (written k).text ++ (written t).text in
    let parts = length-append front (written_pairs ps).1 in
    let more = length-append (written k).text (written t).text in (
      front,
      (written_pairs ps).1,
      ((written k).text, (written t).text, h.0.text (omega (arith, parts, more)), h.1.text (omega (arith, parts, more)), refl),
      entries_are d ps h.2 (omega (arith, parts)),
      refl,
    )

pub list_count : (ts : Trees) → length (tree_list ts) ≡ (written_each ts).count
list_count no_trees = refl
list_count (tree t ts) = omega (arith, list_count ts)

pub pair_count : (ps : Pairs) → (written_pairs ps).0 ≡ 2 * length (pair_list ps)
pair_count no_pairs = refl
pair_count (pair k t ps) = omega (arith, pair_count ps)

value_some : (d : ℕ) (t : Tree) (text : List ℕ) → IsCanonicalOf d t text → 1 ≤ length text
value_some d t text h = omega (arith, ap length h.3)

-- a key and a value have two bytes at least
pairs_few : (d : ℕ) (ps : List (Tree × Tree)) (text : List ℕ) → IsItems (IsPair (IsCanonicalOf d) (IsCanonicalOf d)) ps text → 2 * length ps ≤ length text
pairs_few d [] text h = omega arith
pairs_few d (p ∷ ps) text h =
    let x = h.2 in
    omega (arith, pairs_few d ps h.1 h.3, ap length h.4, length-append h.0 h.1, ap length x.4, length-append x.0 x.1, value_some d p.0 x.0 x.2, value_some d p.1 x.1 x.3)

-- ---- lists

-- a list's count and its values
record IsListed (d : ℕ) (ts : List Tree) (n : ℕ) (body : List ℕ) : Type 0 where
  count : length ts ≡ n
  none : n ≡ 0 → body ≡ []
  items : length body < 2 ^ 32 → IsItems (IsCanonicalOf d) ts body

list_short : (d : ℕ) (ts : List Tree) (n : ℕ) (body : List ℕ) → IsListed d ts n body → (k : Kind) → IsWider (list_kind n body) k → length (held_content k n body) < 2 ^ 32 → length body < 2 ^ 32
list_short d ts n body h k w =
    of_list (λ k. IsWider (list_kind n body) k → length (held_content k n body) < 2 ^ 32 → length body < 2 ^ 32)
    (λ w l. omega (arith, ap length (h.none (list_empty n body w)))) (λ z w l. body_short z n body l) k (sym w.alike ∙ list_type n body) w

list_holds : (d : ℕ) (ts : List Tree) (n : ℕ) (body : List ℕ) → IsListed d ts n body → (z : Size) → IsWider (list_kind n body) (kind.List z) → length (held_content (kind.List z) n body) < 2 ^ 32
    → (canonical (suc d)).content (kind.List z) (list (trees_of ts)) (held_content (kind.List z) n body)
unfolding canonical
list_holds d ts n body h z w l =
    let items = h.items (body_short z n body l) in
    let few : n ≤ length body = omega (arith, h.count, items_count (IsCanonicalOf d) (value_some d) ts body items) in
    let held = list_held z n body w few (λ e. ap length (h.none e)) l in
    (ts, refl, filled_is (λ n. IsTimes (IsCanonicalOf d) n) z n body ts held (h.count, items))

empty_holds : (d : ℕ) (ts : List Tree) → ts ≡ [] → (canonical (suc d)).content kind.EmptyList (list (trees_of ts)) []
unfolding canonical
empty_holds d ts e = (ap (λ (ts : List Tree). list (trees_of ts)) e, refl)

list_has : (d : ℕ) (ts : List Tree) (n : ℕ) (body : List ℕ) → IsListed d ts n body → (k : Kind) → IsWider (list_kind n body) k → length (held_content k n body) < 2 ^ 32
    → (canonical (suc d)).content k (list (trees_of ts)) (held_content k n body)
list_has d ts n body h k w =
    of_list (λ k. IsWider (list_kind n body) k → length (held_content k n body) < 2 ^ 32 → (canonical (suc d)).content k (list (trees_of ts)) (held_content k n body))
    (λ w l. empty_holds d ts (nil_from_length ts (h.count ∙ list_empty n body w))) (list_holds d ts n body h) k (sym w.alike ∙ list_type n body) w

list_first : (d : ℕ) (ts : List Tree) (n : ℕ) (body : List ℕ) → IsListed d ts n body → length body < 2 ^ 32 → (j : Kind) (other : List ℕ) → (canonical (suc d)).content j (list (trees_of ts)) other → IsWider (list_kind n body) j
unfolding canonical
list_first d ts n body h l (kind.Single j) other g = absurd cc
list_first d ts n body h l kind.EmptyList other g =
    let none : ts ≡ [] = trees_same ts [] cc in
    empty_for n body (sym h.count ∙ ap length none)
list_first d ts n body h l (kind.List z) other g =
    let same : g.0 ≡ ts = trees_same g.0 ts cc in
    let f = filled_has (λ n. IsTimes (IsCanonicalOf d) n) z g.0 other g.2 in
    let count : f.0 ≡ n = sym f.2.0 ∙ ap length same ∙ h.count in
    let items : f.1 ≡ body = values_alone d ts f.1 body (subst (λ (us : List Tree). IsItems (IsCanonicalOf d) us f.1) same f.2.1) (h.items l) in
    list_for z n body (subst (λ (m : ℕ). IsHeld z m body) count (subst (λ (b : List ℕ). IsHeld z f.0 b) items f.3))
list_first d ts n body h l (kind.Map z) other g = absurd cc
list_first d ts n body h l (kind.Array z) other g = absurd cc
list_first d ts n body h l kind.Described other g = absurd cc

list_contents : (d : ℕ) (ts : List Tree) (n : ℕ) (body : List ℕ) → IsListed d ts n body → HasContents (suc d) (list (trees_of ts)) (list_kind n body) (λ k. held_content k n body)
list_contents d ts n body h = record { has = list_has d ts n body h; first = λ k w l. list_first d ts n body h (list_short d ts n body h k w l) }

list_well : (d : ℕ) (ts : Trees) → EachIsWell d ts → IsWell (suc d) (list ts) (written (list ts))
list_well d ts h =
    let n = (written_each ts).count in
    let body = (written_each ts).text in
    let listed : IsListed d (tree_list ts) n body = record { count = list_count ts; none = none_text ts; items = texts_are d ts h } in
    plain_well (suc d) (list ts) (list_kind n body) (λ k. held_content k n body) refl
    (subst (λ (us : Trees). HasContents (suc d) (list us) (list_kind n body) (λ k. held_content k n body)) (sym (trees_again ts)) (list_contents d (tree_list ts) n body listed))

-- ---- maps

-- a map's count of keys and values, and its pairs
record IsMapped (d : ℕ) (ps : List (Tree × Tree)) (n : ℕ) (body : List ℕ) : Type 0 where
  count : n ≡ 2 * length ps
  items : length body < 2 ^ 32 → IsItems (IsPair (IsCanonicalOf d) (IsCanonicalOf d)) ps body

abbrev IsEntries : ℕ → ℕ → List (Tree × Tree) → List ℕ → Type 0
IsEntries d n ps text = (n ≡ 2 * length ps) × IsItems (IsPair (IsCanonicalOf d) (IsCanonicalOf d)) ps text

map_short : (n : ℕ) (body : List ℕ) (k : Kind) → IsWider (map_kind n body) k → length (held_content k n body) < 2 ^ 32 → length body < 2 ^ 32
map_short n body k w = of_map (λ k. length (held_content k n body) < 2 ^ 32 → length body < 2 ^ 32) (λ z l. body_short z n body l) k (sym w.alike ∙ map_type n body)

map_holds : (d : ℕ) (ps : List (Tree × Tree)) (n : ℕ) (body : List ℕ) → IsMapped d ps n body → (z : Size) → IsWider (map_kind n body) (kind.Map z) → length (held_content (kind.Map z) n body) < 2 ^ 32
    → (canonical (suc d)).content (kind.Map z) (mapping (pairs_of ps)) (held_content (kind.Map z) n body)
unfolding canonical
map_holds d ps n body h z w l =
    let short = body_short z n body l in
    let items = h.items short in
    let few : n < 2 ^ 32 = omega (arith, h.count, pairs_few d ps body items) in
    (ps, refl, filled_is (IsEntries d) z n body ps (sized_held kind.Map (omega arith) z n body w few l) (h.count, items))

map_has : (d : ℕ) (ps : List (Tree × Tree)) (n : ℕ) (body : List ℕ) → IsMapped d ps n body → (k : Kind) → IsWider (map_kind n body) k → length (held_content k n body) < 2 ^ 32
    → (canonical (suc d)).content k (mapping (pairs_of ps)) (held_content k n body)
map_has d ps n body h k w =
    of_map (λ k. IsWider (map_kind n body) k → length (held_content k n body) < 2 ^ 32 → (canonical (suc d)).content k (mapping (pairs_of ps)) (held_content k n body))
    (map_holds d ps n body h) k (sym w.alike ∙ map_type n body) w

map_first : (d : ℕ) (ps : List (Tree × Tree)) (n : ℕ) (body : List ℕ) → IsMapped d ps n body → length body < 2 ^ 32 → (j : Kind) (other : List ℕ) → (canonical (suc d)).content j (mapping (pairs_of ps)) other → IsWider (map_kind n body) j
unfolding canonical
map_first d ps n body h l (kind.Map z) other g =
    let same : g.0 ≡ ps = pairs_same g.0 ps cc in
    let f = filled_has (IsEntries d) z g.0 other g.2 in
    let count : f.0 ≡ n = f.2.0 ∙ ap (λ (ps : List (Tree × Tree)). 2 * length ps) same ∙ sym h.count in
    let items : f.1 ≡ body = entries_alone d ps f.1 body (subst (λ (qs : List (Tree × Tree)). IsItems (IsPair (IsCanonicalOf d) (IsCanonicalOf d)) qs f.1) same f.2.1) (h.items l) in
    sized_for kind.Map (later_wider _ _ refl refl refl) z n body (subst (λ (m : ℕ). IsHeld z m body) count (subst (λ (b : List ℕ). IsHeld z f.0 b) items f.3))
map_first d ps n body h l (kind.Single j) other g = absurd cc
map_first d ps n body h l kind.EmptyList other g = absurd cc
map_first d ps n body h l (kind.List z) other g = absurd cc
map_first d ps n body h l (kind.Array z) other g = absurd cc
map_first d ps n body h l kind.Described other g = absurd cc

map_contents : (d : ℕ) (ps : List (Tree × Tree)) (n : ℕ) (body : List ℕ) → IsMapped d ps n body → HasContents (suc d) (mapping (pairs_of ps)) (map_kind n body) (λ k. held_content k n body)
map_contents d ps n body h = record { has = map_has d ps n body h; first = λ k w l. map_first d ps n body h (map_short n body k w l) }

map_well : (d : ℕ) (ps : Pairs) → PairsAreWell d ps → IsWell (suc d) (mapping ps) (written (mapping ps))
map_well d ps h =
    let n = (written_pairs ps).0 in
    let body = (written_pairs ps).1 in
    let mapped : IsMapped d (pair_list ps) n body = record { count = pair_count ps; items = entries_are d ps h } in
    plain_well (suc d) (mapping ps) (map_kind n body) (λ k. held_content k n body) refl
    (subst (λ (qs : Pairs). HasContents (suc d) (mapping qs) (map_kind n body) (λ k. held_content k n body)) (sym (pairs_again ps)) (map_contents d (pair_list ps) n body mapped))

-- ---- elements of one type

-- the elements behind their constructor
abbrev pub EachIsDescribed : List Tree → Trees → Type 0
EachIsDescribed ds no_trees = Unit {0}
EachIsDescribed ds (tree t ts) = (descriptors t ≡ ds) × EachIsDescribed ds ts

pub each_described : (t : Tree) (ts : Trees) → EachIsAlike t ts → EachIsDescribed (descriptors t) ts
each_described t no_trees h = tt
each_described t (tree u ts) h = (h.0.0, each_described t ts h.1)

pub elements_are : (d : ℕ) (ds : List Tree) (ts : Trees) (k : Kind) → EachIsWell d ts → EachIsWider ts k → EachIsDescribed ds ts → length ((written_each ts).contents k) < 2 ^ 32
    → IsItems ((canonical d).element (ds, k)) (tree_list ts) ((written_each ts).contents k)
elements_are d ds no_trees k h w e l = refl
elements_are d ds (tree t ts) k h w e l =
    let parts = length-append ((written t).content k) ((written_each ts).contents k) in
    let one = h.0.element k w.0 (omega (arith, parts)) in
    ((written t).content k, (written_each ts).contents k, subst (λ (ds : List Tree). (canonical d).element (ds, k) t ((written t).content k)) e.0 one, elements_are d ds ts k h.1 w.1 e.1 (omega (arith, parts)), refl)

-- no earlier kind has elements for all
elements_first : (d : ℕ) (ts : Trees) (k : Kind) → EachIsWell d ts → EachIsWider ts k → length ((written_each ts).contents k) < 2 ^ 32
    → (e : Elements) → 64 ≤ kind_byte e.1 → (text : List ℕ) → IsItems ((canonical d).element e) (tree_list ts) text → IsUpTo (written_each ts).kind e.1
elements_first d no_trees k h w l e late text i = record { later = omega arith; only = λ b c. absurd (omega arith) }
elements_first d (tree t ts) k h w l e late text i =
    let parts = length-append ((written t).content k) ((written_each ts).contents k) in
    let one = (h.0.first k w.0 (omega (arith, parts)) e late i.0 i.2).up in
    shared_first (written t).kind (written_each ts).kind e.1 one (elements_first d ts k h.1 w.1 (omega (arith, parts)) e late i.1 i.3)

-- ---- arrays

-- the body of an array
pub body_is : (d : ℕ) (ts : Trees) → EachIsWell d ts → AreOfOneType ts → (IsTrue (is_bare (written_each ts).kind) → (written_each ts).count ≤ 65536) → length (array_body (written_each ts)) < 2 ^ 32
    → IsFirstBody (canonical d) (written_each ts).count (tree_list ts) (array_body (written_each ts))
body_is d no_trees h a f l =
    let null = kind.Single (single.Bare bare.Null) in
    (([], null), 64 ∷ [], [], plain_constructor (IsCanonicalOf d) null (omega arith), (λ e front text told i. (omega arith, constructor_late (IsCanonicalOf d) e front told), f, (refl, refl)), refl)
body_is d (tree t ts) h a f l =
    let w = written_each (tree t ts) in
    let wide = (shared_wide t t ts refl a).1 in
    let parts = length-append w.front (kind_byte w.kind ∷ w.contents w.kind) in
    let late : 64 ≤ kind_byte w.kind = omega (arith, tree_late t, wide.0.up.later) in
    let short : length (w.contents w.kind) < 2 ^ 32 = omega (arith, parts) in
    let code = kind_byte w.kind ∷ [] in
    let told : IsConstructorOf (IsCanonicalOf d) (descriptors t, w.kind) (w.front ++ code) = (w.front, code, h.0.front (omega (arith, parts)), (late_plain w.kind late, refl), refl) in
    let first : IsFirstConstructor (canonical d) (descriptors t, w.kind) (t ∷ tree_list ts) = λ e front text told i.
    let known = constructor_late (IsCanonicalOf d) e front told in
    (omega (arith, ap length (element_told d e known t i.0 i.2)), (elements_first d (tree t ts) w.kind h wide short e known text i).later) in
    let items = elements_are d (descriptors t) (tree t ts) w.kind h wide (refl, each_described t ts a) short in
    ((descriptors t, w.kind), w.front ++ code, w.contents w.kind, told, (first, f, (list_count (tree t ts), items)), sym (append_assoc w.front code (w.contents w.kind)))

bare_or_not : (b : Bool) → (b ≡ true) ⊎ (b ≡ false)
bare_or_not true = inl refl
bare_or_not false = inr refl

-- a count that stands before a body fits four bytes
body_few : (d n : ℕ) (ts : List Tree) (body : List ℕ) → IsFirstBody (canonical d) n ts body → length body < 2 ^ 32 → n < 2 ^ 32
body_few d n ts body h l = at (bare_or_not (is_bare h.0.1))
  where
    at : (is_bare h.0.1 ≡ true) ⊎ (is_bare h.0.1 ≡ false) → n < 2 ^ 32
    at (inl b) = omega (arith, h.4.1 b)
    at (inr b) = omega (arith, h.4.2.0, items_count ((canonical d).element h.0) (element_some d h.0 (constructor_late (IsCanonicalOf d) h.0 h.1 h.3) b) ts h.2 h.4.2.1, ap length h.5, length-append h.1 h.2)

-- an array's count and its body
record IsArray (d : ℕ) (ts : List Tree) (n : ℕ) (body : List ℕ) : Type 0 where
  count : length ts ≡ n
  items : length body < 2 ^ 32 → IsFirstBody (canonical d) n ts body

array_short : (n : ℕ) (body : List ℕ) (k : Kind) → IsWider (array_kind n body) k → length (held_content k n body) < 2 ^ 32 → length body < 2 ^ 32
array_short n body k w = of_array (λ k. length (held_content k n body) < 2 ^ 32 → length body < 2 ^ 32) (λ z l. body_short z n body l) k (sym w.alike ∙ array_type n body)

array_holds : (d : ℕ) (ts : List Tree) (n : ℕ) (body : List ℕ) → IsArray d ts n body → (z : Size) → IsWider (array_kind n body) (kind.Array z) → length (held_content (kind.Array z) n body) < 2 ^ 32
    → (canonical (suc d)).content (kind.Array z) (array (trees_of ts)) (held_content (kind.Array z) n body)
unfolding canonical
array_holds d ts n body h z w l =
    let short = body_short z n body l in
    let few = body_few d n ts body (h.items short) short in
    (ts, refl, filled_is (IsFirstBody (canonical d)) z n body ts (sized_held kind.Array (omega arith) z n body w few l) (h.items short))

array_has : (d : ℕ) (ts : List Tree) (n : ℕ) (body : List ℕ) → IsArray d ts n body → (k : Kind) → IsWider (array_kind n body) k → length (held_content k n body) < 2 ^ 32
    → (canonical (suc d)).content k (array (trees_of ts)) (held_content k n body)
array_has d ts n body h k w =
    of_array (λ k. IsWider (array_kind n body) k → length (held_content k n body) < 2 ^ 32 → (canonical (suc d)).content k (array (trees_of ts)) (held_content k n body))
    (array_holds d ts n body h) k (sym w.alike ∙ array_type n body) w

array_first : (d : ℕ) (ts : List Tree) (n : ℕ) (body : List ℕ) → IsArray d ts n body → length body < 2 ^ 32 → (j : Kind) (other : List ℕ) → (canonical (suc d)).content j (array (trees_of ts)) other → IsWider (array_kind n body) j
unfolding canonical
array_first d ts n body h l (kind.Array z) other g =
    let same : g.0 ≡ ts = trees_same g.0 ts cc in
    let f = filled_has (IsFirstBody (canonical d)) z g.0 other g.2 in
    let count : f.0 ≡ n = sym f.2.4.2.0 ∙ ap length same ∙ h.count in
    let items : f.1 ≡ body = bodies_alone d n ts f.1 body (subst (λ (us : List Tree). IsFirstBody (canonical d) n us f.1) same (subst (λ (m : ℕ). IsFirstBody (canonical d) m g.0 f.1) count f.2)) (h.items l) in
    sized_for kind.Array (later_wider _ _ refl refl refl) z n body (subst (λ (m : ℕ). IsHeld z m body) count (subst (λ (b : List ℕ). IsHeld z f.0 b) items f.3))
array_first d ts n body h l (kind.Single j) other g = absurd cc
array_first d ts n body h l kind.EmptyList other g = absurd cc
array_first d ts n body h l (kind.List z) other g = absurd cc
array_first d ts n body h l (kind.Map z) other g = absurd cc
array_first d ts n body h l kind.Described other g = absurd cc

array_contents : (d : ℕ) (ts : List Tree) (n : ℕ) (body : List ℕ) → IsArray d ts n body → HasContents (suc d) (array (trees_of ts)) (array_kind n body) (λ k. held_content k n body)
array_contents d ts n body h = record { has = array_has d ts n body h; first = λ k w l. array_first d ts n body h (array_short n body k w l) }

array_well : (d : ℕ) (ts : Trees) → EachIsWell d ts → AreOfOneType ts → (IsTrue (is_bare (written_each ts).kind) → (written_each ts).count ≤ 65536) → IsWell (suc d) (array ts) (written (array ts))
array_well d ts h a f =
    let n = (written_each ts).count in
    let body = array_body (written_each ts) in
    let arrayed : IsArray d (tree_list ts) n body = record { count = list_count ts; items = body_is d ts h a f } in
    plain_well (suc d) (array ts) (array_kind n body) (λ k. held_content k n body) refl
    (subst (λ (us : Trees). HasContents (suc d) (array us) (array_kind n body) (λ k. held_content k n body)) (sym (trees_again ts)) (array_contents d (tree_list ts) n body arrayed))

-- ---- described values

described_first : (d : ℕ) (x t : Tree) → IsWell d t (written t) → (k : Kind) → IsWider (written t).kind k → length ((written t).content k) < 2 ^ 32
    → (e : Elements) → 64 ≤ kind_byte e.1 → (text : List ℕ) → (canonical (suc d)).element e (described x t) text → IsWider (written t).kind e.1
unfolding canonical
described_first d x t h k w l ([], j) late text g = let told : [] ≡ x ∷ descriptors t = element_told (suc d) ([], j) late (described x t) text g in absurd cc
described_first d x t h k w l (y ∷ ys, j) late text g =
    let same : g.1.0 ≡ t = cc in
    h.first k w l (ys, j) late text (subst (λ (u : Tree). (canonical d).element (ys, j) u text) same g.1.2)

-- the descriptors of an array stand at the depth of its elements, and what stands in a described value one below
described_well : (d : ℕ) (x t : Tree) → depth x ≤ d → IsWell d x (written x) → IsWell d t (written t) → IsWell (suc d) x (written x) → IsWell (suc d) t (written t)
    → IsWell (suc d) (described x t) (written (described x t))
unfolding canonical
described_well d x t less h g descriptor value = record { text = alone; front = front; element = λ k w l. (less, (t, refl, g.element k w l)); first = described_first d x t g }
  where
    alone : length (0 ∷ (written x).text ++ (written t).text) < 2 ^ 32 → IsCanonicalOf (suc d) (described x t) (0 ∷ (written x).text ++ (written t).text)
    alone l =
        let parts = length-append (written x).text (written t).text in
        let both : IsPair (IsCanonicalOf d) (IsCanonicalOf d) (x, t) ((written x).text ++ (written t).text) = ((written x).text, (written t).text, h.text (omega (arith, parts)), g.text (omega (arith, parts)), refl) in
        (kind.Described, (written x).text ++ (written t).text, ((x, t), refl, both), refl, λ j other c. omega arith)

    front : length (0 ∷ (written x).text ++ (written t).front) < 2 ^ 32 → IsItems (IsDescriptorOf (IsCanonicalOf (suc d))) (x ∷ descriptors t) (0 ∷ (written x).text ++ (written t).front)
    front l =
        let parts = length-append (written x).text (written t).front in
        (0 ∷ (written x).text, (written t).front, ((written x).text, descriptor.text (omega (arith, parts)), refl), value.front (omega (arith, parts)), refl)

-- ---- all values

mutual
  pub tree_well : (d : ℕ) (t : Tree) → depth t ≤ d → IsRanged t → IsWritable t → IsWell d t (written t)
  tree_well d (scalar s) h r w = scalar_well d s r w
  tree_well zero (list ts) h r w = absurd (omega arith)
  tree_well (suc d) (list ts) h r w = list_well d ts (each_well d ts (omega arith) r w)
  tree_well zero (mapping ps) h r w = absurd (omega arith)
  tree_well (suc d) (mapping ps) h r w = map_well d ps (pairs_well d ps (omega arith) r w)
  tree_well zero (array ts) h r w = absurd (omega arith)
  tree_well (suc d) (array ts) h r w = array_well d ts (each_well d ts (omega arith) r w.0) w.1 w.2
  tree_well zero (described x t) h r w = absurd (omega arith)
  tree_well (suc d) (described x t) h r w =
      described_well d x t (omega arith) (tree_well d x (omega arith) r.0 w.0) (tree_well d t (omega arith) r.1 w.1) (tree_well (suc d) x (omega arith) r.0 w.0) (tree_well (suc d) t (omega arith) r.1 w.1)

  pub each_well : (d : ℕ) (ts : Trees) → trees_depth ts ≤ d → EachInTrees IsInRange ts → EachIsWritable ts → EachIsWell d ts
  each_well d no_trees h r w = tt
  each_well d (tree t ts) h r w = (tree_well d t (omega arith) r.0 w.0, each_well d ts (omega arith) r.1 w.1)

  pairs_well : (d : ℕ) (ps : Pairs) → pairs_depth ps ≤ d → EachInPairs IsInRange ps → PairsAreWritable ps → PairsAreWell d ps
  pairs_well d no_pairs h r w = tt
  pairs_well d (pair k t ps) h r w = (tree_well d k (omega arith) r.0 w.0, tree_well d t (omega arith) r.1 w.1, pairs_well d ps (omega arith) r.2 w.2)

pub written_is_canonical : (t : Tree) → IsRanged t → HasSpelling t → IsCanonical t (value_text t)
written_is_canonical t r h = ((tree_well 16 t h.0 r h.1).text h.2, h.3)
