-- The canonical spelling of a value is what is written of it, where it is shorter than 4 GiB: what is written is no longer.
use Rattle.std.proofs.Common.{◌≡◌, ◌≢◌, ℕ, zero, suc, ◌+◌, ◌*◌, ◌^◌, ◌<◌, ◌≤◌, Bool, true, false}
use Rattle.std.proofs.Common.{List, [], ◌∷◌, ◌++◌, length, refl, sym, ap, subst, ◌∙◌}
use Rattle.std.proofs.Common.{arith, ℤ}
use Rattle.std.proofs.lemmas.List.{length-append}
use Rattle.std.proofs.Math.Nat.{mul-le-mul_left}
use Rattle.std.specs.Int.{byte_len, to_be_bytes}
use Rattle.wire_base.specs.Spelling.{text_of, IsNumber, IsPair, IsItems}
use Rattle.types_10.specs.Tree.{Scalar, Tree, scalar, list, mapping, array, described, depth, Trees}
use Rattle.types_10.specs.Tree.{no_trees, tree, trees_of, pairs_of}
use Rattle.types_10.specs.Kinds.{kind_byte, size_width}
use Rattle.types_10.specs.Grammar.{Elements, IsDescriptorOf}
use Rattle.types_10.specs.Grammar.{IsSingle, IsFilled, IsThen, IsTimes, IsFlat, IsDeepOf, IsElement}
use Rattle.types_10.specs.Canonical.{IsFirstCode, IsFirstElements, canonical}
use Rattle.types_10.specs.Canonical.{IsCanonicalOf, IsCanonical}
use Rattle.types_10.specs.Ranges.{IsInRange, IsRanged, EachInTrees, EachInPairs}
use Rattle.types_10.specs.Writing.{single_kind, descriptors}
use Rattle.types_10.specs.Writing.{array_body, written}
use Rattle.types_10.specs.Writing.{written_each, written_pairs, value_text, IsWritable}
use Rattle.types_10.specs.Writing.{HasSpelling}
use Rattle.types_10.specs.Measures.{single_head, head_len, body_len, bodies_len}
use Rattle.types_10.proofs.Wider.{single_type, kind_type, scalar_type_is, IsUpTo, IsWider}
use Rattle.types_10.proofs.Wider.{same_wider, later_wider, shared_by, booleans_wider}
use Rattle.types_10.proofs.Wider.{booleans_first, shared_first, of_list, of_map, of_array}
use Rattle.types_10.proofs.Written.{IsUnder, IsFor, by_number, by_small, by_length, first_type}
use Rattle.types_10.proofs.Written.{single_first, single_is, scalar_at, by_type}
use Rattle.types_10.proofs.Elements.{kind_late, constructor_late, element_told}
use Rattle.types_10.proofs.Elements.{flat_plain, deep_plain}
use Rattle.types_10.proofs.Types.{EachIsWider}
use Rattle.types_10.proofs.Held.{IsHeld, by_brief, by_list, list_for, sized_for, body_short}
use Rattle.types_10.proofs.Measures.{scalar_len, filled_len, whole_len, elements_len}
use Rattle.types_10.proofs.Alone.{IsFirstBody, bodies_alone, value_alone, pairs_same}
use Rattle.types_10.proofs.Form.{level_within}
use Rattle.types_10.proofs.Depths.{items_depth, level_depth}
use Rattle.types_10.proofs.Canonical.{tree_list, pair_list, pairs_again, list_count}
use Rattle.types_10.proofs.Canonical.{pair_count, tree_well, each_well, body_is}
use Rattle.types_10.proofs.Spellable.{list_again, level_fine, value_fine}
use Rattle.types_10.proofs.Spellable.{canonical_has_spelling}
use Rattle.types_10.specs.declared.kind.Kind.{Kind}
use Rattle.types_10.specs.declared.kind.Kind.TheVariants as kind
use Rattle.types_10.specs.declared.kind.Single.{Single}
use Rattle.types_10.specs.declared.kind.Single.TheVariants as single
use Rattle.types_10.specs.declared.kind.Bare.TheVariants as bare
use Rattle.types_10.specs.declared.kind.Octet.TheVariants as octet
use Rattle.types_10.specs.declared.kind.Wide.TheVariants as wide
use Rattle.types_10.specs.declared.kind.Sixteen.TheVariants as sixteen
use Rattle.types_10.specs.declared.kind.Text.TheVariants as text
use Rattle.types_10.specs.declared.kind.Size.{Size}
use Rattle.types_10.specs.declared.kind.Size.TheVariants as size

-- ---- the kind that is written decides no more bytes than any other that has contents for the value

abbrev IsLeast : Single → Scalar → Type 0
IsLeast k s = IsFor k s → single_head (single_kind s) ≤ single_head k

least_at : (k : Single) (b : Bool) (n : ℕ) (z : ℤ) (s : List ℕ) → IsLeast k (scalar_at (single_type k) b n z s)
least_at (single.Bare bare.True) true n z s = λ w. omega arith
least_at (single.Bare bare.True) false n z s = λ w. omega arith
least_at (single.Bare bare.False) true n z s = λ w. omega arith
least_at (single.Bare bare.False) false n z s = λ w. omega arith
least_at single.Boolean true n z s = λ w. omega arith
least_at single.Boolean false n z s = λ w. omega arith
least_at (single.Bare bare.Uint) b n z s = by_number (λ k. IsUnder (single.Bare bare.Uint) k → single_head k ≤ single_head (single.Bare bare.Uint)) n _ _ _ (λ e w. omega (arith, w.up.later)) (λ e w. omega (arith, w.up.later)) (λ e f w. omega (arith, w.up.later))
least_at (single.Octet octet.Uint) b n z s = by_number (λ k. IsUnder (single.Octet octet.Uint) k → single_head k ≤ single_head (single.Octet octet.Uint)) n _ _ _ (λ e w. omega (arith, w.up.later)) (λ e w. omega (arith, w.up.later)) (λ e f w. omega (arith, w.up.later))
least_at (single.Wide wide.Uint) b n z s = by_number (λ k. IsUnder (single.Wide wide.Uint) k → single_head k ≤ single_head (single.Wide wide.Uint)) n _ _ _ (λ e w. omega (arith, w.up.later)) (λ e w. omega (arith, w.up.later)) (λ e f w. omega (arith, w.up.later))
least_at (single.Bare bare.Ulong) b n z s = by_number (λ k. IsUnder (single.Bare bare.Ulong) k → single_head k ≤ single_head (single.Bare bare.Ulong)) n _ _ _ (λ e w. omega (arith, w.up.later)) (λ e w. omega (arith, w.up.later)) (λ e f w. omega (arith, w.up.later))
least_at (single.Octet octet.Ulong) b n z s = by_number (λ k. IsUnder (single.Octet octet.Ulong) k → single_head k ≤ single_head (single.Octet octet.Ulong)) n _ _ _ (λ e w. omega (arith, w.up.later)) (λ e w. omega (arith, w.up.later)) (λ e f w. omega (arith, w.up.later))
least_at (single.Wide wide.Ulong) b n z s = by_number (λ k. IsUnder (single.Wide wide.Ulong) k → single_head k ≤ single_head (single.Wide wide.Ulong)) n _ _ _ (λ e w. omega (arith, w.up.later)) (λ e w. omega (arith, w.up.later)) (λ e f w. omega (arith, w.up.later))
least_at (single.Octet octet.Int) b n z s = by_small (λ k. IsUnder (single.Octet octet.Int) k → single_head k ≤ single_head (single.Octet octet.Int)) z _ _ (λ e w. omega (arith, w.up.later)) (λ e w. omega (arith, w.up.later))
least_at (single.Wide wide.Int) b n z s = by_small (λ k. IsUnder (single.Wide wide.Int) k → single_head k ≤ single_head (single.Wide wide.Int)) z _ _ (λ e w. omega (arith, w.up.later)) (λ e w. omega (arith, w.up.later))
least_at (single.Octet octet.Long) b n z s = by_small (λ k. IsUnder (single.Octet octet.Long) k → single_head k ≤ single_head (single.Octet octet.Long)) z _ _ (λ e w. omega (arith, w.up.later)) (λ e w. omega (arith, w.up.later))
least_at (single.Wide wide.Long) b n z s = by_small (λ k. IsUnder (single.Wide wide.Long) k → single_head k ≤ single_head (single.Wide wide.Long)) z _ _ (λ e w. omega (arith, w.up.later)) (λ e w. omega (arith, w.up.later))
least_at (single.Text text.Binary size.Short) b n z s = by_length (λ k. IsUnder (single.Text text.Binary size.Short) k → single_head k ≤ single_head (single.Text text.Binary size.Short)) text.Binary s (λ e w. omega (arith, w.up.later)) (λ e w. omega (arith, w.up.later))
least_at (single.Text text.Binary size.Long) b n z s = by_length (λ k. IsUnder (single.Text text.Binary size.Long) k → single_head k ≤ single_head (single.Text text.Binary size.Long)) text.Binary s (λ e w. omega (arith, w.up.later)) (λ e w. omega (arith, w.up.later))
least_at (single.Text text.String size.Short) b n z s = by_length (λ k. IsUnder (single.Text text.String size.Short) k → single_head k ≤ single_head (single.Text text.String size.Short)) text.String s (λ e w. omega (arith, w.up.later)) (λ e w. omega (arith, w.up.later))
least_at (single.Text text.String size.Long) b n z s = by_length (λ k. IsUnder (single.Text text.String size.Long) k → single_head k ≤ single_head (single.Text text.String size.Long)) text.String s (λ e w. omega (arith, w.up.later)) (λ e w. omega (arith, w.up.later))
least_at (single.Text text.Symbol size.Short) b n z s = by_length (λ k. IsUnder (single.Text text.Symbol size.Short) k → single_head k ≤ single_head (single.Text text.Symbol size.Short)) text.Symbol s (λ e w. omega (arith, w.up.later)) (λ e w. omega (arith, w.up.later))
least_at (single.Text text.Symbol size.Long) b n z s = by_length (λ k. IsUnder (single.Text text.Symbol size.Long) k → single_head k ≤ single_head (single.Text text.Symbol size.Long)) text.Symbol s (λ e w. omega (arith, w.up.later)) (λ e w. omega (arith, w.up.later))
least_at (single.Bare bare.Null) b n z s = λ w. omega arith
least_at (single.Octet octet.Ubyte) b n z s = λ w. omega arith
least_at (single.Wide wide.Ushort) b n z s = λ w. omega arith
least_at (single.Sixteen sixteen.Uuid) b n z s = λ w. omega arith
least_at k b n z s = λ w. omega arith

single_least : (k : Single) (s : Scalar) → IsLeast k s
single_least k s w = by_type IsLeast least_at k s (sym w.alike ∙ first_type s) w

list_heads : (y z : Size) → kind_byte (kind.List y) ≤ kind_byte (kind.List z) → head_len (kind.List y) ≤ head_len (kind.List z)
list_heads size.Short size.Short h = omega arith
list_heads size.Short size.Long h = omega arith
list_heads size.Long size.Short h = absurd (omega (arith, h))
list_heads size.Long size.Long h = omega arith

map_heads : (y z : Size) → kind_byte (kind.Map y) ≤ kind_byte (kind.Map z) → head_len (kind.Map y) ≤ head_len (kind.Map z)
map_heads size.Short size.Short h = omega arith
map_heads size.Short size.Long h = omega arith
map_heads size.Long size.Short h = absurd (omega (arith, h))
map_heads size.Long size.Long h = omega arith

array_heads : (y z : Size) → kind_byte (kind.Array y) ≤ kind_byte (kind.Array z) → head_len (kind.Array y) ≤ head_len (kind.Array z)
array_heads size.Short size.Short h = omega arith
array_heads size.Short size.Long h = omega arith
array_heads size.Long size.Short h = absurd (omega (arith, h))
array_heads size.Long size.Long h = omega arith

-- a list is no empty one where it has a size
sized_late : (z : Size) → 192 ≤ kind_byte (kind.List z)
sized_late size.Short = omega arith
sized_late size.Long = omega arith

list_wide : (y : Size) (k : Kind) → IsWider (kind.List y) k → head_len (kind.List y) ≤ head_len k
list_wide y k w = of_list (λ k. IsWider (kind.List y) k → head_len (kind.List y) ≤ head_len k) (λ w. absurd (omega (arith, w.up.later, sized_late y))) (λ z w. list_heads y z w.up.later) k (sym w.alike) w

tree_heads : (t : Tree) (k : Kind) → IsWider (written t).kind k → head_len (written t).kind ≤ head_len k
tree_heads (scalar s) (kind.Single k) w = single_least k s w
tree_heads (scalar s) kind.EmptyList w = absurd (omega (arith, w.alike, first_type s, scalar_type_is s))
tree_heads (scalar s) (kind.List z) w = absurd (omega (arith, w.alike, first_type s, scalar_type_is s))
tree_heads (scalar s) (kind.Map z) w = absurd (omega (arith, w.alike, first_type s, scalar_type_is s))
tree_heads (scalar s) (kind.Array z) w = absurd (omega (arith, w.alike, first_type s, scalar_type_is s))
tree_heads (scalar s) kind.Described w = absurd (omega (arith, w.alike, first_type s, scalar_type_is s))
tree_heads (list ts) k w =
    by_list (λ j. IsWider j k → head_len j ≤ head_len k) (written_each ts).count (written_each ts).text (λ e w. omega arith) (λ h w. list_wide size.Short k w) (λ h e w. list_wide size.Long k w) w
tree_heads (mapping ps) k w =
    by_brief (λ j. IsWider j k → head_len j ≤ head_len k) (written_pairs ps).0 (written_pairs ps).1 (kind.Map size.Short) (kind.Map size.Long)
    (λ h w. of_map (λ k. IsWider (kind.Map size.Short) k → head_len (kind.Map size.Short) ≤ head_len k) (λ z w. map_heads size.Short z w.up.later) k (sym w.alike) w)
    (λ h w. of_map (λ k. IsWider (kind.Map size.Long) k → head_len (kind.Map size.Long) ≤ head_len k) (λ z w. map_heads size.Long z w.up.later) k (sym w.alike) w) w
tree_heads (array ts) k w =
    by_brief (λ j. IsWider j k → head_len j ≤ head_len k) (written_each ts).count (array_body (written_each ts)) (kind.Array size.Short) (kind.Array size.Long)
    (λ h w. of_array (λ k. IsWider (kind.Array size.Short) k → head_len (kind.Array size.Short) ≤ head_len k) (λ z w. array_heads size.Short z w.up.later) k (sym w.alike) w)
    (λ h w. of_array (λ k. IsWider (kind.Array size.Long) k → head_len (kind.Array size.Long) ≤ head_len k) (λ z w. array_heads size.Long z w.up.later) k (sym w.alike) w) w
tree_heads (described d t) k w = tree_heads t k w

-- the same of the kind that elements share
boolean_head : (m : Kind) → kind_type m ≡ 86 → 86 ≤ kind_byte m → 1 ≤ head_len m
boolean_head (kind.Single single.Boolean) e l = omega arith
boolean_head (kind.Single (single.Bare bare.True)) e l = absurd (omega (arith, l))
boolean_head (kind.Single (single.Bare bare.False)) e l = absurd (omega (arith, l))
boolean_head (kind.Single (single.Octet octet.Ubyte)) e l = absurd (omega (arith, e))
boolean_head (kind.Single (single.Wide wide.Ushort)) e l = absurd (omega (arith, e))
boolean_head (kind.Single (single.Sixteen sixteen.Uuid)) e l = absurd (omega (arith, e))
boolean_head (kind.Single (single.Text text.Binary z)) e l = absurd (omega (arith, e))
boolean_head k e l = absurd (omega (arith, e))

each_up : (ts : Trees) (m : Kind) → 64 ≤ kind_byte m → EachIsWider ts m → IsUpTo (written_each ts).kind m
each_up no_trees m late w = record { later = omega (arith, late); only = λ b c. absurd (omega (arith, b)) }
each_up (tree t ts) m late w = shared_first (written t).kind (written_each ts).kind m w.0.up (each_up ts m late w.1)

shared_heads : (ts : Trees) (m : Kind) → 64 ≤ kind_byte m → EachIsWider ts m → head_len (written_each ts).kind ≤ head_len m
shared_heads no_trees m late w = omega arith
shared_heads (tree t ts) m late w =
    let j = (written t).kind in
    let k = (written_each ts).kind in
    shared_by (λ s. head_len s ≤ head_len m) j k
    (λ b. boolean_head m (sym w.0.alike ∙ (booleans_wider j k b).0.alike) (booleans_first j k m w.0.up (each_up ts m late w.1) b).later)
    (λ n l. shared_heads ts m late w.1) (λ n l. tree_heads t m w.0)

-- ---- what is known of a content or an element that is spelled so

record IsMeasured (k : Kind) (t : Tree) (text : List ℕ) : Type 0 where
  len : length text ≡ head_len k + body_len t
  wide : IsWider (written t).kind k

record IsKnown (d : ℕ) : Type 0 where
  content : (k : Kind) (t : Tree) (text : List ℕ) → 64 ≤ kind_byte k → (canonical d).content k t text → IsRanged t → length text < 2 ^ 32 → IsMeasured k t text
  element : (c : Elements) (t : Tree) (text : List ℕ) → 64 ≤ kind_byte c.1 → (canonical d).element c t text → IsRanged t → length text < 2 ^ 32 → IsMeasured c.1 t text
  whole : (t : Tree) (text : List ℕ) → IsCanonicalOf d t text → IsRanged t → length text < 2 ^ 32 → (written t).text ≡ text

single_measured : (k : Single) (s : Scalar) (text : List ℕ) → IsSingle k s text → IsMeasured (kind.Single k) (scalar s) text
single_measured k s text h =
    let w = single_first k s text h in
    record { len = ap length (single_is k s text h) ∙ scalar_len (kind.Single k) s (sym w.alike ∙ first_type s); wide = w }

flat_measured : (k : Kind) (t : Tree) (text : List ℕ) → IsFlat k t text → IsMeasured k t text
flat_measured (kind.Single k) t text h = subst (λ (u : Tree). IsMeasured (kind.Single k) u text) (sym h.1) (single_measured k h.0 text h.2)
flat_measured kind.EmptyList t text h = absurd h
flat_measured (kind.List z) t text h = absurd h
flat_measured (kind.Map z) t text h = absurd h
flat_measured (kind.Array z) t text h = absurd h
flat_measured kind.Described t text h = absurd h

-- ---- what stands alone

no_front : (t : Tree) → descriptors t ≡ [] → (written t).front ≡ []
no_front (scalar s) e = refl
no_front (list ts) e = refl
no_front (mapping ps) e = refl
no_front (array ts) e = refl
no_front (described x t) e = absurd cc

value_deep : (d : ℕ) (t : Tree) (text : List ℕ) → IsCanonicalOf d t text → depth t ≤ d
value_deep d t text h = (level_depth d).content h.0 t h.1 ((level_within d).content h.0 t h.1 h.2)

-- a value that isn't described, by its content
plain_whole : (d : ℕ) (t : Tree) (text : List ℕ) (h : IsCanonicalOf d t text) → descriptors t ≡ [] → IsMeasured h.0 t h.1 → IsRanged t → length text < 2 ^ 32 → (written t).text ≡ text
plain_whole d t text h none m r l =
    let least = tree_heads t h.0 m.wide in
    let size : length (written t).text < 2 ^ 32 = omega (arith, l, ap length h.3, m.len, least, whole_len t, ap length (no_front t none)) in
    value_alone d t (written t).text text ((tree_well d t (value_deep d t text h) r (value_fine d (level_fine d) t text h r)).text size) h

-- ---- lists and maps

-- the parts of a content with a size and a count
filled_parts : {A : Type 0} (S : ℕ → A → List ℕ → Type 0) (z : Size) (x : A) (text : List ℕ) → IsFilled (size_width z) (IsThen (IsNumber (size_width z)) S) x text
    → (n : ℕ) × (body : List ℕ) × S n x body × IsHeld z n body × (text ≡ text_of (size_width z) (to_be_bytes (size_width z) n ++ body))
filled_parts S z x text h =
    let c = h.1 in
    let parts : h.0 ≡ to_be_bytes (size_width z) c.0 ++ c.2 = c.5 ∙ ap (λ (t : List ℕ). t ++ c.2) c.3.1 in
    (c.0, c.2, c.4, record { count = c.3.0; size = subst (λ (t : List ℕ). length t < 256 ^ byte_len (size_width z)) parts h.2.0 }, h.2.1 ∙ ap (text_of (size_width z)) parts)

items_written : (d : ℕ) → IsKnown d → (ts : List Tree) (text : List ℕ) → IsItems (IsCanonicalOf d) ts text → EachInTrees IsInRange (trees_of ts) → length text < 2 ^ 32 → (written_each (trees_of ts)).text ≡ text
items_written d i [] text h r l = sym h
items_written d i (t ∷ ts) text h r l =
    let one : (written t).text ≡ h.0 = i.whole t h.0 h.2 r.0 (omega (arith, l, ap length h.4, length-append h.0 h.1)) in
    let more : (written_each (trees_of ts)).text ≡ h.1 = items_written d i ts h.1 h.3 r.1 (omega (arith, l, ap length h.4, length-append h.0 h.1)) in
    rw (one, more) (sym h.4)

entries_written : (d : ℕ) → IsKnown d → (ps : List (Tree × Tree)) (text : List ℕ) → IsItems (IsPair (IsCanonicalOf d) (IsCanonicalOf d)) ps text → EachInPairs IsInRange (pairs_of ps) → length text < 2 ^ 32
    → (written_pairs (pairs_of ps)).1 ≡ text
entries_written d i [] text h r l = sym h
entries_written d i (p ∷ ps) text h r l =
    let x = h.2 in
    let key : (written p.0).text ≡ x.0 = i.whole p.0 x.0 x.2 r.0 (omega (arith, l, ap length h.4, length-append h.0 h.1, ap length x.4, length-append x.0 x.1)) in
    let value : (written p.1).text ≡ x.1 = i.whole p.1 x.1 x.3 r.1 (omega (arith, l, ap length h.4, length-append h.0 h.1, ap length x.4, length-append x.0 x.1)) in
    let more : (written_pairs (pairs_of ps)).1 ≡ h.1 = entries_written d i ps h.1 h.3 r.2 (omega (arith, l, ap length h.4, length-append h.0 h.1)) in
    let regrouped : (x.0 ++ x.1) ++ h.1 ≡ text = ap (λ (t : List ℕ). t ++ h.1) (sym x.4) ∙ sym h.4 in
    rw (key, value, more) regrouped

count_again : (ts : List Tree) → (written_each (trees_of ts)).count ≡ length ts
count_again ts = sym (list_count (trees_of ts)) ∙ ap length (list_again ts)

pair_again : (ps : List (Tree × Tree)) → (written_pairs (pairs_of ps)).0 ≡ 2 * length ps
pair_again ps =
    let same : pair_list (pairs_of ps) ≡ ps = pairs_same (pair_list (pairs_of ps)) ps (sym (pairs_again (pairs_of ps))) in
    pair_count (pairs_of ps) ∙ ap (λ (qs : List (Tree × Tree)). 2 * length qs) same

list_measured : (d : ℕ) → IsKnown d → (z : Size) (ts : List Tree) (text : List ℕ) → IsFilled (size_width z) (IsThen (IsNumber (size_width z)) (λ n. IsTimes (IsCanonicalOf d) n)) ts text
    → EachInTrees IsInRange (trees_of ts) → length text < 2 ^ 32 → IsMeasured (kind.List z) (list (trees_of ts)) text
list_measured d i z ts text h r l =
    let f = filled_parts (λ n. IsTimes (IsCanonicalOf d) n) z ts text h in
    let size : length (text_of (size_width z) (to_be_bytes (size_width z) f.0 ++ f.1)) < 2 ^ 32 = omega (arith, l, ap length f.4) in
    let body : (written_each (trees_of ts)).text ≡ f.1 = items_written d i ts f.1 f.2.1 r (body_short z f.0 f.1 size) in
    let count : (written_each (trees_of ts)).count ≡ f.0 = count_again ts ∙ f.2.0 in
    record {
      len = ap length f.4 ∙ filled_len z f.0 f.1 ∙ ap (λ (b : List ℕ). 2 * byte_len (size_width z) + length b) (sym body);
      wide = rw (count, body) (list_for z f.0 f.1 f.3);
    }

map_measured : (d : ℕ) → IsKnown d → (z : Size) (ps : List (Tree × Tree)) (text : List ℕ)
    → IsFilled (size_width z) (IsThen (IsNumber (size_width z)) (λ n ps text. (n ≡ 2 * length ps) × IsItems (IsPair (IsCanonicalOf d) (IsCanonicalOf d)) ps text)) ps text
    → EachInPairs IsInRange (pairs_of ps) → length text < 2 ^ 32 → IsMeasured (kind.Map z) (mapping (pairs_of ps)) text
map_measured d i z ps text h r l =
    let f = filled_parts (λ n ps text. (n ≡ 2 * length ps) × IsItems (IsPair (IsCanonicalOf d) (IsCanonicalOf d)) ps text) z ps text h in
    let size : length (text_of (size_width z) (to_be_bytes (size_width z) f.0 ++ f.1)) < 2 ^ 32 = omega (arith, l, ap length f.4) in
    let body : (written_pairs (pairs_of ps)).1 ≡ f.1 = entries_written d i ps f.1 f.2.1 r (body_short z f.0 f.1 size) in
    let count : (written_pairs (pairs_of ps)).0 ≡ f.0 = pair_again ps ∙ sym f.2.0 in
    record {
      len = ap length f.4 ∙ filled_len z f.0 f.1 ∙ ap (λ (b : List ℕ). 2 * byte_len (size_width z) + length b) (sym body);
      wide = rw (count, body) (sized_for kind.Map (later_wider _ _ refl refl refl) z f.0 f.1 f.3);
    }

-- ---- arrays

-- the descriptors of a value
front_written : (d : ℕ) → IsKnown d → (t : Tree) (text : List ℕ) → IsItems (IsDescriptorOf (IsCanonicalOf d)) (descriptors t) text → IsRanged t → length text < 2 ^ 32 → (written t).front ≡ text
front_written d i (scalar s) text h r l = sym h
front_written d i (list ts) text h r l = sym h
front_written d i (mapping ps) text h r l = sym h
front_written d i (array ts) text h r l = sym h
front_written d i (described x t) text h r l =
    let first : (written x).text ≡ h.2.0 = i.whole x h.2.0 h.2.1 r.0 (omega (arith, l, ap length h.4, length-append h.0 h.1, ap length h.2.2)) in
    let more : (written t).front ≡ h.1 = front_written d i t h.1 h.3 r.1 (omega (arith, l, ap length h.4, length-append h.0 h.1)) in
    rw (first, more) (ap (λ (s : List ℕ). s ++ h.1) (sym h.2.2) ∙ sym h.4)

-- the elements behind their constructor
elements_known : (d : ℕ) → IsKnown d → (c : Elements) → 64 ≤ kind_byte c.1 → (ts : List Tree) (text : List ℕ) → IsItems ((canonical d).element c) ts text → EachInTrees IsInRange (trees_of ts) → length text < 2 ^ 32
    → (length text ≡ length ts * head_len c.1 + bodies_len (trees_of ts)) × EachIsWider (trees_of ts) c.1
elements_known d i c late [] text h r l = (omega (arith, ap length h), tt)
elements_known d i c late (t ∷ ts) text h r l =
    let one = i.element c t h.0 late h.2 r.0 (omega (arith, l, ap length h.4, length-append h.0 h.1)) in
    let more = elements_known d i c late ts h.1 h.3 r.1 (omega (arith, l, ap length h.4, length-append h.0 h.1)) in
    (omega (arith, ap length h.4, length-append h.0 h.1, one.len, more.0), (one.wide, more.1))

-- what is written of them is no longer
body_fits : (d : ℕ) → IsKnown d → (n : ℕ) (ts : List Tree) (body : List ℕ) → IsFirstBody (canonical d) n ts body → IsWritable (array (trees_of ts)) → EachInTrees IsInRange (trees_of ts) → length body < 2 ^ 32
    → length (array_body (written_each (trees_of ts))) ≤ length body
body_fits d i n [] body h fine r l = omega (arith, ap length h.5, length-append h.1 h.2, ap length h.3.4, length-append h.3.0 h.3.1, ap length h.3.3.1)
body_fits d i n (t ∷ ts) body h fine r l =
    let c = h.0 in
    let told = h.3 in
    let late = constructor_late (IsCanonicalOf d) c h.1 told in
    let items = h.4.2.1 in
    let whole = ap length h.5 in
    let known = elements_known d i c late (t ∷ ts) h.2 items r (omega (arith, l, whole, length-append h.1 h.2)) in
    let same : c.0 ≡ descriptors t = element_told d c late t items.0 items.2 in
    let front : (written t).front ≡ told.0 =
    front_written d i t told.0 (subst (λ (ds : List Tree). IsItems (IsDescriptorOf (IsCanonicalOf d)) ds told.0) same told.2) r.0 (omega (arith, l, whole, length-append h.1 h.2, ap length told.4, length-append told.0 told.1)) in
    let w = written_each (trees_of (t ∷ ts)) in
    let least : head_len w.kind ≤ head_len c.1 = shared_heads (trees_of (t ∷ ts)) c.1 late known.1 in
    let heads : w.count * head_len w.kind ≤ w.count * head_len c.1 = mul-le-mul_left w.count least in
    let count : w.count * head_len c.1 ≡ length (t ∷ ts) * head_len c.1 = ap (λ (m : ℕ). m * head_len c.1) (count_again (t ∷ ts)) in
    omega (arith, heads, count, whole, length-append h.1 h.2, ap length told.4, length-append told.0 told.1, ap length told.3.1, ap length front, known.0, elements_len (trees_of (t ∷ ts)) fine.1)

array_measured : (d : ℕ) → IsKnown d → (z : Size) (ts : List Tree) (text : List ℕ) → IsFilled (size_width z) (IsThen (IsNumber (size_width z)) (IsFirstBody (canonical d))) ts text
    → IsWritable (array (trees_of ts)) → EachInTrees IsInRange (trees_of ts) → length text < 2 ^ 32 → IsMeasured (kind.Array z) (array (trees_of ts)) text
array_measured d i z ts text h fine r l =
    let f = filled_parts (IsFirstBody (canonical d)) z ts text h in
    let size : length (text_of (size_width z) (to_be_bytes (size_width z) f.0 ++ f.1)) < 2 ^ 32 = omega (arith, l, ap length f.4) in
    let small = body_short z f.0 f.1 size in
    let w = written_each (trees_of ts) in
    let fits = body_fits d i f.0 ts f.1 f.2 fine r small in
    let deep = items_depth d ((canonical d).element f.2.0) (λ u text h. (level_depth d).element f.2.0 u text ((level_within d).element f.2.0 u text h)) ts f.2.2 f.2.4.2.1 in
    let wells = each_well d (trees_of ts) deep r fine.0 in
    let made = body_is d (trees_of ts) wells fine.1 fine.2 (omega (arith, fits, small)) in
    let count : w.count ≡ f.0 = count_again ts ∙ f.2.4.2.0 in
    let again : IsFirstBody (canonical d) f.0 ts (array_body w) =
    subst (λ (us : List Tree). IsFirstBody (canonical d) f.0 us (array_body w)) (list_again ts) (subst (λ (m : ℕ). IsFirstBody (canonical d) m (tree_list (trees_of ts)) (array_body w)) count made) in
    let body : array_body w ≡ f.1 = bodies_alone d f.0 ts (array_body w) f.1 again f.2 in
    record {
      len = ap length f.4 ∙ filled_len z f.0 f.1 ∙ ap (λ (b : List ℕ). 2 * byte_len (size_width z) + length b) (sym body);
      wide = rw (count, body) (sized_for kind.Array (later_wider _ _ refl refl refl) z f.0 f.1 f.3);
    }

-- ---- all levels

deep_measured : (d : ℕ) → IsKnown d → (k : Kind) (t : Tree) (text : List ℕ) → 64 ≤ kind_byte k → IsDeepOf (IsFirstCode (canonical d).content) (IsFirstElements (canonical d)) k t text → IsWritable t → IsRanged t → length text < 2 ^ 32
    → IsMeasured k t text
deep_measured d i (kind.Single k) t text late h fine r l = subst (λ (u : Tree). IsMeasured (kind.Single k) u text) (sym h.1) (single_measured k h.0 text h.2)
deep_measured d i kind.EmptyList t text late h fine r l = subst (λ (u : Tree). IsMeasured kind.EmptyList u text) (sym h.0) (record { len = ap length h.1; wide = same_wider kind.EmptyList })
deep_measured d i (kind.List z) t text late h fine r l = subst (λ (u : Tree). IsMeasured (kind.List z) u text) (sym h.1) (list_measured d i z h.0 text h.2 (subst IsRanged h.1 r) l)
deep_measured d i (kind.Map z) t text late h fine r l = subst (λ (u : Tree). IsMeasured (kind.Map z) u text) (sym h.1) (map_measured d i z h.0 text h.2 (subst IsRanged h.1 r) l)
deep_measured d i (kind.Array z) t text late h fine r l =
    subst (λ (u : Tree). IsMeasured (kind.Array z) u text) (sym h.1) (array_measured d i z h.0 text h.2 (subst IsWritable h.1 fine) (subst IsRanged h.1 r) l)
deep_measured d i kind.Described t text late h fine r l = absurd (omega (arith, late))

flat_whole : (t : Tree) (text : List ℕ) → IsCanonicalOf 0 t text → IsRanged t → length text < 2 ^ 32 → (written t).text ≡ text
unfolding canonical
flat_whole t text h r l = plain_whole 0 t text h (flat_plain h.0 t h.1 h.2) (flat_measured h.0 t h.1 h.2) r l

-- a value that may be described
deep_whole : (d : ℕ) → IsKnown d → (t : Tree) (text : List ℕ) → IsCanonicalOf (suc d) t text → IsRanged t → length text < 2 ^ 32 → (written t).text ≡ text
unfolding canonical
deep_whole d i t text h r l = by h.0 h.1 h.2 h.3 refl
  where
    plain : h.0 ≢ kind.Described → (written t).text ≡ text
    plain other =
        let late = kind_late h.0 other in
        let fine = value_fine (suc d) (level_fine (suc d)) t text h r in
        plain_whole (suc d) t text h (deep_plain (IsFirstCode (canonical d).content) (IsFirstElements (canonical d)) h.0 late t h.1 h.2)
        (deep_measured d i h.0 t h.1 late h.2 fine r (omega (arith, l, ap length h.3))) r l

    by : (k : Kind) (content : List ℕ) → IsDeepOf (IsFirstCode (canonical d).content) (IsFirstElements (canonical d)) k t content → text ≡ kind_byte k ∷ content → h.0 ≡ k → (written t).text ≡ text
    by kind.Described content g e same =
        let ranged = subst IsRanged g.1 r in
        let both = g.2 in
        let first : (written g.0.0).text ≡ both.0 = i.whole g.0.0 both.0 both.2 ranged.0 (omega (arith, l, ap length e, ap length both.4, length-append both.0 both.1)) in
        let second : (written g.0.1).text ≡ both.1 = i.whole g.0.1 both.1 both.3 ranged.1 (omega (arith, l, ap length e, ap length both.4, length-append both.0 both.1)) in
        ap (λ (u : Tree). (written u).text) g.1 ∙ rw (first, second) (ap (λ (s : List ℕ). 0 ∷ s) (sym both.4) ∙ sym e)
    by k content g e same = plain (λ other. absurd (cc (same, other)))

level_known : (d : ℕ) → IsKnown d
unfolding canonical
level_known zero = record { content = λ k t text late h r l. flat_measured k t text h; element = element; whole = flat_whole }
  where
    element : (c : Elements) (t : Tree) (text : List ℕ) → 64 ≤ kind_byte c.1 → IsElement 0 IsFlat (λ c t text. ⊥) c t text → IsRanged t → length text < 2 ^ 32 → IsMeasured c.1 t text
    element ([], k) t text late h r l = flat_measured k t text h
    element (x ∷ xs, k) t text late h r l = absurd h.1.2
level_known (suc d) = record {
  content = λ k t text late h r l. deep_measured d (level_known d) k t text late h ((level_fine (suc d)).content k t text h r) r l;
  element = element (level_known d);
  whole = deep_whole d (level_known d);
}
  where
    element : IsKnown d → (c : Elements) (t : Tree) (text : List ℕ) → 64 ≤ kind_byte c.1 → IsElement d (IsDeepOf (IsFirstCode (canonical d).content) (IsFirstElements (canonical d))) (canonical d).element c t text → IsRanged t → length text < 2 ^ 32
        → IsMeasured c.1 t text
    element i ([], k) t text late h r l = deep_measured d i k t text late h ((level_fine (suc d)).content k t text h r) r l
    element i (x ∷ xs, k) t text late h r l =
        let ranged = subst IsRanged h.1.1 r in
        let inner = i.element (xs, k) h.1.0 text late h.1.2 ranged.1 l in
        subst (λ (u : Tree). IsMeasured k u text) (sym h.1.1) (record { len = inner.len; wide = inner.wide })

-- a value whose canonical spelling is shorter than 4 GiB can be written, and that is what is written
pub spelling_is_written : (t : Tree) (text : List ℕ) → IsRanged t → IsCanonical t text → length text < 2 ^ 32 → HasSpelling t × (value_text t ≡ text)
spelling_is_written t text r h l =
    let same : value_text t ≡ text = (level_known 16).whole t text h.0 r l in
    (canonical_has_spelling t text r h (omega (arith, l, ap length same)), same)
