-- Slices against trees: what is said of the trees in a list or a map, said of a slice's values and pairs one by one. Then the parts
-- of a value that are written in turn, and its kind and its length as the program finds them.
use Rattle.std.proofs.Common.{◌≡◌, ℕ, ◌+◌, ◌-◌, ◌*◌, ◌<◌, ◌^◌, min, Bool, true, false, cond, List}
use Rattle.std.proofs.Common.{[], ◌∷◌, ◌++◌, length, get_or, map, All, ◌⊎◌, inl, inr, refl, ap, ◌∙◌}
use Rattle.std.proofs.Common.{arith}
use Rattle.std.specs.List.{flat_map, AllByRecursion}
use Rattle.std.proofs.lemmas.List.{length-append}
use Rattle.std.proofs.lemmas.List.Folds.{length-flat_map-take}
use Rattle.std.proofs.lemmas.List.Elements.{All-from_recursion}
use Rattle.types_10.specs.Kinds.{kind_byte}
use Rattle.types_10.specs.Tree.{Tree, scalar, list, mapping, array, described, Trees, trees_of}
use Rattle.types_10.specs.Tree.{pairs_of}
use Rattle.types_10.specs.View.{value_tree, pair_trees}
use Rattle.types_10.specs.Writing.{is_brief, map_kind, array_kind, array_body, written}
use Rattle.types_10.specs.Writing.{written_each, written_pairs, value_text, AreOfOneType}
use Rattle.types_10.specs.Writing.{IsWritable, EachIsWritable, PairsAreWritable}
use Rattle.types_10.specs.Measures.{capped, head_len, held_size, pair_text, IsEachMeasure}
use Rattle.types_10.specs.declared.kind.Kind.{Kind}
use Rattle.types_10.specs.declared.kind.Kind.TheVariants as kind
use Rattle.types_10.specs.declared.kind.Size.{Size}
use Rattle.types_10.specs.declared.kind.Size.TheVariants as size
use Rattle.types_10.specs.declared.measure.EachMeasure.{EachMeasure}
use Rattle.types_10.specs.declared.value.Value10.{Value10}
use Rattle.types_10.proofs.Measures.{text_is, elements_len}

-- ---- counts

pub each_count : (vs : List Value10) → (written_each (trees_of (map value_tree vs))).count ≡ length vs
each_count [] = refl
each_count (v ∷ vs) = omega (arith, each_count vs)

pub pairs_count : (ps : List (Value10 × Value10)) → (written_pairs (pairs_of (map pair_trees ps))).0 ≡ 2 * length ps
pairs_count [] = refl
pairs_count (p ∷ ps) = omega (arith, pairs_count ps)

-- ---- texts

-- of a value, all that is written where it stands alone, and its content as an element
abbrev pub whole_text : Value10 → List ℕ
whole_text v = value_text (value_tree v)

abbrev pub content_text : Kind → Value10 → List ℕ
content_text k v = (written (value_tree v)).content k

pub each_text : (vs : List Value10) → (written_each (trees_of (map value_tree vs))).text ≡ flat_map whole_text vs
each_text [] = refl
each_text (v ∷ vs) = ap (λ (more : List ℕ). whole_text v ++ more) (each_text vs)

pub contents_text : (k : Kind) (vs : List Value10) → (written_each (trees_of (map value_tree vs))).contents k ≡ flat_map (content_text k) vs
contents_text k [] = refl
contents_text k (v ∷ vs) = ap (λ (more : List ℕ). content_text k v ++ more) (contents_text k vs)

pub pairs_text : (ps : List (Value10 × Value10)) → (written_pairs (pairs_of (map pair_trees ps))).1 ≡ flat_map pair_text ps
pairs_text [] = refl
pairs_text (p ∷ ps) = ap (λ (more : List ℕ). pair_text p ++ more) (pairs_text ps)

-- ---- lengths of parts

pub part_fits : {X : Type 0} (f : X → List ℕ) (xs : List X) (whole : List ℕ) (i : ℕ) (d : X) → whole ≡ flat_map f xs → i < length xs → length whole < 2 ^ 32 → length (f (get_or xs i d)) < 2 ^ 32
part_fits f xs whole i d e within size = omega (arith, length-flat_map-take f xs i d within, ap length e)

pub parts_fit : (t : Tree) → length (value_text t) < 2 ^ 32 → (length (written t).front < 2 ^ 32) × (length ((written t).content (written t).kind) < 2 ^ 32)
parts_fit t size =
    let w = written t in
    let parts = ap length (text_is t) ∙ length-append w.front (kind_byte w.kind ∷ w.content w.kind) in
    (omega (arith, parts), omega (arith, parts))

-- ---- contents that depend on the size alone, and none

held_same : (t : Tree) (z : Size) → ((written t).content (kind.Map z) ≡ (written t).content (kind.List z)) × ((written t).content (kind.Array z) ≡ (written t).content (kind.List z))
held_same (scalar s) z = (refl, refl)
held_same (list ts) z = (refl, refl)
held_same (mapping ps) z = (refl, refl)
held_same (array ts) z = (refl, refl)
held_same (described d t) z = held_same t z

none_held : (t : Tree) → ((written t).content kind.EmptyList ≡ []) × ((written t).content kind.Described ≡ [])
none_held (scalar s) = (refl, refl)
none_held (list ts) = (refl, refl)
none_held (mapping ps) = (refl, refl)
none_held (array ts) = (refl, refl)
none_held (described d t) = none_held t

pub held_under : (t : Tree) (k : Kind) (z : Size) → (k ≡ kind.List z) ⊎ ((k ≡ kind.Map z) ⊎ (k ≡ kind.Array z)) → (written t).content k ≡ (written t).content (kind.List z)
held_under t k z (inl e) = ap (written t).content e
held_under t k z (inr (inl e)) = ap (written t).content e ∙ (held_same t z).0
held_under t k z (inr (inr e)) = ap (written t).content e ∙ (held_same t z).1

pub none_under : (t : Tree) (k : Kind) → (k ≡ kind.EmptyList) ⊎ (k ≡ kind.Described) → (written t).content k ≡ []
none_under t k (inl e) = ap (written t).content e ∙ (none_held t).0
none_under t k (inr e) = ap (written t).content e ∙ (none_held t).1

-- ---- which values can be written

abbrev pub ValueIsWritable : Value10 → Type 0
ValueIsWritable v = IsWritable (value_tree v)

abbrev pub PairIsWritable : Value10 × Value10 → Type 0
PairIsWritable p = ValueIsWritable p.0 × ValueIsWritable p.1

values_writable : (vs : List Value10) → EachIsWritable (trees_of (map value_tree vs)) → AllByRecursion ValueIsWritable vs
values_writable [] h = tt
values_writable (v ∷ vs) h = (h.0, values_writable vs h.1)

pub values_are_writable : (vs : List Value10) → EachIsWritable (trees_of (map value_tree vs)) → All ValueIsWritable vs
values_are_writable vs h = All-from_recursion ValueIsWritable vs (values_writable vs h)

pairs_writable : (ps : List (Value10 × Value10)) → PairsAreWritable (pairs_of (map pair_trees ps)) → AllByRecursion PairIsWritable ps
pairs_writable [] h = tt
pairs_writable (p ∷ ps) h = ((h.0, h.1), pairs_writable ps h.2)

pub pairs_are_writable : (ps : List (Value10 × Value10)) → PairsAreWritable (pairs_of (map pair_trees ps)) → All PairIsWritable ps
pairs_are_writable ps h = All-from_recursion PairIsWritable ps (pairs_writable ps h)

-- ---- kinds and lengths, as the program finds them

sized : (f : Size → Kind) (b : Bool) → f (cond b size.Short size.Long) ≡ cond b (f size.Short) (f size.Long)
sized f true = refl
sized f false = refl

pub map_sized : (count : ℕ) (body : List ℕ) → kind.Map (held_size count body) ≡ map_kind count body
map_sized count body = sized kind.Map (is_brief count body)

pub array_sized : (count : ℕ) (body : List ℕ) → kind.Array (held_size count body) ≡ array_kind count body
array_sized count body = sized kind.Array (is_brief count body)

pub array_capped : (m : EachMeasure) (ts : Trees) (n h : ℕ) → IsEachMeasure m ts → AreOfOneType ts → n ≡ (written_each ts).count → h ≡ head_len m.kind
    → min (min (m.front + 1) (2 ^ 64 - 1) + min (min (n * h) (2 ^ 64 - 1) + m.bodies) (2 ^ 64 - 1)) (2 ^ 64 - 1) ≡ capped (length (array_body (written_each ts)))
array_capped m ts n h each alike count head =
    let w = written_each ts in
    let heads : n * h ≡ w.count * head_len w.kind = ap (λ (n : ℕ). n * h) count ∙ ap (λ (h : ℕ). w.count * h) (head ∙ ap head_len each.kind) in
    omega (arith, heads, elements_len ts alike, each.front, each.bodies)
