-- The canonical spelling is in the grammar: what its elements take besides their bytes is no more than the load of the value.
use Rattle.std.proofs.Common.{◌≡◌, ℕ, zero, suc, ◌+◌, ◌-◌, ◌*◌, ◌/◌, ◌%◌, ◌≤◌, max, Bool, true, false}
use Rattle.std.proofs.Common.{cond}
use Rattle.std.proofs.Common.{List, [], ◌∷◌, ◌++◌, length, refl, sym, ap, subst, ◌∙◌, arith}
use Rattle.std.proofs.Math.Nat.{mul-le-mul_left}
use Rattle.std.proofs.lemmas.List.{nil_from_length}
use Rattle.std.specs.Int.{Width}
use Rattle.wire_base.specs.Spelling.{IsPair, IsItems}
use Rattle.types_10.specs.Tree.{Tree, scalar, list, mapping, array, described, trees_of}
use Rattle.types_10.specs.Tree.{pairs_of}
use Rattle.types_10.specs.Kinds.{kind_byte, is_bare, bare_scalar, size_width}
use Rattle.types_10.specs.Loads.{copies, element_load}
use Rattle.types_10.specs.Writing.{single_kind, shared, written, written_each, descriptors}
use Rattle.types_10.specs.Writing.{first_descriptors, front_load, inner_load, each_load, first_load}
use Rattle.types_10.specs.Writing.{inner_loads, pairs_load, load}
use Rattle.types_10.specs.Grammar.{IsDescriptorOf, Elements, IsRow, IsTwo, IsFront, IsFlat}
use Rattle.types_10.specs.Grammar.{IsDeepOf, IsValueBy, IsArrayIn, IsFlatIn}
use Rattle.types_10.specs.Grammar.{IsDeepIn, spellings, IsValue}
use Rattle.types_10.specs.Canonical.{IsFirstCode, IsFirstConstructor, IsFirstElements, canonical}
use Rattle.types_10.specs.Canonical.{IsCanonicalOf, IsCanonical}
use Rattle.types_10.proofs.Elements.{constructor_late, plain_constructor, flat_plain, deep_plain}
use Rattle.types_10.proofs.Elements.{element_told}
use Rattle.types_10.specs.declared.kind.Kind.{Kind}
use Rattle.types_10.specs.declared.kind.Kind.TheVariants as kind
use Rattle.types_10.specs.declared.kind.Single.TheVariants as single
use Rattle.types_10.specs.declared.kind.Bare.{Bare}
use Rattle.types_10.specs.declared.kind.Bare.TheVariants as bare

-- ---- sums

abbrev total : {A : Type 0} → (A → ℕ) → List A → ℕ
total cost [] = 0
total cost (x ∷ xs) = cost x + total cost xs

each_total : (ts : List Tree) → each_load (trees_of ts) ≡ total load ts
each_total [] = refl
each_total (t ∷ ts) = omega (arith, each_total ts)

inner_total : (ts : List Tree) → inner_loads (trees_of ts) ≡ total inner_load ts
inner_total [] = refl
inner_total (t ∷ ts) = omega (arith, inner_total ts)

abbrev pair_load : Tree × Tree → ℕ
pair_load p = load p.0 + load p.1

pairs_total : (ps : List (Tree × Tree)) → pairs_load (pairs_of ps) ≡ total pair_load ps
pairs_total [] = refl
pairs_total (p ∷ ps) = omega (arith, pairs_total ps)

front_total : (t : Tree) → front_load t ≡ total load (descriptors t)
front_total (scalar s) = refl
front_total (list ts) = refl
front_total (mapping ps) = refl
front_total (array ts) = refl
front_total (described d t) = omega (arith, front_total t)

each_counted : (ts : List Tree) → (written_each (trees_of ts)).count ≡ length ts
each_counted [] = refl
each_counted (t ∷ ts) = omega (arith, each_counted ts)

-- ---- within a room

-- so much of a room is taken at most
abbrev IsSpent : ℕ → ℕ → (ℕ → Type 0) → Type 0
IsSpent n room P = (left : ℕ) × (room ≤ left + n) × P left

-- what the one relation spells, the other spells in any room that is large enough
abbrev FitsIn : {A : Type 0} → (A → ℕ) → (A → List ℕ → Type 0) → (ℕ → A × ℕ → List ℕ → Type 0) → Type 0
FitsIn {A} cost R S = (x : A) (text : List ℕ) → R x text → (room : ℕ) → cost x ≤ room → IsSpent (cost x) room (λ left. S room (x, left) text)

row_fits : {A : Type 0} (cost : A → ℕ) (R : A → List ℕ → Type 0) (S : ℕ → A × ℕ → List ℕ → Type 0) → FitsIn cost R S → FitsIn (total cost) (IsItems R) (λ room xs. IsRow S (length xs.0) room xs)
unfolding IsRow
row_fits cost R S each [] text h room le = (room, omega arith, (refl, h))
row_fits cost R S each (x ∷ xs) text h room le =
    let f = each x h.0 h.2 room (omega (arith, le)) in
    let g = row_fits cost R S each xs h.1 h.3 f.0 (omega (arith, le, f.1)) in
    (g.0, omega (arith, f.1, g.1), ((x, f.0), h.0, h.1, f.2, ((xs, g.0), refl, g.2), h.4))

two_fits : (R : Tree → List ℕ → Type 0) (S : ℕ → Tree × ℕ → List ℕ → Type 0) → FitsIn load R S → FitsIn pair_load (IsPair R R) (IsTwo S)
two_fits R S each p text h room le =
    let f = each p.0 h.0 h.2 room (omega (arith, le)) in
    let g = each p.1 h.1 h.3 f.0 (omega (arith, le, f.1)) in
    (g.0, omega (arith, f.1, g.1), ((p.0, f.0), h.0, h.1, f.2, ((p.1, g.0), refl, g.2), h.4))

front_fits : (R : Tree → List ℕ → Type 0) (S : ℕ → Tree × ℕ → List ℕ → Type 0) → FitsIn load R S → FitsIn (total load) (IsItems (IsDescriptorOf R)) (λ room ds. IsFront S room ds.0 ds.1)
unfolding IsFront
front_fits R S each [] text h room le = (room, omega arith, (refl, h))
front_fits R S each (d ∷ ds) text h room le =
    let f = each d h.2.0 h.2.1 room (omega (arith, le)) in
    let g = front_fits R S each ds h.1 h.3 f.0 (omega (arith, le, f.1)) in
    (g.0, omega (arith, f.1, g.1), (f.0, h.2.0, h.1, f.2, g.2, h.4 ∙ ap (λ (t : List ℕ). t ++ h.1) h.2.2))

-- ---- elements without bytes

bare_written : (k : Bare) → single_kind (bare_scalar k) ≡ single.Bare k
bare_written bare.Null = refl
bare_written bare.True = refl
bare_written bare.False = refl
bare_written bare.Uint = refl
bare_written bare.Ulong = refl

flat_kind : (k : Kind) → is_bare k ≡ true → (t : Tree) (text : List ℕ) → IsFlat k t text → (written t).kind ≡ k
flat_kind (kind.Single (single.Bare k)) b t text h = ap (λ (t : Tree). (written t).kind) (h.1 ∙ ap scalar h.2.0) ∙ ap kind.Single (bare_written k)
flat_kind (kind.Single single.Boolean) b t text h = absurd cc
flat_kind (kind.Single (single.Octet k)) b t text h = absurd cc
flat_kind (kind.Single (single.Wide k)) b t text h = absurd cc
flat_kind (kind.Single single.Char) b t text h = absurd cc
flat_kind (kind.Single (single.Sixteen k)) b t text h = absurd cc
flat_kind (kind.Single (single.Text k z)) b t text h = absurd cc
flat_kind kind.EmptyList b t text h = absurd h
flat_kind (kind.List z) b t text h = absurd h
flat_kind (kind.Map z) b t text h = absurd h
flat_kind (kind.Array z) b t text h = absurd h
flat_kind kind.Described b t text h = absurd h

deep_kind : (R : Tree → List ℕ → Type 0) (E : Width → List Tree → List ℕ → Type 0) (k : Kind) → is_bare k ≡ true → (t : Tree) (text : List ℕ) → IsDeepOf R E k t text → (written t).kind ≡ k
deep_kind R E (kind.Single k) b t text h = flat_kind (kind.Single k) b t text h
deep_kind R E kind.EmptyList b t text h = ap (λ (t : Tree). (written t).kind) h.0
deep_kind R E (kind.List z) b t text h = absurd cc
deep_kind R E (kind.Map z) b t text h = absurd cc
deep_kind R E (kind.Array z) b t text h = absurd cc
deep_kind R E kind.Described b t text h = absurd cc

element_kind : (d : ℕ) (c : Elements) → is_bare c.1 ≡ true → (t : Tree) (text : List ℕ) → (canonical d).element c t text → (written t).kind ≡ c.1
unfolding canonical
element_kind zero ([], k) b t text h = flat_kind k b t text h
element_kind zero (x ∷ xs, k) b t text h = absurd h.1.2
element_kind (suc d) ([], k) b t text h = deep_kind (IsFirstCode (canonical d).content) (IsFirstElements (canonical d)) k b t text h
element_kind (suc d) (x ∷ xs, k) b t text h = ap (λ (t : Tree). (written t).kind) h.1.1 ∙ element_kind d (xs, k) b h.1.0 text h.1.2

bare_shared : (k : Kind) → is_bare k ≡ true → (shared k (kind.Single (single.Bare bare.Null)) ≡ k) × (shared k k ≡ k)
bare_shared (kind.Single (single.Bare bare.Null)) b = (refl, refl)
bare_shared (kind.Single (single.Bare bare.True)) b = (refl, refl)
bare_shared (kind.Single (single.Bare bare.False)) b = (refl, refl)
bare_shared (kind.Single (single.Bare bare.Uint)) b = (refl, refl)
bare_shared (kind.Single (single.Bare bare.Ulong)) b = (refl, refl)
bare_shared (kind.Single single.Boolean) b = absurd cc
bare_shared (kind.Single (single.Octet k)) b = absurd cc
bare_shared (kind.Single (single.Wide k)) b = absurd cc
bare_shared (kind.Single single.Char) b = absurd cc
bare_shared (kind.Single (single.Sixteen k)) b = absurd cc
bare_shared (kind.Single (single.Text k z)) b = absurd cc
bare_shared kind.EmptyList b = (refl, refl)
bare_shared (kind.List z) b = absurd cc
bare_shared (kind.Map z) b = absurd cc
bare_shared (kind.Array z) b = absurd cc
bare_shared kind.Described b = absurd cc

elements_kind : (d : ℕ) (c : Elements) → is_bare c.1 ≡ true → (t : Tree) (ts : List Tree) (text : List ℕ) → IsItems ((canonical d).element c) (t ∷ ts) text → (written_each (trees_of (t ∷ ts))).kind ≡ c.1
elements_kind d c b t [] text h = ap (λ (k : Kind). shared k (kind.Single (single.Bare bare.Null))) (element_kind d c b t h.0 h.2) ∙ (bare_shared c.1 b).0
elements_kind d c b t (u ∷ us) text h =
    ap (λ (k : Kind). shared k (written_each (trees_of (u ∷ us))).kind) (element_kind d c b t h.0 h.2) ∙ ap (shared c.1) (elements_kind d c b u us h.1 h.3) ∙ (bare_shared c.1 b).1

-- what an element takes besides its bytes is no more where it has none
bare_load : (n : ℕ) (ds : List Tree) (j k : Kind) → (is_bare j ≡ true → k ≡ j) → n * element_load (ds, j) ≤ n * element_load (ds, k)
bare_load n ds j k same = mul-le-mul_left n (at (is_bare j) refl)
  where
    at : (b : Bool) → is_bare j ≡ b → element_load (ds, j) ≤ element_load (ds, k)
    at true b = let equal : element_load (ds, j) ≡ element_load (ds, k) = ap (λ (i : Kind). element_load (ds, i)) (sym (same b)) in omega (arith, equal)
    at false b = let none : element_load (ds, j) ≡ max (copies ds) 0 = ap (λ (i : Bool). max (copies ds) (cond i 1 0)) b in omega (arith, none)

-- ---- values

-- what stands inside values of at most this depth
record AreFitting (d : ℕ) : Type 0 where
  content : (k : Kind) → FitsIn load ((canonical d).content k) (λ room. (spellings d).content room k)
  element : (c : Elements) → 64 ≤ kind_byte c.1 → FitsIn inner_load ((canonical d).element c) (λ room. (spellings d).element room c)

value_fits : (d : ℕ) → AreFitting d → FitsIn load (IsCanonicalOf d) (IsValueBy (spellings d))
value_fits d r t text h room le = let f = r.content h.0 t h.1 h.2 room le in (f.0, f.1, (h.0, h.1, f.2, h.3))

none_times : (n : ℕ) → 0 * n ≡ 0
none_times n = omega arith

-- the constructor of an array, and what its elements take besides their bytes
constructor_load : (d n : ℕ) (c : Elements) (ts : List Tree) (text : List ℕ) → 64 ≤ kind_byte c.1 → IsFirstConstructor (canonical d) c ts → length ts ≡ n → IsItems ((canonical d).element c) ts text
    → total load c.0 + n * element_load c ≤ first_load (trees_of ts) + (written_each (trees_of ts)).count * element_load (first_descriptors (trees_of ts), (written_each (trees_of ts)).kind)
constructor_load d n c [] text late first count items =
    let least = first ([], kind.Single (single.Bare bare.Null)) (64 ∷ []) [] (plain_constructor (IsCanonicalOf d) (kind.Single (single.Bare bare.Null)) (omega arith)) refl in
    let none : c.0 ≡ [] = nil_from_length c.0 (omega (arith, least.0)) in
    let zero_load : n * element_load c ≡ 0 = ap (λ (m : ℕ). m * element_load c) (sym count) ∙ none_times (element_load c) in
    omega (arith, zero_load, ap (total load) none)
constructor_load d n c (t ∷ us) text late first count items =
    let told : c.0 ≡ descriptors t = element_told d c late t items.0 items.2 in
    let k = (written_each (trees_of (t ∷ us))).kind in
    let more = bare_load n c.0 c.1 k (λ b. elements_kind d c b t us text items) in
    let same : n * element_load (c.0, k) ≡ (written_each (trees_of (t ∷ us))).count * element_load (descriptors t, k) =
    ap (λ (ds : List Tree). n * element_load (ds, k)) told ∙ ap (λ (m : ℕ). m * element_load (descriptors t, k)) (sym count ∙ sym (each_counted (t ∷ us))) in
    omega (arith, more, same, ap (total load) told, front_total t)

array_fits : (d : ℕ) → AreFitting d → (w : Width) → FitsIn (λ ts. inner_load (array (trees_of ts))) (IsFirstElements (canonical d) w) (IsArrayIn w (spellings d))
array_fits d r w ts text h room le =
    let n = h.0 in
    let c = h.4.0 in
    let k = h.4.3 in
    let times = h.4.4.2 in
    let late = constructor_late (IsCanonicalOf d) c h.4.1 k in
    let cost = constructor_load d n c ts h.4.2 late h.4.4.0 times.0 times.1 in
    let f = front_fits (IsCanonicalOf d) (IsValueBy (spellings d)) (value_fits d r) c.0 k.0 k.2 room (omega (arith, le, cost)) in
    let fits : n * element_load c ≤ f.0 = omega (arith, le, cost, f.1) in
    let g = row_fits inner_load ((canonical d).element c) (λ room. (spellings d).element room c) (r.element c late) ts h.4.2 times.1 (f.0 - n * element_load c) (omega (arith, le, cost, f.1, fits, inner_total ts)) in
    let row = subst (λ (m : ℕ). IsRow (λ room. (spellings d).element room c) m (f.0 - n * element_load c) (ts, g.0) h.4.2) times.0 g.2 in
    (g.0, omega (arith, le, cost, f.1, g.1, fits, inner_total ts), (n, h.1, h.2, h.3, ((c, f.0), h.4.1, h.4.2, (k.0, k.1, f.2, k.3, k.4), (fits, row), h.4.5), h.5))

flat_fits : (k : Kind) → FitsIn load (IsFlat k) (λ room. IsFlatIn room k)
flat_fits (kind.Single k) t text h room le = (room, omega arith, (h.0, ap (λ (t : Tree). (t, room)) h.1, h.2))
flat_fits kind.EmptyList t text h room le = absurd h
flat_fits (kind.List z) t text h room le = absurd h
flat_fits (kind.Map z) t text h room le = absurd h
flat_fits (kind.Array z) t text h room le = absurd h
flat_fits kind.Described t text h room le = absurd h

deep_fits : (d : ℕ) → AreFitting d → (k : Kind) → FitsIn load (IsDeepOf (IsFirstCode (canonical d).content) (IsFirstElements (canonical d)) k) (λ room. IsDeepIn (spellings d) room k)
deep_fits d r (kind.Single k) t text h room le = (room, omega arith, (h.0, ap (λ (t : Tree). (t, room)) h.1, h.2))
deep_fits d r kind.EmptyList t text h room le = (room, omega arith, (ap (λ (t : Tree). (t, room)) h.0, h.1))
deep_fits d r (kind.List z) t text h room le =
    let i = h.2.1 in
    let f = row_fits load (IsCanonicalOf d) (IsValueBy (spellings d)) (value_fits d r) h.0 i.2 i.4.1 room (omega (arith, le, ap load h.1, each_total h.0)) in
    let row = subst (λ (m : ℕ). IsRow (IsValueBy (spellings d)) m room (h.0, f.0) i.2) i.4.0 f.2 in
    (f.0, omega (arith, f.1, ap load h.1, each_total h.0), ((h.0, f.0), ap (λ (t : Tree). (t, f.0)) h.1, (h.2.0, (i.0, i.1, i.2, i.3, row, i.5), h.2.2)))
deep_fits d r (kind.Map z) t text h room le =
    let i = h.2.1 in
    let two = two_fits (IsCanonicalOf d) (IsValueBy (spellings d)) (value_fits d r) in
    let f = row_fits pair_load (IsPair (IsCanonicalOf d) (IsCanonicalOf d)) (IsTwo (IsValueBy (spellings d))) two h.0 i.2 i.4.1 room (omega (arith, le, ap load h.1, pairs_total h.0)) in
    let twice : i.0 ≡ 2 * length h.0 = i.4.0 in
    let half : length h.0 ≡ i.0 / 2 = omega arith in
    let even : i.0 % 2 ≡ 0 = omega arith in
    let row = subst (λ (m : ℕ). IsRow (IsTwo (IsValueBy (spellings d))) m room (h.0, f.0) i.2) half f.2 in
    (f.0, omega (arith, f.1, ap load h.1, pairs_total h.0), ((h.0, f.0), ap (λ (t : Tree). (t, f.0)) h.1, (h.2.0, (i.0, i.1, i.2, i.3, (even, row), i.5), h.2.2)))
deep_fits d r (kind.Array z) t text h room le =
    let f = array_fits d r (size_width z) h.0 h.2.0 h.2.1 room (omega (arith, le, ap load h.1)) in
    (f.0, omega (arith, f.1, ap load h.1), ((h.0, f.0), ap (λ (t : Tree). (t, f.0)) h.1, (h.2.0, f.2, h.2.2)))
deep_fits d r kind.Described t text h room le =
    let f = two_fits (IsCanonicalOf d) (IsValueBy (spellings d)) (value_fits d r) h.0 text h.2 room (omega (arith, le, ap load h.1)) in
    (f.0, omega (arith, f.1, ap load h.1), ((h.0, f.0), ap (λ (t : Tree). (t, f.0)) h.1, f.2))

-- a value that isn't described has all it takes in its content
plain_load : (t : Tree) → descriptors t ≡ [] → load t ≡ inner_load t
plain_load t plain = omega (arith, front_total t, ap (total load) plain)

level_fits : (d : ℕ) → AreFitting d
unfolding canonical spellings
level_fits zero = record { content = flat_fits; element = element }
  where
    element : (c : Elements) → 64 ≤ kind_byte c.1 → FitsIn inner_load ((canonical 0).element c) (λ room. (spellings 0).element room c)
    element ([], k) late t text h room le =
        let same = plain_load t (flat_plain k t text h) in
        let f = flat_fits k t text h room (omega (arith, le, same)) in
        (f.0, omega (arith, f.1, same), f.2)
    element (x ∷ xs, k) late t text h room le = absurd h.1.2
level_fits (suc d) = record { content = deep_fits d (level_fits d); element = element (level_fits d) }
  where
    element : AreFitting d → (c : Elements) → 64 ≤ kind_byte c.1 → FitsIn inner_load ((canonical (suc d)).element c) (λ room. (spellings (suc d)).element room c)
    element r ([], k) late t text h room le =
        let same = plain_load t (deep_plain (IsFirstCode (canonical d).content) (IsFirstElements (canonical d)) k late t text h) in
        let f = deep_fits d r k t text h room (omega (arith, le, same)) in
        (f.0, omega (arith, f.1, same), f.2)
    element r (x ∷ xs, k) late t text h room le =
        let f = r.element (xs, k) late h.1.0 text h.1.2 room (omega (arith, le, ap inner_load h.1.1)) in
        (f.0, omega (arith, f.1, ap inner_load h.1.1), (h.0, ((h.1.0, f.0), ap (λ (t : Tree). (t, f.0)) h.1.1, f.2)))

pub canonical_is_spelled : (t : Tree) (text : List ℕ) → IsCanonical t text → IsValue t text
canonical_is_spelled t text h = let f = value_fits 16 (level_fits 16) t text h.0 65536 h.1 in (f.0, f.2)
