-- What is spelled at some depth is no deeper.
use Rattle.std.proofs.Common.{ℕ, zero, suc, ◌-◌, ◌*◌, ◌/◌, ◌≤◌, List, [], ◌∷◌, ap, arith}
use Rattle.wire_base.specs.Spelling.{IsItems, IsPair}
use Rattle.types_10.specs.Tree.{Tree, depth, trees_depth, pairs_depth, trees_of, pairs_of}
use Rattle.types_10.specs.Loads.{element_load}
use Rattle.types_10.specs.Grammar.{Elements, Spelled, IsCoded, IsFlat, IsElement, IsRow, IsTwo}
use Rattle.types_10.specs.Grammar.{Spellings, IsValueBy, IsFlatIn, IsDeepIn, IsElementIn, spellings}
use Rattle.types_10.specs.Grammar.{IsValue}
use Rattle.types_10.proofs.Form.{IsDeep, spelled}
use Rattle.types_10.specs.declared.kind.Kind.{Kind}
use Rattle.types_10.specs.declared.kind.Kind.TheVariants as kind

-- contents are no deeper, and neither are elements behind a constructor
pub record IsShallow (s : Spelled) (d : ℕ) : Type 0 where
  pub content : (k : Kind) (t : Tree) (text : List ℕ) → s.content k t text → depth t ≤ d
  pub element : (c : Elements) (t : Tree) (text : List ℕ) → s.element c t text → depth t ≤ d

pub items_depth : (d : ℕ) (R : Tree → List ℕ → Type 0) → ((t : Tree) (text : List ℕ) → R t text → depth t ≤ d) → (ts : List Tree) (text : List ℕ) → IsItems R ts text → trees_depth (trees_of ts) ≤ d
items_depth d R r [] text h = omega arith
items_depth d R r (t ∷ ts) text h = omega (arith, r t h.0 h.2, items_depth d R r ts h.1 h.3)

entries_depth : (d : ℕ) (R : Tree → List ℕ → Type 0) → ((t : Tree) (text : List ℕ) → R t text → depth t ≤ d) → (ps : List (Tree × Tree)) (text : List ℕ) → IsItems (IsPair R R) ps text → pairs_depth (pairs_of ps) ≤ d
entries_depth d R r [] text h = omega arith
entries_depth d R r (p ∷ ps) text h = omega (arith, r p.0 h.2.0 h.2.2, r p.1 h.2.1 h.2.3, entries_depth d R r ps h.1 h.3)

flat_depth : (k : Kind) (t : Tree) (text : List ℕ) → IsFlat k t text → depth t ≤ 0
flat_depth (kind.Single k) t text h = omega (arith, ap depth h.1)
flat_depth kind.EmptyList t text h = absurd h
flat_depth (kind.List s) t text h = absurd h
flat_depth (kind.Map s) t text h = absurd h
flat_depth (kind.Array s) t text h = absurd h
flat_depth kind.Described t text h = absurd h

coded_depth : (s : Spelled) (d : ℕ) → IsShallow s d → (t : Tree) (text : List ℕ) → IsCoded s.content t text → depth t ≤ d
coded_depth s d r t text h = r.content h.0 t h.1 h.2

deep_depth : (s : Spelled) (d : ℕ) → IsShallow s d → (k : Kind) (t : Tree) (text : List ℕ) → IsDeep s k t text → depth t ≤ suc d
deep_depth s d r (kind.Single k) t text h = omega (arith, ap depth h.1)
deep_depth s d r kind.EmptyList t text h = omega (arith, ap depth h.0)
deep_depth s d r (kind.List z) t text h =
    let items = h.2.1 in
    omega (arith, ap depth h.1, items_depth d (IsCoded s.content) (coded_depth s d r) h.0 items.2 items.4.1)
deep_depth s d r (kind.Map z) t text h =
    let items = h.2.1 in
    omega (arith, ap depth h.1, entries_depth d (IsCoded s.content) (coded_depth s d r) h.0 items.2 items.4.1)
deep_depth s d r (kind.Array z) t text h =
    let shape = h.2.1.4 in
    omega (arith, ap depth h.1, items_depth d (s.element shape.0) (r.element shape.0) h.0 shape.2 shape.4.1.1)
deep_depth s d r kind.Described t text h =
    omega (arith, ap depth h.1, coded_depth s d r h.0.0 h.2.0 h.2.2, coded_depth s d r h.0.1 h.2.1 h.2.3)

element_depth : (d : ℕ) (C : Kind → Tree → List ℕ → Type 0) (Inner : Elements → Tree → List ℕ → Type 0) → ((k : Kind) (t : Tree) (text : List ℕ) → C k t text → depth t ≤ suc d)
    → ((c : Elements) (t : Tree) (text : List ℕ) → Inner c t text → depth t ≤ d) → (c : Elements) (t : Tree) (text : List ℕ) → IsElement d C Inner c t text → depth t ≤ suc d
element_depth d C Inner r m ([], k) t text h = r k t text h
element_depth d C Inner r m (x ∷ xs, k) t text h = omega (arith, h.0, ap depth h.1.1, m (xs, k) h.1.0 text h.1.2)

flat_element_depth : (c : Elements) (t : Tree) (text : List ℕ) → IsElement 0 IsFlat (λ c t text. ⊥) c t text → depth t ≤ 0
flat_element_depth ([], k) t text h = flat_depth k t text h
flat_element_depth (x ∷ xs, k) t text h = absurd h.1.2

pub level_depth : (d : ℕ) → IsShallow (spelled d) d
unfolding spelled
level_depth zero = record { content = flat_depth; element = flat_element_depth }
level_depth (suc d) =
    let r = level_depth d in
    let deep = deep_depth (spelled d) d r in
    record { content = deep; element = element_depth d (IsDeep (spelled d)) (spelled d).element deep r.element }

pub plain_depth : (t : Tree) (text : List ℕ) → IsCoded (spelled 16).content t text → depth t ≤ 16
plain_depth t text h = coded_depth (spelled 16) 16 (level_depth 16) t text h

-- ---- within a room

-- contents are no deeper, and neither are elements behind a constructor
record AreShallow (s : Spellings) (d : ℕ) : Type 0 where
  content : (room : ℕ) (k : Kind) (t : Tree × ℕ) (text : List ℕ) → s.content room k t text → depth t.0 ≤ d
  element : (room : ℕ) (c : Elements) (t : Tree × ℕ) (text : List ℕ) → s.element room c t text → depth t.0 ≤ d

abbrev NoDeeper : ℕ → (ℕ → Tree × ℕ → List ℕ → Type 0) → Type 0
NoDeeper d R = (room : ℕ) (t : Tree × ℕ) (text : List ℕ) → R room t text → depth t.0 ≤ d

row_depth : (d : ℕ) (R : ℕ → Tree × ℕ → List ℕ → Type 0) → NoDeeper d R → (n room : ℕ) (ts : List Tree × ℕ) (text : List ℕ) → IsRow R n room ts text → trees_depth (trees_of ts.0) ≤ d
unfolding IsRow
row_depth d R r zero room ts text h = omega (arith, ap (λ (ts : List Tree × ℕ). trees_depth (trees_of ts.0)) h.0)
row_depth d R r (suc n) room ts text h =
    omega (arith, ap (λ (ts : List Tree × ℕ). trees_depth (trees_of ts.0)) h.4.1, r room h.0 h.1 h.3, row_depth d R r n h.0.1 h.4.0 h.2 h.4.2)

pair_row_depth : (d : ℕ) (R : ℕ → Tree × ℕ → List ℕ → Type 0) → NoDeeper d R → (n room : ℕ) (ps : List (Tree × Tree) × ℕ) (text : List ℕ) → IsRow (IsTwo R) n room ps text → pairs_depth (pairs_of ps.0) ≤ d
unfolding IsRow
pair_row_depth d R r zero room ps text h = omega (arith, ap (λ (ps : List (Tree × Tree) × ℕ). pairs_depth (pairs_of ps.0)) h.0)
pair_row_depth d R r (suc n) room ps text h =
    let two = h.3 in
    let key : depth h.0.0.0 ≤ d = omega (arith, r room two.0 two.1 two.3, ap (λ (p : (Tree × Tree) × ℕ). depth p.0.0) two.4.1) in
    let value : depth h.0.0.1 ≤ d = omega (arith, r two.0.1 two.4.0 two.2 two.4.2, ap (λ (p : (Tree × Tree) × ℕ). depth p.0.1) two.4.1) in
    omega (arith, ap (λ (ps : List (Tree × Tree) × ℕ). pairs_depth (pairs_of ps.0)) h.4.1, key, value, pair_row_depth d R r n h.0.1 h.4.0 h.2 h.4.2)

flat_room_depth : (room : ℕ) (k : Kind) (t : Tree × ℕ) (text : List ℕ) → IsFlatIn room k t text → depth t.0 ≤ 0
flat_room_depth room (kind.Single k) t text h = omega (arith, ap (λ (t : Tree × ℕ). depth t.0) h.1)
flat_room_depth room kind.EmptyList t text h = absurd h
flat_room_depth room (kind.List s) t text h = absurd h
flat_room_depth room (kind.Map s) t text h = absurd h
flat_room_depth room (kind.Array s) t text h = absurd h
flat_room_depth room kind.Described t text h = absurd h

value_by_depth : (s : Spellings) (d : ℕ) → AreShallow s d → NoDeeper d (IsValueBy s)
value_by_depth s d r room t text h = r.content room h.0 t h.1 h.2

deep_room_depth : (s : Spellings) (d : ℕ) → AreShallow s d → (room : ℕ) (k : Kind) (t : Tree × ℕ) (text : List ℕ) → IsDeepIn s room k t text → depth t.0 ≤ suc d
deep_room_depth s d r room (kind.Single k) t text h = omega (arith, ap (λ (t : Tree × ℕ). depth t.0) h.1)
deep_room_depth s d r room kind.EmptyList t text h = omega (arith, ap (λ (t : Tree × ℕ). depth t.0) h.0)
deep_room_depth s d r room (kind.List z) t text h =
    let items = h.2.1 in
    omega (arith, ap (λ (t : Tree × ℕ). depth t.0) h.1, row_depth d (IsValueBy s) (value_by_depth s d r) items.0 room h.0 items.2 items.4)
deep_room_depth s d r room (kind.Map z) t text h =
    let items = h.2.1 in
    omega (arith, ap (λ (t : Tree × ℕ). depth t.0) h.1, pair_row_depth d (IsValueBy s) (value_by_depth s d r) (items.0 / 2) room h.0 items.2 items.4.1)
deep_room_depth s d r room (kind.Array z) t text h =
    let n = h.2.1.0 in
    let c = h.2.1.4.0 in
    let elements = h.2.1.4.4 in
    omega (arith, ap (λ (t : Tree × ℕ). depth t.0) h.1, row_depth d (λ room. s.element room c.0) (λ room. r.element room c.0) n (c.1 - n * element_load c.0) h.0 h.2.1.4.2 elements.1)
deep_room_depth s d r room kind.Described t text h =
    let two = h.2 in
    omega (
      arith,
      ap (λ (t : Tree × ℕ). depth t.0) h.1,
      ap (λ (p : (Tree × Tree) × ℕ). depth p.0.0) two.4.1,
      ap (λ (p : (Tree × Tree) × ℕ). depth p.0.1) two.4.1,
      value_by_depth s d r room two.0 two.1 two.3,
      value_by_depth s d r two.0.1 two.4.0 two.2 two.4.2,
    )

element_room_depth : (d : ℕ) (C : ℕ → Kind → Tree × ℕ → List ℕ → Type 0) (Inner : ℕ → Elements → Tree × ℕ → List ℕ → Type 0) → ((room : ℕ) (k : Kind) (t : Tree × ℕ) (text : List ℕ) → C room k t text → depth t.0 ≤ suc d)
    → ((room : ℕ) (c : Elements) (t : Tree × ℕ) (text : List ℕ) → Inner room c t text → depth t.0 ≤ d) → (room : ℕ) (c : Elements) (t : Tree × ℕ) (text : List ℕ) → IsElementIn d C Inner room c t text → depth t.0 ≤ suc d
element_room_depth d C Inner r m room ([], k) t text h = r room k t text h
element_room_depth d C Inner r m room (x ∷ xs, k) t text h = omega (arith, h.0, ap (λ (t : Tree × ℕ). depth t.0) h.1.1, m room (xs, k) h.1.0 text h.1.2)

flat_element_room_depth : (room : ℕ) (c : Elements) (t : Tree × ℕ) (text : List ℕ) → IsElementIn 0 IsFlatIn (λ room c t text. ⊥) room c t text → depth t.0 ≤ 0
flat_element_room_depth room ([], k) t text h = flat_room_depth room k t text h
flat_element_room_depth room (x ∷ xs, k) t text h = absurd h.1.2

room_depth : (d : ℕ) → AreShallow (spellings d) d
unfolding spellings
room_depth zero = record { content = flat_room_depth; element = flat_element_room_depth }
room_depth (suc d) =
    let r = room_depth d in
    let deep = deep_room_depth (spellings d) d r in
    record { content = deep; element = element_room_depth d (IsDeepIn (spellings d)) (spellings d).element deep r.element }

pub value_depth : (t : Tree) (text : List ℕ) → IsValue t text → depth t ≤ 16
value_depth t text h = value_by_depth (spellings 16) 16 (room_depth 16) 65536 (t, h.0) text h.1
