-- The grammar of values without the room of their elements: contents, constructors and elements of the canonical spelling are ones of this grammar.
use Rattle.std.proofs.Common.{ℕ, zero, suc, ◌≤◌, List, [], ◌∷◌}
use Rattle.std.specs.Bool.{IsTrue}
use Rattle.std.specs.Int.{Width}
use Rattle.wire_base.specs.Spelling.{IsNumber, IsPair, IsItems}
use Rattle.types_10.specs.Tree.{Tree}
use Rattle.types_10.specs.Kinds.{is_bare, size_width}
use Rattle.types_10.specs.Grammar.{Elements, Spelled, IsDescriptorOf, IsPlainCode, IsConstructorOf}
use Rattle.types_10.specs.Grammar.{IsCoded, IsThen, IsTimes, IsFlat, IsDeepOf, IsElement}
use Rattle.types_10.specs.Canonical.{IsFirstCode, IsFirstElements, canonical, IsCanonicalOf}
use Rattle.types_10.specs.declared.kind.Kind.{Kind}
use Rattle.types_10.specs.declared.kind.Kind.TheVariants as kind

-- the count of the elements, their constructor, and the elements; there are at most 65,536 of those
-- that have no bytes
abbrev pub IsElementList : Width → Spelled → List Tree → List ℕ → Type 0
IsElementList w inside =
    IsThen (IsNumber w) (λ n. IsThen (IsConstructorOf (IsCoded inside.content)) (λ c ts text.
    (IsTrue (is_bare c.1) → n ≤ 65536) × IsTimes (inside.element c) n ts text))

-- the content of a value that may hold those inside
abbrev pub IsDeep : Spelled → Kind → Tree → List ℕ → Type 0
IsDeep inside = IsDeepOf (IsCoded inside.content) (λ w. IsElementList w inside)

-- values of at most this depth
unfoldable pub spelled : ℕ → Spelled
spelled zero = record {
  content = IsFlat;
  element = IsElement 0 IsFlat (λ c t text. ⊥);
}
spelled (suc d) = record {
  content = IsDeep (spelled d);
  element = IsElement d (IsDeep (spelled d)) (spelled d).element;
}

-- what one relation spells, the other spells
abbrev pub IsIn : {A : Type 0} → (A → List ℕ → Type 0) → (A → List ℕ → Type 0) → Type 0
IsIn {A} R S = (x : A) (text : List ℕ) → R x text → S x text

items_in : {A : Type 0} (R S : A → List ℕ → Type 0) → IsIn R S → IsIn (IsItems R) (IsItems S)
items_in R S h [] text i = i
items_in R S h (x ∷ xs) text i = (i.0, i.1, h x i.0 i.2, items_in R S h xs i.1 i.3, i.4)

pair_in : {A B : Type 0} (R S : A → List ℕ → Type 0) (T U : B → List ℕ → Type 0) → IsIn R S → IsIn T U → IsIn (IsPair R T) (IsPair S U)
pair_in R S T U h k p text i = (i.0, i.1, h p.0 i.0 i.2, k p.1 i.1 i.3, i.4)

-- contents, by what values and the insides of arrays are
deep_in : (R S : Tree → List ℕ → Type 0) (E F : Width → List Tree → List ℕ → Type 0) → IsIn R S → ((w : Width) → IsIn (E w) (F w)) → (k : Kind) → IsIn (IsDeepOf R E k) (IsDeepOf S F k)
deep_in R S E F h e (kind.Single k) t text i = i
deep_in R S E F h e kind.EmptyList t text i = i
deep_in R S E F h e (kind.List z) t text i =
    let n = i.2.1 in
    (i.0, i.1, (i.2.0, (n.0, n.1, n.2, n.3, (n.4.0, items_in R S h i.0 n.2 n.4.1), n.5), i.2.2))
deep_in R S E F h e (kind.Map z) t text i =
    let n = i.2.1 in
    (i.0, i.1, (i.2.0, (n.0, n.1, n.2, n.3, (n.4.0, items_in (IsPair R R) (IsPair S S) (pair_in R S R S h h) i.0 n.2 n.4.1), n.5), i.2.2))
deep_in R S E F h e (kind.Array z) t text i = (i.0, i.1, (i.2.0, e (size_width z) i.0 i.2.0 i.2.1, i.2.2))
deep_in R S E F h e kind.Described t text i = (i.0, i.1, pair_in R S R S h h i.0 text i.2)

descriptor_in : (R S : Tree → List ℕ → Type 0) → IsIn R S → IsIn (IsDescriptorOf R) (IsDescriptorOf S)
descriptor_in R S h t text i = (i.0, h t i.0 i.1, i.2)

constructor_in : (R S : Tree → List ℕ → Type 0) → IsIn R S → IsIn (IsConstructorOf R) (IsConstructorOf S)
constructor_in R S h = pair_in (IsItems (IsDescriptorOf R)) (IsItems (IsDescriptorOf S)) IsPlainCode IsPlainCode (items_in (IsDescriptorOf R) (IsDescriptorOf S) (descriptor_in R S h)) (λ k text i. i)

element_in : (d : ℕ) (C D : Kind → Tree → List ℕ → Type 0) (I J : Elements → Tree → List ℕ → Type 0) → ((k : Kind) → IsIn (C k) (D k)) → ((c : Elements) → IsIn (I c) (J c)) → (c : Elements) → IsIn (IsElement d C I c) (IsElement d D J c)
element_in d C D I J h m ([], k) t text i = h k t text i
element_in d C D I J h m (x ∷ xs, k) t text i = (i.0, (i.1.0, i.1.1, m (xs, k) i.1.0 text i.1.2))

-- what stands inside a value, of the one and of the other
pub record IsWithin (s g : Spelled) : Type 0 where
  pub content : (k : Kind) → IsIn (s.content k) (g.content k)
  pub element : (c : Elements) → IsIn (s.element c) (g.element c)

value_within : (s g : Spelled) → IsWithin s g → IsIn (IsFirstCode s.content) (IsCoded g.content)
value_within s g r t text h = (h.0, h.1, r.content h.0 t h.1 h.2, h.3)

elements_within : (s g : Spelled) → IsWithin s g → (w : Width) → IsIn (IsFirstElements s w) (IsElementList w g)
elements_within s g r w ts text h =
    let c = h.4 in
    let items = items_in (s.element c.0) (g.element c.0) (r.element c.0) ts c.2 c.4.2.1 in
    (h.0, h.1, h.2, h.3, (c.0, c.1, c.2, constructor_in (IsFirstCode s.content) (IsCoded g.content) (value_within s g r) c.0 c.1 c.3, (c.4.1, (c.4.2.0, items)), c.5), h.5)

pub level_within : (d : ℕ) → IsWithin (canonical d) (spelled d)
unfolding canonical spelled
level_within zero = record {
  content = λ k t text h. h;
  element = λ c t text h. h;
}
level_within (suc d) =
    let s = canonical d in
    let g = spelled d in
    let r = level_within d in
    let v = value_within s g r in
    let deep = deep_in (IsFirstCode s.content) (IsCoded g.content) (IsFirstElements s) (λ w. IsElementList w g) v (elements_within s g r) in
    record {
      content = deep;
      element = element_in d _ _ s.element g.element deep r.element;
    }

pub canonical_is_plain : (t : Tree) (text : List ℕ) → IsCanonicalOf 16 t text → IsCoded (spelled 16).content t text
canonical_is_plain = value_within (canonical 16) (spelled 16) (level_within 16)
