-- A value has one canonical spelling at most.
use Rattle.std.proofs.Common.{◌≡◌, ℕ, zero, suc, ◌≤◌, List, [], ◌∷◌, ◌++◌, refl, sym, ap, subst}
use Rattle.std.proofs.Common.{◌∙◌, arith}
use Rattle.std.specs.Bool.{IsTrue}
use Rattle.std.specs.Int.{Width, to_be_bytes}
use Rattle.std.proofs.lemmas.List.{nil_from_length}
use Rattle.wire_base.specs.Spelling.{text_of, IsMade, IsNumber, IsPair, IsItems}
use Rattle.types_10.specs.Tree.{Tree, scalar, list, mapping, array, described, trees_of, pairs_of}
use Rattle.types_10.specs.Kinds.{is_bare, size_width}
use Rattle.types_10.specs.Grammar.{Elements, Spelled, IsDescriptorOf, IsPlainCode, IsConstructorOf}
use Rattle.types_10.specs.Grammar.{IsSingle, IsFilled, IsThen, IsTimes, IsItemList, IsPairList}
use Rattle.types_10.specs.Grammar.{IsFlat, IsDeepOf, IsElement}
use Rattle.types_10.specs.Canonical.{IsFirstCode, IsFirstConstructor, IsFirstElements, canonical}
use Rattle.types_10.specs.Canonical.{IsCanonicalOf, IsCanonical}
use Rattle.types_10.specs.Writing.{descriptors}
use Rattle.types_10.proofs.Wider.{same_kind}
use Rattle.types_10.proofs.Written.{single_is}
use Rattle.types_10.proofs.Elements.{constructor_late, plain_constructor, element_told}
use Rattle.types_10.specs.declared.kind.Kind.{Kind}
use Rattle.types_10.specs.declared.kind.Kind.TheVariants as kind
use Rattle.types_10.specs.declared.kind.Single.{Single}
use Rattle.types_10.specs.declared.kind.Single.TheVariants as single
use Rattle.types_10.specs.declared.kind.Bare.TheVariants as bare

-- one spelling at most
abbrev pub IsAlone : {A : Type 0} → (A → List ℕ → Type 0) → Type 0
IsAlone {A} R = (x : A) (a b : List ℕ) → R x a → R x b → a ≡ b

items_alone : {A : Type 0} (R : A → List ℕ → Type 0) → IsAlone R → IsAlone (IsItems R)
items_alone R r [] a b h g = h ∙ sym g
items_alone R r (x ∷ xs) a b h g =
    let first : h.0 ≡ g.0 = r x h.0 g.0 h.2 g.2 in
    let rest : h.1 ≡ g.1 = items_alone R r xs h.1 g.1 h.3 g.3 in
    cc

pair_alone : {A B : Type 0} (R : A → List ℕ → Type 0) (S : B → List ℕ → Type 0) → IsAlone R → IsAlone S → IsAlone (IsPair R S)
pair_alone R S r s p a b h g =
    let first : h.0 ≡ g.0 = r p.0 h.0 g.0 h.2 g.2 in
    let rest : h.1 ≡ g.1 = s p.1 h.1 g.1 h.3 g.3 in
    cc

filled_alone : {A : Type 0} (w : Width) (R : A → List ℕ → Type 0) → IsAlone R → IsAlone (IsFilled w R)
filled_alone w R r x a b h g = h.2.1 ∙ ap (text_of w) (r x h.0 g.0 h.1 g.1) ∙ sym g.2.1

-- a list as a value holds it, and the pairs of a map
pub trees_same : (ts us : List Tree) → trees_of ts ≡ trees_of us → ts ≡ us
trees_same [] [] e = refl
trees_same [] (u ∷ us) e = absurd cc
trees_same (t ∷ ts) [] e = absurd cc
trees_same (t ∷ ts) (u ∷ us) e =
    let rest : ts ≡ us = trees_same ts us cc in
    cc

same_pair : {A B : Type 0} (p q : A × B) → p.0 ≡ q.0 → p.1 ≡ q.1 → p ≡ q
same_pair {A} {B} p q e f = ap (λ (x : A). (x, p.1)) e ∙ ap (λ (y : B). (q.0, y)) f

pub pairs_same : (ps qs : List (Tree × Tree)) → pairs_of ps ≡ pairs_of qs → ps ≡ qs
pairs_same [] [] e = refl
pairs_same [] (q ∷ qs) e = absurd cc
pairs_same (p ∷ ps) [] e = absurd cc
pairs_same (p ∷ ps) (q ∷ qs) e =
    let rest : ps ≡ qs = pairs_same ps qs cc in
    let first : p ≡ q = same_pair p q (cc) (cc) in
    cc

made_alone : {A B : Type 0} (make : A → B) (R : A → List ℕ → Type 0) → ((x y : A) → make x ≡ make y → x ≡ y) → IsAlone R → IsAlone (IsMade make R)
made_alone {A} make R same r t a b h g = r h.0 a b h.2 (subst (λ (x : A). R x b) (same g.0 h.0 (sym g.1 ∙ h.1)) g.2)

-- ---- lists and maps

count_alone : (w : Width) (m n : ℕ) (a b c d : List ℕ) → IsNumber w m a → IsNumber w n b → m ≡ n → c ≡ d → a ++ c ≡ b ++ d
count_alone w m n a b c d h g e f =
    let first : a ≡ b = h.1 ∙ ap (to_be_bytes w) e ∙ sym g.1 in
    cc

list_alone : (w : Width) (R : Tree → List ℕ → Type 0) → IsAlone R → IsAlone (IsItemList w R)
list_alone w R r ts a b h g =
    h.5 ∙ count_alone w h.0 g.0 h.1 g.1 h.2 g.2 h.3 g.3 (sym h.4.0 ∙ g.4.0) (items_alone R r ts h.2 g.2 h.4.1 g.4.1) ∙ sym g.5

map_alone : (w : Width) (R : Tree → List ℕ → Type 0) → IsAlone R → IsAlone (IsPairList w R)
map_alone w R r ps a b h g =
    h.5 ∙ count_alone w h.0 g.0 h.1 g.1 h.2 g.2 h.3 g.3 (h.4.0 ∙ sym g.4.0) (items_alone (IsPair R R) (pair_alone R R r r) ps h.2 g.2 h.4.1 g.4.1) ∙ sym g.5

-- ---- contents, constructors and elements

single_alone : (k : Single) → IsAlone (IsSingle k)
single_alone k s a b h g = single_is k s a h ∙ sym (single_is k s b g)

flat_alone : (k : Kind) → IsAlone (IsFlat k)
flat_alone (kind.Single k) = made_alone scalar (IsSingle k) (λ x y e. cc) (single_alone k)
flat_alone kind.EmptyList = λ t a b h g. absurd h
flat_alone (kind.List z) = λ t a b h g. absurd h
flat_alone (kind.Map z) = λ t a b h g. absurd h
flat_alone (kind.Array z) = λ t a b h g. absurd h
flat_alone kind.Described = λ t a b h g. absurd h

deep_alone : (R : Tree → List ℕ → Type 0) (E : Width → List Tree → List ℕ → Type 0) → IsAlone R → ((w : Width) → IsAlone (E w)) → (k : Kind) → IsAlone (IsDeepOf R E k)
deep_alone R E r e (kind.Single k) = made_alone scalar (IsSingle k) (λ x y e. cc) (single_alone k)
deep_alone R E r e kind.EmptyList = λ t a b h g. h.1 ∙ sym g.1
deep_alone R E r e (kind.List z) =
    let w = size_width z in
    made_alone (λ ts. list (trees_of ts)) _ (λ x y e. trees_same x y cc) (filled_alone w (IsItemList w R) (list_alone w R r))
deep_alone R E r e (kind.Map z) =
    let w = size_width z in
    made_alone (λ ps. mapping (pairs_of ps)) _ (λ x y e. pairs_same x y cc) (filled_alone w (IsPairList w R) (map_alone w R r))
deep_alone R E r e (kind.Array z) =
    let w = size_width z in
    made_alone (λ ts. array (trees_of ts)) _ (λ x y e. trees_same x y cc) (filled_alone w (E w) (e w))
deep_alone R E r e kind.Described = made_alone (λ p. described p.0 p.1) _ (λ x y e. same_pair x y (cc) (cc)) (pair_alone R R r r)

first_alone : (C : Kind → Tree → List ℕ → Type 0) → ((k : Kind) → IsAlone (C k)) → IsAlone (IsFirstCode C)
first_alone C r t a b h g =
    let k : g.0 ≡ h.0 = same_kind g.0 h.0 (omega (arith, h.4 g.0 g.1 g.2, g.4 h.0 h.1 h.2)) in
    let rest : h.1 ≡ g.1 = r h.0 t h.1 g.1 h.2 (subst (λ (k : Kind). C k t g.1) k g.2) in
    cc

descriptor_alone : (R : Tree → List ℕ → Type 0) → IsAlone R → IsAlone (IsDescriptorOf R)
descriptor_alone R r t a b h g =
    let body : h.0 ≡ g.0 = r t h.0 g.0 h.1 g.1 in
    cc

constructor_alone : (R : Tree → List ℕ → Type 0) → IsAlone R → IsAlone (IsConstructorOf R)
constructor_alone R r = pair_alone (IsItems (IsDescriptorOf R)) IsPlainCode (items_alone (IsDescriptorOf R) (descriptor_alone R r)) (λ k a b h g. h.1 ∙ sym g.1)

element_alone : (d : ℕ) (C : Kind → Tree → List ℕ → Type 0) (I : Elements → Tree → List ℕ → Type 0) → ((k : Kind) → IsAlone (C k)) → ((c : Elements) → IsAlone (I c)) → (c : Elements) → IsAlone (IsElement d C I c)
element_alone d C I r m ([], k) = r k
element_alone d C I r m (x ∷ xs, k) = λ t a b h g. made_alone (described x) (I (xs, k)) (λ x y e. cc) (m (xs, k)) t a b h.1 g.1

-- ---- what stands in an array

-- a constructor, the first that fits the elements, and the elements behind it
record IsBehind (d : ℕ) (ts : List Tree) (c : Elements) : Type 0 where
  front : List ℕ
  text : List ℕ
  told : IsConstructorOf (IsCanonicalOf d) c front
  items : IsItems ((canonical d).element c) ts text
  first : IsFirstConstructor (canonical d) c ts

behind_none : (d : ℕ) (c : Elements) → IsBehind d [] c → c.0 ≡ []
behind_none d c h =
    let none = plain_constructor (IsCanonicalOf d) (kind.Single (single.Bare bare.Null)) (omega arith) in
    nil_from_length c.0 (omega (arith, (h.first ([], kind.Single (single.Bare bare.Null)) _ [] none refl).0))

behind_told : (d : ℕ) (t : Tree) (ts : List Tree) (c : Elements) → IsBehind d (t ∷ ts) c → c.0 ≡ descriptors t
behind_told d t ts c h = element_told d c (constructor_late (IsCanonicalOf d) c h.front h.told) t h.items.0 h.items.2

same_descriptors : (d : ℕ) (ts : List Tree) (c e : Elements) → IsBehind d ts c → IsBehind d ts e → c.0 ≡ e.0
same_descriptors d [] c e h g = behind_none d c h ∙ sym (behind_none d e g)
same_descriptors d (t ∷ ts) c e h g = behind_told d t ts c h ∙ sym (behind_told d t ts e g)

same_constructor : (d : ℕ) (ts : List Tree) (c e : Elements) → IsBehind d ts c → IsBehind d ts e → c ≡ e
same_constructor d ts c e h g =
    let one = h.first e g.front g.text g.told g.items in
    let two = g.first c h.front h.text h.told h.items in
    same_pair c e (same_descriptors d ts c e h g) (same_kind c.1 e.1 (omega (arith, one.1, two.1)))

-- each level's spellings are alone
record AreAlone (s : Spelled) : Type 0 where
  content : (k : Kind) → IsAlone (s.content k)
  element : (c : Elements) → IsAlone (s.element c)

-- what stands behind the count of an array
abbrev pub IsFirstBody : Spelled → ℕ → List Tree → List ℕ → Type 0
IsFirstBody inside n = IsThen (IsConstructorOf (IsFirstCode inside.content)) (λ c ts text. IsFirstConstructor inside c ts × (IsTrue (is_bare c.1) → n ≤ 65536) × IsTimes (inside.element c) n ts text)

body_alone : (d n : ℕ) → AreAlone (canonical d) → IsAlone (IsFirstBody (canonical d) n)
body_alone d n r ts a b x y =
    let p : IsBehind d ts x.0 = record { front = x.1; text = x.2; told = x.3; items = x.4.2.1; first = x.4.0 } in
    let q : IsBehind d ts y.0 = record { front = y.1; text = y.2; told = y.3; items = y.4.2.1; first = y.4.0 } in
    let same : y.0 ≡ x.0 = sym (same_constructor d ts x.0 y.0 p q) in
    let values = first_alone (canonical d).content r.content in
    let front : x.1 ≡ y.1 = constructor_alone (IsCanonicalOf d) values x.0 x.1 y.1 x.3 (subst (λ (c : Elements). IsConstructorOf (IsCanonicalOf d) c y.1) same y.3) in
    let items : x.2 ≡ y.2 = items_alone ((canonical d).element x.0) (r.element x.0) ts x.2 y.2 x.4.2.1 (subst (λ (c : Elements). IsItems ((canonical d).element c) ts y.2) same y.4.2.1) in
    cc

elements_alone : (d : ℕ) → AreAlone (canonical d) → (w : Width) → IsAlone (IsFirstElements (canonical d) w)
elements_alone d r w ts a b h g =
    let count : h.0 ≡ g.0 = sym h.4.4.2.0 ∙ g.4.4.2.0 in
    let rest : h.2 ≡ g.2 = body_alone d h.0 r ts h.2 g.2 h.4 (subst (λ (n : ℕ). IsFirstBody (canonical d) n ts g.2) (sym count) g.4) in
    h.5 ∙ count_alone w h.0 g.0 h.1 g.1 h.2 g.2 h.3 g.3 count rest ∙ sym g.5

level_alone : (d : ℕ) → AreAlone (canonical d)
unfolding canonical
level_alone zero = record {
  content = flat_alone;
  element = element_alone 0 IsFlat (λ c t text. ⊥) flat_alone (λ c t a b h g. absurd h);
}
level_alone (suc d) =
    let s = canonical d in
    let r = level_alone d in
    let values = first_alone s.content r.content in
    let deep = deep_alone (IsFirstCode s.content) (IsFirstElements s) values (elements_alone d r) in
    record {
      content = deep;
      element = element_alone d (IsDeepOf (IsFirstCode s.content) (IsFirstElements s)) s.element deep r.element;
    }

pub value_alone : (d : ℕ) → IsAlone (IsCanonicalOf d)
value_alone d = first_alone (canonical d).content (level_alone d).content

pub values_alone : (d : ℕ) → IsAlone (IsItems (IsCanonicalOf d))
values_alone d = items_alone (IsCanonicalOf d) (value_alone d)

pub entries_alone : (d : ℕ) → IsAlone (IsItems (IsPair (IsCanonicalOf d) (IsCanonicalOf d)))
entries_alone d = items_alone (IsPair (IsCanonicalOf d) (IsCanonicalOf d)) (pair_alone (IsCanonicalOf d) (IsCanonicalOf d) (value_alone d) (value_alone d))

pub bodies_alone : (d n : ℕ) → IsAlone (IsFirstBody (canonical d) n)
bodies_alone d n = body_alone d n (level_alone d)

pub canonical_alone : (t : Tree) (a b : List ℕ) → IsCanonical t a → IsCanonical t b → a ≡ b
canonical_alone t a b h k = value_alone 16 t a b h.0 k.0
