-- Constructors and elements of canonical spellings: no constructor tells the kind of described values, and the descriptors that it
-- tells are those of the elements.
use Rattle.std.proofs.Common.{◌≡◌, ◌≢◌, ℕ, zero, suc, ◌≤◌, false, List, [], ◌∷◌, length, refl, sym}
use Rattle.std.proofs.Common.{ap, subst, ◌∙◌, arith}
use Rattle.std.proofs.lemmas.List.{length-append}
use Rattle.std.specs.Int.{Width, byte_len}
use Rattle.wire_base.specs.Spelling.{IsMade, IsText, IsItems}
use Rattle.types_10.specs.Tree.{Scalar, Tree, scalar}
use Rattle.types_10.specs.Kinds.{kind_byte, is_bare, wide_width, size_width}
use Rattle.types_10.specs.Grammar.{Elements, IsConstructorOf, IsSingle, IsFlat, IsDeepOf}
use Rattle.types_10.specs.Canonical.{IsFirstCode, IsFirstElements, canonical}
use Rattle.types_10.specs.Writing.{descriptors}
use Rattle.types_10.proofs.ValueLaws.{wide_is}
use Rattle.types_10.specs.declared.kind.Kind.{Kind}
use Rattle.types_10.specs.declared.kind.Kind.TheVariants as kind
use Rattle.types_10.specs.declared.kind.Single.{Single}
use Rattle.types_10.specs.declared.kind.Single.TheVariants as single
use Rattle.types_10.specs.declared.kind.Bare.TheVariants as bare
use Rattle.types_10.specs.declared.kind.Octet.TheVariants as octet
use Rattle.types_10.specs.declared.kind.Wide.{Wide}
use Rattle.types_10.specs.declared.kind.Wide.TheVariants as wide
use Rattle.types_10.specs.declared.kind.Sixteen.TheVariants as sixteen
use Rattle.types_10.specs.declared.kind.Text.TheVariants as text
use Rattle.types_10.specs.declared.kind.Size.{Size}
use Rattle.types_10.specs.declared.kind.Size.TheVariants as size

-- no kind but that of described values has a code before that of null
pub single_late : (k : Single) → 64 ≤ kind_byte (kind.Single k)
single_late (single.Bare bare.Null) = omega arith
single_late (single.Octet octet.Ubyte) = omega arith
single_late (single.Wide wide.Ushort) = omega arith
single_late (single.Sixteen sixteen.Uuid) = omega arith
single_late (single.Text text.Binary size.Short) = omega arith
single_late (single.Text text.String size.Short) = omega arith
single_late (single.Text text.Symbol size.Short) = omega arith
single_late k = omega arith

pub list_late : (z : Size) → 64 ≤ kind_byte (kind.List z)
list_late size.Short = omega arith
list_late size.Long = omega arith

pub map_late : (z : Size) → 64 ≤ kind_byte (kind.Map z)
map_late size.Short = omega arith
map_late size.Long = omega arith

pub array_late : (z : Size) → 64 ≤ kind_byte (kind.Array z)
array_late size.Short = omega arith
array_late size.Long = omega arith

-- ---- constructors

pub kind_late : (k : Kind) → k ≢ kind.Described → 64 ≤ kind_byte k
kind_late (kind.Single k) h = single_late k
kind_late kind.EmptyList h = omega arith
kind_late (kind.List z) h = list_late z
kind_late (kind.Map z) h = map_late z
kind_late (kind.Array z) h = array_late z
kind_late kind.Described h = absurd (h refl)

pub late_plain : (k : Kind) → 64 ≤ kind_byte k → k ≢ kind.Described
late_plain k l e = omega (arith, ap kind_byte e)

pub constructor_late : (R : Tree → List ℕ → Type 0) (c : Elements) (text : List ℕ) → IsConstructorOf R c text → 64 ≤ kind_byte c.1
constructor_late R c text h = kind_late c.1 h.3.0

-- the constructor of elements that are not described
pub plain_constructor : (R : Tree → List ℕ → Type 0) (k : Kind) → 64 ≤ kind_byte k → IsConstructorOf R ([], k) (kind_byte k ∷ [])
plain_constructor R k l = ([], kind_byte k ∷ [], refl, (late_plain k l, refl), refl)

-- ---- elements

pub flat_plain : (k : Kind) (t : Tree) (text : List ℕ) → IsFlat k t text → descriptors t ≡ []
flat_plain (kind.Single k) t text h = ap descriptors h.1
flat_plain kind.EmptyList t text h = absurd h
flat_plain (kind.List z) t text h = absurd h
flat_plain (kind.Map z) t text h = absurd h
flat_plain (kind.Array z) t text h = absurd h
flat_plain kind.Described t text h = absurd h

pub deep_plain : (R : Tree → List ℕ → Type 0) (E : Width → List Tree → List ℕ → Type 0) (k : Kind) → 64 ≤ kind_byte k → (t : Tree) (text : List ℕ) → IsDeepOf R E k t text → descriptors t ≡ []
deep_plain R E (kind.Single k) l t text h = ap descriptors h.1
deep_plain R E kind.EmptyList l t text h = ap descriptors h.0
deep_plain R E (kind.List z) l t text h = ap descriptors h.1
deep_plain R E (kind.Map z) l t text h = ap descriptors h.1
deep_plain R E (kind.Array z) l t text h = ap descriptors h.1
deep_plain R E kind.Described l t text h = absurd (omega arith)

pub element_told : (d : ℕ) (c : Elements) → 64 ≤ kind_byte c.1 → (t : Tree) (text : List ℕ) → (canonical d).element c t text → c.0 ≡ descriptors t
unfolding canonical
element_told zero ([], k) l t text h = sym (flat_plain k t text h)
element_told zero (x ∷ xs, k) l t text h = absurd h.1.2
element_told (suc d) ([], k) l t text h = sym (deep_plain (IsFirstCode (canonical d).content) (IsFirstElements (canonical d)) k l t text h)
element_told (suc d) (x ∷ xs, k) l t text h = ap (λ (ds : List Tree). x ∷ ds) (element_told d (xs, k) l h.1.0 text h.1.2) ∙ sym (ap descriptors h.1.1)

-- an element that is not described is a content
pub plain_in : (d : ℕ) (k : Kind) (t : Tree) (text : List ℕ) → (canonical d).content k t text → (canonical d).element ([], k) t text
unfolding canonical
plain_in zero k t text h = h
plain_in (suc d) k t text h = h

pub plain_out : (d : ℕ) (k : Kind) (t : Tree) (text : List ℕ) → (canonical d).element ([], k) t text → (canonical d).content k t text
unfolding canonical
plain_out zero k t text h = h
plain_out (suc d) k t text h = h

-- ---- contents

-- values that hold no other, at each depth
pub scalar_in : (d : ℕ) (k : Single) (s : Scalar) (text : List ℕ) → IsSingle k s text → (canonical d).content (kind.Single k) (scalar s) text
unfolding canonical
scalar_in zero k s text h = (s, refl, h)
scalar_in (suc d) k s text h = (s, refl, h)

abbrev IsSingleOf : Kind → Scalar → List ℕ → Type 0
IsSingleOf j s text = (k : Single) × (j ≡ kind.Single k) × IsSingle k s text

made_single : (k : Single) (s : Scalar) (text : List ℕ) → IsMade scalar (IsSingle k) (scalar s) text → IsSingle k s text
made_single k s text h =
    let same : h.0 ≡ s = cc in
    subst (λ (s : Scalar). IsSingle k s text) same h.2

flat_out : (k : Kind) (s : Scalar) (text : List ℕ) → IsFlat k (scalar s) text → IsSingleOf k s text
flat_out (kind.Single k) s text h = (k, refl, made_single k s text h)
flat_out kind.EmptyList s text h = absurd h
flat_out (kind.List z) s text h = absurd h
flat_out (kind.Map z) s text h = absurd h
flat_out (kind.Array z) s text h = absurd h
flat_out kind.Described s text h = absurd h

deep_out : (R : Tree → List ℕ → Type 0) (E : Width → List Tree → List ℕ → Type 0) (k : Kind) (s : Scalar) (text : List ℕ) → IsDeepOf R E k (scalar s) text → IsSingleOf k s text
deep_out R E (kind.Single k) s text h = (k, refl, made_single k s text h)
deep_out R E kind.EmptyList s text h = absurd cc
deep_out R E (kind.List z) s text h = absurd cc
deep_out R E (kind.Map z) s text h = absurd cc
deep_out R E (kind.Array z) s text h = absurd cc
deep_out R E kind.Described s text h = absurd cc

pub scalar_out : (d : ℕ) (k : Kind) (s : Scalar) (text : List ℕ) → (canonical d).content k (scalar s) text → IsSingleOf k s text
unfolding canonical
scalar_out zero k s text h = flat_out k s text h
scalar_out (suc d) k s text h = deep_out (IsFirstCode (canonical d).content) (IsFirstElements (canonical d)) k s text h

-- ---- what has bytes

text_some : (z : Size) (s text : List ℕ) → IsText (size_width z) s text → 1 ≤ length text
text_some size.Short s text h = omega (arith, ap length h.1)
text_some size.Long s text h = omega (arith, ap length h.1)

single_some : (k : Single) → is_bare (kind.Single k) ≡ false → (s : Scalar) (text : List ℕ) → IsSingle k s text → 1 ≤ length text
single_some (single.Bare k) b s text h = absurd cc
single_some single.Boolean b s text h = omega (arith, ap length h.2.1.1)
single_some (single.Octet k) b s text h = omega (arith, ap length h.2.1)
single_some (single.Wide k) b s text h = omega (arith, ap length h.2.1 ∙ (wide_is k).len h.0, wide_bytes k)
  where
    wide_bytes : (k : Wide) → 1 ≤ byte_len (wide_width k)
    wide_bytes wide.Ushort = omega arith
    wide_bytes k = omega arith
single_some single.Char b s text h = omega (arith, ap length h.2.1.1)
single_some (single.Sixteen k) b s text h = omega (arith, ap length h.2.1, h.2.0)
single_some (single.Text k z) b s text h = text_some z h.0 text h.2.1

-- a content that may have bytes has some
deep_some : (R : Tree → List ℕ → Type 0) (E : Width → List Tree → List ℕ → Type 0) (k : Kind) → 64 ≤ kind_byte k → is_bare k ≡ false → (t : Tree) (text : List ℕ) → IsDeepOf R E k t text → 1 ≤ length text
deep_some R E (kind.Single k) l b t text h = single_some k b h.0 text h.2
deep_some R E kind.EmptyList l b t text h = absurd cc
deep_some R E (kind.List z) l b t text h = text_some z h.2.0 text h.2.2
deep_some R E (kind.Map z) l b t text h = text_some z h.2.0 text h.2.2
deep_some R E (kind.Array z) l b t text h = text_some z h.2.0 text h.2.2
deep_some R E kind.Described l b t text h = absurd (omega arith)

flat_some : (k : Kind) → is_bare k ≡ false → (t : Tree) (text : List ℕ) → IsFlat k t text → 1 ≤ length text
flat_some (kind.Single k) b t text h = single_some k b h.0 text h.2
flat_some kind.EmptyList b t text h = absurd h
flat_some (kind.List z) b t text h = absurd h
flat_some (kind.Map z) b t text h = absurd h
flat_some (kind.Array z) b t text h = absurd h
flat_some kind.Described b t text h = absurd h

pub element_some : (d : ℕ) (c : Elements) → 64 ≤ kind_byte c.1 → is_bare c.1 ≡ false → (t : Tree) (text : List ℕ) → (canonical d).element c t text → 1 ≤ length text
unfolding canonical
element_some zero ([], k) l b t text h = flat_some k b t text h
element_some zero (x ∷ xs, k) l b t text h = absurd h.1.2
element_some (suc d) ([], k) l b t text h = deep_some (IsFirstCode (canonical d).content) (IsFirstElements (canonical d)) k l b t text h
element_some (suc d) (x ∷ xs, k) l b t text h = element_some d (xs, k) l b h.1.0 text h.1.2

-- items that have bytes are no more than the bytes
pub items_count : {A : Type 0} (R : A → List ℕ → Type 0) → ((x : A) (text : List ℕ) → R x text → 1 ≤ length text) → (xs : List A) (text : List ℕ) → IsItems R xs text → length xs ≤ length text
items_count R r [] text h = omega arith
items_count R r (x ∷ xs) text h = omega (arith, r x h.0 h.2, items_count R r xs h.1 h.3, ap length h.4, length-append h.0 h.1)
