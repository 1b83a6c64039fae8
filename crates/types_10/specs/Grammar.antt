-- How values are spelled (AMQP 1.0 1.6): a relation between a value and the bytes that spell it,
-- all of the bytes, one case for each format code. A value is its code and a content; the size of a
-- list, a map or an array is exactly that of what stands in it; an array is a constructor and
-- contents without codes; the depth of a value is at most 16. The descriptors of a constructor add
-- to the depth of the elements that have them, and to no other.
use Rattle.std.specs.Prelude.{◌≡◌, ◌≢◌, ℕ, zero, suc, ◌-◌, ◌*◌, ◌/◌, ◌%◌, ◌≤◌, ◌==◌, nat_lt, IsTrue}
use Rattle.std.specs.Prelude.{List, [], ◌∷◌, ◌++◌, length}
use Rattle.std.specs.Int.{Width, w8, w32}
use Rattle.wire_base.specs.Spelling.{IsNumber, IsText, IsMade, IsPair, IsItems}
use Rattle.types_10.specs.Tree.{Scalar, boolean, char, Tree, scalar, list, mapping, array}
use Rattle.types_10.specs.Tree.{described, depth, no_trees, trees_of, pairs_of}
use Rattle.types_10.specs.Kinds.{kind_byte, bare_scalar, octet_scalar, wide_width}
use Rattle.types_10.specs.Kinds.{wide_scalar, sixteen_scalar, text_scalar, is_text, is_character}
use Rattle.types_10.specs.Kinds.{size_width}
use Rattle.types_10.specs.Loads.{element_load}
use Rattle.types_10.specs.declared.kind.Kind.{Kind}
use Rattle.types_10.specs.declared.kind.Kind.TheVariants as kind
use Rattle.types_10.specs.declared.kind.Single.{Single}
use Rattle.types_10.specs.declared.kind.Single.TheVariants as single

-- a spelling of one that is such
abbrev pub IsSuch : {A : Type 0} → (A → Type 0) → (A → List ℕ → Type 0) → A → List ℕ → Type 0
IsSuch P R x text = P x × R x text

-- sixteen bytes as they are
abbrev pub IsSixteen : List ℕ → List ℕ → Type 0
IsSixteen s text = (length s ≡ 16) × (text ≡ s)

-- the content of a value that holds no other: nothing, a number, sixteen bytes, or bytes behind
-- their length. A boolean is 0 or 1, a char a Unicode scalar value, a string UTF-8 and a symbol
-- ASCII.
abbrev pub IsSingle : Single → Scalar → List ℕ → Type 0
IsSingle (single.Bare k) = λ s text. (s ≡ bare_scalar k) × (text ≡ [])
IsSingle single.Boolean =
    IsMade (λ n. boolean (n == 1)) (IsSuch (λ n. IsTrue (nat_lt n 2)) (IsNumber w8))
IsSingle (single.Octet k) = IsMade (octet_scalar k) (IsNumber w8)
IsSingle (single.Wide k) = IsMade (wide_scalar k) (IsNumber (wide_width k))
IsSingle single.Char = IsMade char (IsSuch (λ n. IsTrue (is_character n)) (IsNumber w32))
IsSingle (single.Sixteen k) = IsMade (sixteen_scalar k) IsSixteen
IsSingle (single.Text k s) =
    IsMade (text_scalar k) (IsSuch (λ s. IsTrue (is_text k s)) (IsText (size_width s)))

-- the code of a kind, and a content of that kind
abbrev pub IsCoded : {A : Type 0} → (Kind → A → List ℕ → Type 0) → A → List ℕ → Type 0
IsCoded IsContent t text =
    (k : Kind) × (content : List ℕ) × IsContent k t content × (text ≡ kind_byte k ∷ content)

-- a size in this width, and so many bytes
abbrev pub IsFilled : {A : Type 0} → Width → (A → List ℕ → Type 0) → A → List ℕ → Type 0
IsFilled w R x text = (body : List ℕ) × R x body × IsText w body text

-- a number and then, depending on it, what follows
abbrev pub IsThen : {A B : Type 0} → (A → List ℕ → Type 0) → (A → B → List ℕ → Type 0) → B
    → List ℕ → Type 0
IsThen {A} R S y text =
    (x : A) × (front : List ℕ) × (back : List ℕ) × R x front × S x y back × (text ≡ front ++ back)

-- so many items, one after another
abbrev pub IsTimes : {A : Type 0} → (A → List ℕ → Type 0) → ℕ → List A → List ℕ → Type 0
IsTimes R count xs text = (length xs ≡ count) × IsItems R xs text

-- the count of the values, and the values
abbrev pub IsItemList : Width → (Tree → List ℕ → Type 0) → List Tree → List ℕ → Type 0
IsItemList w IsValue = IsThen (IsNumber w) (λ n. IsTimes IsValue n)

-- the count of keys and values together, and the pairs of a key and a value
abbrev pub IsPairList : Width → (Tree → List ℕ → Type 0) → List (Tree × Tree) → List ℕ → Type 0
IsPairList w IsValue =
    IsThen (IsNumber w) (λ n ps text. (n ≡ 2 * length ps) × IsItems
    (IsPair IsValue IsValue) ps text)

-- what a constructor tells: the descriptors that all elements have, the outermost first, and the
-- kind of what they describe
abbrev pub Elements : Type 0
Elements = List Tree × Kind

-- a descriptor, behind the code of described values
abbrev pub IsDescriptorOf : (Tree → List ℕ → Type 0) → Tree → List ℕ → Type 0
IsDescriptorOf IsValue t text =
    (body : List ℕ) × IsValue t body × (text ≡ kind_byte kind.Described ∷ body)

-- the code of what isn't described
abbrev pub IsPlainCode : Kind → List ℕ → Type 0
IsPlainCode k text = (k ≢ kind.Described) × (text ≡ kind_byte k ∷ [])

-- a constructor: the descriptors, and the code of what they describe
abbrev pub IsConstructorOf : (Tree → List ℕ → Type 0) → Elements → List ℕ → Type 0
IsConstructorOf IsValue = IsPair (IsItems (IsDescriptorOf IsValue)) IsPlainCode

-- what stands inside a value: contents, and elements behind a constructor
pub record Spelled : Type 1 where
  pub content : Kind → Tree → List ℕ → Type 0
  pub element : Elements → Tree → List ℕ → Type 0

-- the content of a value that may hold no other
abbrev pub IsFlat : Kind → Tree → List ℕ → Type 0
IsFlat (kind.Single k) = IsMade scalar (IsSingle k)
IsFlat kind.EmptyList = λ t text. ⊥
IsFlat (kind.List s) = λ t text. ⊥
IsFlat (kind.Map s) = λ t text. ⊥
IsFlat (kind.Array s) = λ t text. ⊥
IsFlat kind.Described = λ t text. ⊥

-- the content of a value that may hold such: values are spelled so, and what stands in an array so
abbrev pub IsDeepOf : (Tree → List ℕ → Type 0) → (Width → List Tree → List ℕ → Type 0) → Kind
    → Tree → List ℕ → Type 0
IsDeepOf IsValue IsElements (kind.Single k) = IsMade scalar (IsSingle k)
IsDeepOf IsValue IsElements kind.EmptyList = λ t text. (t ≡ list no_trees) × (text ≡ [])
IsDeepOf IsValue IsElements (kind.List s) =
    IsMade (λ ts. list (trees_of ts)) (IsFilled (size_width s) (IsItemList (size_width s) IsValue))
IsDeepOf IsValue IsElements (kind.Map s) =
    IsMade (λ ps. mapping (pairs_of ps)) (IsFilled (size_width s) (IsPairList
    (size_width s) IsValue))
IsDeepOf IsValue IsElements (kind.Array s) =
    IsMade (λ ts. array (trees_of ts)) (IsFilled (size_width s) (IsElements (size_width s)))
IsDeepOf IsValue IsElements kind.Described =
    IsMade (λ p. described p.0 p.1) (IsPair IsValue IsValue)

-- an element behind its constructor: the descriptor of a described one has at most this depth
abbrev pub IsElement : ℕ → (Kind → Tree → List ℕ → Type 0) → (Elements → Tree → List ℕ → Type 0)
    → Elements → Tree → List ℕ → Type 0
IsElement d IsContent Inner ([], k) = IsContent k
IsElement d IsContent Inner (x ∷ xs, k) =
    λ t text. (depth x ≤ d) × IsMade (described x) (Inner (xs, k)) t text

-- ---- within a room

-- a room is how much elements may still take besides their bytes; a value that is spelled within
-- a room leaves another

-- what takes no bytes
abbrev pub IsNothing : {A : Type 0} → A → A → List ℕ → Type 0
IsNothing a x text = (x ≡ a) × (text ≡ [])

-- so many, one after another, each within the room that those before it leave
unfoldable pub IsRow : {A : Type 0} → (ℕ → A × ℕ → List ℕ → Type 0) → ℕ → ℕ → List A × ℕ
    → List ℕ → Type 0
IsRow R zero room = IsNothing ([], room)
IsRow R (suc count) room =
    IsThen (R room) (λ x. IsMade (λ xs. (x.0 ∷ xs.0, xs.1)) (IsRow R count x.1))

-- one value, and then another
abbrev pub IsTwo : (ℕ → Tree × ℕ → List ℕ → Type 0) → ℕ → (Tree × Tree) × ℕ → List ℕ → Type 0
IsTwo R room = IsThen (R room) (λ x. IsMade (λ y. ((x.0, y.0), y.1)) (R x.1))

-- the count of the values, and the values
abbrev pub IsListIn : Width → (ℕ → Tree × ℕ → List ℕ → Type 0) → ℕ → List Tree × ℕ → List ℕ
    → Type 0
IsListIn w R room = IsThen (IsNumber w) (λ n. IsRow R n room)

-- the count of keys and values together, which is even, and the pairs of a key and a value
abbrev pub IsMapIn : Width → (ℕ → Tree × ℕ → List ℕ → Type 0) → ℕ → List (Tree × Tree) × ℕ
    → List ℕ → Type 0
IsMapIn w R room =
    IsThen (IsNumber w) (λ n ps text. (n % 2 ≡ 0) × IsRow (IsTwo R) (n / 2) room ps text)

-- descriptors, each behind the code of described values
unfoldable pub IsFront : (ℕ → Tree × ℕ → List ℕ → Type 0) → ℕ → List Tree → ℕ → List ℕ → Type 0
IsFront R room [] left text = (left ≡ room) × (text ≡ [])
IsFront R room (d ∷ ds) left text =
    (between : ℕ) × (front : List ℕ) × (back : List ℕ) × R room (d, between) front
    × IsFront R between ds left back × (text ≡ kind_byte kind.Described ∷ front ++ back)

-- a constructor: the descriptors, and the code of what they describe
abbrev pub IsConstructorIn : (ℕ → Tree × ℕ → List ℕ → Type 0) → ℕ → Elements × ℕ → List ℕ
    → Type 0
IsConstructorIn R room c text =
    (front : List ℕ) × (back : List ℕ) × IsFront R room c.0.0 c.1 front × IsPlainCode c.0.1 back
    × (text ≡ front ++ back)

-- what stands inside a value: contents, and elements behind a constructor
pub record Spellings : Type 1 where
  pub content : ℕ → Kind → Tree × ℕ → List ℕ → Type 0
  pub element : ℕ → Elements → Tree × ℕ → List ℕ → Type 0

-- values whose content is spelled so
abbrev pub IsValueBy : Spellings → ℕ → Tree × ℕ → List ℕ → Type 0
IsValueBy inside room = IsCoded (inside.content room)

-- so many elements behind a constructor, which have room
abbrev pub AreElements : Spellings → ℕ → Elements × ℕ → List Tree × ℕ → List ℕ → Type 0
AreElements inside n c ts text =
    (n * element_load c.0 ≤ c.1)
    × IsRow (λ room. inside.element room c.0) n (c.1 - n * element_load c.0) ts text

-- the count of the elements, their constructor, and the elements
abbrev pub IsArrayIn : Width → Spellings → ℕ → List Tree × ℕ → List ℕ → Type 0
IsArrayIn w inside room =
    IsThen (IsNumber w) (λ n. IsThen (IsConstructorIn (IsValueBy inside) room) (AreElements inside n))

-- the content of a value that may hold no other
abbrev pub IsFlatIn : ℕ → Kind → Tree × ℕ → List ℕ → Type 0
IsFlatIn room (kind.Single k) = IsMade (λ s. (scalar s, room)) (IsSingle k)
IsFlatIn room kind.EmptyList = λ t text. ⊥
IsFlatIn room (kind.List s) = λ t text. ⊥
IsFlatIn room (kind.Map s) = λ t text. ⊥
IsFlatIn room (kind.Array s) = λ t text. ⊥
IsFlatIn room kind.Described = λ t text. ⊥

-- the content of a value that may hold those inside
abbrev pub IsDeepIn : Spellings → ℕ → Kind → Tree × ℕ → List ℕ → Type 0
IsDeepIn inside room (kind.Single k) = IsMade (λ s. (scalar s, room)) (IsSingle k)
IsDeepIn inside room kind.EmptyList = IsNothing (list no_trees, room)
IsDeepIn inside room (kind.List s) =
    IsMade (λ ts. (list (trees_of ts.0), ts.1)) (IsFilled (size_width s) (IsListIn
    (size_width s) (IsValueBy inside) room))
IsDeepIn inside room (kind.Map s) =
    IsMade (λ ps. (mapping (pairs_of ps.0), ps.1)) (IsFilled (size_width s) (IsMapIn
    (size_width s) (IsValueBy inside) room))
IsDeepIn inside room (kind.Array s) =
    IsMade (λ ts. (array (trees_of ts.0), ts.1)) (IsFilled (size_width s) (IsArrayIn
    (size_width s) inside room))
IsDeepIn inside room kind.Described =
    IsMade (λ p. (described p.0.0 p.0.1, p.1)) (IsTwo (IsValueBy inside) room)

-- an element behind its constructor: the descriptor of a described one has at most this depth
abbrev pub IsElementIn : ℕ → (ℕ → Kind → Tree × ℕ → List ℕ → Type 0) → (ℕ → Elements → Tree × ℕ
    → List ℕ → Type 0) → ℕ → Elements → Tree × ℕ → List ℕ → Type 0
IsElementIn d IsContent Inner room ([], k) = IsContent room k
IsElementIn d IsContent Inner room (x ∷ xs, k) =
    λ t text. (depth x ≤ d) × IsMade (λ y. (described x y.0, y.1)) (Inner room (xs, k)) t text

-- values of at most this depth
unfoldable pub spellings : ℕ → Spellings
spellings zero = record {
  content = IsFlatIn;
  element = IsElementIn 0 IsFlatIn (λ room c t text. ⊥);
}
spellings (suc d) = record {
  content = IsDeepIn (spellings d);
  element = IsElementIn d (IsDeepIn (spellings d)) (spellings d).element;
}

-- a value of at most this depth within a room, and the room that it leaves
abbrev pub IsValueIn : ℕ → ℕ → Tree × ℕ → List ℕ → Type 0
IsValueIn d = IsValueBy (spellings d)

-- a value: its depth is at most 16, and its elements take at most 65,536 besides their bytes
abbrev pub IsValue : Tree → List ℕ → Type 0
IsValue t text = (left : ℕ) × IsValueIn 16 65536 (t, left) text
