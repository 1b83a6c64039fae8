-- The canonical spelling of a value (AMQP 1.0 1.6): of the codes that have a content for the value
-- it takes the first, an array takes the first constructor that has contents for all its elements,
-- and so does every value inside.
use Rattle.std.specs.Prelude.{◌≡◌, ℕ, zero, suc, ◌≤◌, IsTrue, List, ◌∷◌, length}
use Rattle.std.specs.Int.{Width}
use Rattle.wire_base.specs.Spelling.{IsNumber, IsItems}
use Rattle.types_10.specs.Tree.{Tree}
use Rattle.types_10.specs.Kinds.{kind_byte, is_bare}
use Rattle.types_10.specs.Grammar.{Spelled, Elements, IsConstructorOf, IsThen, IsTimes, IsFlat}
use Rattle.types_10.specs.Grammar.{IsDeepOf, IsElement}
use Rattle.types_10.specs.Writing.{load}
use Rattle.types_10.specs.declared.kind.Kind.{Kind}

-- a code and a content of that kind, where no kind with an earlier code has a content that spells
-- the value
abbrev pub IsFirstCode : (Kind → Tree → List ℕ → Type 0) → Tree → List ℕ → Type 0
IsFirstCode IsContent t text =
    (k : Kind) × (content : List ℕ) × IsContent k t content × (text ≡ kind_byte k ∷ content)
    × ((j : Kind) (other : List ℕ) → IsContent j t other → kind_byte k ≤ kind_byte j)

-- no constructor that fits all the elements has fewer descriptors, or an earlier code
abbrev pub IsFirstConstructor : Spelled → Elements → List Tree → Type 0
IsFirstConstructor inside c ts =
    (e : Elements) (front text : List ℕ) → IsConstructorOf (IsFirstCode inside.content) e front
    → IsItems (inside.element e) ts text
    → (length c.0 ≤ length e.0) × (kind_byte c.1 ≤ kind_byte e.1)

-- the count of the elements, the first constructor that fits them, and the elements
abbrev pub IsFirstElements : Spelled → Width → List Tree → List ℕ → Type 0
IsFirstElements inside w =
    IsThen (IsNumber w) (λ n. IsThen (IsConstructorOf (IsFirstCode inside.content)) (λ c ts text.
    IsFirstConstructor inside c ts × (IsTrue (is_bare c.1) → n ≤ 65536)
    × IsTimes (inside.element c) n ts text))

-- the content of a value that may hold those inside
abbrev pub IsDeepCanonical : Spelled → Kind → Tree → List ℕ → Type 0
IsDeepCanonical inside = IsDeepOf (IsFirstCode inside.content) (IsFirstElements inside)

-- the contents and elements of values of at most this depth
unfoldable pub canonical : ℕ → Spelled
canonical zero = record {
  content = IsFlat;
  element = IsElement 0 IsFlat (λ c t text. ⊥);
}
canonical (suc d) = record {
  content = IsDeepCanonical (canonical d);
  element = IsElement d (IsDeepCanonical (canonical d)) (canonical d).element;
}

-- the canonical spelling of a value of at most this depth
abbrev pub IsCanonicalOf : ℕ → Tree → List ℕ → Type 0
IsCanonicalOf d = IsFirstCode (canonical d).content

-- the canonical spelling of a value whose elements take at most 65,536 besides their bytes
abbrev pub IsCanonical : Tree → List ℕ → Type 0
IsCanonical t text = IsCanonicalOf 16 t text × (load t ≤ 65536)
