-- How tables are spelled (AMQP 0-9-1 4.2.5.5): a relation between the entries of a table and the
-- bytes that spell it, all of the bytes. A field is a type byte and a value; the length of an array
-- or a table is exactly that of its items; a table's depth is at most 16.
use Rattle.std.specs.Prelude.{◌≡◌, ℕ, zero, suc, List, [], ◌∷◌}
use Rattle.std.specs.Int.{w8, w32}
use Rattle.wire_base.specs.Spelling.{IsNumber, IsText, IsMade, IsPair, IsContainer}
use Rattle.tables_091.specs.Tree.{Scalar, decimal, void, Tree, scalar, array, table, trees_of}
use Rattle.tables_091.specs.Tree.{members_of}
use Rattle.tables_091.specs.Kinds.{kind_byte, octet_scalar, wide_width, wide_scalar, text_scalar}
use Rattle.tables_091.specs.declared.kind.Kind.{Kind}
use Rattle.tables_091.specs.declared.kind.Kind.TheVariants as kind
use Rattle.tables_091.specs.declared.kind.Single.{Single}
use Rattle.tables_091.specs.declared.kind.Single.TheVariants as single

-- a value that holds no other: an octet, a wider number, bytes behind a length of four bytes, a
-- scale and a number of four bytes, or nothing
abbrev pub IsSingle : Single → Scalar → List ℕ → Type 0
IsSingle (single.Octet k) = IsMade (octet_scalar k) (IsNumber w8)
IsSingle (single.Wide k) = IsMade (wide_scalar k) (IsNumber (wide_width k))
IsSingle (single.Text k) = IsMade (text_scalar k) (IsText w32)
IsSingle single.Decimal = IsMade (λ p. decimal p.0 p.1) (IsPair (IsNumber w8) (IsNumber w32))
IsSingle single.Void = λ s text. (s ≡ void) × (text ≡ [])

-- an entry of a table: a name behind a length of one byte, and a field
abbrev pub IsMember : (Tree → List ℕ → Type 0) → List ℕ × Tree → List ℕ → Type 0
IsMember IsInside = IsPair (IsText w8) IsInside

-- the value of a field that may hold no other
abbrev pub IsFlat : Kind → Tree → List ℕ → Type 0
IsFlat (kind.Single k) = IsMade scalar (IsSingle k)
IsFlat kind.Array = λ t text. ⊥
IsFlat kind.Table = λ t text. ⊥

-- the value of a field that may hold such fields: the length of its items in four bytes, and the
-- items
abbrev pub IsDeep : (Tree → List ℕ → Type 0) → Kind → Tree → List ℕ → Type 0
IsDeep IsInside (kind.Single k) = IsMade scalar (IsSingle k)
IsDeep IsInside kind.Array = IsMade (λ ts. array (trees_of ts)) (IsContainer w32 IsInside)
IsDeep IsInside kind.Table =
    IsMade (λ ms. table (members_of ms)) (IsContainer w32 (IsMember IsInside))

-- the byte of a kind, and a value of that kind
abbrev pub IsTyped : (Kind → Tree → List ℕ → Type 0) → Tree → List ℕ → Type 0
IsTyped IsValue t text =
    (k : Kind) × (value : List ℕ) × IsValue k t value × (text ≡ kind_byte k ∷ value)

-- a field of at most this depth
unfoldable pub IsField : ℕ → Tree → List ℕ → Type 0
IsField zero = IsTyped IsFlat
IsField (suc depth) = IsTyped (IsDeep (IsField depth))

-- a table: its fields have at most depth 15, so that its own is at most 16
abbrev pub IsTable : List (List ℕ × Tree) → List ℕ → Type 0
IsTable = IsContainer w32 (IsMember (IsField 15))
