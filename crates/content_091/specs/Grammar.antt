-- How content headers are spelled (AMQP 0-9-1 4.2.6.1): a relation between a header and the bytes
-- that spell it, all of the bytes. The class is basic, and the weight is 0. A property is there
-- exactly where its bit of the flags is set.
use Rattle.std.specs.Prelude.{◌≡◌, ℕ, ◌/◌, ◌%◌, ◌^◌, ◌==◌, Bool, true, false, List, [], ◌∷◌, ◌++◌}
use Rattle.std.specs.Prelude.{Option, Some, None}
use Rattle.std.specs.Int.{w8, w16, w64}
use Rattle.wire_base.specs.Spelling.{IsNumber, IsText, IsMade, IsPair}
use Rattle.tables_091.specs.Grammar.{IsTable}
use Rattle.content_091.specs.Rows.{PropertyKind, Row, rows}
use Rattle.content_091.specs.Rows as kind
use Rattle.content_091.specs.Properties.{Property, Properties, Parts}
use Rattle.content_091.specs.Properties as property
use Rattle.content_091.specs.View.{parts_of}
use Rattle.content_091.specs.declared.header.Header91.{Header91}

-- whether a bit is set; the lowest is 0
abbrev pub bit_at : ℕ → ℕ → Bool
bit_at bit flags = (flags / 2 ^ bit % 2) == 1

-- a property of each kind
abbrev pub IsProperty : PropertyKind → Property → List ℕ → Type 0
IsProperty kind.octet = IsMade property.octet (IsNumber w8)
IsProperty kind.longlong = IsMade property.longlong (IsNumber w64)
IsProperty kind.shortstr = IsMade property.shortstr (IsText w8)
IsProperty kind.fields = IsMade property.fields IsTable

-- a property that is there, or isn't
abbrev pub IsMaybe : Bool → PropertyKind → Option Property → List ℕ → Type 0
IsMaybe true k = IsMade Some (IsProperty k)
IsMaybe false k = λ v text. (v ≡ None) × (text ≡ [])

-- the properties of these rows, one after another, by the flags
abbrev pub IsProps : ℕ → List Row → Properties → List ℕ → Type 0
IsProps flags [] = λ vs text. (vs ≡ []) × (text ≡ [])
IsProps flags (row ∷ others) =
    IsMade (λ p. p.0 ∷ p.1) (IsPair (IsMaybe (bit_at row.0 flags) row.1) (IsProps flags others))

-- class, weight, size of the body and flags
abbrev pub Head : Type 0
Head = ((ℕ × ℕ) × ℕ) × ℕ

abbrev pub IsHead : Head → List ℕ → Type 0
IsHead = IsPair (IsPair (IsPair (IsNumber w16) (IsNumber w16)) (IsNumber w64)) (IsNumber w16)

-- the class basic
abbrev pub basic : ℕ
basic = 60

-- flags of which only bits of properties are set: the lowest two aren't
abbrev pub AreFlags : ℕ → Type 0
AreFlags flags = flags % 4 ≡ 0

-- the head of a content of the class basic, and its properties
abbrev pub IsPayload : Parts → List ℕ → Type 0
IsPayload p bytes =
    (flags : ℕ) × (head : List ℕ) × (properties : List ℕ) × AreFlags flags
    × IsHead (((basic, 0), p.0), flags) head
    × IsProps flags rows p.1 properties × (bytes ≡ head ++ properties)

-- the same of a header
abbrev pub IsHeader : Header91 → List ℕ → Type 0
IsHeader h = IsPayload (parts_of h)
