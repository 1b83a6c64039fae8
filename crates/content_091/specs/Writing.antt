-- The one spelling of a content header that is written (AMQP 0-9-1 4.2.6.1), and which headers have
-- one.
use Rattle.std.specs.Prelude.{ℕ, ◌+◌, ◌<◌, ◌≤◌, ◌^◌, List, [], ◌∷◌, ◌++◌, length, Option, Some}
use Rattle.std.specs.Prelude.{None}
use Rattle.std.specs.Int.{w8, w16, w64, to_be_bytes}
use Rattle.wire_base.specs.Spelling.{text_of}
use Rattle.tables_091.specs.Writing.{table_text, HasSpelling}
use Rattle.tables_091.specs.Ranges.{AreRanged}
use Rattle.content_091.specs.Rows.{Row, rows}
use Rattle.content_091.specs.Properties.{Property, Properties}
use Rattle.content_091.specs.Properties as property
use Rattle.content_091.specs.Grammar.{basic}
use Rattle.content_091.specs.View.{earlier_of, later_of, props_of}
use Rattle.content_091.specs.declared.header.Props.{Props}
use Rattle.content_091.specs.declared.header.Header91.{Header91}

-- the number whose bit alone is set, for a property that is there
unfoldable pub flag_of : ℕ → Option Property → ℕ
flag_of bit None = 0
flag_of bit (Some v) = 2 ^ bit

-- the flags: the bits of the properties that are there
abbrev pub flags_of : List Row → Properties → ℕ
flags_of [] vs = 0
flags_of (row ∷ others) [] = 0
flags_of (row ∷ others) (v ∷ vs) = flag_of row.0 v + flags_of others vs

-- a property: a number most significant byte first, a text behind its length, or a table
abbrev pub property_text : Property → List ℕ
property_text (property.octet n) = to_be_bytes w8 n
property_text (property.longlong n) = to_be_bytes w64 n
property_text (property.shortstr s) = text_of w8 s
property_text (property.fields ms) = table_text ms

-- nothing for one that isn't there
unfoldable pub maybe_text : Option Property → List ℕ
maybe_text None = []
maybe_text (Some v) = property_text v

-- properties, one after another
abbrev pub props_text : Properties → List ℕ
props_text [] = []
props_text (v ∷ vs) = maybe_text v ++ props_text vs

-- the first half of the properties of a header, and the second
unfoldable pub earlier_text : Props → List ℕ
earlier_text p = props_text (earlier_of p)

unfoldable pub later_text : Props → List ℕ
later_text p = props_text (later_of p)

-- class, weight, size and flags
unfoldable pub head_text : ℕ → ℕ → ℕ → ℕ → List ℕ
head_text class weight size flags =
    to_be_bytes w16 class ++ to_be_bytes w16 weight ++ to_be_bytes w64 size ++ to_be_bytes w16 flags

abbrev pub header_text : Header91 → List ℕ
header_text h =
    head_text basic 0 h.size (flags_of rows (props_of h.props))
    ++ earlier_text h.props ++ later_text h.props

-- a property that has a spelling: a short string of at most 255 bytes, and a table that has one
abbrev pub CanPutOne : Option Property → Type 0
CanPutOne None = Unit {0}
CanPutOne (Some (property.octet n)) = Unit {0}
CanPutOne (Some (property.longlong n)) = Unit {0}
CanPutOne (Some (property.shortstr s)) = length s ≤ 255
CanPutOne (Some (property.fields ms)) = HasSpelling ms

abbrev pub CanPutAll : Properties → Type 0
CanPutAll [] = Unit {0}
CanPutAll (v ∷ vs) = CanPutOne v × CanPutAll vs

-- a header whose properties have a spelling
abbrev pub CanPut : Header91 → Type 0
CanPut h = CanPutAll (props_of h.props)

-- a number is of its type, also inside a table
abbrev pub IsInRange : Option Property → Type 0
IsInRange None = Unit {0}
IsInRange (Some (property.octet n)) = n < 2 ^ 8
IsInRange (Some (property.longlong n)) = n < 2 ^ 64
IsInRange (Some (property.shortstr s)) = Unit {0}
IsInRange (Some (property.fields ms)) = AreRanged ms

abbrev pub AreInRange : Properties → Type 0
AreInRange [] = Unit {0}
AreInRange (v ∷ vs) = IsInRange v × AreInRange vs

-- what is true of each value of the type: its numbers are of their types
abbrev pub HasRanges : Header91 → Type 0
HasRanges h = (h.size < 2 ^ 64) × AreInRange (props_of h.props)
