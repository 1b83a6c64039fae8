-- The tables of a message (AMQP 1.0 3.2): its sections in their order, each with the code of its
-- descriptor and the kind of its value, and the fields of the lists among them.
use Rattle.std.specs.Prelude.{ℕ, false, List, [], ◌∷◌}
use Rattle.types_10.specs.Tree.{scalar, boolean, uint}
use Rattle.sections_10.specs.Fields.{Row, may}
use Rattle.sections_10.specs.Fields as field
use Rattle.sections_10.specs.declared.sections.Keys.{Keys}
use Rattle.sections_10.specs.declared.sections.Keys.TheVariants as keys

-- the kind of a section's value: a list of fields, a map with keys of some types, bytes, a list, or
-- any value
pub data SectionKind : Type 0 where
  fields : List Row → SectionKind
  map_of : Keys → SectionKind
  data_bytes : SectionKind
  sequence : SectionKind
  anything : SectionKind

-- a code and a kind
abbrev pub Section : Type 0
Section = ℕ × SectionKind

-- durable, priority, ttl, first-acquirer and delivery-count; the first three have defaults that
-- tell less than their absence
abbrev pub header_rows : List Row
header_rows =
    may field.boolean
    ∷ may field.ubyte
    ∷ may field.uint
    ∷ (field.boolean, scalar (boolean false))
    ∷ (field.uint, scalar (uint 0))
    ∷ []

-- message-id, user-id, to, subject, reply-to, correlation-id, content-type, content-encoding,
-- absolute-expiry-time, creation-time, group-id, group-sequence, reply-to-group-id
abbrev pub properties_rows : List Row
properties_rows =
    may field.id
    ∷ may field.binary
    ∷ may field.address
    ∷ may field.string
    ∷ may field.address
    ∷ may field.id
    ∷ may field.symbol
    ∷ may field.symbol
    ∷ may field.timestamp
    ∷ may field.timestamp
    ∷ may field.string
    ∷ may field.uint
    ∷ may field.string
    ∷ []

-- the sections before the body, each at most once
abbrev pub header_section : Section
header_section = (112, fields header_rows)

abbrev pub delivery_section : Section
delivery_section = (113, map_of keys.Annotations)

abbrev pub message_section : Section
message_section = (114, map_of keys.Annotations)

abbrev pub properties_section : Section
properties_section = (115, fields properties_rows)

abbrev pub application_section : Section
application_section = (116, map_of keys.Strings)

-- the sections of a body: data and amqp-sequence, as often as one likes, and amqp-value, once
abbrev pub data_section : Section
data_section = (117, data_bytes)

abbrev pub sequence_section : Section
sequence_section = (118, sequence)

abbrev pub value_section : Section
value_section = (119, anything)

-- the section behind the body
abbrev pub footer_section : Section
footer_section = (120, map_of keys.Any)
