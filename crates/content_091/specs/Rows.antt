-- The table of the properties of a content (AMQP 0-9-1 1.8 and 4.2.6.1), in the order in which they
-- stand: one line a property, with its bit in the flags and its kind. Nothing here names a value of
-- a property.
use Rattle.std.specs.Prelude.{ℕ, List, [], ◌∷◌}

-- the kind of a property (AMQP 0-9-1 4.2.5): a number of one or eight bytes, a text behind a length
-- of one byte, or a table
pub data PropertyKind : Type 0 where
  octet : PropertyKind
  longlong : PropertyKind
  shortstr : PropertyKind
  fields : PropertyKind

-- a bit of the flags, the lowest of which is 0, and a kind
abbrev pub Row : Type 0
Row = ℕ × PropertyKind

-- content-type, content-encoding, headers, delivery-mode, priority, correlation-id, reply-to
abbrev pub earlier_rows : List Row → List Row
earlier_rows rows =
    (15, shortstr)
    ∷ (14, shortstr)
    ∷ (13, fields)
    ∷ (12, octet)
    ∷ (11, octet)
    ∷ (10, shortstr)
    ∷ (9, shortstr)
    ∷ rows

-- expiration, message-id, timestamp, type, user-id, app-id, cluster-id; the bits 1 and 0 are those
-- of no property
abbrev pub later_rows : List Row
later_rows =
    (8, shortstr)
    ∷ (7, shortstr)
    ∷ (6, longlong)
    ∷ (5, shortstr)
    ∷ (4, shortstr)
    ∷ (3, shortstr)
    ∷ (2, shortstr)
    ∷ []

abbrev pub rows : List Row
rows = earlier_rows later_rows
