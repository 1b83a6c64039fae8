-- How many bytes the parts of a content header take (AMQP 0-9-1 4.2.5 and 4.2.6.1), and the room
-- that they leave: TooLong where one doesn't fit.
use Rattle.std.specs.Prelude.{ℕ, ◌+◌, ◌-◌, nat_le, if◌then◌else◌, [], ◌∷◌, length, Option, Some}
use Rattle.std.specs.Prelude.{None, Ok, Err, Result}
use Rattle.wire_base.specs.Reading.{◌>>=◌}
use Rattle.tables_091.specs.Tree.{Scalar, boolean, int8, uint8, int16, uint16, int32, uint32, int64}
use Rattle.tables_091.specs.Tree.{float32, float64, decimal, longstr, timestamp, void, blob, Tree}
use Rattle.tables_091.specs.Tree.{scalar, array, table, Trees, no_trees, tree, Members, no_members}
use Rattle.tables_091.specs.Tree.{member, members_of}
use Rattle.content_091.specs.Properties.{Property, Properties}
use Rattle.content_091.specs.Properties as property
use Rattle.content_091.specs.View.{earlier_of, later_of}
use Rattle.content_091.specs.declared.header.Props.{Props}
use Rattle.property_map.specs.declared.fault.PropName.TheVariants as prop
use Rattle.property_map.specs.declared.fault.MapFault.{MapFault}
use Rattle.property_map.specs.declared.fault.MapFault.TheVariants as fault

-- ---- lengths

-- a field that holds no other, with its type byte
abbrev pub scalar_len : Scalar → ℕ
scalar_len (boolean b) = 2
scalar_len (int8 z) = 2
scalar_len (uint8 n) = 2
scalar_len (int16 z) = 3
scalar_len (uint16 n) = 3
scalar_len (int32 z) = 5
scalar_len (uint32 n) = 5
scalar_len (int64 z) = 9
scalar_len (float32 n) = 5
scalar_len (float64 n) = 9
scalar_len (decimal scale n) = 6
scalar_len (longstr s) = 5 + length s
scalar_len (timestamp n) = 9
scalar_len void = 1
scalar_len (blob s) = 5 + length s

-- an array and a table have a type byte and a length of four bytes, and a name has a length of one
abbrev mutual
  pub tree_len : Tree → ℕ
  tree_len (scalar s) = scalar_len s
  tree_len (array ts) = 5 + trees_len ts
  tree_len (table ms) = 5 + members_len ms

  pub trees_len : Trees → ℕ
  trees_len no_trees = 0
  trees_len (tree t ts) = tree_len t + trees_len ts

  pub members_len : Members → ℕ
  members_len no_members = 0
  members_len (member name t ms) = (1 + length name) + (tree_len t + members_len ms)

abbrev pub property_len : Property → ℕ
property_len (property.octet n) = 1
property_len (property.longlong n) = 8
property_len (property.shortstr s) = 1 + length s
property_len (property.fields ms) = 4 + members_len (members_of ms)

-- ---- room

-- the room that so many bytes leave
abbrev pub left_of : ℕ → ℕ → Result ℕ MapFault
left_of room len = if nat_le len room then Ok (room - len) else Err (fault.TooLong prop.Header)

-- the room that a property leaves
abbrev pub left_behind : ℕ → Option Property → Result ℕ MapFault
left_behind room None = Ok room
left_behind room (Some v) = left_of room (property_len v)

-- the room that properties leave
abbrev pub left_behind_all : ℕ → Properties → Result ℕ MapFault
left_behind_all room [] = Ok room
left_behind_all room (v ∷ vs) = left_behind room v >>= λ left. left_behind_all left vs

-- the room that a header with these properties leaves, behind class, weight, size and flags
abbrev pub left_behind_header : ℕ → Props → Result ℕ MapFault
left_behind_header room p = do
  a ← left_of room 14
  b ← left_behind_all a (earlier_of p)
  left_behind_all b (later_of p)
