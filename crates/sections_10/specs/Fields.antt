-- Fields of a list (AMQP 1.0 1.4): what a row of a table says of a field, and what is read of one.
use Rattle.std.specs.Prelude.{ℕ, ◌+◌, if◌then◌else◌, List, [], ◌∷◌, Ok, Err, Result}
use Rattle.wire_base.specs.Reading.{◌>>=◌}
use Rattle.types_10.specs.Tree.{Tree, scalar, Trees}
use Rattle.types_10.specs.Tree as value
use Rattle.types_10.specs.Fields.{a_boolean, a_ubyte, a_uint, a_timestamp, a_binary, a_string}
use Rattle.types_10.specs.Fields.{a_symbol, absent, tree_at, is_absent}

-- ---- rows

-- the type of a field: a primitive type, an address, or an id of a message
pub data Leaf : Type 0 where
  boolean : Leaf
  ubyte : Leaf
  uint : Leaf
  timestamp : Leaf
  binary : Leaf
  string : Leaf
  symbol : Leaf
  address : Leaf
  id : Leaf

-- a type, and what an absent field is
abbrev pub Row : Type 0
Row = Leaf × Tree

abbrev pub may : Leaf → Row
may l = (l, absent)

-- ---- reading

-- what has no value: that there is another type than the one that a table says is all that is told
abbrev pub wrong : Result Tree (Unit {0})
wrong = Err tt

abbrev pub right : Tree → Result Tree (Unit {0})
right t = Ok t

-- a value as a field of this type. An address of another type is absent; an id is an ulong, a uuid,
-- a binary or a string.
unfoldable pub leaf_in : Leaf → Tree → Result Tree (Unit {0})
leaf_in boolean (scalar (value.boolean b)) = right (a_boolean b)
leaf_in boolean t = wrong
leaf_in ubyte (scalar (value.ubyte n)) = right (a_ubyte n)
leaf_in ubyte t = wrong
leaf_in uint (scalar (value.uint n)) = right (a_uint n)
leaf_in uint t = wrong
leaf_in timestamp (scalar (value.timestamp z)) = right (a_timestamp z)
leaf_in timestamp t = wrong
leaf_in binary (scalar (value.binary s)) = right (a_binary s)
leaf_in binary t = wrong
leaf_in string (scalar (value.string s)) = right (a_string s)
leaf_in string t = wrong
leaf_in symbol (scalar (value.symbol s)) = right (a_symbol s)
leaf_in symbol t = wrong
leaf_in address (scalar (value.string s)) = right (a_string s)
leaf_in address t = right absent
leaf_in id (scalar (value.ulong n)) = right (scalar (value.ulong n))
leaf_in id (scalar (value.uuid s)) = right (scalar (value.uuid s))
leaf_in id (scalar (value.binary s)) = right (a_binary s)
leaf_in id (scalar (value.string s)) = right (a_string s)
leaf_in id t = wrong

-- the field of a row: this value
unfoldable pub field_in : Row → Tree → Result Tree (Unit {0})
field_in row t = if is_absent t then right row.1 else leaf_in row.0 t

-- the fields of these rows from a place on; what stands past the last is free
abbrev pub fields_in : List Row → ℕ → Trees → Result (List Tree) (Unit {0})
fields_in [] k ts = Ok []
fields_in (r ∷ rs) k ts = do
  x ← field_in r (tree_at ts k)
  xs ← fields_in rs (k + 1) ts
  Ok (x ∷ xs)

-- the field at a place
abbrev pub field_at : Row → ℕ → Trees → Result Tree (Unit {0})
field_at row k ts = field_in row (tree_at ts k)
