-- Fields of composite types (AMQP 1.0 1.4): what a row of a table says of a field, and what is read
-- of one.
use Rattle.std.specs.Prelude.{ℕ, ◌+◌, Bool, true, false, if◌then◌else◌, List, [], ◌∷◌}
use Rattle.std.specs.Prelude.{Option, Some, None, Ok, Err, Result}
use Rattle.wire_base.specs.Reading.{◌>>=◌}
use Rattle.types_10.specs.Tree.{Scalar, Tree, scalar, list, described, Trees, no_trees, tree}
use Rattle.types_10.specs.Tree as value
use Rattle.types_10.specs.Fields.{a_boolean, a_ubyte, a_ushort, a_uint, a_ulong, a_binary, a_string}
use Rattle.types_10.specs.Fields.{a_symbol, absent, tree_at, is_absent}
use Rattle.performatives_10.specs.declared.fault.PerfFault.{PerfFault}
use Rattle.performatives_10.specs.declared.fault.PerfFault.TheVariants as fault

-- ---- rows

-- the type of a field that is no composite: a primitive type, one symbol or an array of them, an
-- address, or any value
pub data Leaf : Type 0 where
  boolean : Leaf
  ubyte : Leaf
  ushort : Leaf
  uint : Leaf
  ulong : Leaf
  binary : Leaf
  string : Leaf
  symbol : Leaf
  symbols : Leaf
  mapping : Leaf
  address : Leaf
  anything : Leaf

-- the type of a field
pub data FieldType : Type 0 where
  leaf : Leaf → FieldType
  error : FieldType
  state : FieldType
  source : FieldType
  target : FieldType

-- whether a field may be absent, and what it is then
pub data Need : Type 0 where
  mandatory : Need
  optional : Need
  defaults : Scalar → Need

abbrev pub Row : Type 0
Row = FieldType × Need

abbrev pub needs : FieldType → Row
needs t = (t, mandatory)

abbrev pub may : FieldType → Row
may t = (t, optional)

abbrev pub has : FieldType → Scalar → Row
has t s = (t, defaults s)

-- ---- reading

abbrev pub is_symbol : Tree → Bool
is_symbol (scalar (value.symbol s)) = true
is_symbol t = false

abbrev pub are_symbols : Trees → Bool
are_symbols no_trees = true
are_symbols (tree t ts) = if is_symbol t then are_symbols ts else false

-- one symbol, or an array of symbols
abbrev pub is_multiple : Tree → Bool
is_multiple (value.array ts) = are_symbols ts
is_multiple t = is_symbol t

-- a value as a field of this type; None where it has another type. An address of another type is
-- absent.
unfoldable pub leaf_in : Leaf → Tree → Option Tree
leaf_in boolean (scalar (value.boolean b)) = Some (a_boolean b)
leaf_in boolean t = None
leaf_in ubyte (scalar (value.ubyte n)) = Some (a_ubyte n)
leaf_in ubyte t = None
leaf_in ushort (scalar (value.ushort n)) = Some (a_ushort n)
leaf_in ushort t = None
leaf_in uint (scalar (value.uint n)) = Some (a_uint n)
leaf_in uint t = None
leaf_in ulong (scalar (value.ulong n)) = Some (a_ulong n)
leaf_in ulong t = None
leaf_in binary (scalar (value.binary s)) = Some (a_binary s)
leaf_in binary t = None
leaf_in string (scalar (value.string s)) = Some (a_string s)
leaf_in string t = None
leaf_in symbol (scalar (value.symbol s)) = Some (a_symbol s)
leaf_in symbol t = None
leaf_in symbols t = if is_multiple t then Some t else None
leaf_in mapping (value.mapping ps) = Some (value.mapping ps)
leaf_in mapping t = None
leaf_in address (scalar (value.string s)) = Some (a_string s)
leaf_in address t = Some absent
leaf_in anything t = Some t

-- a value that has the type of its field
abbrev pub typed : ℕ → Option Tree → Result Tree PerfFault
typed k (Some t) = Ok t
typed k None = Err (fault.WrongType k)

-- a field that is absent
abbrev pub filled : Need → ℕ → Result Tree PerfFault
filled mandatory k = Err (fault.Missing k)
filled optional k = Ok absent
filled (defaults s) k = Ok (scalar s)

-- the field at a place: this value, which is so as one of the field's type
unfoldable pub field_in : Need → ℕ → Tree → Option Tree → Result Tree PerfFault
field_in need k t read = if is_absent t then filled need k else typed k read

-- the fields of these rows from a place on, or the fault of the first that has one; what stands
-- past the last is free
abbrev pub fields_in : (FieldType → Tree → Option Tree) → List Row → ℕ → Trees
    → Result (List Tree) PerfFault
fields_in type_in [] k ts = Ok []
fields_in type_in (r ∷ rs) k ts = do
  x ← field_in r.1 k (tree_at ts k) (type_in r.0 (tree_at ts k))
  xs ← fields_in type_in rs (k + 1) ts
  Ok (x ∷ xs)

-- the field at a place, where it is no composite
abbrev pub leaf_field : Leaf → Need → ℕ → Trees → Result Tree PerfFault
leaf_field l need k ts = field_in need k (tree_at ts k) (leaf_in l (tree_at ts k))

-- the field at a place, where it is optional and read so
abbrev pub part_field : (Tree → Option Tree) → ℕ → Trees → Result Tree PerfFault
part_field read k ts = field_in optional k (tree_at ts k) (read (tree_at ts k))

-- fields that are no composites
abbrev pub leaves_in : FieldType → Tree → Option Tree
leaves_in (leaf l) t = leaf_in l t
leaves_in error t = None
leaves_in state t = None
leaves_in source t = None
leaves_in target t = None
