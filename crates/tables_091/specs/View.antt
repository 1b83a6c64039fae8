-- A field as the value that it is (AMQP 0-9-1 4.2.5.5), one level of it: what an array or a table
-- holds is seen by its own model.
use Rattle.std.specs.Prelude.{ℕ, List}
use Rattle.tables_091.specs.Tree.{boolean, int8, uint8, int16, uint16, int32, uint32, int64}
use Rattle.tables_091.specs.Tree.{float32, float64, decimal, longstr, timestamp, void, blob, Tree}
use Rattle.tables_091.specs.Tree.{scalar, array, table, trees_of, members_of}
use Rattle.tables_091.specs.declared.field.Field.{Field}
use Rattle.tables_091.specs.declared.field.Field.TheVariants as field

abbrev pub field_tree : Field → Tree
field_tree (field.Bool b) = scalar (boolean b)
field_tree (field.I8 z) = scalar (int8 z)
field_tree (field.U8 n) = scalar (uint8 n)
field_tree (field.I16 z) = scalar (int16 z)
field_tree (field.U16 n) = scalar (uint16 n)
field_tree (field.I32 z) = scalar (int32 z)
field_tree (field.U32 n) = scalar (uint32 n)
field_tree (field.I64 z) = scalar (int64 z)
field_tree (field.F32 n) = scalar (float32 n)
field_tree (field.F64 n) = scalar (float64 n)
field_tree (field.Decimal scale n) = scalar (decimal scale n)
field_tree (field.Long s) = scalar (longstr s)
field_tree (field.Array ts) = array (trees_of ts)
field_tree (field.Time n) = scalar (timestamp n)
field_tree (field.Table ms) = table (members_of ms)
field_tree field.Void = scalar void
field_tree (field.Bytes s) = scalar (blob s)

-- an entry of a table: its name and its field
abbrev pub entry_member : List ℕ × Field → List ℕ × Tree
entry_member e = (e.0, field_tree e.1)
