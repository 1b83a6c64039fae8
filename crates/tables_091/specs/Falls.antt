-- What an array or a table holds is less deep than it is itself: what the models of these types
-- have to show.
use Rattle.std.specs.Prelude.{ℕ, ◌≤◌, max, List, [], ◌∷◌, map}
use Rattle.std.proofs.Common.{arith}
use denote.Param.Weighed.{most}
use Rattle.tables_091.specs.Tree.{depth, list_depth, entries_depth}
use Rattle.tables_091.specs.View.{field_tree, entry_member}
use Rattle.tables_091.specs.declared.field.Field.{Field}
use Rattle.tables_091.specs.declared.field.Field.TheVariants as field
use Rattle.tables_091.specs.declared.field.FieldList.TheDeep.{deep-Field}

pub field_falls : (f : Field) → deep-Field f ≤ depth (field_tree f)
field_falls (field.Bool b) = omega arith
field_falls (field.I8 z) = omega arith
field_falls (field.U8 n) = omega arith
field_falls (field.I16 z) = omega arith
field_falls (field.U16 n) = omega arith
field_falls (field.I32 z) = omega arith
field_falls (field.U32 n) = omega arith
field_falls (field.I64 z) = omega arith
field_falls (field.F32 n) = omega arith
field_falls (field.F64 n) = omega arith
field_falls (field.Decimal scale n) = omega arith
field_falls (field.Long s) = omega arith
field_falls (field.Array ts) = omega arith
field_falls (field.Time n) = omega arith
field_falls (field.Table ms) = omega arith
field_falls field.Void = omega arith
field_falls (field.Bytes s) = omega arith

pub list_falls : (fs : List Field) → max (most (λ f. deep-Field f) fs) 0 ≤ list_depth
    (map field_tree fs)
list_falls [] = omega arith
list_falls (f ∷ fs) = omega (arith, list_falls fs, field_falls f)

pub entries_fall : (es : List (List ℕ × Field)) → max (most (λ e. max 0 (max
    (deep-Field e.1) 0)) es) 0 ≤ entries_depth (map entry_member es)
entries_fall [] = omega arith
entries_fall (e ∷ es) = omega (arith, entries_fall es, field_falls e.1)
