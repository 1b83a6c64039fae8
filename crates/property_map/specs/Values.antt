-- Fields as values of AMQP 1.0 (AMQP 0-9-1 4.2.5.5; AMQP 1.0 1.6), each with what is written of it,
-- or the first fault inside.
use Rattle.std.specs.Prelude.{ℕ, List, [], ◌∷◌, ◌++◌, Ok, Err, Result}
use Rattle.wire_base.specs.Reading.{◌>>=◌}
use Rattle.tables_091.specs.Tree as field
use Rattle.types_10.specs.Tree as value
use Rattle.property_map.specs.Texts.{string_in, milliseconds_in, new_in}
use Rattle.property_map.specs.declared.fault.PropName.TheVariants as prop
use Rattle.property_map.specs.declared.fault.MapFault.{MapFault}
use Rattle.property_map.specs.declared.fault.MapFault.TheVariants as fault

-- ---- fields that hold no others

-- a type of the same range, a string, milliseconds, or null; a decimal has none
abbrev pub scalar_in : field.Scalar → Result value.Scalar MapFault
scalar_in (field.boolean b) = Ok (value.boolean b)
scalar_in (field.int8 z) = Ok (value.byte z)
scalar_in (field.uint8 n) = Ok (value.ubyte n)
scalar_in (field.int16 z) = Ok (value.short z)
scalar_in (field.uint16 n) = Ok (value.ushort n)
scalar_in (field.int32 z) = Ok (value.int z)
scalar_in (field.uint32 n) = Ok (value.uint n)
scalar_in (field.int64 z) = Ok (value.long z)
scalar_in (field.float32 n) = Ok (value.float n)
scalar_in (field.float64 n) = Ok (value.double n)
scalar_in (field.decimal scale n) = Err (fault.ValueKind prop.Headers)
scalar_in (field.longstr s) = string_in prop.Headers s >>= λ t. Ok (value.string t)
scalar_in (field.timestamp n) = milliseconds_in prop.Headers n >>= λ z. Ok (value.timestamp z)
scalar_in field.void = Ok value.null
scalar_in (field.blob s) = Ok (value.binary s)

-- ---- fields that hold others

-- a name of a table, after these
abbrev pub name_in : List (List ℕ) → List ℕ → Result (List ℕ) MapFault
name_in before s = do
  name ← string_in prop.Headers s
  new_in before name

-- an array is a list, and a table a map with strings as keys
unfoldable mutual
  pub value_in : field.Tree → Result value.Tree MapFault
  value_in (field.scalar s) = scalar_in s >>= λ v. Ok (value.scalar v)
  value_in (field.array ts) = values_in ts >>= λ us. Ok (value.list us)
  value_in (field.table ms) = pairs_in [] ms >>= λ ps. Ok (value.mapping ps)

  pub values_in : field.Trees → Result value.Trees MapFault
  values_in field.no_trees = Ok value.no_trees
  values_in (field.tree t ts) = do
    u ← value_in t
    us ← values_in ts
    Ok (value.tree u us)

  pub pairs_in : List (List ℕ) → field.Members → Result value.Pairs MapFault
  pairs_in before field.no_members = Ok value.no_pairs
  pairs_in before (field.member name t ms) = do
    key ← name_in before name
    u ← value_in t
    ps ← pairs_in (before ++ name ∷ []) ms
    Ok (value.pair (value.scalar (value.string key)) u ps)
