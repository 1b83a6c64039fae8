-- Values as fields of AMQP 0-9-1 (AMQP 1.0 1.6; AMQP 0-9-1 4.2.5.5), each with the field that it is
-- read as, or the first fault inside.
use Rattle.std.specs.Prelude.{ℕ, nat_lt, List, [], ◌∷◌, ◌++◌, if◌then◌else◌, Ok, Err, Result, ℤ}
use Rattle.std.specs.Prelude.{pos, Bool, true, false, ◌&&◌, map}
use lib.Utf8.{scalar as is_scalar}
use Rattle.std.specs.Char.{encode_utf8}
use Rattle.uuid.specs.Text.{hyphenated_text, lower}
use Rattle.wire_base.specs.Reading.{◌>>=◌}
use Rattle.tables_091.specs.Tree as field
use Rattle.types_10.specs.Tree as value
use Rattle.property_map.specs.Texts.{short_in, seconds_in, new_in, is_reserved}
use Rattle.property_map.specs.Steps.{behind}
use Rattle.property_map.specs.declared.fault.PropName.TheVariants as prop
use Rattle.property_map.specs.declared.fault.MapFault.{MapFault}
use Rattle.property_map.specs.declared.fault.MapFault.TheVariants as fault

-- ---- values that hold no others

-- a value that AMQP 0-9-1 has no type for
abbrev pub none : {A : Type 0} → Result A MapFault
none = Err (fault.ValueKind prop.Headers)

-- an ulong that is a long too: it is below 2^63
abbrev pub long_in : ℕ → Result ℤ MapFault
long_in n = if nat_lt n 9223372036854775808 then Ok (pos n) else none

-- a character in UTF-8
abbrev pub char_text_in : ℕ → Result (List ℕ) MapFault
char_text_in n = if is_scalar n then Ok (encode_utf8 n) else none

-- a type of the same range, a text, seconds, or void; a decimal has none
abbrev pub scalar_field_in : value.Scalar → Result field.Scalar MapFault
scalar_field_in value.null = Ok field.void
scalar_field_in (value.boolean b) = Ok (field.boolean b)
scalar_field_in (value.ubyte n) = Ok (field.uint8 n)
scalar_field_in (value.byte z) = Ok (field.int8 z)
scalar_field_in (value.ushort n) = Ok (field.uint16 n)
scalar_field_in (value.short z) = Ok (field.int16 z)
scalar_field_in (value.uint n) = Ok (field.uint32 n)
scalar_field_in (value.int z) = Ok (field.int32 z)
scalar_field_in (value.ulong n) = long_in n >>= λ z. Ok (field.int64 z)
scalar_field_in (value.long z) = Ok (field.int64 z)
scalar_field_in (value.float n) = Ok (field.float32 n)
scalar_field_in (value.double n) = Ok (field.float64 n)
scalar_field_in (value.decimal32 n) = none
scalar_field_in (value.decimal64 n) = none
scalar_field_in (value.decimal128 s) = none
scalar_field_in (value.char n) = char_text_in n >>= λ s. Ok (field.longstr s)
scalar_field_in (value.timestamp z) = seconds_in prop.Headers z >>= λ n. Ok (field.timestamp n)
scalar_field_in (value.uuid s) = Ok (field.longstr (hyphenated_text lower s))
scalar_field_in (value.binary s) = Ok (field.blob s)
scalar_field_in (value.string s) = Ok (field.longstr s)
scalar_field_in (value.symbol s) = Ok (field.longstr s)

-- ---- values that hold others

-- a key is a string or a symbol
abbrev pub key_text_in : value.Tree → Result (List ℕ) MapFault
key_text_in (value.scalar (value.string s)) = Ok s
key_text_in (value.scalar (value.symbol s)) = Ok s
key_text_in t = none

-- a key as the name of an entry, after these names
abbrev pub entry_name_in : List (List ℕ) → value.Tree → Result (List ℕ) MapFault
entry_name_in before key = do
  s ← key_text_in key
  name ← short_in prop.Headers s
  new_in before name

-- a list and an array are an array, and a map is a table; a described value has no field
unfoldable mutual
  pub field_in : value.Tree → Result field.Tree MapFault
  field_in (value.scalar s) = scalar_field_in s >>= λ f. Ok (field.scalar f)
  field_in (value.list ts) = fields_in ts >>= λ fs. Ok (field.array fs)
  field_in (value.array ts) = fields_in ts >>= λ fs. Ok (field.array fs)
  field_in (value.mapping ps) = members_in [] ps >>= λ ms. Ok (field.table ms)
  field_in (value.described d t) = none

  pub fields_in : value.Trees → Result field.Trees MapFault
  fields_in value.no_trees = Ok field.no_trees
  fields_in (value.tree t ts) = do
    f ← field_in t
    fs ← fields_in ts
    Ok (field.tree f fs)

  -- the entries of a table, after those with these names
  pub members_in : List (List ℕ) → value.Pairs → Result field.Members MapFault
  members_in before value.no_pairs = Ok field.no_members
  members_in before (value.pair k t ps) = do
    name ← entry_name_in before k
    f ← field_in t
    ms ← members_in (before ++ name ∷ []) ps
    Ok (field.member name f ms)

-- ---- names that stand for something else

abbrev pub is_reserved_key : value.Tree → Bool
is_reserved_key (value.scalar (value.string s)) = is_reserved s
is_reserved_key (value.scalar (value.symbol s)) = is_reserved s
is_reserved_key t = false

-- the pairs whose keys stand for nothing else
abbrev pub unreserved : value.Pairs → value.Pairs
unreserved value.no_pairs = value.no_pairs
unreserved (value.pair k t ps) =
    if is_reserved_key k then unreserved ps else value.pair k t (unreserved ps)

-- all pairs, or those alone
abbrev pub kept_of : Bool → value.Pairs → value.Pairs
kept_of true ps = unreserved ps
kept_of false ps = ps

abbrev pub is_left_out : Bool → value.Tree → Bool
is_left_out skips k = skips && is_reserved_key k

-- ---- entries in front of others

abbrev pub names_of : List (List ℕ × field.Tree) → List (List ℕ)
names_of es = map (λ e. e.0) es

abbrev pub an_entry : List ℕ × field.Tree → field.Members → field.Members
an_entry e ms = field.member e.0 e.1 ms

-- what is made of a map, behind entries that are there
abbrev pub entries_behind : List (List ℕ × field.Tree) → Result field.Members MapFault
    → Result field.Members MapFault
entries_behind = behind an_entry
