-- The property headers in AMQP 1.0 (AMQP 0-9-1 1.8.3.3; AMQP 1.0 3.2.3 and 3.2.5). A property of
-- the application holds no other value, so what holds others goes to an annotation.
use Rattle.std.specs.Prelude.{ℕ, nat_lt, Bool, true, false, List, [], ◌∷◌, ◌++◌, if◌then◌else◌, Ok}
use Rattle.std.specs.Prelude.{Err, Result}
use Rattle.wire_base.specs.Reading.{◌>>=◌}
use Rattle.tables_091.specs.Tree as field
use Rattle.types_10.specs.Tree as value
use Rattle.property_map.specs.Texts.{string_in, new_in, is_reserved}
use Rattle.property_map.specs.Values.{value_in}
use Rattle.property_map.specs.declared.fault.PropName.TheVariants as prop
use Rattle.property_map.specs.declared.fault.MapFault.{MapFault}
use Rattle.property_map.specs.declared.fault.MapFault.TheVariants as fault
use Rattle.property_map.specs.declared.headers.HeaderMaps.{HeaderMaps}

-- the name of a header, after these
abbrev pub header_name_in : List (List ℕ) → List ℕ → Result (List ℕ) MapFault
header_name_in before s = do
  name ← string_in prop.Headers s
  if is_reserved name then Err (fault.Reserved name) else new_in before name

-- a field that holds others
abbrev pub holds_others : field.Tree → Bool
holds_others (field.scalar s) = false
holds_others (field.array ts) = true
holds_others (field.table ms) = true

-- a header, in front of others
abbrev pub with_header : Bool → value.Tree × value.Tree → HeaderMaps → HeaderMaps
with_header true p maps =
    record { application = maps.application; annotation = p ∷ maps.annotation }
with_header false p maps =
    record { application = p ∷ maps.application; annotation = maps.annotation }

-- headers, after those with these names
unfoldable pub headers_in : List (List ℕ) → List (List ℕ × field.Tree) → Result HeaderMaps MapFault
headers_in before [] = Ok (record { application = []; annotation = [] })
headers_in before (m ∷ ms) = do
  name ← header_name_in before m.0
  v ← value_in m.1
  maps ← headers_in (before ++ m.0 ∷ []) ms
  Ok (with_header (holds_others m.1) (value.scalar (value.string name), v) maps)

-- headers whose depth leaves room for the map of annotations around them
unfoldable pub table_in : List (List ℕ × field.Tree) → Result HeaderMaps MapFault
table_in ms = do
  maps ← headers_in [] ms
  if nat_lt 15 (field.depth (field.table (field.members_of ms))) then Err fault.Depth else Ok maps
