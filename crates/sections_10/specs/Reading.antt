-- Reading a message from left to right (AMQP 1.0 3.2), section by section, with the first fault
-- that is met.
use Rattle.std.specs.Prelude.{ℕ, zero, suc, ◌+◌, ◌==◌, ◌||◌, ◌&&◌, nat_lt, nat_le, Bool, true}
use Rattle.std.specs.Prelude.{false, if◌then◌else◌, List, [], ◌∷◌, ◌++◌, length, slice_index}
use Rattle.std.specs.Prelude.{Option, Some, None, option_map, Ok, Err, Result}
use Rattle.wire_base.specs.Reading.{◌>>=◌}
use Rattle.wire_base.specs.declared.scan.At.{At}
use Rattle.types_10.specs.Tree.{Scalar, Tree, scalar, list, mapping, Pairs, no_pairs, pair}
use Rattle.types_10.specs.Tree.{trees_of}
use Rattle.types_10.specs.Tree as value
use Rattle.types_10.specs.Reading.{Fault, value_at}
use Rattle.types_10.specs.View.{value_tree}
use Rattle.sections_10.specs.Fields.{fields_in}
use Rattle.sections_10.specs.Rows.{SectionKind, Section, header_section, delivery_section}
use Rattle.sections_10.specs.Rows.{message_section, properties_section, application_section}
use Rattle.sections_10.specs.Rows.{data_section, sequence_section, value_section, footer_section}
use Rattle.sections_10.specs.Rows as kind
use Rattle.sections_10.specs.View.{header_tree, props_tree, Kept, kept_of}
use Rattle.wire_base.specs.declared.stop.Stop.{Stop}
use Rattle.wire_base.specs.declared.stop.Stop.TheVariants as stop
use Rattle.sections_10.specs.declared.sections.Keys.{Keys}
use Rattle.sections_10.specs.declared.sections.Keys.TheVariants as keys
use Rattle.sections_10.specs.declared.message.Body10.{Body10}
use Rattle.sections_10.specs.declared.message.Body10.TheVariants as body
use Rattle.sections_10.specs.declared.message.Message10.{Message10}
use Rattle.sections_10.specs.declared.reading.Found.{Found}
use Rattle.sections_10.specs.declared.reading.SectionFault.{SectionFault}
use Rattle.sections_10.specs.declared.reading.SectionFault.TheVariants as fault

-- ---- values of sections

abbrev pub is_annotation_key : Tree → Bool
is_annotation_key (scalar (value.symbol s)) = true
is_annotation_key (scalar (value.ulong n)) = true
is_annotation_key t = false

abbrev pub is_string_key : Tree → Bool
is_string_key (scalar (value.string s)) = true
is_string_key t = false

-- the keys of annotations are symbols or ulongs, those of properties of the application strings,
-- and those of a footer any
abbrev pub is_key_of : Keys → Tree → Bool
is_key_of keys.Annotations t = is_annotation_key t
is_key_of keys.Strings t = is_string_key t
is_key_of keys.Any t = true

-- the key of a pair that may be there
abbrev pub key_found : Keys → Option (Tree × Tree) → Bool
key_found ks None = true
key_found ks (Some p) = is_key_of ks p.0

-- the key at a place is such, or there is none
abbrev pub key_at : Keys → List (Tree × Tree) → ℕ → Bool
key_at ks [] k = true
key_at ks (p ∷ ps) zero = is_key_of ks p.0
key_at ks (p ∷ ps) (suc k) = key_at ks ps k

-- whether each key of a map is such
abbrev pub keys_are : (Tree → Bool) → Pairs → Bool
keys_are is_key no_pairs = true
keys_are is_key (pair k t ps) = if is_key k then keys_are is_key ps else false

-- a map whose keys are such
unfoldable pub map_with : (Tree → Bool) → Tree → Result Tree (Unit {0})
map_with is_key (mapping ps) = if keys_are is_key ps then Ok (mapping ps) else Err tt
map_with is_key t = Err tt

-- the value of a section of a kind
unfoldable pub meaning_in : SectionKind → Tree → Result Tree (Unit {0})
meaning_in (kind.fields rows) (list ts) = fields_in rows 0 ts >>= λ xs. Ok (list (trees_of xs))
meaning_in (kind.fields rows) t = Err tt
meaning_in (kind.map_of ks) t = map_with (is_key_of ks) t
meaning_in kind.data_bytes (scalar (value.binary s)) = Ok (scalar (value.binary s))
meaning_in kind.data_bytes t = Err tt
meaning_in kind.sequence (list ts) = Ok (list ts)
meaning_in kind.sequence t = Err tt
meaning_in kind.anything t = Ok t

abbrev pub kind_of : Keys → SectionKind
kind_of ks = kind.map_of ks

-- ---- sections

-- a value and the offset behind it, without the fault where there is none
abbrev pub without_fault : Result (Tree × ℕ) Fault → Result (Tree × ℕ) (Unit {0})
without_fault (Ok x) = Ok x
without_fault (Err f) = Err tt

-- a number of eight bytes, and the offset behind it
abbrev pub ulong_of : Result (Tree × ℕ) Fault → Option (ℕ × ℕ)
ulong_of (Ok (scalar (value.ulong n), after)) = Some (n, after)
ulong_of read = None

-- the code of the descriptor at an offset, and the offset behind it; None where no ulong describes
-- a value there
unfoldable pub code_at : List ℕ → ℕ → Option (ℕ × ℕ)
code_at bytes at =
    if nat_lt at (length bytes) then (if slice_index bytes at == 0 then ulong_of (value_at bytes
    (at + 1)) else None)
    else None

-- the offset behind the descriptor, where it is this code
abbrev pub if_code : ℕ → Option (ℕ × ℕ) → Option ℕ
if_code code None = None
if_code code (Some c) = if c.0 == code then Some c.1 else None

-- the value of a section behind its descriptor, and the offset behind it
abbrev pub value_in : SectionKind → List ℕ → ℕ → Result (Tree × ℕ) (Unit {0})
value_in k bytes at = do
  v ← without_fault (value_at bytes at)
  t ← meaning_in k v.0
  Ok (t, v.1)

-- a section whose value is this; where it has none, the fault at the section
abbrev pub placed : ℕ → Result (Tree × ℕ) (Unit {0}) → Result (Option Tree × ℕ) ℕ
placed at (Ok x) = Ok (Some x.0, x.1)
placed at (Err e) = Err at

abbrev pub behind_code : SectionKind → List ℕ → ℕ → Option ℕ → Result (Option Tree × ℕ) ℕ
behind_code k bytes at None = Ok (None, at)
behind_code k bytes at (Some after) = placed at (value_in k bytes after)

-- what a function read of a section, told with its offset
abbrev pub located_at : {T : Type 0} → ℕ → Result (T × ℕ) (Stop (Unit {0}))
    → Result (Option T × ℕ) (Stop ℕ)
located_at at (Ok x) = Ok (Some x.0, x.1)
located_at at (Err stop.Memory) = Err stop.Memory
located_at at (Err (stop.Fault e)) = Err (stop.Fault at)

-- a section, where its code stands at an offset
unfoldable pub section_in : Section → List ℕ → ℕ → Result (Option Tree × ℕ) ℕ
section_in s bytes at = behind_code s.1 bytes at (if_code s.0 (code_at bytes at))

-- whether something is there
abbrev pub is_there : {A : Type 0} → Option A → Bool
is_there None = false
is_there (Some x) = true

-- whether a section stands at an offset, and the offset behind it
abbrev pub found_as : Option Tree × ℕ → Result (Bool × ℕ) ℕ
found_as x = Ok (is_there x.0, x.1)

abbrev pub stands_in : Section → List ℕ → ℕ → Result (Bool × ℕ) ℕ
stands_in s bytes at = section_in s bytes at >>= found_as

-- ---- bodies

-- one section and then others, or none
abbrev pub and_more : (ℕ → Result (List Tree × ℕ) ℕ) → Option Tree × ℕ → Result (List Tree × ℕ) ℕ
and_more more (None, at) = Ok ([], at)
and_more more (Some t, at) = more at >>= λ x. Ok (t ∷ x.0, x.1)

-- as many sections as there are, of at most so many
unfoldable pub run_in : Section → ℕ → List ℕ → ℕ → Result (List Tree × ℕ) ℕ
run_in s zero bytes at = Ok ([], at)
run_in s (suc most) bytes at = section_in s bytes at >>= and_more (run_in s most bytes)

-- the bytes of a data section
abbrev pub bytes_of : Tree → List ℕ
bytes_of (scalar (value.binary s)) = s
bytes_of t = []

-- bytes that may be there, and those of more data sections
abbrev pub front_of : Option (List ℕ) → List ℕ
front_of None = []
front_of (Some s) = s

abbrev pub more_data : Option (List ℕ) → List Tree → Option (List ℕ)
more_data body [] = body
more_data body (t ∷ ts) = more_data (Some (front_of body ++ bytes_of t)) ts

abbrev pub data_behind : Option (List ℕ) → Result (List Tree × ℕ) ℕ → Result (Option (List ℕ) × ℕ) ℕ
data_behind body read = read >>= λ x. Ok (more_data body x.0, x.1)

-- the data sections at an offset: a section has more bytes than none, so there are no more than
-- bytes
unfoldable pub data_in : List ℕ → ℕ → Result (Option (List ℕ) × ℕ) ℕ
data_in bytes at = data_behind None (run_in data_section (length bytes) bytes at)

-- whether there are sections
abbrev pub any_more : Bool → List Tree → Bool
any_more found [] = found
any_more found (t ∷ ts) = any_more true ts

abbrev pub sequences_behind : Bool → Result (List Tree × ℕ) ℕ → Result (Bool × ℕ) ℕ
sequences_behind found read = read >>= λ x. Ok (any_more found x.0, x.1)

unfoldable pub sequences_in : List ℕ → ℕ → Result (Bool × ℕ) ℕ
sequences_in bytes at = sequences_behind false (run_in sequence_section (length bytes) bytes at)

-- the body of one value
abbrev pub scalar_body : Scalar → Body10
scalar_body (value.string s) = body.Text s
scalar_body (value.binary s) = body.Binary s
scalar_body s = body.Other

unfoldable pub value_body : Tree → Body10
value_body (scalar s) = scalar_body s
value_body t = body.Other

abbrev pub maybe_value : Option Tree × ℕ → Result (Option Body10 × ℕ) ℕ
maybe_value (None, at) = Ok (None, at)
maybe_value (Some t, at) = Ok (Some (value_body t), at)

abbrev pub no_sequence : List ℕ → Bool × ℕ → Result (Option Body10 × ℕ) ℕ
no_sequence bytes (true, at) = Ok (Some body.Other, at)
no_sequence bytes (false, at) = section_in value_section bytes at >>= maybe_value

abbrev pub no_data : List ℕ → Option (List ℕ) × ℕ → Result (Option Body10 × ℕ) ℕ
no_data bytes (Some s, at) = Ok (Some (body.Data s), at)
no_data bytes (None, at) = sequences_in bytes at >>= no_sequence bytes

-- a body, where one begins at an offset
unfoldable pub body_in : List ℕ → ℕ → Result (Option Body10 × ℕ) ℕ
body_in bytes at = data_in bytes at >>= no_data bytes

-- ---- messages

-- what sections say, in their order, and the offset behind the last
pub record Sections : Type 0 where
  pub header : Option Tree
  pub delivery : Option Tree
  pub annotations : Option Tree
  pub properties : Option Tree
  pub application : Option Tree
  pub body : Option Body10
  pub footer : Option Tree
  pub after : ℕ

-- the sections that stand in order from the front on
unfoldable pub sections_in : List ℕ → Result Sections ℕ
sections_in bytes = do
  h ← section_in header_section bytes 0
  d ← section_in delivery_section bytes h.1
  a ← section_in message_section bytes d.1
  p ← section_in properties_section bytes a.1
  q ← section_in application_section bytes p.1
  b ← body_in bytes q.1
  f ← section_in footer_section bytes b.1
  Ok (record { header = h.0; delivery = d.0; annotations = a.0; properties = p.0; application = q.0; body = b.0; footer = f.0; after = f.1 })

-- the place of a section in the order of its kind: those of a body have one
abbrev pub rank : ℕ → ℕ
rank code = if code == 118 || code == 119 then 117 else code

-- the place of the last section that stands; 0 where none does
abbrev pub last_rank : Sections → ℕ
last_rank s =
    if is_there s.footer then 120
    else if is_there s.body then 117
    else if is_there s.application then 116
    else if is_there s.properties then 115
    else if is_there s.annotations then 114
    else if is_there s.delivery then 113
    else if is_there s.header then 112
    else 0

-- why no section goes on where this code stands behind the last one
abbrev pub fault_of : ℕ → Option (ℕ × ℕ) → SectionFault
fault_of last None = fault.Value
fault_of last (Some c) =
    if nat_le 112 c.0 && nat_le c.0 120
    then (if nat_lt (rank c.0) last then fault.Order else fault.Repeated)
    else fault.Value

-- the message of these sections: nothing is left behind them, and there is a body
abbrev pub kept_in : Sections → Option Body10 → Result Kept (At SectionFault)
kept_in s None = Err (record { fault = fault.NoBody; at = s.after })
kept_in s (Some b) =
    Ok (record { header = s.header; annotations = s.annotations; properties = s.properties; application = s.application; body = b })

abbrev pub whole_of : List ℕ → Sections → Result Kept (At SectionFault)
whole_of bytes s =
    if nat_lt s.after (length bytes)
    then Err (record { fault = fault_of (last_rank s) (code_at bytes s.after); at = s.after })
    else kept_in s s.body

abbrev pub whole : List ℕ → Result Sections ℕ → Result Kept (At SectionFault)
whole bytes (Err at) = Err (record { fault = fault.Value; at = at })
whole bytes (Ok s) = whole_of bytes s

-- what is kept of the message that fills these bytes, or the first fault
abbrev pub message_in : List ℕ → Result Kept (At SectionFault)
message_in bytes = whole bytes (sections_in bytes)

-- a message that was read, as what is kept of it
abbrev pub seen : Result Message10 (At SectionFault) → Result Kept (At SectionFault)
seen (Ok m) = Ok (kept_of m)
seen (Err e) = Err e

-- what was found of sections
abbrev pub found_sections : Found → Sections
found_sections f = record {
  header = option_map header_tree f.header;
  delivery = option_map value_tree f.delivery;
  annotations = option_map value_tree f.annotations;
  properties = option_map props_tree f.properties;
  application = option_map value_tree f.application;
  body = f.body;
  footer = option_map value_tree f.footer;
  after = f.after;
}
