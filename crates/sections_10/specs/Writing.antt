-- What is written of a message (AMQP 1.0 3.2): its sections in their order, each with the shortest
-- spelling of its value. Of a list of fields, one that is absent or has its default is null, and
-- nulls at the end are left out.
use Rattle.std.specs.Prelude.{◌≡◌, ℕ, ◌==◌, nat_lt, Bool, true, false}
use Rattle.std.specs.Prelude.{if◌then◌else◌, List, [], ◌∷◌, ◌++◌, Option, Some, None, option_map}
use Rattle.std.specs.Int.{w8, w32, to_be_bytes}
use Rattle.types_10.specs.Tree.{Tree, scalar, list, mapping, trees_of}
use Rattle.types_10.specs.Tree as value
use Rattle.types_10.specs.View.{value_tree}
use Rattle.types_10.specs.Writing.{value_text, HasSpelling}
use Rattle.types_10.specs.Fields.{absent, maybe, a_boolean, a_ubyte, a_uint, a_binary, trim}
use Rattle.sections_10.specs.Reading.{is_annotation_key, is_string_key, keys_are}
use Rattle.sections_10.specs.View.{props_fields}
use Rattle.sections_10.specs.declared.message.MsgHeader.{MsgHeader}
use Rattle.sections_10.specs.declared.message.MsgProps.{MsgProps}
use Rattle.sections_10.specs.declared.message.Body10.{Body10}
use Rattle.sections_10.specs.declared.message.Body10.TheVariants as body
use Rattle.sections_10.specs.declared.message.Message10.{Message10}

-- ---- lists of fields

-- a list of fields, without the nulls at its end
abbrev pub fields_list : List Tree → Tree
fields_list xs = list (trees_of (trim xs))

-- a boolean, null where it is false
abbrev pub unless_false : Bool → Tree
unless_false true = a_boolean true
unless_false false = absent

-- a number, null where it is 0
abbrev pub unless_zero : ℕ → Tree
unless_zero n = if n == 0 then absent else a_uint n

abbrev pub header_written : MsgHeader → List Tree
header_written h =
    maybe a_boolean h.durable
    ∷ maybe a_ubyte h.priority
    ∷ maybe a_uint h.ttl
    ∷ unless_false h.first_acquirer
    ∷ unless_zero h.delivery_count
    ∷ []

abbrev pub header_value : MsgHeader → Tree
header_value h = fields_list (header_written h)

abbrev pub props_value : MsgProps → Tree
props_value p = fields_list (props_fields p)

-- ---- sections

-- the byte 00, the code of the section as an ulong of one byte, and the value
abbrev pub section_text : ℕ → Tree → List ℕ
section_text code t = 0 ∷ 83 ∷ code ∷ value_text t

-- a section that may be there
abbrev pub maybe_text : ℕ → Option Tree → List ℕ
maybe_text code None = []
maybe_text code (Some t) = section_text code t

-- the code and the length of a binary: of one byte where it fits, else of four
abbrev pub binary_head : ℕ → List ℕ
binary_head n = if nat_lt n 256 then 160 ∷ to_be_bytes w8 n else 176 ∷ to_be_bytes w32 n

-- one data section; nothing is written of another body
abbrev pub body_text : Body10 → List ℕ
body_text (body.Data s) = section_text 117 (a_binary s)
body_text (body.Text s) = []
body_text (body.Binary s) = []
body_text body.Other = []

-- the bytes of data; of another body none
abbrev pub body_bytes : Body10 → List ℕ
body_bytes (body.Data s) = s
body_bytes (body.Text s) = []
body_bytes (body.Binary s) = []
body_bytes body.Other = []

abbrev pub message_text : Message10 → List ℕ
message_text m =
    maybe_text 112 (option_map header_value m.header)
    ++ (maybe_text 114 (option_map value_tree m.annotations)
    ++ (maybe_text 115 (option_map props_value m.properties)
    ++ (maybe_text 116 (option_map value_tree m.application)
    ++ body_text m.body)))

-- ---- which messages can be written

-- a value that is there is such
abbrev pub IfThere : (Tree → Type 0) → Option Tree → Type 0
IfThere P None = Unit {0}
IfThere P (Some t) = P t

-- a body of data, and its value is such
abbrev pub IsData : (Tree → Type 0) → Body10 → Type 0
IsData P (body.Data s) = P (a_binary s)
IsData P (body.Text s) = ⊥
IsData P (body.Binary s) = ⊥
IsData P body.Other = ⊥

-- the value of each section that is written is such, and the body is data
abbrev pub EachWritten : (Tree → Type 0) → Message10 → Type 0
EachWritten P m =
    IfThere P (option_map header_value m.header)
    × IfThere P (option_map value_tree m.annotations)
    × IfThere P (option_map props_value m.properties)
    × IfThere P (option_map value_tree m.application)
    × IsData P m.body

-- a message that can be written: the value of each section has a spelling, and the body is data
abbrev pub CanBeWritten : Message10 → Type 0
CanBeWritten m = EachWritten HasSpelling m

-- ---- types

-- an id of a message is an ulong, a uuid, a binary or a string
abbrev pub IsId : Tree → Type 0
IsId (scalar (value.ulong n)) = Unit {0}
IsId (scalar (value.uuid s)) = Unit {0}
IsId (scalar (value.binary s)) = Unit {0}
IsId (scalar (value.string s)) = Unit {0}
IsId t = ⊥

abbrev pub HasIds : Option MsgProps → Type 0
HasIds None = Unit {0}
HasIds (Some p) =
    IfThere IsId (option_map value_tree p.message_id) × IfThere IsId
    (option_map value_tree p.correlation_id)

-- a map with such keys
abbrev pub IsMapWith : (Tree → Bool) → Tree → Type 0
IsMapWith is_key (mapping ps) = keys_are is_key ps ≡ true
IsMapWith is_key t = ⊥

-- the values inside have the types that the tables say: the ids; annotations with symbols or ulongs
-- as keys, and properties of the application with strings
pub record HasTypes (m : Message10) : Type 0 where
  pub ids : HasIds m.properties
  pub annotations : IfThere (IsMapWith is_annotation_key) (option_map value_tree m.annotations)
  pub application : IfThere (IsMapWith is_string_key) (option_map value_tree m.application)
