-- A message as what its sections say (AMQP 1.0 3.2): null for an absent field.
use Rattle.std.specs.Prelude.{List, [], ◌∷◌, Option, option_map}
use Rattle.types_10.specs.Tree.{Tree, list, trees_of}
use Rattle.types_10.specs.View.{value_tree}
use Rattle.types_10.specs.Fields.{maybe, a_boolean, a_ubyte, a_uint, a_timestamp, a_binary}
use Rattle.types_10.specs.Fields.{a_string, a_symbol}
use Rattle.sections_10.specs.declared.message.MsgHeader.{MsgHeader}
use Rattle.sections_10.specs.declared.message.MsgProps.{MsgProps}
use Rattle.sections_10.specs.declared.message.Body10.{Body10}
use Rattle.sections_10.specs.declared.message.Message10.{Message10}

abbrev pub header_fields : MsgHeader → List Tree
header_fields h =
    maybe a_boolean h.durable
    ∷ maybe a_ubyte h.priority
    ∷ maybe a_uint h.ttl
    ∷ a_boolean h.first_acquirer
    ∷ a_uint h.delivery_count
    ∷ []

abbrev pub props_fields : MsgProps → List Tree
props_fields p =
    maybe value_tree p.message_id
    ∷ maybe a_binary p.user_id
    ∷ maybe a_string p.to
    ∷ maybe a_string p.subject
    ∷ maybe a_string p.reply_to
    ∷ maybe value_tree p.correlation_id
    ∷ maybe a_symbol p.content_type
    ∷ maybe a_symbol p.content_encoding
    ∷ maybe a_timestamp p.absolute_expiry_time
    ∷ maybe a_timestamp p.creation_time
    ∷ maybe a_string p.group_id
    ∷ maybe a_uint p.group_sequence
    ∷ maybe a_string p.reply_to_group_id
    ∷ []

abbrev pub header_tree : MsgHeader → Tree
header_tree h = list (trees_of (header_fields h))

abbrev pub props_tree : MsgProps → Tree
props_tree p = list (trees_of (props_fields p))

-- what is kept of a message
pub record Kept : Type 0 where
  pub header : Option Tree
  pub annotations : Option Tree
  pub properties : Option Tree
  pub application : Option Tree
  pub body : Body10

abbrev pub kept_of : Message10 → Kept
kept_of m = record {
  header = option_map header_tree m.header;
  annotations = option_map value_tree m.annotations;
  properties = option_map props_tree m.properties;
  application = option_map value_tree m.application;
  body = m.body;
}
