-- What the rows of a message say, one after another, up to the first at fault (AMQP 0-9-1 1.8.3;
-- AMQP 1.0 3.2).
use Rattle.std.specs.Prelude.{◌≡◌, List, Option, Some, None, option_map, ℕ, Ok, Result}
use Rattle.wire_base.specs.Reading.{◌>>=◌}
use Rattle.wire_base.specs.declared.stop.Stop.{Stop}
use Rattle.wire_base.specs.declared.stop.Stop.TheVariants as stop
use Rattle.types_10.specs.View.{value_tree}
use Rattle.sections_10.specs.declared.message.MsgProps.{MsgProps}
use Rattle.sections_10.specs.declared.message.Body10.TheVariants as body
use Rattle.sections_10.specs.declared.message.Message10.{Message10}
use Rattle.content_091.specs.declared.header.Props.{Props}
use Rattle.property_map.specs.Image.{a_string, header_with, nested_map, map_of, annotations_with}
use Rattle.property_map.specs.Image.{application_of, first_fault}
use Rattle.property_map.specs.Rows.{exchange_row, key_row, content_type_row, content_encoding_row}
use Rattle.property_map.specs.Rows.{headers_row, delivery_mode_row, priority_row}
use Rattle.property_map.specs.Rows.{correlation_id_row, reply_to_row, expiration_row}
use Rattle.property_map.specs.Rows.{message_id_row, timestamp_row, kind_row, user_id_row}
use Rattle.property_map.specs.Rows.{app_id_row, cluster_id_row}
use Rattle.property_map.specs.declared.fault.MapFault.{MapFault}
use Rattle.property_map.specs.declared.message.Message091.{Message091}
use Rattle.property_map.specs.declared.rows.Earlier.{Earlier}
use Rattle.property_map.specs.declared.rows.Middle.{Middle}
use Rattle.property_map.specs.declared.rows.Later.{Later}

abbrev pub earlier_in : Message091 → Result Earlier MapFault
earlier_in m = do
  exchange ← exchange_row m.exchange
  subject ← key_row m.key
  content_type ← content_type_row m.props.content_type
  content_encoding ← content_encoding_row m.props.content_encoding
  headers ← headers_row m.props.headers
  Ok (record {
    exchange = exchange;
    subject = subject;
    content_type = content_type;
    content_encoding = content_encoding;
    headers = headers;
  })

abbrev pub middle_in : Props → Result Middle MapFault
middle_in p = do
  durable ← delivery_mode_row p.delivery_mode
  priority ← priority_row p.priority
  correlation_id ← correlation_id_row p.correlation_id
  reply_to ← reply_to_row p.reply_to
  ttl ← expiration_row p.expiration
  message_id ← message_id_row p.message_id
  Ok (record {
    durable = durable;
    priority = priority;
    correlation_id = correlation_id;
    reply_to = reply_to;
    ttl = ttl;
    message_id = message_id;
  })

abbrev pub later_in : Props → Result Later MapFault
later_in p = do
  creation_time ← timestamp_row p.timestamp
  kind ← kind_row p.kind
  user_id ← user_id_row p.user_id
  app_id ← app_id_row p.app_id
  cluster_id ← cluster_id_row p.cluster_id
  Ok (record {
    creation_time = creation_time;
    kind = kind;
    user_id = user_id;
    app_id = app_id;
    cluster_id = cluster_id;
  })

-- properties that say this
pub record ArePropertiesOf (e : Earlier) (n : Middle) (l : Later) (p : MsgProps) : Type 0 where
  pub message_id : option_map value_tree p.message_id ≡ option_map a_string n.message_id
  pub user_id : p.user_id ≡ l.user_id
  pub to : p.to ≡ None
  pub subject : p.subject ≡ e.subject
  pub reply_to : p.reply_to ≡ n.reply_to
  pub correlation_id : option_map value_tree p.correlation_id ≡ option_map a_string n.correlation_id
  pub content_type : p.content_type ≡ e.content_type
  pub content_encoding : p.content_encoding ≡ e.content_encoding
  pub expiry : p.absolute_expiry_time ≡ None
  pub creation_time : p.creation_time ≡ l.creation_time
  pub group_id : p.group_id ≡ None
  pub group_sequence : p.group_sequence ≡ None
  pub reply_group : p.reply_to_group_id ≡ None

abbrev pub HavePropertiesOf : Earlier → Middle → Later → Option MsgProps → Type 0
HavePropertiesOf e n l None = ⊥
HavePropertiesOf e n l (Some p) = ArePropertiesOf e n l p

-- a message that says this
pub record IsMessageOf (e : Earlier) (n : Middle) (l : Later) (bytes : List ℕ)
    (image : Message10) : Type 0 where
  pub header : image.header ≡ header_with n.durable n.priority n.ttl
  pub annotations : option_map value_tree image.annotations
      ≡ map_of (annotations_with e.exchange l.kind l.app_id l.cluster_id (nested_map e.headers))
  pub properties : HavePropertiesOf e n l image.properties
  pub application : option_map value_tree image.application ≡ application_of e.headers
  pub body : image.body ≡ body.Data bytes

-- why a message has no image: its first fault, unless memory ran out
abbrev pub IsStop10 : Message091 → Stop MapFault → Type 0
IsStop10 m stop.Memory = Unit {0}
IsStop10 m (stop.Fault f) = first_fault m ≡ Some f
