-- The bytes of the image of a message (AMQP 1.0 3.2): what its rows say of each section, in the
-- canonical spelling of a value. They are told of a message without a fault: of another one the row
-- at fault says nothing here, and the bytes stand for no message.
use Rattle.std.specs.Prelude.{ℕ, List, [], ◌∷◌, ◌++◌, Option, None, option_map, Ok, Err, Result}
use Rattle.types_10.specs.Tree.{Tree}
use Rattle.types_10.specs.Fields.{absent, maybe, a_binary, a_string, a_symbol, a_timestamp}
use Rattle.content_091.specs.declared.header.Props.{Props}
use Rattle.sections_10.specs.Rows.{header_section, message_section, properties_section}
use Rattle.sections_10.specs.Rows.{application_section, data_section}
use Rattle.sections_10.specs.Writing.{fields_list, header_value, section_text, maybe_text}
use Rattle.property_map.specs.Rows.{exchange_row, key_row, content_type_row, content_encoding_row}
use Rattle.property_map.specs.Rows.{headers_row, delivery_mode_row, priority_row}
use Rattle.property_map.specs.Rows.{correlation_id_row, reply_to_row, expiration_row}
use Rattle.property_map.specs.Rows.{message_id_row, timestamp_row, kind_row, user_id_row}
use Rattle.property_map.specs.Rows.{app_id_row, cluster_id_row}
use Rattle.property_map.specs.Image.{header_with, nested_map, map_of, annotations_with}
use Rattle.property_map.specs.Image.{application_of}
use Rattle.property_map.specs.declared.fault.MapFault.{MapFault}
use Rattle.property_map.specs.declared.message.Message091.{Message091}

-- what a row says
abbrev pub row_value : {A : Type 0} → Result (Option A) MapFault → Option A
row_value (Ok x) = x
row_value (Err f) = None

-- the header (3.2.1)
abbrev pub image_header : Props → Option Tree
image_header p =
    let durable = row_value (delivery_mode_row p.delivery_mode) in
    let priority = row_value (priority_row p.priority) in
    let ttl = row_value (expiration_row p.expiration) in
    option_map header_value (header_with durable priority ttl)

-- the annotations of the message (3.2.3)
abbrev pub image_annotations : Message091 → Option Tree
image_annotations m =
    let exchange = row_value (exchange_row m.exchange) in
    let kind = row_value (kind_row m.props.kind) in
    let app_id = row_value (app_id_row m.props.app_id) in
    let cluster_id = row_value (cluster_id_row m.props.cluster_id) in
    let nested = nested_map (row_value (headers_row m.props.headers)) in
    map_of (annotations_with exchange kind app_id cluster_id nested)

-- the fields of the properties (3.2.4), in their order
abbrev pub image_fields : Message091 → List Tree
image_fields m =
    maybe a_string (row_value (message_id_row m.props.message_id))
    ∷ maybe a_binary (row_value (user_id_row m.props.user_id))
    -- to
    ∷ absent
    -- subject
    ∷ maybe a_string (row_value (key_row m.key))
    ∷ maybe a_string (row_value (reply_to_row m.props.reply_to))
    ∷ maybe a_string (row_value (correlation_id_row m.props.correlation_id))
    ∷ maybe a_symbol (row_value (content_type_row m.props.content_type))
    ∷ maybe a_symbol (row_value (content_encoding_row m.props.content_encoding))
    -- absolute-expiry-time, and then creation-time
    ∷ absent
    ∷ maybe a_timestamp (row_value (timestamp_row m.props.timestamp))
    -- group-id, group-sequence and reply-to-group-id
    ∷ absent
    ∷ absent
    ∷ absent
    ∷ []

-- the properties
abbrev pub image_properties : Message091 → Tree
image_properties m = fields_list (image_fields m)

-- the properties of the application (3.2.5)
abbrev pub image_application : Props → Option Tree
image_application p = application_of (row_value (headers_row p.headers))

-- the image: its sections in their order, the body as one section of data (3.2.6)
abbrev pub image_text : Message091 → List ℕ
image_text m =
    maybe_text header_section.0 (image_header m.props)
    ++ (maybe_text message_section.0 (image_annotations m)
    ++ (section_text properties_section.0 (image_properties m)
    ++ (maybe_text application_section.0 (image_application m.props)
    ++ section_text data_section.0 (a_binary m.body))))
