-- What is written of an image is what the rows of its message say.
use Rattle.std.proofs.Common.{◌≡◌, ℕ, List, Option, Some, None, option_map, Result, Ok, refl, sym}
use Rattle.std.proofs.Common.{ap, ◌∙◌}
use Rattle.types_10.specs.Tree.{Tree}
use Rattle.types_10.specs.View.{value_tree}
use Rattle.types_10.specs.declared.value.Value10.{Value10}
use Rattle.types_10.specs.Fields.{maybe}
use Rattle.content_091.specs.declared.header.Props.{Props}
use Rattle.sections_10.specs.View.{props_fields}
use Rattle.sections_10.specs.Writing.{fields_list, header_value, props_value, message_text}
use Rattle.sections_10.specs.declared.message.MsgHeader.{MsgHeader}
use Rattle.sections_10.specs.declared.message.MsgProps.{MsgProps}
use Rattle.sections_10.specs.declared.message.Body10.TheVariants as body
use Rattle.sections_10.specs.declared.message.Message10.{Message10}
use Rattle.property_map.specs.Rows.{exchange_row, key_row, content_type_row, content_encoding_row}
use Rattle.property_map.specs.Rows.{headers_row, delivery_mode_row, priority_row}
use Rattle.property_map.specs.Rows.{correlation_id_row, reply_to_row, expiration_row}
use Rattle.property_map.specs.Rows.{message_id_row, timestamp_row, kind_row, user_id_row}
use Rattle.property_map.specs.Rows.{app_id_row, cluster_id_row}
use Rattle.property_map.specs.Image.{a_string, application_of, IsHeader, AreAnnotations}
use Rattle.property_map.specs.Image.{AreProperties, HaveProperties, AreOfApplication, IsImage10}
use Rattle.property_map.specs.Spelling.{row_value, image_header, image_annotations, image_fields}
use Rattle.property_map.specs.Spelling.{image_properties, image_application, image_text}
use Rattle.property_map.specs.declared.fault.MapFault.{MapFault}
use Rattle.property_map.specs.declared.message.Message091.{Message091}

value_is : {A : Type 0} (r : Result (Option A) MapFault) (x : Option A) → r ≡ Ok x → x ≡ row_value r
value_is {A} r x e = sym (ap (λ (s : Result (Option A) MapFault). row_value s) e)

pub header_is : (p : Props) (h : Option MsgHeader) → IsHeader p h → option_map header_value h ≡ image_header p
header_is p h i =
    let d = value_is (delivery_mode_row p.delivery_mode) i.durable i.delivery_mode_is in
    let n = value_is (priority_row p.priority) i.priority i.priority_is in
    let t = value_is (expiration_row p.expiration) i.ttl i.expiration_is in
    ap (λ (o : Option MsgHeader). option_map header_value o) (i.is ∙ rw (d, n, t) refl)

pub annotations_are : (m : Message091) (a : Option Value10) → AreAnnotations m a → option_map value_tree a ≡ image_annotations m
annotations_are m a i =
    let e = value_is (exchange_row m.exchange) i.exchange i.exchange_is in
    let k = value_is (kind_row m.props.kind) i.kind i.kind_is in
    let p = value_is (app_id_row m.props.app_id) i.app_id i.app_id_is in
    let c = value_is (cluster_id_row m.props.cluster_id) i.cluster_id i.cluster_id_is in
    let h = value_is (headers_row m.props.headers) i.maps i.headers_are in
    i.are ∙ rw (e, k, p, c, h) refl

abbrev itself : Tree → Tree
itself t = t

id_is : (o : Option Value10) (s : Option (List ℕ)) → option_map value_tree o ≡ option_map a_string s → maybe value_tree o ≡ maybe a_string s
id_is o s e = by_value o ∙ ap (maybe itself) e ∙ by_text s
  where
    by_value : (o : Option Value10) → maybe value_tree o ≡ maybe itself (option_map value_tree o)
    by_value None = refl
    by_value (Some v) = refl

    by_text : (s : Option (List ℕ)) → maybe itself (option_map a_string s) ≡ maybe a_string s
    by_text None = refl
    by_text (Some t) = refl

fields_are : (m : Message091) (p : MsgProps) → AreProperties m p → props_fields p ≡ image_fields m
fields_are m p i =
    rw (
      id_is p.message_id i.message_id i.message_id_said ∙ ap (maybe a_string) (value_is (message_id_row m.props.message_id) i.message_id i.message_id_is),
      value_is (user_id_row m.props.user_id) p.user_id i.user_id_is,
      i.to_is,
      value_is (key_row m.key) p.subject i.key_is,
      value_is (reply_to_row m.props.reply_to) p.reply_to i.reply_to_is,
      id_is p.correlation_id i.correlation_id i.correlation_id_said ∙ ap (maybe a_string) (value_is (correlation_id_row m.props.correlation_id) i.correlation_id i.correlation_id_is),
      value_is (content_type_row m.props.content_type) p.content_type i.content_type_is,
      value_is (content_encoding_row m.props.content_encoding) p.content_encoding i.content_encoding_is,
      i.expiry_is,
      value_is (timestamp_row m.props.timestamp) p.creation_time i.timestamp_is,
      i.group_is,
      i.group_sequence_is,
      i.reply_group_is,
    ) refl

pub properties_are : (m : Message091) (o : Option MsgProps) → HaveProperties m o → option_map props_value o ≡ Some (image_properties m)
properties_are m None i = absurd i
properties_are m (Some p) i = ap (λ (ts : List Tree). Some (fields_list ts)) (fields_are m p i)

pub application_is : (m : Message091) (a : Option Value10) → AreOfApplication m a → option_map value_tree a ≡ image_application m.props
application_is m a i = i.are ∙ ap application_of (value_is (headers_row m.props.headers) i.maps i.headers_are)

-- an image with another body is the image of the message with that body
pub text_with : (m : Message091) (image : Message10) (s : List ℕ) → IsImage10 m image → message_text (record image { body = body.Data s }) ≡ image_text (record m { body = s })
text_with m image s i =
    rw (header_is m.props image.header i.header, annotations_are m image.annotations i.annotations, properties_are m image.properties i.properties, application_is m image.application i.application) refl

pub text_is : (m : Message091) (image : Message10) → IsImage10 m image → message_text image ≡ image_text m
text_is m image i =
    rw (header_is m.props image.header i.header, annotations_are m image.annotations i.annotations, properties_are m image.properties i.properties, application_is m image.application i.application, i.body) refl
