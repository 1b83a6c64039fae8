-- A message with an image has no fault, and no other image.
use Rattle.std.proofs.Common.{◌≡◌, ℕ, List, Option, Some, None, option_map, Result, Ok, refl, sym}
use Rattle.std.proofs.Common.{ap, ◌∙◌}
use Rattle.wire_base.proofs.Laws.{ok_is}
use Rattle.types_10.specs.Tree.{Tree}
use Rattle.types_10.specs.View.{value_tree}
use Rattle.types_10.specs.declared.value.Value10.{Value10}
use Rattle.types_10.specs.Fields.{maybe}
use Rattle.content_091.specs.declared.header.Props.{Props}
use Rattle.sections_10.specs.View.{props_tree, kept_of}
use Rattle.sections_10.specs.declared.message.MsgHeader.{MsgHeader}
use Rattle.sections_10.specs.declared.message.MsgProps.{MsgProps}
use Rattle.sections_10.specs.declared.message.Message10.{Message10}
use Rattle.property_map.specs.Rows.{exchange_row, key_row, content_type_row, content_encoding_row}
use Rattle.property_map.specs.Rows.{headers_row, delivery_mode_row, priority_row}
use Rattle.property_map.specs.Rows.{correlation_id_row, reply_to_row, expiration_row}
use Rattle.property_map.specs.Rows.{message_id_row, timestamp_row, kind_row, user_id_row}
use Rattle.property_map.specs.Rows.{app_id_row, cluster_id_row}
use Rattle.property_map.specs.Image.{a_string, application_of, IsHeader, AreAnnotations}
use Rattle.property_map.specs.Image.{AreProperties, HaveProperties, AreOfApplication, IsImage10}
use Rattle.property_map.specs.Image.{fault_of, first_fault}
use Rattle.property_map.specs.declared.fault.MapFault.{MapFault}
use Rattle.property_map.specs.declared.message.Message091.{Message091}

-- ---- no fault

no_fault : {A : Type 0} (r : Result A MapFault) (x : A) → r ≡ Ok x → fault_of r ≡ None
no_fault {A} r x e = ap (λ (s : Result A MapFault). fault_of s) e

-- properties that are there
record Properties (m : Message091) (o : Option MsgProps) : Type 0 where
  said : MsgProps
  is : o ≡ Some said
  are : AreProperties m said

properties_there : (m : Message091) (o : Option MsgProps) → HaveProperties m o → Properties m o
properties_there m None h = absurd h
properties_there m (Some p) h = record { said = p; is = refl; are = h }

pub image_is_right : (m : Message091) (image : Message10) → IsImage10 m image → first_fault m ≡ None
image_is_right m image h =
    let p = properties_there m image.properties h.properties in
    rw (
      no_fault (exchange_row m.exchange) h.annotations.exchange h.annotations.exchange_is,
      no_fault (key_row m.key) p.said.subject p.are.key_is,
      no_fault (content_type_row m.props.content_type) p.said.content_type p.are.content_type_is,
      no_fault (content_encoding_row m.props.content_encoding) p.said.content_encoding p.are.content_encoding_is,
      no_fault (headers_row m.props.headers) h.application.maps h.application.headers_are,
      no_fault (delivery_mode_row m.props.delivery_mode) h.header.durable h.header.delivery_mode_is,
      no_fault (correlation_id_row m.props.correlation_id) p.are.correlation_id p.are.correlation_id_is,
      no_fault (reply_to_row m.props.reply_to) p.said.reply_to p.are.reply_to_is,
      no_fault (expiration_row m.props.expiration) h.header.ttl h.header.expiration_is,
      no_fault (message_id_row m.props.message_id) p.are.message_id p.are.message_id_is,
      no_fault (timestamp_row m.props.timestamp) p.said.creation_time p.are.timestamp_is,
      no_fault (kind_row m.props.kind) h.annotations.kind h.annotations.kind_is,
      no_fault (app_id_row m.props.app_id) h.annotations.app_id h.annotations.app_id_is,
      no_fault (cluster_id_row m.props.cluster_id) h.annotations.cluster_id h.annotations.cluster_id_is,
    ) refl

-- ---- one image

-- what a row says is one thing
same : {A : Type 0} (r : Result A MapFault) (x y : A) → r ≡ Ok x → r ≡ Ok y → x ≡ y
same r x y e f = ok_is {F = MapFault} x y (sym e ∙ f)

one_header : (p : Props) (a b : Option MsgHeader) → IsHeader p a → IsHeader p b → a ≡ b
one_header p a b h k =
    let d = same (delivery_mode_row p.delivery_mode) h.durable k.durable h.delivery_mode_is k.delivery_mode_is in
    let n = same (priority_row p.priority) h.priority k.priority h.priority_is k.priority_is in
    let t = same (expiration_row p.expiration) h.ttl k.ttl h.expiration_is k.expiration_is in
    h.is ∙ rw (d, n, t) refl ∙ sym k.is

one_annotations : (m : Message091) (a b : Option Value10) → AreAnnotations m a → AreAnnotations m b → option_map value_tree a ≡ option_map value_tree b
one_annotations m a b h k =
    let e = same (exchange_row m.exchange) h.exchange k.exchange h.exchange_is k.exchange_is in
    let n = same (kind_row m.props.kind) h.kind k.kind h.kind_is k.kind_is in
    let i = same (app_id_row m.props.app_id) h.app_id k.app_id h.app_id_is k.app_id_is in
    let j = same (cluster_id_row m.props.cluster_id) h.cluster_id k.cluster_id h.cluster_id_is k.cluster_id_is in
    let t = same (headers_row m.props.headers) h.maps k.maps h.headers_are k.headers_are in
    h.are ∙ rw (e, n, i, j, t) refl ∙ sym k.are

one_application : (m : Message091) (a b : Option Value10) → AreOfApplication m a → AreOfApplication m b → option_map value_tree a ≡ option_map value_tree b
one_application m a b h k = h.are ∙ ap application_of (same (headers_row m.props.headers) h.maps k.maps h.headers_are k.headers_are) ∙ sym k.are

abbrev itself : Tree → Tree
itself t = t

seen : (o : Option Value10) → maybe value_tree o ≡ maybe itself (option_map value_tree o)
seen None = refl
seen (Some v) = refl

one_id : (a b : Option Value10) (s t : Option (List ℕ)) → option_map value_tree a ≡ option_map a_string s → option_map value_tree b ≡ option_map a_string t → s ≡ t → maybe value_tree a ≡ maybe value_tree b
one_id a b s t h k e = seen a ∙ ap (maybe itself) (h ∙ ap (λ (x : Option (List ℕ)). option_map a_string x) e ∙ sym k) ∙ sym (seen b)

one_props : (m : Message091) (p q : MsgProps) → AreProperties m p → AreProperties m q → props_tree p ≡ props_tree q
one_props m p q h k =
    let i = same (message_id_row m.props.message_id) h.message_id k.message_id h.message_id_is k.message_id_is in
    let j = same (correlation_id_row m.props.correlation_id) h.correlation_id k.correlation_id h.correlation_id_is k.correlation_id_is in
    rw (
      one_id p.message_id q.message_id h.message_id k.message_id h.message_id_said k.message_id_said i,
      same (key_row m.key) p.subject q.subject h.key_is k.key_is,
      one_id p.correlation_id q.correlation_id h.correlation_id k.correlation_id h.correlation_id_said k.correlation_id_said j,
      same (content_type_row m.props.content_type) p.content_type q.content_type h.content_type_is k.content_type_is,
      same (content_encoding_row m.props.content_encoding) p.content_encoding q.content_encoding h.content_encoding_is k.content_encoding_is,
      same (reply_to_row m.props.reply_to) p.reply_to q.reply_to h.reply_to_is k.reply_to_is,
      same (timestamp_row m.props.timestamp) p.creation_time q.creation_time h.timestamp_is k.timestamp_is,
      same (user_id_row m.props.user_id) p.user_id q.user_id h.user_id_is k.user_id_is,
      h.to_is ∙ sym k.to_is,
      h.expiry_is ∙ sym k.expiry_is,
      h.group_is ∙ sym k.group_is,
      h.group_sequence_is ∙ sym k.group_sequence_is,
      h.reply_group_is ∙ sym k.reply_group_is,
    ) refl

one_properties : (m : Message091) (a b : Option MsgProps) → HaveProperties m a → HaveProperties m b → option_map props_tree a ≡ option_map props_tree b
one_properties m None b h k = absurd h
one_properties m (Some p) None h k = absurd k
one_properties m (Some p) (Some q) h k = ap (λ (t : Tree). Some t) (one_props m p q h k)

pub one_image : (m : Message091) (a b : Message10) → IsImage10 m a → IsImage10 m b → kept_of a ≡ kept_of b
one_image m a b h k =
    rw (
      one_header m.props a.header b.header h.header k.header,
      one_annotations m a.annotations b.annotations h.annotations k.annotations,
      one_properties m a.properties b.properties h.properties k.properties,
      one_application m a.application b.application h.application k.application,
      h.body ∙ sym k.body,
    ) refl
