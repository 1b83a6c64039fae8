-- The image of a message of AMQP 0-9-1 in AMQP 1.0 (AMQP 1.0 3.2): what each section says, by the
-- rows of the table; and the first fault, in the order of the rows.
use Rattle.std.specs.Prelude.{◌≡◌, ◌⊎◌, ℕ, false, List, [], ◌∷◌, ◌++◌, Bool, Option, Some, None}
use Rattle.std.specs.Prelude.{option_map, Ok, Err, Result, codes}
use Rattle.types_10.specs.Tree.{Tree, scalar, mapping, pairs_of, string, symbol}
use Rattle.types_10.specs.View.{value_tree}
use Rattle.types_10.specs.declared.value.Value10.{Value10}
use Rattle.content_091.specs.declared.header.Props.{Props}
use Rattle.sections_10.specs.declared.message.MsgHeader.{MsgHeader}
use Rattle.sections_10.specs.declared.message.MsgProps.{MsgProps}
use Rattle.sections_10.specs.declared.message.Body10.TheVariants as body
use Rattle.sections_10.specs.declared.message.Message10.{Message10}
use Rattle.property_map.specs.Rows.{exchange_row, key_row, content_type_row, content_encoding_row}
use Rattle.property_map.specs.Rows.{headers_row, delivery_mode_row, priority_row}
use Rattle.property_map.specs.Rows.{correlation_id_row, reply_to_row, expiration_row}
use Rattle.property_map.specs.Rows.{message_id_row, timestamp_row, kind_row, user_id_row}
use Rattle.property_map.specs.Rows.{app_id_row, cluster_id_row}
use Rattle.property_map.specs.declared.fault.MapFault.{MapFault}
use Rattle.property_map.specs.declared.fault.MapFault.TheVariants as fault
use Rattle.property_map.specs.declared.headers.HeaderMaps.{HeaderMaps}
use Rattle.property_map.specs.declared.message.Message091.{Message091}

abbrev pub a_string : List ℕ → Tree
a_string s = scalar (string s)

-- ---- the header

-- the header, where one of its fields is there
abbrev pub header_with : Option Bool → Option ℕ → Option ℕ → Option MsgHeader
header_with None None None = None
header_with durable priority ttl =
    Some (record {
      durable = durable;
      priority = priority;
      ttl = ttl;
      first_acquirer = false;
      delivery_count = 0;
    })

pub record IsHeader (p : Props) (h : Option MsgHeader) : Type 0 where
  pub durable : Option Bool
  pub priority : Option ℕ
  pub ttl : Option ℕ
  pub delivery_mode_is : delivery_mode_row p.delivery_mode ≡ Ok durable
  pub priority_is : priority_row p.priority ≡ Ok priority
  pub expiration_is : expiration_row p.expiration ≡ Ok ttl
  pub is : h ≡ header_with durable priority ttl

-- ---- annotations

-- an annotation of this name, where there is something to say
abbrev pub annotation : List ℕ → Option Tree → List (Tree × Tree)
annotation key None = []
annotation key (Some t) = (scalar (symbol key), t) ∷ []

-- no map of nothing
abbrev pub map_of : List (Tree × Tree) → Option Tree
map_of [] = None
map_of (p ∷ ps) = Some (mapping (pairs_of (p ∷ ps)))

-- the map of what headers hold, where some hold others
abbrev pub nested_map : Option HeaderMaps → Option Tree
nested_map None = None
nested_map (Some maps) = map_of maps.annotation

abbrev pub annotations_with : Option (List ℕ) → Option (List ℕ) → Option (List ℕ)
    → Option (List ℕ) → Option Tree → List (Tree × Tree)
annotations_with exchange kind app_id cluster_id headers =
    annotation (codes "x-opt-091-exchange") (option_map a_string exchange)
    ++ (annotation (codes "x-opt-091-type") (option_map a_string kind)
    ++ (annotation (codes "x-opt-091-app-id") (option_map a_string app_id)
    ++ (annotation (codes "x-opt-091-cluster-id") (option_map a_string cluster_id)
    ++ annotation (codes "x-opt-091-headers") headers)))

pub record AreAnnotations (m : Message091) (annotations : Option Value10) : Type 0 where
  pub exchange : Option (List ℕ)
  pub kind : Option (List ℕ)
  pub app_id : Option (List ℕ)
  pub cluster_id : Option (List ℕ)
  pub maps : Option HeaderMaps
  pub exchange_is : exchange_row m.exchange ≡ Ok exchange
  pub kind_is : kind_row m.props.kind ≡ Ok kind
  pub app_id_is : app_id_row m.props.app_id ≡ Ok app_id
  pub cluster_id_is : cluster_id_row m.props.cluster_id ≡ Ok cluster_id
  pub headers_are : headers_row m.props.headers ≡ Ok maps
  pub are : option_map value_tree annotations
      ≡ map_of (annotations_with exchange kind app_id cluster_id (nested_map maps))

-- ---- properties

-- properties that say nothing else
pub record AreProperties (m : Message091) (p : MsgProps) : Type 0 where
  pub message_id : Option (List ℕ)
  pub correlation_id : Option (List ℕ)
  pub key_is : key_row m.key ≡ Ok p.subject
  pub content_type_is : content_type_row m.props.content_type ≡ Ok p.content_type
  pub content_encoding_is : content_encoding_row m.props.content_encoding ≡ Ok p.content_encoding
  pub correlation_id_is : correlation_id_row m.props.correlation_id ≡ Ok correlation_id
  pub correlation_id_said : option_map value_tree p.correlation_id
      ≡ option_map a_string correlation_id
  pub reply_to_is : reply_to_row m.props.reply_to ≡ Ok p.reply_to
  pub message_id_is : message_id_row m.props.message_id ≡ Ok message_id
  pub message_id_said : option_map value_tree p.message_id ≡ option_map a_string message_id
  pub timestamp_is : timestamp_row m.props.timestamp ≡ Ok p.creation_time
  pub user_id_is : user_id_row m.props.user_id ≡ Ok p.user_id
  pub to_is : p.to ≡ None
  pub expiry_is : p.absolute_expiry_time ≡ None
  pub group_is : p.group_id ≡ None
  pub group_sequence_is : p.group_sequence ≡ None
  pub reply_group_is : p.reply_to_group_id ≡ None

-- they are always there
abbrev pub HaveProperties : Message091 → Option MsgProps → Type 0
HaveProperties m None = ⊥
HaveProperties m (Some p) = AreProperties m p

-- ---- properties of the application

-- a map, also of nothing; but none where all headers are in the annotation
abbrev pub with_others : List (Tree × Tree) → List (Tree × Tree) → Option Tree
with_others [] (q ∷ qs) = None
with_others ps qs = Some (mapping (pairs_of ps))

abbrev pub application_of : Option HeaderMaps → Option Tree
application_of None = None
application_of (Some maps) = with_others maps.application maps.annotation

pub record AreOfApplication (m : Message091) (application : Option Value10) : Type 0 where
  pub maps : Option HeaderMaps
  pub headers_are : headers_row m.props.headers ≡ Ok maps
  pub are : option_map value_tree application ≡ application_of maps

-- ---- the message

-- the image: each section says what its rows say, and the body is one section of data
pub record IsImage10 (m : Message091) (image : Message10) : Type 0 where
  pub header : IsHeader m.props image.header
  pub annotations : AreAnnotations m image.annotations
  pub properties : HaveProperties m image.properties
  pub application : AreOfApplication m image.application
  pub body : image.body ≡ body.Data m.body

-- ---- faults

abbrev pub fault_of : {A : Type 0} → Result A MapFault → Option MapFault
fault_of (Ok x) = None
fault_of (Err f) = Some f

-- the faults of the rows, in the order of the table; the body has none
abbrev pub faults : Message091 → List (Option MapFault)
faults m =
    fault_of (exchange_row m.exchange)
    ∷ fault_of (key_row m.key)
    ∷ fault_of (content_type_row m.props.content_type)
    ∷ fault_of (content_encoding_row m.props.content_encoding)
    ∷ fault_of (headers_row m.props.headers)
    ∷ fault_of (delivery_mode_row m.props.delivery_mode)
    ∷ fault_of (priority_row m.props.priority)
    ∷ fault_of (correlation_id_row m.props.correlation_id)
    ∷ fault_of (reply_to_row m.props.reply_to)
    ∷ fault_of (expiration_row m.props.expiration)
    ∷ fault_of (message_id_row m.props.message_id)
    ∷ fault_of (timestamp_row m.props.timestamp)
    ∷ fault_of (kind_row m.props.kind)
    ∷ fault_of (user_id_row m.props.user_id)
    ∷ fault_of (app_id_row m.props.app_id)
    ∷ fault_of (cluster_id_row m.props.cluster_id)
    ∷ []

-- the first that there is
abbrev pub first : List (Option MapFault) → Option MapFault
first [] = None
first (None ∷ os) = first os
first (Some f ∷ os) = Some f

abbrev pub first_fault : Message091 → Option MapFault
first_fault m = first (faults m)

-- what a call answers: the first fault of a message, but where memory ran out
abbrev pub IsFault10 : Message091 → MapFault → Type 0
IsFault10 m f = (f ≡ fault.Memory) ⊎ (first_fault m ≡ Some f)
