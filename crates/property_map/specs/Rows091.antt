-- The table of what a message of AMQP 1.0 says in AMQP 0-9-1 (AMQP 1.0 3.2; AMQP 0-9-1 1.8.3): one
-- definition a row, with what is written, or the fault. A section that isn't there says nothing.
use Rattle.std.specs.Prelude.{ℕ, nat_le, Bool, true, false, if◌then◌else◌, List, [], ◌∷◌, ◌++◌}
use Rattle.std.specs.Prelude.{length, codes, decimal, unwrap_or, Option, Some, None, option_map, Ok}
use Rattle.std.specs.Prelude.{Err, Result, ℤ}
use Rattle.std.specs.Str.{bytes_eq}
use Rattle.uuid.specs.Text.{hyphenated_text, lower}
use Rattle.wire_base.specs.Reading.{◌>>=◌}
use Rattle.tables_091.specs.Tree as field
use Rattle.types_10.specs.Tree.{Tree, scalar, string, symbol, binary, ulong, uuid, mapping, Pairs}
use Rattle.types_10.specs.Tree.{no_pairs, pair}
use Rattle.content_091.specs.Writing.{header_text}
use Rattle.content_091.specs.declared.header.Props.{Props}
use Rattle.sections_10.specs.declared.message.MsgHeader.{MsgHeader}
use Rattle.sections_10.specs.declared.message.MsgProps.{MsgProps}
use Rattle.sections_10.specs.declared.message.Body10.{Body10}
use Rattle.sections_10.specs.declared.message.Body10.TheVariants as body
use Rattle.property_map.specs.Texts.{short_in, seconds_in, maybe_in}
use Rattle.property_map.specs.Fields.{members_in, unreserved, names_of}
use Rattle.property_map.specs.declared.fault.PropName.{PropName}
use Rattle.property_map.specs.declared.fault.PropName.TheVariants as prop
use Rattle.property_map.specs.declared.fault.MapFault.{MapFault}
use Rattle.property_map.specs.declared.fault.MapFault.TheVariants as fault

-- ---- annotations

-- the pairs of a map; what isn't there, or is no map, has none
abbrev pub map_in : Option Tree → Option Pairs
map_in (Some (mapping ps)) = Some ps
map_in o = None

abbrev pub pairs_in_map : Option Tree → Pairs
pairs_in_map o = unwrap_or (map_in o) no_pairs

abbrev pub is_symbol : List ℕ → Tree → Bool
is_symbol name (scalar (symbol s)) = bytes_eq s name
is_symbol name t = false

-- the first value under this symbol
abbrev pub value_under : List ℕ → Pairs → Option Tree
value_under name no_pairs = None
value_under name (pair k t ps) = if is_symbol name k then Some t else value_under name ps

-- an annotation of the message
abbrev pub annotation_in : List ℕ → Option Tree → Option Tree
annotation_in name annotations = value_under name (pairs_in_map annotations)

-- a value that is a short string; ValueKind of another, TooLong
abbrev pub short_string_in : PropName → Tree → Result (List ℕ) MapFault
short_string_in name (scalar (string s)) = short_in name s
short_string_in name t = Err (fault.ValueKind name)

abbrev pub short_under : PropName → List ℕ → Option Tree → Result (Option (List ℕ)) MapFault
short_under name key annotations = maybe_in (short_string_in name) (annotation_in key annotations)

-- ---- sections that aren't there

abbrev pub header_in : Option MsgHeader → MsgHeader
header_in None = record {
  durable = None;
  priority = None;
  ttl = None;
  first_acquirer = false;
  delivery_count = 0;
}
header_in (Some h) = h

abbrev pub properties_in : Option MsgProps → MsgProps
properties_in None = record {
  message_id = None;
  user_id = None;
  to = None;
  subject = None;
  reply_to = None;
  correlation_id = None;
  content_type = None;
  content_encoding = None;
  absolute_expiry_time = None;
  creation_time = None;
  group_id = None;
  group_sequence = None;
  reply_to_group_id = None;
}
properties_in (Some p) = p

-- ---- rows

-- exchange: an annotation, else empty; TooLong, ValueKind
abbrev pub exchange_row : Option Tree → Result (List ℕ) MapFault
exchange_row annotations =
    short_under prop.Exchange (codes "x-opt-091-exchange") annotations >>= λ s. Ok (unwrap_or s [])

-- routing-key: the subject, else the name of the queue; TooLong
abbrev pub key_row : Option (List ℕ) → List ℕ → Result (List ℕ) MapFault
key_row subject queue = short_in prop.RoutingKey (unwrap_or subject queue)

-- content-type: the same; TooLong
abbrev pub content_type_row : Option (List ℕ) → Result (Option (List ℕ)) MapFault
content_type_row = maybe_in (short_in prop.ContentType)

-- content-encoding: the same; TooLong
abbrev pub content_encoding_row : Option (List ℕ) → Result (Option (List ℕ)) MapFault
content_encoding_row = maybe_in (short_in prop.ContentEncoding)

-- an annotation that is a map, or isn't there
abbrev pub nested_in : Option Tree → Result Pairs MapFault
nested_in None = Ok no_pairs
nested_in (Some (mapping ps)) = Ok ps
nested_in (Some t) = Err (fault.ValueKind prop.Headers)

-- the entries of a table
abbrev pub entries_of : field.Members → List (List ℕ × field.Tree)
entries_of field.no_members = []
entries_of (field.member name f ms) = (name, f) ∷ entries_of ms

-- the properties of the application, then the map of an annotation, as one table
unfoldable pub one_table_in : Option Tree → Option Tree
    → Result (List (List ℕ × field.Tree)) MapFault
one_table_in application nested = do
  ms ← members_in [] (unreserved (pairs_in_map application))
  ps ← nested_in nested
  ns ← members_in (names_of (entries_of ms)) ps
  Ok (entries_of ms ++ entries_of ns)

-- headers: these, where either is there; for each ValueKind of its key, TooLong of its name,
-- Repeated and the faults of its value, and ValueKind of an annotation that is no map before those
-- of its pairs
abbrev pub headers_of : Option Tree → Option Tree
    → Result (Option (List (List ℕ × field.Tree))) MapFault
headers_of None None = Ok None
headers_of (Some t) nested = one_table_in (Some t) nested >>= λ ms. Ok (Some ms)
headers_of None (Some n) = one_table_in None (Some n) >>= λ ms. Ok (Some ms)

abbrev pub headers_row : Option Tree → Option Tree
    → Result (Option (List (List ℕ × field.Tree))) MapFault
headers_row application annotations =
    headers_of application (annotation_in (codes "x-opt-091-headers") annotations)

-- delivery-mode: of durable, 1 of false and 2 of true
abbrev pub mode_of : Bool → ℕ
mode_of false = 1
mode_of true = 2

abbrev pub delivery_mode_row : Option Bool → Result (Option ℕ) MapFault
delivery_mode_row durable = Ok (option_map mode_of durable)

-- priority: the same
abbrev pub priority_row : Option ℕ → Result (Option ℕ) MapFault
priority_row n = Ok n

-- an id: a string and a binary as they are, an ulong in decimal, a uuid with hyphens; TooLong;
-- ValueKind of another
abbrev pub id_in : PropName → Tree → Result (List ℕ) MapFault
id_in name (scalar (string s)) = short_in name s
id_in name (scalar (binary s)) = short_in name s
id_in name (scalar (ulong n)) = Ok (decimal n)
id_in name (scalar (uuid s)) = Ok (hyphenated_text lower s)
id_in name t = Err (fault.ValueKind name)

-- correlation-id: an id
abbrev pub correlation_id_row : Option Tree → Result (Option (List ℕ)) MapFault
correlation_id_row = maybe_in (id_in prop.CorrelationId)

-- reply-to: the same; TooLong
abbrev pub reply_to_row : Option (List ℕ) → Result (Option (List ℕ)) MapFault
reply_to_row = maybe_in (short_in prop.ReplyTo)

-- expiration: ttl in decimal
abbrev pub expiration_row : Option ℕ → Result (Option (List ℕ)) MapFault
expiration_row ttl = Ok (option_map decimal ttl)

-- message-id: an id
abbrev pub message_id_row : Option Tree → Result (Option (List ℕ)) MapFault
message_id_row = maybe_in (id_in prop.MessageId)

-- timestamp: creation-time in seconds; Time
abbrev pub timestamp_row : Option ℤ → Result (Option ℕ) MapFault
timestamp_row = maybe_in (seconds_in prop.Timestamp)

-- type: an annotation; TooLong, ValueKind
abbrev pub kind_row : Option Tree → Result (Option (List ℕ)) MapFault
kind_row = short_under prop.Kind (codes "x-opt-091-type")

-- user-id: the same; TooLong
abbrev pub user_id_row : Option (List ℕ) → Result (Option (List ℕ)) MapFault
user_id_row = maybe_in (short_in prop.UserId)

-- app-id: an annotation; TooLong, ValueKind
abbrev pub app_id_row : Option Tree → Result (Option (List ℕ)) MapFault
app_id_row = short_under prop.AppId (codes "x-opt-091-app-id")

-- cluster-id: an annotation; TooLong, ValueKind
abbrev pub cluster_id_row : Option Tree → Result (Option (List ℕ)) MapFault
cluster_id_row = short_under prop.ClusterId (codes "x-opt-091-cluster-id")

-- the header of a content with these properties; the size of its body takes eight bytes, whatever
-- it is
abbrev pub header_len : Props → ℕ
header_len p = length (header_text (record { size = 0; props = p }))

-- header: TooLong where its payload is longer than the room
abbrev pub header_row : ℕ → Props → Result Props MapFault
header_row room p = if nat_le (header_len p) room then Ok p else Err (fault.TooLong prop.Header)

-- the longest body of a content
abbrev pub body_max : ℕ
body_max = 16777216

abbrev pub body_in : List ℕ → Result (List ℕ) MapFault
body_in s = if nat_le (length s) body_max then Ok s else Err (fault.TooLong prop.Body)

-- body: the bytes of data, or of a value that is a binary or a string; BodyKind of another, TooLong
abbrev pub body_row : Body10 → Result (List ℕ) MapFault
body_row (body.Data s) = body_in s
body_row (body.Text s) = body_in s
body_row (body.Binary s) = body_in s
body_row body.Other = Err fault.BodyKind
