-- The image of a message of AMQP 1.0 in AMQP 0-9-1 (AMQP 1.0 3.2; AMQP 0-9-1 1.8.3): what the rows
-- of the table say, one after another, or the first fault.
use Rattle.std.specs.Prelude.{◌≡◌, ◌⊎◌, ℕ, nat_lt, Bool, List, None, Ok, Err, Result}
use Rattle.wire_base.specs.Reading.{◌>>=◌}
use Rattle.content_091.specs.declared.header.Props.{Props}
use Rattle.sections_10.specs.declared.message.Message10.{Message10}
use Rattle.property_map.specs.Rows091.{header_in, properties_in, exchange_row, key_row}
use Rattle.property_map.specs.Rows091.{content_type_row, content_encoding_row, headers_row}
use Rattle.property_map.specs.Rows091.{delivery_mode_row, priority_row, correlation_id_row}
use Rattle.property_map.specs.Rows091.{reply_to_row, expiration_row, message_id_row, timestamp_row}
use Rattle.property_map.specs.Rows091.{kind_row, user_id_row, app_id_row, cluster_id_row}
use Rattle.property_map.specs.Rows091.{header_row, body_row}
use Rattle.property_map.specs.Facts.{Facts, facts_of}
use Rattle.property_map.specs.declared.fault.MapFault.{MapFault}
use Rattle.property_map.specs.declared.fault.MapFault.TheVariants as fault
use Rattle.property_map.specs.declared.image_091.Sections.{Sections}
use Rattle.property_map.specs.declared.message.Message091.{Message091}

-- ---- properties

-- content-type to reply-to; those behind them absent
unfoldable pub earlier_in : Facts → Result Props MapFault
earlier_in f = do
  content_type ← content_type_row f.content_type
  content_encoding ← content_encoding_row f.content_encoding
  headers ← headers_row f.application f.annotations
  delivery_mode ← delivery_mode_row f.durable
  priority ← priority_row f.priority
  correlation_id ← correlation_id_row f.correlation_id
  reply_to ← reply_to_row f.reply_to
  Ok (record {
    content_type = content_type;
    content_encoding = content_encoding;
    headers = headers;
    delivery_mode = delivery_mode;
    priority = priority;
    correlation_id = correlation_id;
    reply_to = reply_to;
    expiration = None;
    message_id = None;
    timestamp = None;
    kind = None;
    user_id = None;
    app_id = None;
    cluster_id = None;
  })

-- expiration to cluster-id; those before them absent
unfoldable pub later_in : Facts → Result Props MapFault
later_in f = do
  expiration ← expiration_row f.ttl
  message_id ← message_id_row f.message_id
  timestamp ← timestamp_row f.creation_time
  kind ← kind_row f.annotations
  user_id ← user_id_row f.user_id
  app_id ← app_id_row f.annotations
  cluster_id ← cluster_id_row f.annotations
  Ok (record {
    content_type = None;
    content_encoding = None;
    headers = None;
    delivery_mode = None;
    priority = None;
    correlation_id = None;
    reply_to = None;
    expiration = expiration;
    message_id = message_id;
    timestamp = timestamp;
    kind = kind;
    user_id = user_id;
    app_id = app_id;
    cluster_id = cluster_id;
  })

-- both
abbrev pub both_of : Props → Props → Props
both_of p q = record p {
  expiration = q.expiration;
  message_id = q.message_id;
  timestamp = q.timestamp;
  kind = q.kind;
  user_id = q.user_id;
  app_id = q.app_id;
  cluster_id = q.cluster_id;
}

abbrev pub props_in : Facts → Result Props MapFault
props_in f = do
  p ← earlier_in f
  q ← later_in f
  Ok (both_of p q)

-- ---- the message

-- a message of these parts
abbrev pub with_body : List ℕ → List ℕ → Props → Result (List ℕ) MapFault
    → Result Message091 MapFault
with_body exchange key props read =
    read >>= λ body. Ok (record { exchange = exchange; key = key; props = props; body = body })

-- a message stands with its own header and properties
pub record AreOfMessage (s : Sections) : Type 0 where
  pub header : s.header.now ≡ header_in s.message.now.header
  pub properties : s.properties.now ≡ properties_in s.message.now.properties

-- the image of a message of which this is so, from this queue, whose header fits this room
unfoldable pub image_by : List ℕ → ℕ → Facts → Result Message091 MapFault
image_by queue room f = do
  exchange ← exchange_row f.annotations
  key ← key_row f.subject queue
  all ← props_in f
  props ← header_row room all
  with_body exchange key props (body_row f.body)

-- the same of a message
abbrev pub image_in : List ℕ → ℕ → Message10 → Result Message091 MapFault
image_in queue room m = image_by queue room (facts_of m)

-- what a call answers: the first fault of a message, but where memory ran out
abbrev pub IsFault091 : List ℕ → ℕ → Message10 → MapFault → Type 0
IsFault091 queue room m f = (f ≡ fault.Memory) ⊎ (image_in queue room m ≡ Err f)

-- it was delivered before
abbrev pub is_delivered_again : Facts → Bool
is_delivered_again f = nat_lt 0 f.delivery_count

abbrev pub is_redelivered : Message10 → Bool
is_redelivered m = is_delivered_again (facts_of m)
