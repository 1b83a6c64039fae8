-- The table of what a message of AMQP 0-9-1 says in AMQP 1.0 (AMQP 0-9-1 1.8.3; AMQP 1.0 3.2): one
-- definition a row, with what is written, or the fault. A row whose property is absent says
-- nothing, and has no fault.
use Rattle.std.specs.Prelude.{ℕ, ◌==◌, ◌&&◌, ◌^◌, nat_lt, Bool, true, false, if◌then◌else◌, List}
use Rattle.std.specs.Prelude.{[], ◌∷◌, Option, Some, None, Ok, Err, Result, ℤ}
use Rattle.std.specs.Char.{is_ascii_digit}
use Rattle.std.specs.List.{list_all}
use Rattle.std.specs.Str.Parse.{digits_value}
use Rattle.tables_091.specs.Tree.{Tree}
use Rattle.property_map.specs.Texts.{string_in, symbol_in, milliseconds_in, maybe_in}
use Rattle.property_map.specs.Headers.{table_in}
use Rattle.property_map.specs.declared.fault.PropName.TheVariants as prop
use Rattle.property_map.specs.declared.fault.MapFault.{MapFault}
use Rattle.property_map.specs.declared.fault.MapFault.TheVariants as fault
use Rattle.property_map.specs.declared.headers.HeaderMaps.{HeaderMaps}

-- exchange: where it is empty nothing, else a string as an annotation; NotUtf8
abbrev pub exchange_row : List ℕ → Result (Option (List ℕ)) MapFault
exchange_row [] = Ok None
exchange_row (b ∷ s) = maybe_in (string_in prop.Exchange) (Some (b ∷ s))

-- routing-key: the subject, always; NotUtf8
abbrev pub key_row : List ℕ → Result (Option (List ℕ)) MapFault
key_row s = maybe_in (string_in prop.RoutingKey) (Some s)

-- content-type: the same; NotAscii
abbrev pub content_type_row : Option (List ℕ) → Result (Option (List ℕ)) MapFault
content_type_row = maybe_in (symbol_in prop.ContentType)

-- content-encoding: the same; NotAscii
abbrev pub content_encoding_row : Option (List ℕ) → Result (Option (List ℕ)) MapFault
content_encoding_row = maybe_in (symbol_in prop.ContentEncoding)

-- headers: properties of the application, and a map as an annotation; for each header NotUtf8 of
-- its name, Reserved, Repeated and the faults of its value, and then Depth
abbrev pub headers_row : Option (List (List ℕ × Tree)) → Result (Option HeaderMaps) MapFault
headers_row = maybe_in table_in

-- delivery-mode: durable, false of 1 and true of 2; DeliveryMode of another
abbrev pub durable_in : ℕ → Result Bool MapFault
durable_in n = if n == 1 then Ok false else if n == 2 then Ok true else Err fault.DeliveryMode

abbrev pub delivery_mode_row : Option ℕ → Result (Option Bool) MapFault
delivery_mode_row = maybe_in durable_in

-- priority: the same
abbrev pub priority_row : Option ℕ → Result (Option ℕ) MapFault
priority_row n = Ok n

-- correlation-id: a string; NotUtf8
abbrev pub correlation_id_row : Option (List ℕ) → Result (Option (List ℕ)) MapFault
correlation_id_row = maybe_in (string_in prop.CorrelationId)

-- reply-to: a string; NotUtf8
abbrev pub reply_to_row : Option (List ℕ) → Result (Option (List ℕ)) MapFault
reply_to_row = maybe_in (string_in prop.ReplyTo)

-- a decimal number: digits of which the first is no zero, or one alone
abbrev pub is_decimal : List ℕ → Bool
is_decimal [] = false
is_decimal (c ∷ []) = list_all is_ascii_digit (c ∷ [])
is_decimal (c ∷ d ∷ cs) = if c == 48 then false else list_all is_ascii_digit (c ∷ d ∷ cs)

-- a decimal number of 64 bits without needless zeros
abbrev pub decimal_in : List ℕ → Option ℕ
decimal_in s =
    if is_decimal s && nat_lt (digits_value 10 s) (2 ^ 64) then Some (digits_value 10 s) else None

-- expiration: ttl, of a decimal number below 2^32; else Expiration
abbrev pub ttl_in : List ℕ → Result ℕ MapFault
ttl_in s =
    if is_decimal s && nat_lt (digits_value 10 s) 4294967296 then Ok (digits_value 10 s)
    else Err fault.Expiration

abbrev pub expiration_row : Option (List ℕ) → Result (Option ℕ) MapFault
expiration_row = maybe_in ttl_in

-- message-id: a string; NotUtf8
abbrev pub message_id_row : Option (List ℕ) → Result (Option (List ℕ)) MapFault
message_id_row = maybe_in (string_in prop.MessageId)

-- timestamp: creation-time, in milliseconds; Time
abbrev pub timestamp_row : Option ℕ → Result (Option ℤ) MapFault
timestamp_row = maybe_in (milliseconds_in prop.Timestamp)

-- type: a string as an annotation; NotUtf8
abbrev pub kind_row : Option (List ℕ) → Result (Option (List ℕ)) MapFault
kind_row = maybe_in (string_in prop.Kind)

-- user-id: a binary of the same bytes
abbrev pub user_id_row : Option (List ℕ) → Result (Option (List ℕ)) MapFault
user_id_row s = Ok s

-- app-id: a string as an annotation; NotUtf8
abbrev pub app_id_row : Option (List ℕ) → Result (Option (List ℕ)) MapFault
app_id_row = maybe_in (string_in prop.AppId)

-- cluster-id: a string as an annotation; NotUtf8
abbrev pub cluster_id_row : Option (List ℕ) → Result (Option (List ℕ)) MapFault
cluster_id_row = maybe_in (string_in prop.ClusterId)
