-- The content header that is read (AMQP 0-9-1 4.2.6.1 and 1.8), from its size and its properties in
-- the order of their rows.
use Rattle.std.specs.Prelude.{ℕ, zero, suc, List, [], ◌∷◌, Option, None, Some}
use Rattle.tables_091.specs.Tree.{Tree}
use Rattle.content_091.specs.Properties.{Property, Properties, Parts}
use Rattle.content_091.specs.Properties as property
use Rattle.content_091.specs.declared.header.Header91.{Header91}

-- the value of a property of each kind
abbrev pub octet_of : Option Property → Option ℕ
octet_of None = None
octet_of (Some (property.octet n)) = Some n
octet_of (Some (property.longlong n)) = None
octet_of (Some (property.shortstr s)) = None
octet_of (Some (property.fields ms)) = None

abbrev pub longlong_of : Option Property → Option ℕ
longlong_of None = None
longlong_of (Some (property.octet n)) = None
longlong_of (Some (property.longlong n)) = Some n
longlong_of (Some (property.shortstr s)) = None
longlong_of (Some (property.fields ms)) = None

abbrev pub shortstr_of : Option Property → Option (List ℕ)
shortstr_of None = None
shortstr_of (Some (property.octet n)) = None
shortstr_of (Some (property.longlong n)) = None
shortstr_of (Some (property.shortstr s)) = Some s
shortstr_of (Some (property.fields ms)) = None

abbrev pub fields_of : Option Property → Option (List (List ℕ × Tree))
fields_of None = None
fields_of (Some (property.octet n)) = None
fields_of (Some (property.longlong n)) = None
fields_of (Some (property.shortstr s)) = None
fields_of (Some (property.fields ms)) = Some ms

-- the property of a row
abbrev pub property_at : ℕ → Properties → Option Property
property_at k [] = None
property_at zero (p ∷ ps) = p
property_at (suc k) (p ∷ ps) = property_at k ps

abbrev pub header_of : Parts → Header91
header_of p = record {
  size = p.0;
  props = record {
    content_type = shortstr_of (property_at 0 p.1);
    content_encoding = shortstr_of (property_at 1 p.1);
    headers = fields_of (property_at 2 p.1);
    delivery_mode = octet_of (property_at 3 p.1);
    priority = octet_of (property_at 4 p.1);
    correlation_id = shortstr_of (property_at 5 p.1);
    reply_to = shortstr_of (property_at 6 p.1);
    expiration = shortstr_of (property_at 7 p.1);
    message_id = shortstr_of (property_at 8 p.1);
    timestamp = longlong_of (property_at 9 p.1);
    kind = shortstr_of (property_at 10 p.1);
    user_id = shortstr_of (property_at 11 p.1);
    app_id = shortstr_of (property_at 12 p.1);
    cluster_id = shortstr_of (property_at 13 p.1);
  };
}
