-- A header as the size of its body and its properties in the order of their rows (AMQP 0-9-1 1.8).
use Rattle.std.specs.Prelude.{ℕ, List, [], ◌∷◌, Option, option_map}
use Rattle.tables_091.specs.Tree.{Tree}
use Rattle.content_091.specs.Properties.{Property, Properties, Parts}
use Rattle.content_091.specs.Properties as property
use Rattle.content_091.specs.declared.header.Props.{Props}
use Rattle.content_091.specs.declared.header.Header91.{Header91}

abbrev pub an_octet : Option ℕ → Option Property
an_octet n = option_map property.octet n

abbrev pub a_longlong : Option ℕ → Option Property
a_longlong n = option_map property.longlong n

abbrev pub a_text : Option (List ℕ) → Option Property
a_text s = option_map property.shortstr s

abbrev pub a_table : Option (List (List ℕ × Tree)) → Option Property
a_table ms = option_map property.fields ms

-- expiration and those after it
abbrev pub later_list : Option (List ℕ) → Option (List ℕ) → Option ℕ → Option (List ℕ)
    → Option (List ℕ)
    → Option (List ℕ) → Option (List ℕ) → Properties
later_list expiration message_id timestamp kind user_id app_id cluster_id =
    a_text expiration
    ∷ a_text message_id
    ∷ a_longlong timestamp
    ∷ a_text kind
    ∷ a_text user_id
    ∷ a_text app_id
    ∷ a_text cluster_id
    ∷ []

abbrev pub later_of : Props → Properties
later_of p = later_list p.expiration p.message_id p.timestamp p.kind p.user_id p.app_id p.cluster_id

-- content-type and those after it, before these
abbrev pub earlier_before : Properties → Props → Properties
earlier_before later p =
    a_text p.content_type
    ∷ a_text p.content_encoding
    ∷ a_table p.headers
    ∷ an_octet p.delivery_mode
    ∷ an_octet p.priority
    ∷ a_text p.correlation_id
    ∷ a_text p.reply_to
    ∷ later

abbrev pub earlier_of : Props → Properties
earlier_of = earlier_before []

-- all fourteen
abbrev pub props_of : Props → Properties
props_of p = earlier_before (later_of p) p

abbrev pub parts_of : Header91 → Parts
parts_of h = (h.size, props_of h.props)
