-- A message of AMQP 0-9-1 that has an image, and fits, comes back from it.
use Rattle.std.proofs.Common.{◌≡◌, ℕ, ◌≤◌, Bool, true, false, cond, eqb, leb, List, [], ◌∷◌, ◌++◌}
use Rattle.std.proofs.Common.{length, codes, decimal, unwrap_or, Option, Some, None, option_map, ℤ}
use Rattle.std.proofs.Common.{Result, Ok, Err, refl, sym, ap, subst, ◌∙◌, arith}
use Rattle.std.specs.Char.{is_ascii}
use Rattle.std.specs.List.{list_all}
use Rattle.std.specs.Str.{bytes_eq}
use Rattle.std.proofs.lemmas.Bool.{le-leb}
use Rattle.std.proofs.lemmas.Bool.Decides.{nat_tests}
use Rattle.wire_base.specs.Reading.{◌>>=◌}
use Rattle.wire_base.proofs.Laws.{bind_is, ok_is}
use Rattle.tables_091.specs.Tree as field
use Rattle.types_10.specs.Tree as value
use Rattle.types_10.specs.View.{value_tree}
use Rattle.content_091.specs.declared.header.Props.{Props}
use Rattle.sections_10.specs.declared.message.MsgHeader.{MsgHeader}
use Rattle.sections_10.specs.declared.message.MsgProps.{MsgProps}
use Rattle.sections_10.specs.declared.message.Message10.{Message10}
use Rattle.property_map.specs.Texts.{string_in, symbol_in, short_in, milliseconds_in, seconds_in}
use Rattle.property_map.specs.Texts.{maybe_in}
use Rattle.property_map.specs.Headers.{table_in}
use Rattle.property_map.specs.Rows as to_10
use Rattle.property_map.specs.Rows091 as back
use Rattle.property_map.specs.Image.{a_string, header_with, annotation, nested_map, map_of}
use Rattle.property_map.specs.Image.{annotations_with, application_of, AreAnnotations}
use Rattle.property_map.specs.Image.{AreProperties, HaveProperties, IsImage10}
use Rattle.property_map.specs.Facts.{facts_of}
use Rattle.property_map.specs.Image091.{earlier_in, later_in, image_by, image_in}
use Rattle.property_map.specs.Back.{IsShortText, HasShortNames, AreShort, Fits, AreSameHeaders}
use Rattle.property_map.specs.Back.{IsSame}
use Rattle.property_map.specs.declared.fault.PropName.{PropName}
use Rattle.property_map.specs.declared.fault.PropName.TheVariants as prop
use Rattle.property_map.specs.declared.fault.MapFault.{MapFault}
use Rattle.property_map.specs.declared.fault.MapFault.TheVariants as fault
use Rattle.property_map.specs.declared.headers.HeaderMaps.{HeaderMaps}
use Rattle.property_map.specs.declared.message.Message091.{Message091}
use Rattle.property_map.proofs.Numbers.{ttl_back}
use Rattle.property_map.proofs.ValueTrips.{string_same, short_ok, seconds_back}
use Rattle.property_map.proofs.HeaderTrips.{in_order, same_headers, headers_back}
use Rattle.property_map.proofs.HeaderLengths.{header_len_same}

-- ---- what may be absent

abbrev some_ok : {B : Type 0} → Option B → Result (Option B) MapFault
some_ok o = Ok o

-- a row that reads back what another one wrote does so of what may be absent
maybe_back : {A B : Type 0} (row : A → Result B MapFault) (other : B → Result A MapFault) (o : Option A) (p : Option B) → ((x : A) (y : B) → o ≡ Some x → row x ≡ Ok y → other y ≡ Ok x) → maybe_in row o ≡ Ok p → maybe_in other p ≡ Ok o
maybe_back {A} {B} row other None p h e = subst (λ (q : Option B). maybe_in other q ≡ Ok None) (ok_is {F = MapFault} None p e) refl
maybe_back {A} {B} row other (Some x) p h e =
    let b = bind_is (row x) (λ y. some_ok (Some y)) p e in
    subst (λ (q : Option B). maybe_in other q ≡ Ok (Some x)) (ok_is {F = MapFault} (Some b.0) p b.2) (rw (h x b.0 refl b.1) refl)

-- a row of what was made of something else
maybe_of : {A B C : Type 0} (row : B → Result C MapFault) (make : A → B) (o : Option A) → maybe_in row (option_map make o) ≡ maybe_in (λ x. row (make x)) o
maybe_of row make None = refl
maybe_of row make (Some x) = refl

maybe_made : {A B : Type 0} (make : A → B) (o : Option A) → maybe_in (λ x. Ok (make x)) o ≡ some_ok (option_map make o)
maybe_made make None = refl
maybe_made make (Some x) = refl

short_if : (o : Option (List ℕ)) (s : List ℕ) → IsShortText o → o ≡ Some s → length s ≤ 255
short_if o s h e = let there : IsShortText (Some s) = subst IsShortText e h in there

-- ---- texts

-- a text that became a string, or a symbol, is the same text
string_back : (name : PropName) (o p : Option (List ℕ)) → IsShortText o → maybe_in (string_in name) o ≡ Ok p → maybe_in (short_in name) p ≡ Ok o
string_back name o p h e = maybe_back (string_in name) (short_in name) o p (λ s t is f. subst (λ (u : List ℕ). short_in name u ≡ Ok s) (string_same name s t f) (short_ok name s (short_if o s h is))) e

symbol_same : (name : PropName) (s t : List ℕ) → symbol_in name s ≡ Ok t → s ≡ t
symbol_same name s t = at (list_all is_ascii s)
  where
    at : (b : Bool) → cond b (Ok s) (Err (fault.NotAscii name)) ≡ Ok t → s ≡ t
    at true e = ok_is {F = MapFault} s t e
    at false e = absurd (cc e)

symbol_back : (name : PropName) (o p : Option (List ℕ)) → IsShortText o → maybe_in (symbol_in name) o ≡ Ok p → maybe_in (short_in name) p ≡ Ok o
symbol_back name o p h e = maybe_back (symbol_in name) (short_in name) o p (λ s t is f. subst (λ (u : List ℕ). short_in name u ≡ Ok s) (symbol_same name s t f) (short_ok name s (short_if o s h is))) e

short_same : (name : PropName) (o : Option (List ℕ)) → IsShortText o → maybe_in (short_in name) o ≡ Ok o
short_same name None h = refl
short_same name (Some s) h = rw (short_ok name s h) refl

-- an id that became a string
id_back : (name : PropName) (o p : Option (List ℕ)) (id : Option value.Tree) → IsShortText o → maybe_in (string_in name) o ≡ Ok p → id ≡ option_map a_string p → maybe_in (back.id_in name) id ≡ Ok o
id_back name o p id h e is = ap (maybe_in (back.id_in name)) is ∙ maybe_of (back.id_in name) a_string p ∙ string_back name o p h e

-- ---- numbers and times

abbrev mode_ok : Bool → Result ℕ MapFault
mode_ok b = Ok (back.mode_of b)

mode_one : (n : ℕ) (b : Bool) → to_10.durable_in n ≡ Ok b → mode_ok b ≡ Ok n
mode_one n b = at (eqb n 1) (eqb n 2) refl refl
  where
    at : (x y : Bool) → eqb n 1 ≡ x → eqb n 2 ≡ y → cond x (Ok false) (cond y (Ok true) (Err fault.DeliveryMode)) ≡ Ok b → mode_ok b ≡ Ok n
    at true y g h e = let is : n ≡ 1 = grind (arith, nat_tests, g) in subst (λ (d : Bool). mode_ok d ≡ Ok n) (ok_is {F = MapFault} false b e) (ap (λ (k : ℕ). Ok k) (sym is))
    at false true g h e = let is : n ≡ 2 = grind (arith, nat_tests, h) in subst (λ (d : Bool). mode_ok d ≡ Ok n) (ok_is {F = MapFault} true b e) (ap (λ (k : ℕ). Ok k) (sym is))
    at false false g h e = absurd (cc e)

mode_back : (o : Option ℕ) (p : Option Bool) → to_10.delivery_mode_row o ≡ Ok p → back.delivery_mode_row p ≡ Ok o
mode_back o p e = sym (maybe_made back.mode_of p) ∙ maybe_back to_10.durable_in mode_ok o p (λ n b is f. mode_one n b f) e

expiration_back : (o : Option (List ℕ)) (p : Option ℕ) → to_10.expiration_row o ≡ Ok p → back.expiration_row p ≡ Ok o
expiration_back o p e = sym (maybe_made decimal p) ∙ maybe_back to_10.ttl_in (λ n. Ok (decimal n)) o p (λ s n is f. ttl_back s n f) e

timestamp_back : (o : Option ℕ) (p : Option ℤ) → to_10.timestamp_row o ≡ Ok p → back.timestamp_row p ≡ Ok o
timestamp_back o p e = maybe_back (milliseconds_in prop.Timestamp) (seconds_in prop.Timestamp) o p (λ n z is f. seconds_back prop.Timestamp prop.Timestamp n z f) e

-- ---- the header

said : (d : Option Bool) (p t : Option ℕ) → back.header_in (header_with d p t) ≡ record { durable = d; priority = p; ttl = t; first_acquirer = false; delivery_count = 0 }
said (Some b) p t = refl
said None (Some n) t = refl
said None None (Some n) = refl
said None None None = refl

-- ---- annotations

abbrev Pair : Type 0
Pair = value.Tree × value.Tree

abbrev under : List ℕ → List Pair → Option value.Tree
under name ps = back.value_under name (value.pairs_of ps)

-- an annotation of another name is passed over, and one of this name is found
passed : (name key : List ℕ) (o : Option value.Tree) (rest : List Pair) → bytes_eq key name ≡ false → under name (annotation key o ++ rest) ≡ under name rest
passed name key None rest e = refl
passed name key (Some t) rest e = rw e refl

found : (name : List ℕ) (o : Option value.Tree) (rest : List Pair) → bytes_eq name name ≡ true → under name rest ≡ None → under name (annotation name o ++ rest) ≡ o
found name None rest e none = none
found name (Some t) rest e none = rw e refl

last_passed : (name key : List ℕ) (o : Option value.Tree) → bytes_eq key name ≡ false → under name (annotation key o) ≡ None
last_passed name key None e = refl
last_passed name key (Some t) e = rw e refl

last_found : (name : List ℕ) (o : Option value.Tree) → bytes_eq name name ≡ true → under name (annotation name o) ≡ o
last_found name None e = refl
last_found name (Some t) e = rw e refl

-- no map holds what a map of nothing would
in_map : (name : List ℕ) (ps : List Pair) → back.annotation_in name (map_of ps) ≡ under name ps
in_map name [] = refl
in_map name (p ∷ ps) = refl

abbrev exchange_key : List ℕ
exchange_key = codes "x-opt-091-exchange"

abbrev kind_key : List ℕ
kind_key = codes "x-opt-091-type"

abbrev app_key : List ℕ
app_key = codes "x-opt-091-app-id"

abbrev cluster_key : List ℕ
cluster_key = codes "x-opt-091-cluster-id"

abbrev headers_key : List ℕ
headers_key = codes "x-opt-091-headers"

-- each annotation is found under its name
module _ (exchange kind app cluster : Option (List ℕ)) (headers : Option value.Tree) where
  abbrev all : List Pair
  all = annotations_with exchange kind app cluster headers

  abbrev string_of : Option (List ℕ) → Option value.Tree
  string_of o = option_map a_string o

  abbrev from_headers : List Pair
  from_headers = annotation headers_key headers

  abbrev from_cluster : List Pair
  from_cluster = annotation cluster_key (string_of cluster) ++ from_headers

  abbrev from_app : List Pair
  from_app = annotation app_key (string_of app) ++ from_cluster

  abbrev from_kind : List Pair
  from_kind = annotation kind_key (string_of kind) ++ from_app

  exchange_found : under exchange_key all ≡ string_of exchange
  exchange_found =
      found exchange_key (string_of exchange) from_kind refl
      (passed exchange_key kind_key (string_of kind) from_app refl ∙ passed exchange_key app_key (string_of app) from_cluster refl ∙ passed exchange_key cluster_key (string_of cluster) from_headers refl
      ∙ last_passed exchange_key headers_key headers refl)

  kind_found : under kind_key all ≡ string_of kind
  kind_found =
      passed kind_key exchange_key (string_of exchange) from_kind refl
      ∙ found kind_key (string_of kind) from_app refl
      (passed kind_key app_key (string_of app) from_cluster refl ∙ passed kind_key cluster_key (string_of cluster) from_headers refl ∙ last_passed kind_key headers_key headers refl)

  app_found : under app_key all ≡ string_of app
  app_found =
      passed app_key exchange_key (string_of exchange) from_kind refl ∙ passed app_key kind_key (string_of kind) from_app refl
      ∙ found app_key (string_of app) from_cluster refl (passed app_key cluster_key (string_of cluster) from_headers refl ∙ last_passed app_key headers_key headers refl)

  cluster_found : under cluster_key all ≡ string_of cluster
  cluster_found =
      passed cluster_key exchange_key (string_of exchange) from_kind refl ∙ passed cluster_key kind_key (string_of kind) from_app refl ∙ passed cluster_key app_key (string_of app) from_cluster refl
      ∙ found cluster_key (string_of cluster) from_headers refl (last_passed cluster_key headers_key headers refl)

  headers_found : under headers_key all ≡ headers
  headers_found =
      passed headers_key exchange_key (string_of exchange) from_kind refl ∙ passed headers_key kind_key (string_of kind) from_app refl ∙ passed headers_key app_key (string_of app) from_cluster refl
      ∙ passed headers_key cluster_key (string_of cluster) from_headers refl ∙ last_found headers_key headers refl

-- a short string under an annotation
under_back : (name : PropName) (key : List ℕ) (annotations : Option value.Tree) (o : Option (List ℕ)) → back.annotation_in key annotations ≡ option_map a_string o → back.short_under name key annotations ≡ maybe_in (short_in name) o
under_back name key annotations o is = ap (maybe_in (back.short_string_in name)) is ∙ maybe_of (back.short_string_in name) a_string o

exchange_back : (s : List ℕ) (o : Option (List ℕ)) → length s ≤ 255 → to_10.exchange_row s ≡ Ok o → (maybe_in (short_in prop.Exchange) o >>= λ t. Ok (unwrap_or t [])) ≡ Ok s
exchange_back [] o h e = subst (λ (p : Option (List ℕ)). (maybe_in (short_in prop.Exchange) p >>= λ t. Ok (unwrap_or t [])) ≡ Ok []) (ok_is {F = MapFault} None o e) refl
exchange_back (b ∷ s) o h e = rw (string_back prop.Exchange (Some (b ∷ s)) o h e) refl

-- ---- headers

abbrev ordered : Option (List (List ℕ × field.Tree)) → Option (List (List ℕ × field.Tree))
ordered o = option_map in_order o

same_ordered : (o : Option (List (List ℕ × field.Tree))) → AreSameHeaders o (ordered o)
same_ordered None = tt
same_ordered (Some ms) = same_headers ms

table_ordered : (o : Option (List (List ℕ × field.Tree))) (maps : Option HeaderMaps) → HasShortNames o → to_10.headers_row o ≡ Ok maps → back.headers_of (application_of maps) (nested_map maps) ≡ Ok (ordered o)
table_ordered None maps h e = subst (λ (n : Option HeaderMaps). back.headers_of (application_of n) (nested_map n) ≡ Ok None) (ok_is {F = MapFault} None maps e) refl
table_ordered (Some ms) maps h e =
    let b = bind_is (table_in ms) (λ n. some_ok (Some n)) maps e in
    subst (λ (n : Option HeaderMaps). back.headers_of (application_of n) (nested_map n) ≡ Ok (Some (in_order ms))) (ok_is {F = MapFault} (Some b.0) maps b.2) (headers_back ms b.0 b.1 h)

-- ---- properties

record Earlier (image : Message10) (p : Props) : Type 0 where
  content_type : back.content_type_row (back.properties_in image.properties).content_type ≡ Ok p.content_type
  content_encoding : back.content_encoding_row (back.properties_in image.properties).content_encoding ≡ Ok p.content_encoding
  headers : back.headers_row (option_map value_tree image.application) (option_map value_tree image.annotations) ≡ Ok p.headers
  delivery_mode : option_map back.mode_of (back.header_in image.header).durable ≡ p.delivery_mode
  priority : (back.header_in image.header).priority ≡ p.priority
  correlation_id : back.correlation_id_row (option_map value_tree (back.properties_in image.properties).correlation_id) ≡ Ok p.correlation_id
  reply_to : back.reply_to_row (back.properties_in image.properties).reply_to ≡ Ok p.reply_to

record Later (image : Message10) (p : Props) : Type 0 where
  expiration : option_map decimal (back.header_in image.header).ttl ≡ p.expiration
  message_id : back.message_id_row (option_map value_tree (back.properties_in image.properties).message_id) ≡ Ok p.message_id
  timestamp : back.timestamp_row (back.properties_in image.properties).creation_time ≡ Ok p.timestamp
  kind : back.kind_row (option_map value_tree image.annotations) ≡ Ok p.kind
  user_id : back.user_id_row (back.properties_in image.properties).user_id ≡ Ok p.user_id
  app_id : back.app_id_row (option_map value_tree image.annotations) ≡ Ok p.app_id
  cluster_id : back.cluster_id_row (option_map value_tree image.annotations) ≡ Ok p.cluster_id

-- the properties up to reply-to
abbrev first_half : Props → Props
first_half p = record p { expiration = None; message_id = None; timestamp = None; kind = None; user_id = None; app_id = None; cluster_id = None }

earlier_back : (image : Message10) (p : Props) → Earlier image p → earlier_in (facts_of image) ≡ Ok (first_half p)
unfolding earlier_in
earlier_back image p h = rw (h.content_type, h.content_encoding, h.headers, h.delivery_mode, h.priority, h.correlation_id, h.reply_to) refl

-- and those from expiration on
abbrev second_half : Props → Props
second_half p = record p { content_type = None; content_encoding = None; headers = None; delivery_mode = None; priority = None; correlation_id = None; reply_to = None }

later_back : (image : Message10) (p : Props) → Later image p → later_in (facts_of image) ≡ Ok (second_half p)
unfolding later_in
later_back image p h = rw (h.expiration, h.message_id, h.timestamp, h.kind, h.user_id, h.app_id, h.cluster_id) refl

-- the properties with their headers in the order in which they come back
abbrev props_back : Props → Props
props_back p = record p { headers = ordered p.headers }

abbrev message_back : Message091 → Message091
message_back m = record m { props = props_back m.props }

-- properties that are there
record Said (m : Message091) (o : Option MsgProps) : Type 0 where
  p : MsgProps
  is : o ≡ Some p
  are : AreProperties m p

props_said : (m : Message091) (o : Option MsgProps) → HaveProperties m o → Said m o
props_said m None h = absurd h
props_said m (Some p) h = record { p = p; is = refl; are = h }

-- ---- the message

module _ (m : Message091) (image : Message10) (h : IsImage10 m image) (short : AreShort m.props) where
  abbrev annotations : Option value.Tree
  annotations = option_map value_tree image.annotations

  abbrev w : AreAnnotations m image.annotations
  w = h.annotations

  abbrev there : Said m image.properties
  there = props_said m image.properties h.properties

  properties_are : back.properties_in image.properties ≡ there.p
  properties_are = ap back.properties_in there.is

  header_is : back.header_in image.header ≡ record { durable = h.header.durable; priority = h.header.priority; ttl = h.header.ttl; first_acquirer = false; delivery_count = 0 }
  header_is = ap back.header_in h.header.is ∙ said h.header.durable h.header.priority h.header.ttl

  looked_up : (name : List ℕ) → back.annotation_in name annotations ≡ under name (annotations_with w.exchange w.kind w.app_id w.cluster_id (nested_map w.maps))
  looked_up name = ap (back.annotation_in name) w.are ∙ in_map name (annotations_with w.exchange w.kind w.app_id w.cluster_id (nested_map w.maps))

  maps_same : h.application.maps ≡ w.maps
  maps_same = ok_is {F = MapFault} h.application.maps w.maps (sym h.application.headers_are ∙ w.headers_are)

  exchange_comes : length m.exchange ≤ 255 → back.exchange_row annotations ≡ Ok m.exchange
  exchange_comes fits =
      ap (λ (r : Result (Option (List ℕ)) MapFault). r >>= λ t. Ok (unwrap_or t []))
      (under_back prop.Exchange exchange_key annotations w.exchange (looked_up exchange_key ∙ exchange_found w.exchange w.kind w.app_id w.cluster_id (nested_map w.maps)))
      ∙ exchange_back m.exchange w.exchange fits w.exchange_is

  earlier_comes : Earlier image (props_back m.props)
  earlier_comes = record {
    content_type = ap (λ (p : MsgProps). back.content_type_row p.content_type) properties_are ∙ symbol_back prop.ContentType m.props.content_type there.p.content_type short.content_type there.are.content_type_is;
    content_encoding = ap (λ (p : MsgProps). back.content_encoding_row p.content_encoding) properties_are ∙ symbol_back prop.ContentEncoding m.props.content_encoding there.p.content_encoding short.content_encoding there.are.content_encoding_is;
    headers =
        ap (λ (t : Option value.Tree). back.headers_row t annotations) (h.application.are ∙ ap application_of maps_same)
        ∙ ap (back.headers_of (application_of w.maps)) (looked_up headers_key ∙ headers_found w.exchange w.kind w.app_id w.cluster_id (nested_map w.maps))
        ∙ table_ordered m.props.headers w.maps short.headers w.headers_are;
    delivery_mode = ap (λ (x : MsgHeader). option_map back.mode_of x.durable) header_is ∙ ok_is {F = MapFault} (option_map back.mode_of h.header.durable) m.props.delivery_mode (mode_back m.props.delivery_mode h.header.durable h.header.delivery_mode_is);
    priority = ap (λ (x : MsgHeader). x.priority) header_is ∙ sym (ok_is {F = MapFault} m.props.priority h.header.priority h.header.priority_is);
    correlation_id =
        ap (λ (p : MsgProps). back.correlation_id_row (option_map value_tree p.correlation_id)) properties_are
        ∙ id_back prop.CorrelationId m.props.correlation_id there.are.correlation_id (option_map value_tree there.p.correlation_id) short.correlation_id there.are.correlation_id_is there.are.correlation_id_said;
    reply_to = ap (λ (p : MsgProps). back.reply_to_row p.reply_to) properties_are ∙ string_back prop.ReplyTo m.props.reply_to there.p.reply_to short.reply_to there.are.reply_to_is;
  }

  annotation_comes : (name : PropName) (key : List ℕ) (o p : Option (List ℕ)) → under key (annotations_with w.exchange w.kind w.app_id w.cluster_id (nested_map w.maps)) ≡ option_map a_string p → IsShortText o
      → maybe_in (string_in name) o ≡ Ok p → back.short_under name key annotations ≡ Ok o
  annotation_comes name key o p is fits e = under_back name key annotations p (looked_up key ∙ is) ∙ string_back name o p fits e

  later_comes : Later image (props_back m.props)
  later_comes = record {
    expiration = ap (λ (x : MsgHeader). option_map decimal x.ttl) header_is ∙ ok_is {F = MapFault} (option_map decimal h.header.ttl) m.props.expiration (expiration_back m.props.expiration h.header.ttl h.header.expiration_is);
    message_id =
        ap (λ (p : MsgProps). back.message_id_row (option_map value_tree p.message_id)) properties_are
        ∙ id_back prop.MessageId m.props.message_id there.are.message_id (option_map value_tree there.p.message_id) short.message_id there.are.message_id_is there.are.message_id_said;
    timestamp = ap (λ (p : MsgProps). back.timestamp_row p.creation_time) properties_are ∙ timestamp_back m.props.timestamp there.p.creation_time there.are.timestamp_is;
    kind = annotation_comes prop.Kind kind_key m.props.kind w.kind (kind_found w.exchange w.kind w.app_id w.cluster_id (nested_map w.maps)) short.kind w.kind_is;
    user_id =
        ap (λ (p : MsgProps). back.user_id_row p.user_id) properties_are
        ∙ ap back.user_id_row (sym (ok_is {F = MapFault} m.props.user_id there.p.user_id there.are.user_id_is)) ∙ short_same prop.UserId m.props.user_id short.user_id;
    app_id = annotation_comes prop.AppId app_key m.props.app_id w.app_id (app_found w.exchange w.kind w.app_id w.cluster_id (nested_map w.maps)) short.app_id w.app_id_is;
    cluster_id = annotation_comes prop.ClusterId cluster_key m.props.cluster_id w.cluster_id (cluster_found w.exchange w.kind w.app_id w.cluster_id (nested_map w.maps)) short.cluster_id w.cluster_id_is;
  }

-- the key, the header and the body
key_back : (s : List ℕ) (o : Option (List ℕ)) (queue : List ℕ) → length s ≤ 255 → to_10.key_row s ≡ Ok o → back.key_row o queue ≡ Ok s
key_back s o queue h e =
    let b = bind_is (string_in prop.RoutingKey s) (λ t. some_ok (Some t)) o e in
    subst (λ (p : Option (List ℕ)). back.key_row p queue ≡ Ok s) (ok_is {F = MapFault} (Some b.0) o b.2)
    (subst (λ (t : List ℕ). short_in prop.RoutingKey t ≡ Ok s) (string_same prop.RoutingKey s b.0 b.1) (short_ok prop.RoutingKey s h))

header_back : (room : ℕ) (p : Props) → back.header_len p ≤ room → back.header_row room p ≡ Ok p
header_back room p h = let e : leb (back.header_len p) room ≡ true = le-leb _ _ h in rw e refl

body_back : (s : List ℕ) → length s ≤ back.body_max → back.body_in s ≡ Ok s
body_back s h = let e : leb (length s) back.body_max ≡ true = le-leb _ _ h in rw e refl

pub comes_back : (m : Message091) (image : Message10) (queue : List ℕ) (room : ℕ) → IsImage10 m image → Fits room m → (out : Message091) × (image_in queue room image ≡ Ok out) × IsSame m out
unfolding image_by
comes_back m image queue room h fits =
    let exchange = exchange_comes m image h fits.props fits.exchange in
    let s = props_said m image.properties h.properties in
    let key : back.key_row (back.properties_in image.properties).subject queue ≡ Ok m.key =
    ap (λ (p : MsgProps). back.key_row p.subject queue) (ap back.properties_in s.is) ∙ key_back m.key s.p.subject queue fits.key s.are.key_is in
    let earlier = earlier_back image (props_back m.props) (earlier_comes m image h fits.props) in
    let later = later_back image (props_back m.props) (later_comes m image h fits.props) in
    let len : back.header_len (props_back m.props) ≤ room = omega (arith, header_len_same m.props (ordered m.props.headers) (same_ordered m.props.headers), fits.header) in
    let header = header_back room (props_back m.props) len in
    let bytes : back.body_row image.body ≡ Ok m.body = ap back.body_row h.body ∙ body_back m.body fits.body in
    (message_back m, rw (exchange, key, earlier, later, header, bytes) refl, record { exchange = refl; key = refl; headers = same_ordered m.props.headers; others = refl; body = refl })
