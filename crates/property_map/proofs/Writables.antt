-- An image can be written: its texts and names are short, its headers aren't too deep, and its content header fits the room.
use Rattle.std.proofs.Common.{◌≡◌, ℕ, ◌+◌, ◌<◌, ◌≤◌, ◌^◌, Bool, true, false, cond, leb, List, [], ◌∷◌}
use Rattle.std.proofs.Common.{◌++◌, length, codes, decimal, unwrap_or, Option, Some, None, option_map}
use Rattle.std.proofs.Common.{IfSome, Ok, Err, refl, sym, ap, subst, ◌∙◌, arith}
use Rattle.std.proofs.lemmas.Bool.{leb-true}
use Rattle.std.proofs.lemmas.Fmt.{length-decimal-le}
use Rattle.uuid.specs.Text.{hyphenated_text, lower}
use Rattle.uuid.proofs.TextLemmas.{by_index_length}
use Rattle.wire_base.specs.Reading.{◌>>=◌}
use Rattle.wire_base.proofs.Laws.{bind_is, ok_is}
use Rattle.tables_091.specs.Tree as field
use Rattle.tables_091.specs.Writing.{NamesAreShort, TreesNamesAreShort, MembersNamesAreShort}
use Rattle.types_10.specs.Tree as value
use Rattle.types_10.specs.Ranges.{IsRanged}
use Rattle.content_091.specs.View.{a_text, a_table, an_octet, a_longlong, later_of}
use Rattle.content_091.specs.Writing.{CanPutOne, CanPutAll, header_text}
use Rattle.content_091.specs.declared.header.Props.{Props}
use Rattle.sections_10.specs.Writing.{IfThere}
use Rattle.property_map.specs.Texts.{short_in, maybe_in, new_in, is_among}
use Rattle.property_map.specs.Fields.{scalar_field_in, key_text_in, entry_name_in, field_in, fields_in}
use Rattle.property_map.specs.Fields.{members_in, unreserved, is_reserved_key, names_of}
use Rattle.property_map.specs.Rows091.{pairs_in_map, is_symbol, value_under, annotation_in, short_string_in}
use Rattle.property_map.specs.Rows091.{short_under, exchange_row, key_row, content_type_row}
use Rattle.property_map.specs.Rows091.{content_encoding_row, nested_in, entries_of, one_table_in}
use Rattle.property_map.specs.Rows091.{headers_of, headers_row, mode_of, id_in, correlation_id_row}
use Rattle.property_map.specs.Rows091.{reply_to_row, message_id_row, timestamp_row, kind_row}
use Rattle.property_map.specs.Rows091.{user_id_row, app_id_row, cluster_id_row, header_len}
use Rattle.property_map.specs.Rows091.{header_row, body_row}
use Rattle.property_map.specs.Facts.{Facts, AreRanged, AreShallow}
use Rattle.property_map.specs.Image091.{earlier_in, later_in, both_of, props_in, with_body, image_by}
use Rattle.property_map.specs.Received.{CanBeSent, header_of}
use Rattle.property_map.specs.declared.fault.PropName.{PropName}
use Rattle.property_map.specs.declared.fault.PropName.TheVariants as prop
use Rattle.property_map.specs.declared.fault.MapFault.{MapFault}
use Rattle.property_map.specs.declared.fault.MapFault.TheVariants as fault
use Rattle.property_map.specs.declared.message.Message091.{Message091}
use Rattle.property_map.proofs.Images.{Row, five, Five, five_said}
use Rattle.property_map.proofs.Rooms.{maybe_len, members_take, header_takes, size_is_wide}

abbrev said : {A : Type 0} → A → Row A
said x = Ok x

-- what a row says is one thing
is_so : {A : Type 0} (P : A → Type 0) (x y : A) → said x ≡ said y → P x → P y
is_so P x y e h = subst P (ok_is {F = MapFault} x y e) h

-- ---- texts

short_is : (name : PropName) (s t : List ℕ) → short_in name s ≡ Ok t → length t ≤ 255
short_is name s t = at (leb (length s) 255) refl
  where
    at : (b : Bool) → leb (length s) 255 ≡ b → cond b (Ok s) (Err (fault.TooLong name)) ≡ Ok t → length t ≤ 255
    at true h e = is_so (λ (u : List ℕ). length u ≤ 255) s t e (leb-true _ _ h)
    at false h e = absurd (cc e)

short_string_is : (name : PropName) (t : value.Tree) (s : List ℕ) → short_string_in name t ≡ Ok s → length s ≤ 255
short_string_is name (value.scalar (value.string u)) s e = short_is name u s e
short_string_is name t s e = absurd (cc e)

-- a text that may be there
abbrev MayPut : Option (List ℕ) → Type 0
MayPut o = CanPutOne (a_text o)

maybe_puts : {A : Type 0} (row : A → Row (List ℕ)) (o : Option A) (p : Option (List ℕ)) → ((x : A) (s : List ℕ) → o ≡ Some x → row x ≡ Ok s → length s ≤ 255) → maybe_in row o ≡ Ok p → MayPut p
maybe_puts row None p h e = is_so MayPut None p e tt
maybe_puts row (Some x) p h e =
    let b = bind_is (row x) (λ y. said (Some y)) p e in
    is_so MayPut (Some b.0) p b.2 (h x b.0 refl b.1)

text_puts : (name : PropName) (o p : Option (List ℕ)) → maybe_in (short_in name) o ≡ Ok p → MayPut p
text_puts name o p e = maybe_puts (short_in name) o p (λ x s is f. short_is name x s f) e

annotation_puts : (name : PropName) (key : List ℕ) (annotations : Option value.Tree) (p : Option (List ℕ)) → short_under name key annotations ≡ Ok p → MayPut p
annotation_puts name key annotations p e = maybe_puts (short_string_in name) (annotation_in key annotations) p (λ x s is f. short_string_is name x s f) e

exchange_is : (annotations : Option value.Tree) (s : List ℕ) → exchange_row annotations ≡ Ok s → length s ≤ 255
exchange_is annotations s e =
    let b = bind_is (short_under prop.Exchange (codes "x-opt-091-exchange") annotations) (λ o. said (unwrap_or o [])) s e in
    is_so (λ (t : List ℕ). length t ≤ 255) (unwrap_or b.0 []) s b.2 (at b.0 (annotation_puts prop.Exchange (codes "x-opt-091-exchange") annotations b.0 b.1))
  where
    at : (o : Option (List ℕ)) → MayPut o → length (unwrap_or o []) ≤ 255
    at None h = omega arith
    at (Some t) h = h

-- ---- ids and numbers

decimal_short : (n : ℕ) → n < 2 ^ 64 → length (decimal n) ≤ 255
decimal_short n h = omega (arith, length-decimal-le 20 n (omega arith) (omega arith) h)

uuid_short : (s : List ℕ) → length (hyphenated_text lower s) ≤ 255
uuid_short s = let long : length (hyphenated_text lower s) ≡ 36 = by_index_length 36 _ in omega (arith, long)

id_is : (name : PropName) (t : value.Tree) (s : List ℕ) → IsRanged t → id_in name t ≡ Ok s → length s ≤ 255
id_is name (value.scalar (value.string u)) s h e = short_is name u s e
id_is name (value.scalar (value.binary u)) s h e = short_is name u s e
id_is name (value.scalar (value.ulong n)) s h e = is_so (λ (t : List ℕ). length t ≤ 255) (decimal n) s e (decimal_short n h)
id_is name (value.scalar (value.uuid u)) s h e = is_so (λ (t : List ℕ). length t ≤ 255) (hyphenated_text lower u) s e (uuid_short u)
id_is name t s h e = absurd (cc e)

id_puts : (name : PropName) (o : Option value.Tree) (p : Option (List ℕ)) → IfThere IsRanged o → maybe_in (id_in name) o ≡ Ok p → MayPut p
id_puts name o p h e = maybe_puts (id_in name) o p (λ x s is f. id_is name x s (let there : IfThere IsRanged (Some x) = subst (IfThere IsRanged) is h in there) f) e

ttl_puts : (o : Option ℕ) → IfSome o (λ n. n < 2 ^ 32) → MayPut (option_map decimal o)
ttl_puts None h = tt
ttl_puts (Some n) h = decimal_short n (omega (arith, h))

-- ---- fields

new_is : (before : List (List ℕ)) (s t : List ℕ) → new_in before s ≡ Ok t → s ≡ t
new_is before s t = at (is_among s before)
  where
    at : (b : Bool) → cond b (Err (fault.Repeated s)) (Ok s) ≡ Ok t → s ≡ t
    at true e = absurd (cc e)
    at false e = ok_is {F = MapFault} s t e

name_is : (before : List (List ℕ)) (k : value.Tree) (s : List ℕ) → entry_name_in before k ≡ Ok s → length s ≤ 255
name_is before k s e =
    let a = bind_is (key_text_in k) (λ t. short_in prop.Headers t >>= λ n. new_in before n) s e in
    let b = bind_is (short_in prop.Headers a.0) (λ n. new_in before n) s a.2 in
    subst (λ (t : List ℕ). length t ≤ 255) (new_is before b.0 s b.2) (short_is prop.Headers a.0 b.0 b.1)

-- its names are short, and it is no deeper
abbrev Tame : ℕ → field.Tree → Type 0
Tame d f = NamesAreShort f × (field.depth f ≤ d)

abbrev TameTrees : ℕ → field.Trees → Type 0
TameTrees d fs = TreesNamesAreShort fs × (field.trees_depth fs ≤ d)

abbrev TameMembers : ℕ → field.Members → Type 0
TameMembers d ms = MembersNamesAreShort ms × (field.members_depth ms ≤ d)

array_tame : (ts : value.Trees) (d : ℕ) (f : field.Tree) → ((fs : field.Trees) → fields_in ts ≡ Ok fs → TameTrees d fs) → (fields_in ts >>= λ fs. said (field.array fs)) ≡ Ok f → Tame (d + 1) f
array_tame ts d f h e =
    let b = bind_is (fields_in ts) (λ fs. said (field.array fs)) f e in
    let s = h b.0 b.1 in
    is_so (λ (g : field.Tree). Tame (d + 1) g) (field.array b.0) f b.2 (s.0, omega (arith, s.1))

mutual
  unfolding field_in fields_in members_in

  field_tame : (t : value.Tree) (f : field.Tree) → field_in t ≡ Ok f → Tame (value.depth t) f
  field_tame (value.scalar s) f e =
      let b = bind_is (scalar_field_in s) (λ x. said (field.scalar x)) f e in
      is_so (λ (g : field.Tree). Tame 0 g) (field.scalar b.0) f b.2 (tt, omega arith)
  field_tame (value.list ts) f e = array_tame ts (value.trees_depth ts) f (λ fs g. fields_tame ts fs g) e
  field_tame (value.array ts) f e = array_tame ts (value.trees_depth ts) f (λ fs g. fields_tame ts fs g) e
  field_tame (value.mapping ps) f e =
      let b = bind_is (members_in [] ps) (λ ms. said (field.table ms)) f e in
      let s = members_tame [] ps b.0 b.1 in
      is_so (λ (g : field.Tree). Tame (value.pairs_depth ps + 1) g) (field.table b.0) f b.2 (s.0, omega (arith, s.1))
  field_tame (value.described d t) f e = absurd (cc e)

  fields_tame : (ts : value.Trees) (fs : field.Trees) → fields_in ts ≡ Ok fs → TameTrees (value.trees_depth ts) fs
  fields_tame value.no_trees fs e = is_so (λ (gs : field.Trees). TameTrees 0 gs) field.no_trees fs e (tt, omega arith)
  fields_tame (value.tree t ts) fs e =
      let a = bind_is (field_in t) (λ f. fields_in ts >>= λ gs. said (field.tree f gs)) fs e in
      let b = bind_is (fields_in ts) (λ gs. said (field.tree a.0 gs)) fs a.2 in
      let x = field_tame t a.0 a.1 in
      let y = fields_tame ts b.0 b.1 in
      is_so (λ (gs : field.Trees). TameTrees (value.trees_depth (value.tree t ts)) gs) (field.tree a.0 b.0) fs b.2 ((x.0, y.0), omega (arith, x.1, y.1))

  members_tame : (before : List (List ℕ)) (ps : value.Pairs) (ms : field.Members) → members_in before ps ≡ Ok ms → TameMembers (value.pairs_depth ps) ms
  members_tame before value.no_pairs ms e = is_so (λ (ns : field.Members). TameMembers 0 ns) field.no_members ms e (tt, omega arith)
  members_tame before (value.pair k t ps) ms e =
      let a = bind_is (entry_name_in before k) (λ s. field_in t >>= λ f. members_in (before ++ s ∷ []) ps >>= λ ns. said (field.member s f ns)) ms e in
      let b = bind_is (field_in t) (λ f. members_in (before ++ a.0 ∷ []) ps >>= λ ns. said (field.member a.0 f ns)) ms a.2 in
      let d = bind_is (members_in (before ++ a.0 ∷ []) ps) (λ ns. said (field.member a.0 b.0 ns)) ms b.2 in
      let x = field_tame t b.0 b.1 in
      let y = members_tame (before ++ a.0 ∷ []) ps d.0 d.1 in
      is_so (λ (ns : field.Members). TameMembers (value.pairs_depth (value.pair k t ps)) ns) (field.member a.0 b.0 d.0) ms d.2
      ((name_is before k a.0 a.1, x.0, y.0), omega (arith, x.1, y.1))

-- ---- headers

-- the values of a map
pairs_shallow : (o : Option value.Tree) → IfThere (λ t. value.depth t ≤ 16) o → value.pairs_depth (pairs_in_map o) ≤ 15
pairs_shallow None h = omega arith
pairs_shallow (Some (value.mapping ps)) h = omega (arith, h)
pairs_shallow (Some t) h = omega arith

fewer : (ps : value.Pairs) → value.pairs_depth (unreserved ps) ≤ value.pairs_depth ps
fewer value.no_pairs = omega arith
fewer (value.pair k t ps) = at (is_reserved_key k) (fewer ps)
  where
    at : (b : Bool) → value.pairs_depth (unreserved ps) ≤ value.pairs_depth ps → value.pairs_depth (cond b (unreserved ps) (value.pair k t (unreserved ps))) ≤ value.pairs_depth (value.pair k t ps)
    at true h = omega (arith, h)
    at false h = omega (arith, h)

under_shallow : (name : List ℕ) (ps : value.Pairs) (d : ℕ) → value.pairs_depth ps ≤ d → IfThere (λ t. value.depth t ≤ d) (value_under name ps)
under_shallow name value.no_pairs d h = tt
under_shallow name (value.pair k t ps) d h = at (is_symbol name k) (under_shallow name ps d (omega (arith, h)))
  where
    at : (b : Bool) → IfThere (λ u. value.depth u ≤ d) (value_under name ps) → IfThere (λ u. value.depth u ≤ d) (cond b (Some t) (value_under name ps))
    at true more = omega (arith, h)
    at false more = more

nested_shallow : (o : Option value.Tree) (ps : value.Pairs) → IfThere (λ t. value.depth t ≤ 15) o → nested_in o ≡ Ok ps → value.pairs_depth ps ≤ 15
nested_shallow None ps h e = omega (arith, ap value.pairs_depth (ok_is {F = MapFault} value.no_pairs ps e))
nested_shallow (Some (value.mapping qs)) ps h e = omega (arith, h, ap value.pairs_depth (ok_is {F = MapFault} qs ps e))
nested_shallow (Some t) ps h e = absurd (cc e)

-- entries behind others
entries_tame : (d : ℕ) (ms : field.Members) → TameMembers d ms → TameMembers d (field.members_of (entries_of ms))
entries_tame d field.no_members h = h
entries_tame d (field.member s f ms) h =
    let more = entries_tame d ms (h.0.2, omega (arith, h.1)) in
    ((h.0.0, h.0.1, more.0), omega (arith, h.1, more.1))

joined_tame : (d : ℕ) (ms ns : field.Members) → TameMembers d ms → TameMembers d ns → TameMembers d (field.members_of (entries_of ms ++ entries_of ns))
joined_tame d field.no_members ns h k = entries_tame d ns k
joined_tame d (field.member s f ms) ns h k =
    let more = joined_tame d ms ns (h.0.2, omega (arith, h.1)) k in
    ((h.0.0, h.0.1, more.0), omega (arith, h.1, more.1))

abbrev Entries : Type 0
Entries = List (List ℕ × field.Tree)

table_tame : (application nested : Option value.Tree) (es : Entries) → IfThere (λ t. value.depth t ≤ 16) application → IfThere (λ t. value.depth t ≤ 15) nested → one_table_in application nested ≡ Ok es
    → TameMembers 15 (field.members_of es)
unfolding one_table_in
table_tame application nested es h k e =
    let ps = unreserved (pairs_in_map application) in
    let a = bind_is (members_in [] ps) (λ ms. nested_in nested >>= λ qs. members_in (names_of (entries_of ms)) qs >>= λ ns. said (entries_of ms ++ entries_of ns)) es e in
    let b = bind_is (nested_in nested) (λ qs. members_in (names_of (entries_of a.0)) qs >>= λ ns. said (entries_of a.0 ++ entries_of ns)) es a.2 in
    let d = bind_is (members_in (names_of (entries_of a.0)) b.0) (λ ns. said (entries_of a.0 ++ entries_of ns)) es b.2 in
    let x = members_tame [] ps a.0 a.1 in
    let y = members_tame (names_of (entries_of a.0)) b.0 d.0 d.1 in
    let front : TameMembers 15 a.0 = (x.0, omega (arith, x.1, fewer (pairs_in_map application), pairs_shallow application h)) in
    let behind : TameMembers 15 d.0 = (y.0, omega (arith, y.1, nested_shallow nested b.0 k b.1)) in
    is_so (λ (fs : Entries). TameMembers 15 (field.members_of fs)) (entries_of a.0 ++ entries_of d.0) es d.2 (joined_tame 15 a.0 d.0 front behind)

-- headers of fewer than 2^32 bytes
abbrev TablePuts : Option Entries → Type 0
TablePuts o = maybe_len (a_table o) < 2 ^ 32 → CanPutOne (a_table o)

one_puts : (application nested : Option value.Tree) (o : Option Entries) → IfThere (λ t. value.depth t ≤ 16) application → IfThere (λ t. value.depth t ≤ 15) nested
    → (one_table_in application nested >>= λ es. said (Some es)) ≡ Ok o → TablePuts o
one_puts application nested o h k e =
    let b = bind_is (one_table_in application nested) (λ es. said (Some es)) o e in
    let tame = table_tame application nested b.0 h k b.1 in
    is_so TablePuts (Some b.0) o b.2
    (λ size. record { names = tame.0; size = omega (arith, size, members_take (field.members_of b.0)); depth = omega (arith, tame.1) })

headers_put : (application nested : Option value.Tree) (o : Option Entries) → IfThere (λ t. value.depth t ≤ 16) application → IfThere (λ t. value.depth t ≤ 15) nested → headers_of application nested ≡ Ok o → TablePuts o
headers_put None None o h k e = is_so TablePuts None o e (λ size. tt)
headers_put (Some t) nested o h k e = one_puts (Some t) nested o h k e
headers_put None (Some n) o h k e = one_puts None (Some n) o h k e

-- ---- properties

record EarlierPuts (p : Props) : Type 0 where
  content_type : MayPut p.content_type
  content_encoding : MayPut p.content_encoding
  headers : TablePuts p.headers
  correlation_id : MayPut p.correlation_id
  reply_to : MayPut p.reply_to

record LaterPuts (p : Props) : Type 0 where
  expiration : MayPut p.expiration
  message_id : MayPut p.message_id
  kind : MayPut p.kind
  user_id : MayPut p.user_id
  app_id : MayPut p.app_id
  cluster_id : MayPut p.cluster_id

abbrev make_earlier : Option ℕ → Option ℕ → Option (List ℕ) → Option (List ℕ) → Option Entries → Option (List ℕ) → Option (List ℕ) → Props
make_earlier mode priority v w x y z = record {
  content_type = v;
  content_encoding = w;
  headers = x;
  delivery_mode = mode;
  priority = priority;
  correlation_id = y;
  reply_to = z;
  expiration = None;
  message_id = None;
  timestamp = None;
  kind = None;
  user_id = None;
  app_id = None;
  cluster_id = None;
}

abbrev make_later : Option (List ℕ) → Option (List ℕ) → Option ℕ → Option (List ℕ) → Option (List ℕ) → Option (List ℕ) → Option (List ℕ) → Props
make_later expiration message_id v w x y z = record {
  content_type = None;
  content_encoding = None;
  headers = None;
  delivery_mode = None;
  priority = None;
  correlation_id = None;
  reply_to = None;
  expiration = expiration;
  message_id = message_id;
  timestamp = v;
  kind = w;
  user_id = x;
  app_id = y;
  cluster_id = z;
}

abbrev EarlierRows : Facts → Props → Type 0
EarlierRows f p =
    Five (make_earlier (option_map mode_of f.durable) f.priority) (content_type_row f.content_type) (content_encoding_row f.content_encoding) (headers_row f.application f.annotations) (correlation_id_row f.correlation_id)
    (reply_to_row f.reply_to) p

earlier_rows : (f : Facts) (p : Props) → earlier_in f ≡ Ok p → EarlierRows f p
unfolding earlier_in
earlier_rows f p e =
    five_said (make_earlier (option_map mode_of f.durable) f.priority) (content_type_row f.content_type) (content_encoding_row f.content_encoding) (headers_row f.application f.annotations) (correlation_id_row f.correlation_id)
    (reply_to_row f.reply_to) p e

earlier_puts : (f : Facts) (p : Props) → AreRanged f → AreShallow f → EarlierRows f p → EarlierPuts p
earlier_puts f p r h s =
    let nested = under_shallow (codes "x-opt-091-headers") (pairs_in_map f.annotations) 15 (pairs_shallow f.annotations h.annotations) in
    subst EarlierPuts s.made
    (record {
      content_type = text_puts prop.ContentType f.content_type s.v s.a_is;
      content_encoding = text_puts prop.ContentEncoding f.content_encoding s.w s.b_is;
      headers = headers_put f.application (annotation_in (codes "x-opt-091-headers") f.annotations) s.x h.application nested s.c_is;
      correlation_id = id_puts prop.CorrelationId f.correlation_id s.y r.correlation_id s.d_is;
      reply_to = text_puts prop.ReplyTo f.reply_to s.z s.e_is;
    })

abbrev later_of_id : Facts → Option (List ℕ) → Row Props
later_of_id f id =
    five (make_later (option_map decimal f.ttl) id) (timestamp_row f.creation_time) (kind_row f.annotations) (user_id_row f.user_id) (app_id_row f.annotations) (cluster_id_row f.annotations)

record LaterRows (f : Facts) (p : Props) : Type 0 where
  id : Option (List ℕ)
  id_is : message_id_row f.message_id ≡ Ok id
  others : Five (make_later (option_map decimal f.ttl) id) (timestamp_row f.creation_time) (kind_row f.annotations) (user_id_row f.user_id) (app_id_row f.annotations) (cluster_id_row f.annotations) p

later_rows : (f : Facts) (p : Props) → later_in f ≡ Ok p → LaterRows f p
unfolding later_in
later_rows f p e =
    let b = bind_is (message_id_row f.message_id) (later_of_id f) p e in
    record {
      id = b.0;
      id_is = b.1;
      others = five_said (make_later (option_map decimal f.ttl) b.0) (timestamp_row f.creation_time) (kind_row f.annotations) (user_id_row f.user_id) (app_id_row f.annotations) (cluster_id_row f.annotations) p b.2;
    }

later_puts : (f : Facts) (p : Props) → AreRanged f → LaterRows f p → LaterPuts p
later_puts f p r rows =
    let s = rows.others in
    subst LaterPuts s.made
    (record {
      expiration = ttl_puts f.ttl r.ttl;
      message_id = id_puts prop.MessageId f.message_id rows.id r.message_id rows.id_is;
      kind = annotation_puts prop.Kind (codes "x-opt-091-type") f.annotations s.w s.b_is;
      user_id = text_puts prop.UserId f.user_id s.x s.c_is;
      app_id = annotation_puts prop.AppId (codes "x-opt-091-app-id") f.annotations s.y s.d_is;
      cluster_id = annotation_puts prop.ClusterId (codes "x-opt-091-cluster-id") f.annotations s.z s.e_is;
    })

-- ---- the message

-- properties whose header fits
record Fit (room : ℕ) (all p : Props) : Type 0 where
  is : all ≡ p
  fits : header_len all ≤ room

fit_is : (room : ℕ) (all p : Props) → header_row room all ≡ Ok p → Fit room all p
fit_is room all p = at (leb (header_len all) room) refl
  where
    at : (b : Bool) → leb (header_len all) room ≡ b → cond b (Ok all) (Err (fault.TooLong prop.Header)) ≡ Ok p → Fit room all p
    at true h e = record { is = ok_is {F = MapFault} all p e; fits = leb-true _ _ h }
    at false h e = absurd (cc e)

parts_sent : (room : ℕ) (exchange key body : List ℕ) (p q : Props) → room < 2 ^ 32 → length exchange ≤ 255 → length key ≤ 255 → EarlierPuts p → LaterPuts q → header_len (both_of p q) ≤ room
    → CanBeSent room (record { exchange = exchange; key = key; props = both_of p q; body = body })
parts_sent room exchange key body p q small short_exchange short_key e l fits =
    let size : maybe_len (a_table p.headers) < 2 ^ 32 = omega (arith, small, fits, header_takes (both_of p q)) in
    record {
      exchange = short_exchange;
      key = short_key;
      header = (e.content_type, (e.content_encoding, (e.headers size, (modes p.delivery_mode, (modes p.priority, (e.correlation_id, (e.reply_to, later)))))));
      fits = omega (arith, fits, size_is_wide (length body) (both_of p q));
    }
  where
    modes : (o : Option ℕ) → CanPutOne (an_octet o)
    modes None = tt
    modes (Some n) = tt

    times : (o : Option ℕ) → CanPutOne (a_longlong o)
    times None = tt
    times (Some n) = tt

    later : CanPutAll (later_of q)
    later = (l.expiration, (l.message_id, (times q.timestamp, (l.kind, (l.user_id, (l.app_id, (l.cluster_id, tt)))))))

abbrev message_of : List ℕ → List ℕ → Props → List ℕ → Message091
message_of exchange key props body = record { exchange = exchange; key = key; props = props; body = body }

-- what the rows said of the properties
record PropsParts (f : Facts) (all : Props) : Type 0 where
  p : Props
  q : Props
  p_is : earlier_in f ≡ Ok p
  q_is : later_in f ≡ Ok q
  is : both_of p q ≡ all

props_parts : (f : Facts) (all : Props) → props_in f ≡ Ok all → PropsParts f all
props_parts f all e =
    let p = bind_is (earlier_in f) (λ p. later_in f >>= λ q. said (both_of p q)) all e in
    let q = bind_is (later_in f) (λ q. said (both_of p.0 q)) all p.2 in
    record { p = p.0; q = q.0; p_is = p.1; q_is = q.1; is = ok_is {F = MapFault} (both_of p.0 q.0) all q.2 }

-- and of the message
record ImageParts (queue : List ℕ) (room : ℕ) (f : Facts) (m : Message091) : Type 0 where
  exchange : List ℕ
  key : List ℕ
  all : Props
  props : Props
  body : List ℕ
  exchange_is : exchange_row f.annotations ≡ Ok exchange
  key_is : key_row f.subject queue ≡ Ok key
  all_is : props_in f ≡ Ok all
  props_are : header_row room all ≡ Ok props
  is : message_of exchange key props body ≡ m

image_parts : (queue : List ℕ) (room : ℕ) (f : Facts) (m : Message091) → image_by queue room f ≡ Ok m → ImageParts queue room f m
unfolding image_by
image_parts queue room f m e =
    let last : List ℕ → List ℕ → Props → Row Message091 = λ exchange key props. with_body exchange key props (body_row f.body) in
    let a = bind_is (exchange_row f.annotations) (λ exchange. key_row f.subject queue >>= λ key. props_in f >>= λ all. header_row room all >>= λ props. last exchange key props) m e in
    let b = bind_is (key_row f.subject queue) (λ key. props_in f >>= λ all. header_row room all >>= λ props. last a.0 key props) m a.2 in
    let c = bind_is (props_in f) (λ all. header_row room all >>= λ props. last a.0 b.0 props) m b.2 in
    let d = bind_is (header_row room c.0) (λ props. last a.0 b.0 props) m c.2 in
    let g = bind_is (body_row f.body) (λ body. said (message_of a.0 b.0 d.0 body)) m d.2 in
    record {
      exchange = a.0;
      key = b.0;
      all = c.0;
      props = d.0;
      body = g.0;
      exchange_is = a.1;
      key_is = b.1;
      all_is = c.1;
      props_are = d.1;
      is = ok_is {F = MapFault} (message_of a.0 b.0 d.0 g.0) m g.2;
    }

whole_sent : (queue : List ℕ) (room : ℕ) (f : Facts) (m : Message091) (w : ImageParts queue room f m) (v : PropsParts f w.all) → room < 2 ^ 32 → AreRanged f → AreShallow f → CanBeSent room m
whole_sent queue room f m w v small r h =
    let fit = fit_is room w.all w.props w.props_are in
    let len : header_len (both_of v.p v.q) ≤ room = subst (λ (x : Props). header_len x ≤ room) (sym v.is) fit.fits in
    let exchange = exchange_is f.annotations w.exchange w.exchange_is in
    let key = short_is prop.RoutingKey (unwrap_or f.subject queue) w.key w.key_is in
    let earlier = earlier_puts f v.p r h (earlier_rows f v.p v.p_is) in
    let later = later_puts f v.q r (later_rows f v.q v.q_is) in
    subst (λ (n : Message091). CanBeSent room n) (ap (λ (x : Props). message_of w.exchange w.key x w.body) (v.is ∙ fit.is) ∙ w.is)
    (parts_sent room w.exchange w.key w.body v.p v.q small exchange key earlier later len)

pub image_sent : (queue : List ℕ) (room : ℕ) (f : Facts) (m : Message091) → room < 2 ^ 32 → AreRanged f → AreShallow f → image_by queue room f ≡ Ok m → CanBeSent room m
image_sent queue room f m small r h e =
    let w = image_parts queue room f m e in
    whole_sent queue room f m w (props_parts f w.all w.all_is) small r h

-- the names and the header of an image are as long as they may be, whatever its numbers are
pub record Bounds (room : ℕ) (m : Message091) : Type 0 where
  pub exchange : length m.exchange ≤ 255
  pub key : length m.key ≤ 255
  pub header : length (header_text (header_of m)) ≤ room

pub image_bounds : (queue : List ℕ) (room : ℕ) (f : Facts) (m : Message091) → image_by queue room f ≡ Ok m → Bounds room m
image_bounds queue room f m e =
    let w = image_parts queue room f m e in
    let fit = fit_is room w.all w.props w.props_are in
    subst (Bounds room) (ap (λ (p : Props). message_of w.exchange w.key p w.body) fit.is ∙ w.is)
    (record {
      exchange = exchange_is f.annotations w.exchange w.exchange_is;
      key = short_is prop.RoutingKey (unwrap_or f.subject queue) w.key w.key_is;
      header = omega (arith, fit.fits, size_is_wide (length w.body) w.all);
    })
