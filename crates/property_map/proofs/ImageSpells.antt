-- The sections of an image can be written, unless they are too long.
use Rattle.std.proofs.Common.{◌≡◌, ℕ, ◌+◌, ◌^◌, ◌<◌, ◌≤◌, max, Bool, true, false, cond, ltb, List}
use Rattle.std.proofs.Common.{[], ◌∷◌, ◌++◌, length, Option, Some, None, option_map, Result, Ok}
use Rattle.std.proofs.Common.{Err, refl, sym, subst, arith}
use Rattle.std.specs.Prelude.{IfOk, IfSome}
use Rattle.std.specs.Char.{is_ascii}
use Rattle.std.specs.List.{list_all}
use Rattle.std.specs.Str.{is_utf8}
use Rattle.std.proofs.lemmas.Bool.{ltb-false}
use Rattle.std.proofs.lemmas.List.{length-append}
use Rattle.wire_base.specs.Reading.{◌>>=◌}
use Rattle.tables_091.specs.Tree as field
use Rattle.types_10.specs.Tree.{Tree, scalar, list, mapping, depth, Trees, trees_depth, trees_of}
use Rattle.types_10.specs.Tree.{Pairs, pairs_depth, pairs_of}
use Rattle.types_10.specs.Tree as value
use Rattle.types_10.specs.Writing.{IsProper, IsWritable, EachIsWritable, PairsAreWritable, load}
use Rattle.types_10.specs.Writing.{each_load, pairs_load}
use Rattle.types_10.specs.Writing.{HasSpelling}
use Rattle.types_10.specs.Fields.{absent, is_absent, maybe, a_boolean, a_ubyte, a_uint, a_timestamp}
use Rattle.types_10.specs.Fields.{a_binary, a_string, a_symbol, in_front, trim}
use Rattle.sections_10.specs.Writing.{fields_list, header_value, section_text}
use Rattle.sections_10.specs.Writing.{maybe_text, IfThere, IsData, CanBeWritten}
use Rattle.sections_10.specs.declared.message.Body10.{Body10}
use Rattle.sections_10.specs.declared.message.Message10.{Message10}
use Rattle.property_map.specs.Texts.{string_in, symbol_in, milliseconds_in, maybe_in, is_among}
use Rattle.property_map.specs.Texts.{is_reserved}
use Rattle.property_map.specs.Values.{scalar_in, name_in, value_in, values_in, pairs_in}
use Rattle.property_map.specs.Headers.{header_name_in, holds_others, with_header, headers_in}
use Rattle.property_map.specs.Headers.{table_in}
use Rattle.property_map.specs.Rows.{exchange_row, headers_row, timestamp_row}
use Rattle.property_map.specs.Image.{header_with, annotation, nested_map, map_of, with_others}
use Rattle.property_map.specs.Image.{application_of, IsImage10}
use Rattle.property_map.specs.Spelling.{row_value, image_header, image_annotations, image_fields}
use Rattle.property_map.specs.Spelling.{image_properties, image_application, image_text}
use Rattle.property_map.specs.declared.fault.PropName.{PropName}
use Rattle.property_map.specs.declared.fault.PropName.TheVariants as prop
use Rattle.property_map.specs.declared.fault.MapFault.{MapFault}
use Rattle.property_map.specs.declared.fault.MapFault.TheVariants as fault
use Rattle.property_map.specs.declared.headers.HeaderMaps.{HeaderMaps}
use Rattle.property_map.specs.declared.message.Message091.{Message091}
use Rattle.property_map.proofs.ImageTexts.{header_is, annotations_are, properties_are}
use Rattle.property_map.proofs.ImageTexts.{application_is}

-- ---- rows

-- what holds of the first step, and so of the second, holds of both
steps_fit : {A B : Type 0} (P : A → Type 0) (Q : B → Type 0) (f : A → Result B MapFault) (r : Result A MapFault) → IfOk r P → ((x : A) → P x → IfOk (f x) Q) → IfOk (r >>= f) Q
steps_fit P Q f (Ok x) h k = k x h
steps_fit P Q f (Err e) h k = tt

passed : {A : Type 0} (P : A → Type 0) (x : A) (f : MapFault) (b : Bool) → (b ≡ true → P x) → IfOk (cond b (Ok x) (Err f)) P
passed P x f true h = h refl
passed P x f false h = tt

refused : {A : Type 0} (P : A → Type 0) (x : A) (f : MapFault) (b : Bool) → (b ≡ false → P x) → IfOk (cond b (Err f) (Ok x)) P
refused P x f true h = tt
refused P x f false h = h refl

row_fits : {A B : Type 0} (P : B → Type 0) (row : A → Result B MapFault) → ((x : A) → IfOk (row x) P) → (o : Option A) → IfSome (row_value (maybe_in row o)) P
row_fits {A} {B} P row h None = tt
row_fits {A} {B} P row h (Some x) = at (row x) (h x)
  where
    at : (r : Result B MapFault) → IfOk r P → IfSome (row_value (r >>= λ y. Ok (Some y))) P
    at (Ok y) k = k
    at (Err f) k = tt

abbrev IsString : List ℕ → Type 0
IsString s = is_utf8 s ≡ true

abbrev IsSymbol : List ℕ → Type 0
IsSymbol s = list_all is_ascii s ≡ true

string_fits : (name : PropName) (s : List ℕ) → IfOk (string_in name s) IsString
string_fits name s = passed IsString s (fault.NotUtf8 name) (is_utf8 s) (λ e. e)

symbol_fits : (name : PropName) (s : List ℕ) → IfOk (symbol_in name s) IsSymbol
symbol_fits name s = passed IsSymbol s (fault.NotAscii name) (list_all is_ascii s) (λ e. e)

-- ---- values

-- writable, and without arrays and descriptors
abbrev mutual
  IsPlain : Tree → Type 0
  IsPlain (value.scalar s) = IsProper s
  IsPlain (value.list ts) = EachIsPlain ts
  IsPlain (value.mapping ps) = PairsArePlain ps
  IsPlain (value.array ts) = ⊥
  IsPlain (value.described d t) = ⊥

  EachIsPlain : Trees → Type 0
  EachIsPlain value.no_trees = Unit {0}
  EachIsPlain (value.tree t ts) = IsPlain t × EachIsPlain ts

  PairsArePlain : Pairs → Type 0
  PairsArePlain value.no_pairs = Unit {0}
  PairsArePlain (value.pair k t ps) = IsPlain k × IsPlain t × PairsArePlain ps

mutual
  plain_writable : (t : Tree) → IsPlain t → IsWritable t
  plain_writable (value.scalar s) h = h
  plain_writable (value.list ts) h = each_plain_writable ts h
  plain_writable (value.mapping ps) h = pairs_plain_writable ps h
  plain_writable (value.array ts) h = absurd h
  plain_writable (value.described d t) h = absurd h

  each_plain_writable : (ts : Trees) → EachIsPlain ts → EachIsWritable ts
  each_plain_writable value.no_trees h = tt
  each_plain_writable (value.tree t ts) h = (plain_writable t h.0, each_plain_writable ts h.1)

  pairs_plain_writable : (ps : Pairs) → PairsArePlain ps → PairsAreWritable ps
  pairs_plain_writable value.no_pairs h = tt
  pairs_plain_writable (value.pair k t ps) h = (plain_writable k h.0, plain_writable t h.1, pairs_plain_writable ps h.2)

-- it takes nothing besides its bytes
mutual
  plain_load : (t : Tree) → IsPlain t → load t ≡ 0
  plain_load (value.scalar s) h = omega arith
  plain_load (value.list ts) h = omega (arith, each_plain_load ts h)
  plain_load (value.mapping ps) h = omega (arith, pairs_plain_load ps h)
  plain_load (value.array ts) h = absurd h
  plain_load (value.described d t) h = absurd h

  each_plain_load : (ts : Trees) → EachIsPlain ts → each_load ts ≡ 0
  each_plain_load value.no_trees h = refl
  each_plain_load (value.tree t ts) h = omega (arith, plain_load t h.0, each_plain_load ts h.1)

  pairs_plain_load : (ps : Pairs) → PairsArePlain ps → pairs_load ps ≡ 0
  pairs_plain_load value.no_pairs h = refl
  pairs_plain_load (value.pair k t ps) h = omega (arith, plain_load k h.0, plain_load t h.1, pairs_plain_load ps h.2)

-- at most this deep, and writable
abbrev Fits : ℕ → Tree → Type 0
Fits n t = (depth t ≤ n) × IsPlain t

abbrev EachFits : ℕ → Trees → Type 0
EachFits n ts = (trees_depth ts ≤ n) × EachIsPlain ts

abbrev PairsFit : ℕ → Pairs → Type 0
PairsFit n ps = (pairs_depth ps ≤ n) × PairsArePlain ps

scalar_fits : (s : field.Scalar) → IfOk (scalar_in s) IsProper
scalar_fits (field.boolean b) = tt
scalar_fits (field.int8 z) = tt
scalar_fits (field.uint8 n) = tt
scalar_fits (field.int16 z) = tt
scalar_fits (field.uint16 n) = tt
scalar_fits (field.int32 z) = tt
scalar_fits (field.uint32 n) = tt
scalar_fits (field.int64 z) = tt
scalar_fits (field.float32 n) = tt
scalar_fits (field.float64 n) = tt
scalar_fits (field.decimal scale n) = tt
scalar_fits (field.longstr s) = steps_fit IsString IsProper (λ t. Ok (value.string t)) (string_in prop.Headers s) (string_fits prop.Headers s) (λ t h. h)
scalar_fits (field.timestamp n) =
    steps_fit (λ z. Unit {0}) IsProper (λ z. Ok (value.timestamp z)) (milliseconds_in prop.Headers n) (passed (λ z. Unit {0}) _ _ _ (λ e. tt)) (λ z h. tt)
scalar_fits field.void = tt
scalar_fits (field.blob s) = tt

name_fits : (before : List (List ℕ)) (s : List ℕ) → IfOk (name_in before s) IsString
name_fits before s =
    steps_fit IsString IsString (λ name. cond (is_among name before) (Err (fault.Repeated name)) (Ok name)) (string_in prop.Headers s) (string_fits prop.Headers s)
    (λ name h. refused IsString name (fault.Repeated name) (is_among name before) (λ e. h))

mutual
  unfolding value_in values_in pairs_in

  value_fits : (t : field.Tree) → IfOk (value_in t) (Fits (field.depth t))
  value_fits (field.scalar s) = steps_fit IsProper (Fits 0) (λ v. Ok (value.scalar v)) (scalar_in s) (scalar_fits s) (λ v h. (omega arith, h))
  value_fits (field.array ts) = steps_fit (EachFits (field.trees_depth ts)) (Fits (field.trees_depth ts + 1)) (λ us. Ok (value.list us)) (values_in ts) (values_fit ts) (λ us h. (omega (arith, h.0), h.1))
  value_fits (field.table ms) = steps_fit (PairsFit (field.members_depth ms)) (Fits (field.members_depth ms + 1)) (λ ps. Ok (value.mapping ps)) (pairs_in [] ms) (pairs_fit [] ms) (λ ps h. (omega (arith, h.0), h.1))

  values_fit : (ts : field.Trees) → IfOk (values_in ts) (EachFits (field.trees_depth ts))
  values_fit field.no_trees = (omega arith, tt)
  values_fit (field.tree t ts) =
      steps_fit (Fits (field.depth t)) (EachFits (max (field.depth t) (field.trees_depth ts))) (λ u. values_in ts >>= λ us. Ok (value.tree u us)) (value_in t) (value_fits t)
      (λ u h. steps_fit (EachFits (field.trees_depth ts)) (EachFits (max (field.depth t) (field.trees_depth ts))) (λ us. Ok (value.tree u us)) (values_in ts) (values_fit ts) (λ us k. (omega (arith, h.0, k.0), (h.1, k.1))))

  pairs_fit : (before : List (List ℕ)) (ms : field.Members) → IfOk (pairs_in before ms) (PairsFit (field.members_depth ms))
  pairs_fit before field.no_members = (omega arith, tt)
  pairs_fit before (field.member name t ms) =
      steps_fit IsString (PairsFit (max (field.depth t) (field.members_depth ms))) (λ key. value_in t >>= λ u. pairs_in (before ++ name ∷ []) ms >>= λ ps. Ok (value.pair (value.scalar (value.string key)) u ps))
      (name_in before name) (name_fits before name)
      (λ key named. steps_fit (Fits (field.depth t)) (PairsFit (max (field.depth t) (field.members_depth ms))) (λ u. pairs_in (before ++ name ∷ []) ms >>= λ ps. Ok (value.pair (value.scalar (value.string key)) u ps))
      (value_in t) (value_fits t)
      (λ u h. steps_fit (PairsFit (field.members_depth ms)) (PairsFit (max (field.depth t) (field.members_depth ms))) (λ ps. Ok (value.pair (value.scalar (value.string key)) u ps))
      (pairs_in (before ++ name ∷ []) ms) (pairs_fit (before ++ name ∷ []) ms) (λ ps k. (omega (arith, h.0, k.0), (named, h.1, k.1)))))

-- ---- headers

abbrev MapsFit : ℕ → HeaderMaps → Type 0
MapsFit n maps = PairsFit n (pairs_of maps.application) × PairsFit n (pairs_of maps.annotation)

header_name_fits : (before : List (List ℕ)) (s : List ℕ) → IfOk (header_name_in before s) IsString
header_name_fits before s =
    steps_fit IsString IsString (λ name. cond (is_reserved name) (Err (fault.Reserved name)) (cond (is_among name before) (Err (fault.Repeated name)) (Ok name))) (string_in prop.Headers s) (string_fits prop.Headers s)
    (λ name h. at name h (is_reserved name))
  where
    at : (name : List ℕ) → IsString name → (b : Bool) → IfOk (cond b (Err (fault.Reserved name)) (cond (is_among name before) (Err (fault.Repeated name)) (Ok name))) IsString
    at name h true = tt
    at name h false = refused IsString name (fault.Repeated name) (is_among name before) (λ e. h)

with_fits : (b : Bool) (s : List ℕ) (v : Tree) (maps : HeaderMaps) (n k : ℕ) → IsString s → Fits n v → MapsFit k maps → MapsFit (max n k) (with_header b (a_string s, v) maps)
with_fits true s v maps n k named h fits = ((omega (arith, fits.0.0), fits.0.1), (omega (arith, h.0, fits.1.0), (named, h.1, fits.1.1)))
with_fits false s v maps n k named h fits = ((omega (arith, h.0, fits.0.0), (named, h.1, fits.0.1)), (omega (arith, fits.1.0), fits.1.1))

abbrev Entry : Type 0
Entry = List ℕ × field.Tree

headers_fit : (before : List (List ℕ)) (ms : List Entry) → IfOk (headers_in before ms) (MapsFit (field.entries_depth ms))
unfolding headers_in
headers_fit before [] = ((omega arith, tt), (omega arith, tt))
headers_fit before (m ∷ ms) =
    let whole : HeaderMaps → Type 0 = MapsFit (field.entries_depth (m ∷ ms)) in
    let rest : Result HeaderMaps MapFault = headers_in (before ++ m.0 ∷ []) ms in
    steps_fit IsString whole (λ s. value_in m.1 >>= λ v. rest >>= λ maps. Ok (with_header (holds_others m.1) (a_string s, v) maps)) (header_name_in before m.0) (header_name_fits before m.0)
    (λ s named. steps_fit (Fits (field.depth m.1)) whole (λ v. rest >>= λ maps. Ok (with_header (holds_others m.1) (a_string s, v) maps)) (value_in m.1) (value_fits m.1)
    (λ v h. steps_fit (MapsFit (field.entries_depth ms)) whole (λ maps. Ok (with_header (holds_others m.1) (a_string s, v) maps)) rest (headers_fit (before ++ m.0 ∷ []) ms)
    (λ maps fits. with_fits (holds_others m.1) s v maps (field.depth m.1) (field.entries_depth ms) named h fits)))

table_fits : (ms : List Entry) → IfOk (table_in ms) (MapsFit 14)
unfolding table_in
table_fits ms =
    let d = field.depth (field.table (field.members_of ms)) in
    steps_fit (MapsFit (field.entries_depth ms)) (MapsFit 14) (λ maps. cond (ltb 15 d) (Err fault.Depth) (Ok maps)) (headers_in [] ms) (headers_fit [] ms)
    (λ maps h. refused (MapsFit 14) maps fault.Depth (ltb 15 d) (λ e. ((omega (arith, ltb-false _ _ e, h.0.0), h.0.1), (omega (arith, ltb-false _ _ e, h.1.0), h.1.1))))

-- ---- maps

map_fits : (n : ℕ) (ps : List (Tree × Tree)) → PairsFit n (pairs_of ps) → IfThere (Fits (n + 1)) (map_of ps)
map_fits n [] h = tt
map_fits n (p ∷ ps) h = (omega (arith, h.0), h.1)

nested_fits : (o : Option HeaderMaps) → IfSome o (MapsFit 14) → IfThere (Fits 15) (nested_map o)
nested_fits None h = tt
nested_fits (Some maps) h = map_fits 14 maps.annotation h.1

others_fit : (ps qs : List (Tree × Tree)) → PairsFit 14 (pairs_of ps) → IfThere (Fits 16) (with_others ps qs)
others_fit [] (q ∷ qs) h = tt
others_fit ps qs h = (omega (arith, h.0), h.1)

application_fits : (o : Option HeaderMaps) → IfSome o (MapsFit 14) → IfThere (Fits 16) (application_of o)
application_fits None h = tt
application_fits (Some maps) h = others_fit maps.application maps.annotation h.0

annotation_fits : (key : List ℕ) (o : Option Tree) → IsSymbol key → IfThere (Fits 15) o → PairsFit 15 (pairs_of (annotation key o))
annotation_fits key None k h = (omega arith, tt)
annotation_fits key (Some t) k h = (omega (arith, h.0), (k, h.1, tt))

joined_fits : (n : ℕ) (ps qs : List (Tree × Tree)) → PairsFit n (pairs_of ps) → PairsFit n (pairs_of qs) → PairsFit n (pairs_of (ps ++ qs))
joined_fits n [] qs h k = k
joined_fits n (p ∷ ps) qs h k =
    let r = joined_fits n ps qs (omega (arith, h.0), h.1.2) k in
    (omega (arith, h.0, r.0), (h.1.0, h.1.1, r.1))

string_there : (o : Option (List ℕ)) → IfSome o IsString → IfThere (Fits 15) (option_map a_string o)
string_there None h = tt
string_there (Some s) h = (omega arith, h)

exchange_fits : (s : List ℕ) → IfSome (row_value (exchange_row s)) IsString
exchange_fits [] = tt
exchange_fits (b ∷ s) = row_fits IsString (string_in prop.Exchange) (string_fits prop.Exchange) (Some (b ∷ s))

annotations_fit : (m : Message091) → IfThere (Fits 16) (image_annotations m)
annotations_fit m =
    let strings = λ (name : PropName) (o : Option (List ℕ)). string_there (row_value (maybe_in (string_in name) o)) (row_fits IsString (string_in name) (string_fits name) o) in
    let headers = nested_fits (row_value (headers_row m.props.headers)) (row_fits (MapsFit 14) table_in table_fits m.props.headers) in
    map_fits 15 _
    (joined_fits 15 _ _ (annotation_fits _ _ refl (string_there (row_value (exchange_row m.exchange)) (exchange_fits m.exchange)))
    (joined_fits 15 _ _ (annotation_fits _ _ refl (strings prop.Kind m.props.kind))
    (joined_fits 15 _ _ (annotation_fits _ _ refl (strings prop.AppId m.props.app_id))
    (joined_fits 15 _ _ (annotation_fits _ _ refl (strings prop.ClusterId m.props.cluster_id)) (annotation_fits _ _ refl headers)))))

-- ---- lists of fields

abbrev AreFlat : List Tree → Type 0
AreFlat [] = Unit {0}
AreFlat (t ∷ ts) = Fits 0 t × AreFlat ts

front_flat : (t : Tree) (us : List Tree) → Fits 0 t → AreFlat us → AreFlat (in_front t us)
front_flat t [] h k = at (is_absent t)
  where
    at : (b : Bool) → AreFlat (cond b [] (t ∷ []))
    at true = tt
    at false = (h, tt)
front_flat t (u ∷ us) h k = (h, k)

trimmed_flat : (ts : List Tree) → AreFlat ts → AreFlat (trim ts)
trimmed_flat [] h = tt
trimmed_flat (t ∷ ts) h = front_flat t (trim ts) h.0 (trimmed_flat ts h.1)

flat_fits : (ts : List Tree) → AreFlat ts → EachFits 0 (trees_of ts)
flat_fits [] h = (omega arith, tt)
flat_fits (t ∷ ts) h = let r = flat_fits ts h.1 in (omega (arith, h.0.0, r.0), (h.0.1, r.1))

list_fits : (ts : List Tree) → AreFlat ts → Fits 16 (fields_list ts)
list_fits ts h = let r = flat_fits (trim ts) (trimmed_flat ts h) in (omega (arith, r.0), r.1)

maybe_fits : {A : Type 0} (P : A → Type 0) (f : A → Tree) → ((x : A) → P x → Fits 0 (f x)) → (o : Option A) → IfSome o P → Fits 0 (maybe f o)
maybe_fits P f h None k = (omega arith, tt)
maybe_fits P f h (Some x) k = h x k

plain_fits : {A : Type 0} (f : A → Tree) → ((x : A) → Fits 0 (f x)) → (o : Option A) → Fits 0 (maybe f o)
plain_fits f h None = (omega arith, tt)
plain_fits f h (Some x) = h x

none_fits : Fits 0 absent
none_fits = (omega arith, tt)

header_fits : (d : Option Bool) (n : Option ℕ) (t : Option ℕ) → IfThere (Fits 16) (option_map header_value (header_with d n t))
header_fits None None None = tt
header_fits d n t =
    list_fits (maybe a_boolean d ∷ maybe a_ubyte n ∷ maybe a_uint t ∷ absent ∷ absent ∷ [])
    (plain_fits a_boolean (λ b. (omega arith, tt)) d, (plain_fits a_ubyte (λ k. (omega arith, tt)) n, (plain_fits a_uint (λ k. (omega arith, tt)) t, (none_fits, (none_fits, tt)))))

fields_fit : (m : Message091) → AreFlat (image_fields m)
fields_fit m =
    let string = λ (name : PropName) (o : Option (List ℕ)).
    maybe_fits IsString a_string (λ s h. (omega arith, h)) (row_value (maybe_in (string_in name) o)) (row_fits IsString (string_in name) (string_fits name) o) in
    let symbol = λ (name : PropName) (o : Option (List ℕ)).
    maybe_fits IsSymbol a_symbol (λ s h. (omega arith, h)) (row_value (maybe_in (symbol_in name) o)) (row_fits IsSymbol (symbol_in name) (symbol_fits name) o) in
    let p = m.props in (
      string prop.MessageId p.message_id,
      (
        plain_fits a_binary (λ s. (omega arith, tt)) p.user_id,
        (
          none_fits,
          (
            string prop.RoutingKey (Some m.key),
            (
              string prop.ReplyTo p.reply_to,
              (
                string prop.CorrelationId p.correlation_id,
                (
                  symbol prop.ContentType p.content_type,
                  (
                    symbol prop.ContentEncoding p.content_encoding,
                    (
                      none_fits,
                      (
                        plain_fits a_timestamp (λ z. (omega arith, tt)) (row_value (timestamp_row p.timestamp)),
                        (none_fits, (none_fits, (none_fits, tt))),
                      ),
                    ),
                  ),
                ),
              ),
            ),
          ),
        ),
      ),
    )

-- ---- the message

maybe_spells : (code : ℕ) (o : Option Tree) → IfThere (Fits 16) o → length (maybe_text code o) < 2 ^ 32 → IfThere HasSpelling o
maybe_spells code None h e = tt
maybe_spells code (Some t) h e = (h.0, plain_writable t h.1, omega (arith, e), omega (arith, plain_load t h.1))

abbrev Spells : Option Tree → Type 0
Spells o = IfThere HasSpelling o

pub short_is_written : (m : Message091) (image : Message10) → IsImage10 m image → length (image_text m) < 2 ^ 32 → CanBeWritten image
short_is_written m image i e =
    let a = maybe_text 112 (image_header m.props) in
    let b = maybe_text 114 (image_annotations m) in
    let c = section_text 115 (image_properties m) in
    let d = maybe_text 116 (image_application m.props) in
    let s = section_text 117 (a_binary m.body) in
    let all : length a + (length b + (length c + (length d + length s))) ≡ length (image_text m) =
    omega (arith, length-append a (b ++ (c ++ (d ++ s))), length-append b (c ++ (d ++ s)), length-append c (d ++ s), length-append d s) in
    let header = maybe_spells 112 (image_header m.props) (header_fits _ _ _) (omega (arith, e, all)) in
    let annotations = maybe_spells 114 (image_annotations m) (annotations_fit m) (omega (arith, e, all)) in
    let properties = maybe_spells 115 (Some (image_properties m)) (list_fits (image_fields m) (fields_fit m)) (omega (arith, e, all)) in
    let maps = row_fits (MapsFit 14) table_in table_fits m.props.headers in
    let application = maybe_spells 116 (image_application m.props) (application_fits (row_value (headers_row m.props.headers)) maps) (omega (arith, e, all)) in
    let bytes : HasSpelling (a_binary m.body) = (omega arith, tt, omega (arith, e, all), omega arith) in (
      subst Spells (sym (header_is m.props image.header i.header)) header,
      subst Spells (sym (annotations_are m image.annotations i.annotations)) annotations,
      subst Spells (sym (properties_are m image.properties i.properties)) properties,
      subst Spells (sym (application_is m image.application i.application)) application,
      subst (λ (x : Body10). IsData HasSpelling x) (sym i.body) bytes,
    )
