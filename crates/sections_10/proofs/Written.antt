-- What is written of a message is read back.
use Rattle.std.proofs.Common.{◌≡◌, ◌↔◌, inl, ℕ, ◌+◌, ◌-◌, ◌^◌, ◌<◌, ◌≤◌, Bool, true}
use Rattle.std.proofs.Common.{false, cond, ltb, eqb, ℤ, List, [], ◌∷◌, ◌++◌, length, take, drop}
use Rattle.std.proofs.Common.{get_or, Option, Some, None, option_map, Result, Ok, refl, sym, ap}
use Rattle.std.proofs.Common.{subst, ◌∙◌, append_assoc, append-nil, arith}
use Rattle.std.proofs.Math.Seq.{get_or-append_seam}
use Rattle.std.proofs.lemmas.Bool.{ltb-true, eqb-true}
use Rattle.std.proofs.lemmas.List.{take_at, drop_at, length-append, take-append-le}
use Rattle.wire_base.specs.Reading.{◌>>=◌}
use Rattle.wire_base.specs.Spelling.{StandsAt}
use Rattle.types_10.specs.Tree.{Tree, scalar, list, mapping, array, described, ulong, Trees}
use Rattle.types_10.specs.Tree.{trees_of}
use Rattle.types_10.specs.Tree as value
use Rattle.types_10.specs.View.{value_tree}
use Rattle.types_10.specs.Grammar.{IsValue}
use Rattle.types_10.specs.Ranges.{IsRanged}
use Rattle.types_10.specs.Writing.{value_text, HasSpelling}
use Rattle.types_10.specs.declared.value.Value10.{Value10}
use Rattle.types_10.specs.Fields.{absent, maybe, a_boolean, a_ubyte, a_uint, a_timestamp}
use Rattle.types_10.specs.Fields.{a_binary, a_string, a_symbol, tree_at, trim}
use Rattle.types_10.proofs.Canonical.{written_is_canonical}
use Rattle.types_10.proofs.Within.{canonical_is_spelled}
use Rattle.types_10.proofs.Trimmed.{trimmed_at}
use Rattle.sections_10.specs.Fields.{Row, may}
use Rattle.sections_10.specs.Fields.{leaf_in}
use Rattle.sections_10.specs.Fields.{field_in, fields_in}
use Rattle.sections_10.specs.Fields as field
use Rattle.sections_10.specs.Rows.{Section, header_rows, properties_rows, header_section}
use Rattle.sections_10.specs.Rows.{message_section, properties_section, application_section}
use Rattle.sections_10.specs.Rows.{data_section}
use Rattle.sections_10.specs.View.{header_fields, props_fields, header_tree, props_tree, kept_of}
use Rattle.sections_10.specs.Reading.{is_key_of, keys_are, map_with, meaning_in, kind_of, Sections}
use Rattle.sections_10.specs.Reading.{message_in}
use Rattle.sections_10.specs.Grammar.{IsSectionAt, IsMaybeAt, IsBodyAt, IsMessage}
use Rattle.sections_10.specs.Writing.{unless_false, unless_zero, header_written}
use Rattle.sections_10.specs.Writing.{header_value, props_value, section_text, maybe_text}
use Rattle.sections_10.specs.Writing.{binary_head, body_text, body_bytes, message_text, IfThere}
use Rattle.sections_10.specs.Writing.{IsData, EachWritten, CanBeWritten, IsId, HasIds, IsMapWith}
use Rattle.sections_10.specs.Writing.{HasTypes}
use Rattle.sections_10.specs.declared.sections.Keys.{Keys}
use Rattle.sections_10.specs.declared.sections.Keys.TheVariants as keys
use Rattle.sections_10.specs.declared.message.MsgHeader.{MsgHeader}
use Rattle.sections_10.specs.declared.message.MsgProps.{MsgProps}
use Rattle.sections_10.specs.declared.message.Body10.{Body10}
use Rattle.sections_10.specs.declared.message.Body10.TheVariants as body
use Rattle.sections_10.specs.declared.message.Message10.{Message10}
use Rattle.sections_10.proofs.MessageLaws.{spelled_is_read}

-- ---- data

-- code, length and bytes are the spelling of a binary
pub binary_is : (s : List ℕ) → binary_head (length s) ++ s ≡ value_text (a_binary s)
binary_is s = at (ltb (length s) 256) refl
  where
    at : (b : Bool) → ltb (length s) 256 ≡ b → binary_head (length s) ++ s ≡ value_text (a_binary s)
    at true e = rw e refl
    at false e = rw e refl

head_length : (n : ℕ) → length (binary_head n) ≡ cond (ltb n 256) 2 5
head_length n = at (ltb n 256) refl
  where
    at : (b : Bool) → ltb n 256 ≡ b → length (binary_head n) ≡ cond (ltb n 256) 2 5
    at true e = rw e refl
    at false e = rw e refl

data_length : (s : List ℕ) (b : Bool) → ltb (length s) 256 ≡ b → length (value_text (a_binary s)) ≡ cond b 2 5 + length s
data_length s b e =
    ap length (sym (binary_is s)) ∙ length-append (binary_head (length s)) s
    ∙ ap (λ (n : ℕ). n + length s) (head_length (length s) ∙ ap (λ (t : Bool). cond t 2 5) e)

data_short : (s : List ℕ) (b : Bool) → ltb (length s) 256 ≡ b → length s < 4294967291 → length (value_text (a_binary s)) < 2 ^ 32
data_short s true e h = omega (arith, h, data_length s true e)
data_short s false e h = omega (arith, h, data_length s false e)

short_data : (s : List ℕ) (b : Bool) → ltb (length s) 256 ≡ b → length (value_text (a_binary s)) < 2 ^ 32 → length s < 4294967291
short_data s true e h = omega (arith, ltb-true _ _ e)
short_data s false e h = omega (arith, h, data_length s false e)

-- data has a spelling where its length leaves room for code and length
pub data_spells : (s : List ℕ) → (length s < 4294967291) ↔ HasSpelling (a_binary s)
data_spells s = ((λ h. (omega arith, tt, data_short s (ltb (length s) 256) refl h, omega arith)), λ h. short_data s (ltb (length s) 256) refl h.2)

-- ---- up to the bytes of the body

-- a body has no more bytes than are written of it
body_within : (b : Body10) → length (body_bytes b) ≤ length (body_text b)
body_within (body.Data s) = omega (arith, data_length s (ltb (length s) 256) refl)
body_within (body.Text s) = omega arith
body_within (body.Binary s) = omega arith
body_within body.Other = omega arith

bytes_within : (m : Message10) → length (body_bytes m.body) ≤ length (message_text m)
bytes_within m =
    let a = maybe_text 112 (option_map header_value m.header) in
    let b = maybe_text 114 (option_map value_tree m.annotations) in
    let c = maybe_text 115 (option_map props_value m.properties) in
    let d = maybe_text 116 (option_map value_tree m.application) in
    let e = body_text m.body in
    omega (arith, length-append a (b ++ (c ++ (d ++ e))), length-append b (c ++ (d ++ e)), length-append c (d ++ e), length-append d e, body_within m.body)

-- with the sections up to the bytes of the body, what stood there before is there
pub front_stands : (m : Message10) (old new : List ℕ) → new ++ body_bytes m.body ≡ old ++ message_text m → take (length old) new ≡ old
front_stands m old new e =
    let size : length new + length (body_bytes m.body) ≡ length old + length (message_text m) =
    sym (length-append new (body_bytes m.body)) ∙ ap length e ∙ length-append old (message_text m) in
    let shorter : length old ≤ length new = omega (arith, size, bytes_within m) in
    sym (take-append-le (length old) new (body_bytes m.body) shorter) ∙ ap (take (length old)) e ∙ take_at old (message_text m) (length old) refl

abbrev both : Result Tree (Unit {0}) → Result (List Tree) (Unit {0}) → Result (List Tree) (Unit {0})
both first others = first >>= λ x. others >>= λ xs. Ok (x ∷ xs)

fields_alike : (rs : List Row) (k : ℕ) (ts us : Trees) → ((i : ℕ) → tree_at ts i ≡ tree_at us i) → fields_in rs k ts ≡ fields_in rs k us
fields_alike [] k ts us h = refl
fields_alike (r ∷ rs) k ts us h =
    ap (λ (t : Tree). both (field_in r t) (fields_in rs (k + 1) ts)) (h k)
    ∙ ap (both (field_in r (tree_at us k))) (fields_alike rs (k + 1) ts us h)

-- ---- fields

boolean_back : (o : Option Bool) → field_in (may field.boolean) (maybe a_boolean o) ≡ Ok (maybe a_boolean o)
unfolding field_in leaf_in
boolean_back None = refl
boolean_back (Some b) = refl

ubyte_back : (o : Option ℕ) → field_in (may field.ubyte) (maybe a_ubyte o) ≡ Ok (maybe a_ubyte o)
unfolding field_in leaf_in
ubyte_back None = refl
ubyte_back (Some n) = refl

uint_back : (o : Option ℕ) → field_in (may field.uint) (maybe a_uint o) ≡ Ok (maybe a_uint o)
unfolding field_in leaf_in
uint_back None = refl
uint_back (Some n) = refl

timestamp_back : (o : Option ℤ) → field_in (may field.timestamp) (maybe a_timestamp o) ≡ Ok (maybe a_timestamp o)
unfolding field_in leaf_in
timestamp_back None = refl
timestamp_back (Some z) = refl

binary_back : (o : Option (List ℕ)) → field_in (may field.binary) (maybe a_binary o) ≡ Ok (maybe a_binary o)
unfolding field_in leaf_in
binary_back None = refl
binary_back (Some s) = refl

string_back : (o : Option (List ℕ)) → field_in (may field.string) (maybe a_string o) ≡ Ok (maybe a_string o)
unfolding field_in leaf_in
string_back None = refl
string_back (Some s) = refl

symbol_back : (o : Option (List ℕ)) → field_in (may field.symbol) (maybe a_symbol o) ≡ Ok (maybe a_symbol o)
unfolding field_in leaf_in
symbol_back None = refl
symbol_back (Some s) = refl

address_back : (o : Option (List ℕ)) → field_in (may field.address) (maybe a_string o) ≡ Ok (maybe a_string o)
unfolding field_in leaf_in
address_back None = refl
address_back (Some s) = refl

first_back : (b : Bool) → field_in (field.boolean, a_boolean false) (unless_false b) ≡ Ok (a_boolean b)
unfolding field_in leaf_in
first_back true = refl
first_back false = refl

count_none : field_in (field.uint, a_uint 0) absent ≡ Ok (a_uint 0)
unfolding field_in
count_none = refl

count_there : (n : ℕ) → field_in (field.uint, a_uint 0) (a_uint n) ≡ Ok (a_uint n)
unfolding field_in leaf_in
count_there n = refl

count_back : (n : ℕ) → field_in (field.uint, a_uint 0) (unless_zero n) ≡ Ok (a_uint n)
count_back n = at (eqb n 0) refl
  where
    at : (b : Bool) → eqb n 0 ≡ b → field_in (field.uint, a_uint 0) (cond b absent (a_uint n)) ≡ Ok (a_uint n)
    at true e = count_none ∙ ap (λ (k : ℕ). Ok (a_uint k)) (sym (eqb-true n 0 e))
    at false e = count_there n

id_is : (t : Tree) → IsId t → field_in (may field.id) t ≡ Ok t
unfolding field_in leaf_in
id_is (scalar (value.ulong n)) h = refl
id_is (scalar (value.uuid s)) h = refl
id_is (scalar (value.binary s)) h = refl
id_is (scalar (value.string s)) h = refl
id_is t h = absurd h

id_back : (o : Option Value10) → IfThere IsId (option_map value_tree o) → field_in (may field.id) (maybe value_tree o) ≡ Ok (maybe value_tree o)
unfolding field_in
id_back None h = refl
id_back (Some v) h = id_is (value_tree v) h

-- ---- values of sections

header_is : (h : MsgHeader) → fields_in header_rows 0 (trees_of (header_written h)) ≡ Ok (header_fields h)
header_is h = rw (boolean_back h.durable, ubyte_back h.priority, uint_back h.ttl, first_back h.first_acquirer, count_back h.delivery_count) refl

props_are : (p : MsgProps) → HasIds (Some p) → fields_in properties_rows 0 (trees_of (props_fields p)) ≡ Ok (props_fields p)
props_are p h =
    rw (
      id_back p.message_id h.0,
      binary_back p.user_id,
      address_back p.to,
      string_back p.subject,
      address_back p.reply_to,
      id_back p.correlation_id h.1,
      symbol_back p.content_type,
      symbol_back p.content_encoding,
      timestamp_back p.absolute_expiry_time,
      timestamp_back p.creation_time,
      string_back p.group_id,
      uint_back p.group_sequence,
      string_back p.reply_to_group_id,
    ) refl

abbrev whole_list : Result (List Tree) (Unit {0}) → Result Tree (Unit {0})
whole_list read = read >>= λ xs. Ok (list (trees_of xs))

header_back : (h : MsgHeader) → meaning_in header_section.1 (header_value h) ≡ Ok (header_tree h)
unfolding meaning_in
header_back h =
    ap whole_list (fields_alike header_rows 0 (trees_of (trim (header_written h))) (trees_of (header_written h)) (trimmed_at (header_written h)) ∙ header_is h)

props_back : (p : MsgProps) → HasIds (Some p) → meaning_in properties_section.1 (props_value p) ≡ Ok (props_tree p)
unfolding meaning_in
props_back p h =
    ap whole_list (fields_alike properties_rows 0 (trees_of (trim (props_fields p))) (trees_of (props_fields p)) (trimmed_at (props_fields p)) ∙ props_are p h)

map_back : (ks : Keys) (t : Tree) → IsMapWith (is_key_of ks) t → meaning_in (kind_of ks) t ≡ Ok t
unfolding meaning_in map_with
map_back ks (mapping ps) h = let all : keys_are (is_key_of ks) ps ≡ true = h in rw all refl
map_back ks t h = absurd h

-- ---- what stands where

-- what is spelled between two parts stands there
stands_there : {A : Type 0} (R : A → List ℕ → Type 0) (x : A) (bytes before text rest : List ℕ) (at after : ℕ) → length before ≡ at → at + length text ≡ after
    → bytes ≡ before ++ (text ++ rest) → R x text → StandsAt R x bytes at after
stands_there {A} R x bytes before text rest at after here there parts r =
    let len : length bytes ≡ length before + (length text + length rest) =
    ap length parts ∙ length-append before (text ++ rest) ∙ ap (λ (n : ℕ). length before + n) (length-append text rest) in
    let size : length text ≡ after - at = omega (arith, there) in
    let behind : drop at bytes ≡ text ++ rest = ap (drop at) parts ∙ drop_at before (text ++ rest) at here in
    let cut : take (after - at) (drop at bytes) ≡ text = ap (take (after - at)) behind ∙ take_at text rest (after - at) size in
    (omega (arith, there), omega (arith, here, there, len), subst (R x) (sym cut) r)

spells : (t : Tree) → IsRanged t → HasSpelling t → IsValue t (value_text t)
spells t r h = canonical_is_spelled t (value_text t) (written_is_canonical t r h)

-- a code of one byte, which isn't 0
pub record IsCode (code : ℕ) : Type 0 where
  pub small : code < 2 ^ 64
  pub one : value_text (scalar (ulong code)) ≡ 83 ∷ code ∷ []

code_spells : (code : ℕ) → IsCode code → IsValue (scalar (ulong code)) (83 ∷ code ∷ [])
code_spells code c =
    let short : length (value_text (scalar (ulong code))) ≡ 2 = ap length c.one in
    subst (IsValue (scalar (ulong code))) c.one (spells (scalar (ulong code)) c.small (omega arith, tt, omega (arith, short), omega arith))

section_stands : (s : Section) (t x : Tree) (bytes before rest : List ℕ) (at : ℕ) → IsCode s.0 → length before ≡ at → bytes ≡ before ++ (section_text s.0 t ++ rest)
    → IsRanged t → HasSpelling t → meaning_in s.1 t ≡ Ok x → IsSectionAt s x bytes at (at + length (section_text s.0 t))
section_stands s t x bytes before rest at c here parts ranged h means =
    let size : length (section_text s.0 t) ≡ 3 + length (value_text t) = length-append (0 ∷ 83 ∷ s.0 ∷ []) (value_text t) in
    let len : length bytes ≡ length before + length (section_text s.0 t ++ rest) = ap length parts ∙ length-append before (section_text s.0 t ++ rest) in
    let more : length (section_text s.0 t ++ rest) ≡ length (section_text s.0 t) + length rest = length-append (section_text s.0 t) rest in
    let byte : get_or bytes at 0 ≡ 0 =
    subst (λ (n : ℕ). get_or bytes n 0 ≡ 0) here (ap (λ (b : List ℕ). get_or b (length before) 0) parts ∙ get_or-append_seam before 0 ((83 ∷ s.0 ∷ value_text t) ++ rest) 0) in
    let code_parts : bytes ≡ (before ++ 0 ∷ []) ++ ((83 ∷ s.0 ∷ []) ++ (value_text t ++ rest)) = parts ∙ sym (append_assoc before (0 ∷ []) ((83 ∷ s.0 ∷ value_text t) ++ rest)) in
    let code_from : length (before ++ 0 ∷ []) ≡ at + 1 = length-append before (0 ∷ []) ∙ ap (λ (n : ℕ). n + 1) here in
    let code = stands_there IsValue (scalar (ulong s.0)) bytes (before ++ 0 ∷ []) (83 ∷ s.0 ∷ []) (value_text t ++ rest) (at + 1) (at + 3) code_from (omega arith) code_parts (code_spells s.0 c) in
    let value_parts : bytes ≡ (before ++ 0 ∷ 83 ∷ s.0 ∷ []) ++ (value_text t ++ rest) = parts ∙ sym (append_assoc before (0 ∷ 83 ∷ s.0 ∷ []) (value_text t ++ rest)) in
    let value_from : length (before ++ 0 ∷ 83 ∷ s.0 ∷ []) ≡ at + 3 = length-append before (0 ∷ 83 ∷ s.0 ∷ []) ∙ ap (λ (n : ℕ). n + 3) here in
    let stands = stands_there IsValue t bytes (before ++ 0 ∷ 83 ∷ s.0 ∷ []) (value_text t) rest (at + 3) (at + length (section_text s.0 t)) value_from (omega (arith, size)) value_parts (spells t ranged h) in
    (t, at + 3, (omega (arith, here, len, more, size), byte, code), stands, means)

-- what is written of a section is read so
abbrev IsReadAs : Section → Option Tree → Option Tree → Type 0
IsReadAs s None None = Unit {0}
IsReadAs s None (Some x) = ⊥
IsReadAs s (Some t) None = ⊥
IsReadAs s (Some t) (Some x) = meaning_in s.1 t ≡ Ok x

maybe_stands : (s : Section) (w v : Option Tree) (bytes before rest : List ℕ) (at : ℕ) → IsCode s.0 → length before ≡ at → bytes ≡ before ++ (maybe_text s.0 w ++ rest)
    → IfThere IsRanged w → IfThere HasSpelling w → IsReadAs s w v → IsMaybeAt s v bytes at (at + length (maybe_text s.0 w))
maybe_stands s None None bytes before rest at c here parts ranged h means = omega arith
maybe_stands s None (Some x) bytes before rest at c here parts ranged h means = absurd means
maybe_stands s (Some t) None bytes before rest at c here parts ranged h means = absurd means
maybe_stands s (Some t) (Some x) bytes before rest at c here parts ranged h means = section_stands s t x bytes before rest at c here parts ranged h means

data_stands : (b : Body10) (bytes before : List ℕ) (at : ℕ) → length before ≡ at → bytes ≡ before ++ body_text b → IsData IsRanged b → IsData HasSpelling b → IsBodyAt (Some b) bytes at (at + length (body_text b))
unfolding meaning_in
data_stands (body.Data s) bytes before at here parts ranged h =
    let whole : bytes ≡ before ++ (section_text 117 (a_binary s) ++ []) = parts ∙ ap (λ (t : List ℕ). before ++ t) (sym (append-nil (section_text 117 (a_binary s)))) in
    let one = section_stands data_section (a_binary s) (a_binary s) bytes before [] at (record { small = omega arith; one = refl }) here whole ranged h refl in
    inl (a_binary s ∷ [], (λ none. absurd (cc none)), (at + length (section_text 117 (a_binary s)), one, refl), ap (λ (t : List ℕ). body.Data t) (sym (append-nil s)))
data_stands (body.Text s) bytes before at here parts ranged h = absurd h
data_stands (body.Binary s) bytes before at here parts ranged h = absurd h
data_stands body.Other bytes before at here parts ranged h = absurd h

-- ---- messages

header_read : (o : Option MsgHeader) → IsReadAs header_section (option_map header_value o) (option_map header_tree o)
header_read None = tt
header_read (Some h) = header_back h

props_read : (o : Option MsgProps) → HasIds o → IsReadAs properties_section (option_map props_value o) (option_map props_tree o)
props_read None h = tt
props_read (Some p) h = props_back p h

map_read : (code : ℕ) (ks : Keys) (o : Option Value10) → IfThere (IsMapWith (is_key_of ks)) (option_map value_tree o) → IsReadAs (code, kind_of ks) (option_map value_tree o) (option_map value_tree o)
map_read code ks None h = tt
map_read code ks (Some v) h = map_back ks (value_tree v) h

-- the parts of what is written: the bytes up to the second of three parts
next_before : (before text rest : List ℕ) (bytes : List ℕ) → bytes ≡ before ++ (text ++ rest) → bytes ≡ (before ++ text) ++ rest
next_before before text rest bytes e = e ∙ sym (append_assoc before text rest)

next_from : (before text : List ℕ) (at : ℕ) → length before ≡ at → length (before ++ text) ≡ at + length text
next_from before text at here = length-append before text ∙ ap (λ (n : ℕ). n + length text) here

abbrev all_of : Message10 → ℕ → Sections
all_of m end = record {
  header = option_map header_tree m.header;
  delivery = None;
  annotations = option_map value_tree m.annotations;
  properties = option_map props_tree m.properties;
  application = option_map value_tree m.application;
  body = Some m.body;
  footer = None;
  after = end;
}

-- what is written of a message is a message that says the same
pub is_written : (m : Message10) → HasTypes m → EachWritten IsRanged m → CanBeWritten m → IsMessage (kept_of m) (message_text m)
is_written m types ranged h =
    let bytes = message_text m in
    let a = maybe_text 112 (option_map header_value m.header) in
    let b = maybe_text 114 (option_map value_tree m.annotations) in
    let c = maybe_text 115 (option_map props_value m.properties) in
    let d = maybe_text 116 (option_map value_tree m.application) in
    let e = body_text m.body in
    let from_b = 0 + length a in
    let from_c = from_b + length b in
    let from_d = from_c + length c in
    let from_e = from_d + length d in
    let parts_a : bytes ≡ [] ++ (a ++ (b ++ (c ++ (d ++ e)))) = refl in
    let parts_b : bytes ≡ a ++ (b ++ (c ++ (d ++ e))) = refl in
    let parts_c : bytes ≡ (a ++ b) ++ (c ++ (d ++ e)) = next_before a b (c ++ (d ++ e)) bytes parts_b in
    let parts_d : bytes ≡ ((a ++ b) ++ c) ++ (d ++ e) = next_before (a ++ b) c (d ++ e) bytes parts_c in
    let parts_e : bytes ≡ (((a ++ b) ++ c) ++ d) ++ e = next_before ((a ++ b) ++ c) d e bytes parts_d in
    let before_b : length a ≡ from_b = omega arith in
    let before_c : length (a ++ b) ≡ from_c = next_from a b from_b before_b in
    let before_d : length ((a ++ b) ++ c) ≡ from_d = next_from (a ++ b) c from_c before_c in
    let before_e : length (((a ++ b) ++ c) ++ d) ≡ from_e = next_from ((a ++ b) ++ c) d from_d before_d in
    let end : length bytes ≡ from_e + length e = ap length parts_e ∙ next_from (((a ++ b) ++ c) ++ d) e from_e before_e in
    record {
      sections = all_of m (from_e + length e);
      in_order = record {
        delivery_from = from_b;
        annotations_from = from_b;
        properties_from = from_c;
        application_from = from_d;
        body_from = from_e;
        footer_from = from_e + length e;
        header = maybe_stands header_section (option_map header_value m.header) (option_map header_tree m.header) bytes [] (b ++ (c ++ (d ++ e))) 0 (record { small = omega arith; one = refl }) refl parts_a ranged.0 h.0 (header_read m.header);
        delivery = refl;
        annotations = maybe_stands message_section (option_map value_tree m.annotations) (option_map value_tree m.annotations) bytes a (c ++ (d ++ e)) from_b (record { small = omega arith; one = refl }) before_b parts_b ranged.1 h.1 (map_read 114 keys.Annotations m.annotations types.annotations);
        properties = maybe_stands properties_section (option_map props_value m.properties) (option_map props_tree m.properties) bytes (a ++ b) (d ++ e) from_c (record { small = omega arith; one = refl }) before_c parts_c ranged.2 h.2 (props_read m.properties types.ids);
        application = maybe_stands application_section (option_map value_tree m.application) (option_map value_tree m.application) bytes ((a ++ b) ++ c) e from_d (record { small = omega arith; one = refl }) before_d parts_d ranged.3 h.3 (map_read 116 keys.Strings m.application types.application);
        body = data_stands m.body bytes (((a ++ b) ++ c) ++ d) from_e before_e parts_e ranged.4 h.4;
        footer = refl;
      };
      fills = sym end;
      header = refl;
      annotations = refl;
      properties = refl;
      application = refl;
      body = refl;
    }

-- what is written of a message is read back
pub message_back : (m : Message10) → HasTypes m → EachWritten IsRanged m → CanBeWritten m → message_in (message_text m) ≡ Ok (kept_of m)
message_back m types ranged h = spelled_is_read (message_text m) (kept_of m) (is_written m types ranged h)
