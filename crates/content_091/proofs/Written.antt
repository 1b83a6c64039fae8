-- What is written is in the grammar, and what is spelled can be written.
use Rattle.std.proofs.Common.{◌≡◌, ℕ, ◌+◌, ◌*◌, ◌^◌, ◌<◌, Bool, true, false, List, [], ◌∷◌, ◌++◌}
use Rattle.std.proofs.Common.{Option, Some, None, Ok, append_assoc, refl, sym, ap, subst, ◌∙◌}
use Rattle.std.proofs.Common.{arith}
use Rattle.std.specs.Int.{w16, w64, to_be_bytes}
use Rattle.tables_091.specs.Tree.{Tree}
use Rattle.tables_091.proofs.Written as tables
use Rattle.tables_091.proofs.Writable.{spelled_is_writable}
use Rattle.content_091.specs.Rows.{PropertyKind, Row, later_rows, rows}
use Rattle.content_091.specs.Rows as kind
use Rattle.content_091.specs.Properties.{Property, Properties}
use Rattle.content_091.specs.Properties as property
use Rattle.content_091.specs.View.{an_octet, a_longlong, a_text, a_table, later_of, props_of}
use Rattle.content_091.specs.View.{parts_of}
use Rattle.content_091.specs.Grammar.{bit_at, IsProperty, IsMaybe, IsProps, IsHead, basic, AreFlags}
use Rattle.content_091.specs.Grammar.{IsHeader}
use Rattle.content_091.specs.Reading.{told, header_in}
use Rattle.content_091.specs.Writing.{flags_of, property_text, maybe_text, earlier_text, later_text}
use Rattle.content_091.specs.Writing.{head_text, props_text, header_text, CanPutOne, CanPutAll}
use Rattle.content_091.specs.Writing.{CanPut, IsInRange, AreInRange, HasRanges}
use Rattle.content_091.specs.declared.header.Props.{Props}
use Rattle.content_091.specs.declared.header.Header91.{Header91}
use Rattle.content_091.proofs.Flags.{Descend, is_there, there, flags_below, flags_by_four, bit_is}
use Rattle.content_091.proofs.Flags.{split_next}
use Rattle.content_091.proofs.HeaderLaws.{header_is_read}

-- ---- properties of the kinds of their rows

abbrev HasKind : PropertyKind → Option Property → Type 0
HasKind k None = Unit {0}
HasKind kind.octet (Some (property.octet n)) = Unit {0}
HasKind kind.octet (Some (property.longlong n)) = ⊥
HasKind kind.octet (Some (property.shortstr s)) = ⊥
HasKind kind.octet (Some (property.fields ms)) = ⊥
HasKind kind.longlong (Some (property.octet n)) = ⊥
HasKind kind.longlong (Some (property.longlong n)) = Unit {0}
HasKind kind.longlong (Some (property.shortstr s)) = ⊥
HasKind kind.longlong (Some (property.fields ms)) = ⊥
HasKind kind.shortstr (Some (property.octet n)) = ⊥
HasKind kind.shortstr (Some (property.longlong n)) = ⊥
HasKind kind.shortstr (Some (property.shortstr s)) = Unit {0}
HasKind kind.shortstr (Some (property.fields ms)) = ⊥
HasKind kind.fields (Some (property.octet n)) = ⊥
HasKind kind.fields (Some (property.longlong n)) = ⊥
HasKind kind.fields (Some (property.shortstr s)) = ⊥
HasKind kind.fields (Some (property.fields ms)) = Unit {0}

abbrev HaveKinds : List Row → Properties → Type 0
HaveKinds [] [] = Unit {0}
HaveKinds [] (v ∷ vs) = ⊥
HaveKinds (row ∷ others) [] = ⊥
HaveKinds (row ∷ others) (v ∷ vs) = HasKind row.1 v × HaveKinds others vs

octet_kind : (n : Option ℕ) → HasKind kind.octet (an_octet n)
octet_kind None = tt
octet_kind (Some n) = tt

longlong_kind : (n : Option ℕ) → HasKind kind.longlong (a_longlong n)
longlong_kind None = tt
longlong_kind (Some n) = tt

text_kind : (s : Option (List ℕ)) → HasKind kind.shortstr (a_text s)
text_kind None = tt
text_kind (Some s) = tt

table_kind : (ms : Option (List (List ℕ × Tree))) → HasKind kind.fields (a_table ms)
table_kind None = tt
table_kind (Some ms) = tt

props_kinds : (p : Props) → HaveKinds rows (props_of p)
props_kinds p =
    let later : HaveKinds later_rows (later_of p) =
    (text_kind p.expiration, (text_kind p.message_id, (longlong_kind p.timestamp, (text_kind p.kind, (text_kind p.user_id, (text_kind p.app_id, (text_kind p.cluster_id, tt))))))) in
    (text_kind p.content_type, (text_kind p.content_encoding, (table_kind p.headers, (octet_kind p.delivery_mode, (octet_kind p.priority, (text_kind p.correlation_id, (text_kind p.reply_to, later)))))))

-- ---- what is written is spelled

property_written : (k : PropertyKind) (v : Property) → HasKind k (Some v) → CanPutOne (Some v) → IsInRange (Some v) → IsProperty k v (property_text v)
property_written kind.octet (property.octet n) is can fits = (n, refl, (fits, refl))
property_written kind.octet (property.longlong n) is can fits = absurd is
property_written kind.octet (property.shortstr s) is can fits = absurd is
property_written kind.octet (property.fields ms) is can fits = absurd is
property_written kind.longlong (property.octet n) is can fits = absurd is
property_written kind.longlong (property.longlong n) is can fits = (n, refl, (fits, refl))
property_written kind.longlong (property.shortstr s) is can fits = absurd is
property_written kind.longlong (property.fields ms) is can fits = absurd is
property_written kind.shortstr (property.octet n) is can fits = absurd is
property_written kind.shortstr (property.longlong n) is can fits = absurd is
property_written kind.shortstr (property.shortstr s) is can fits = (s, refl, (omega (arith, can), refl))
property_written kind.shortstr (property.fields ms) is can fits = absurd is
property_written kind.fields (property.octet n) is can fits = absurd is
property_written kind.fields (property.longlong n) is can fits = absurd is
property_written kind.fields (property.shortstr s) is can fits = absurd is
property_written kind.fields (property.fields ms) is can fits = (ms, refl, tables.written_is_spelled ms can fits)

maybe_written : (k : PropertyKind) (v : Option Property) → HasKind k v → CanPutOne v → IsInRange v → IsMaybe (is_there v) k v (maybe_text v)
unfolding maybe_text
maybe_written k None is can fits = (refl, refl)
maybe_written k (Some v) is can fits = (v, refl, property_written k v is can fits)

-- the properties of rows that go down from a bit on, where the flags above it are any
props_written : (flags high top : ℕ) (others : List Row) (vs : Properties) → Descend top others → HaveKinds others vs → CanPutAll vs → AreInRange vs
    → flags ≡ high * 2 ^ top + flags_of others vs → IsProps flags others vs (props_text vs)
props_written flags high top [] [] d is can fits sum = (refl, refl)
props_written flags high top [] (v ∷ vs) d is can fits sum = absurd is
props_written flags high top (row ∷ others) [] d is can fits sum = absurd is
props_written flags high top (row ∷ others) (v ∷ vs) d is can fits sum =
    let low = flags_of others vs in
    let split = split_next flags high top row.0 low v d.0 (flags_below row.0 others vs d.1) sum in
    let set = bit_is flags high row.0 low v split in
    let first : IsMaybe (bit_at row.0 flags) row.1 v (maybe_text v) =
    subst (λ (b : Bool). IsMaybe b row.1 v (maybe_text v)) (sym set) (maybe_written row.1 v is.0 can.0 fits.0) in
    let later = props_written flags (2 * high + there v) row.0 others vs d.1 is.1 can.1 fits.1 split.0 in
    ((v, vs), refl, (maybe_text v, props_text vs, first, later, refl))

rows_descend : Descend 16 rows
rows_descend = (refl, (refl, (refl, (refl, (refl, (refl, (refl, (refl, (refl, (refl, (refl, (refl, (refl, (refl, refl))))))))))))))

-- the properties as they are written
parts_text : (p : Props) → props_text (props_of p) ≡ earlier_text p ++ later_text p
unfolding earlier_text later_text
parts_text p = simp append_assoc

pub written_is_spelled : (h : Header91) → CanPut h → HasRanges h → IsHeader h (header_text h)
unfolding head_text
written_is_spelled h can fits =
    let vs = props_of h.props in
    let flags = flags_of rows vs in
    let by_four = flags_by_four 16 rows vs rows_descend in
    let none : AreFlags flags = omega (arith, by_four.1) in
    let below : flags < 2 ^ 16 = flags_below 16 rows vs rows_descend in
    let ids = to_be_bytes w16 basic ++ to_be_bytes w16 0 in
    let sized = ids ++ to_be_bytes w64 h.size in
    let head : IsHead (((basic, 0), h.size), flags) (sized ++ to_be_bytes w16 flags) = (
      sized,
      to_be_bytes w16 flags,
      (ids, to_be_bytes w64 h.size, (to_be_bytes w16 basic, to_be_bytes w16 0, (omega arith, refl), (omega arith, refl), refl), (fits.0, refl), refl),
      (below, refl),
      refl,
    ) in (
      flags,
      sized ++ to_be_bytes w16 flags,
      props_text vs,
      none,
      head,
      props_written flags 0 16 rows vs rows_descend (props_kinds h.props) can fits.1 (omega arith),
      ap (λ (t : List ℕ). (sized ++ to_be_bytes w16 flags) ++ t) (sym (parts_text h.props)),
    )

pub written_is_read : (h : Header91) → CanPut h → HasRanges h → header_in (header_text h) ≡ Ok (parts_of h)
written_is_read h can fits = ap told (header_is_read h (header_text h) (written_is_spelled h can fits))

-- ---- what is spelled can be written

property_writable : (k : PropertyKind) (v : Property) (text : List ℕ) → IsProperty k v text → CanPutOne (Some v)
property_writable kind.octet v text h = subst (λ (w : Property). CanPutOne (Some w)) (sym h.1) tt
property_writable kind.longlong v text h = subst (λ (w : Property). CanPutOne (Some w)) (sym h.1) tt
property_writable kind.shortstr v text h = subst (λ (w : Property). CanPutOne (Some w)) (sym h.1) (omega (arith, h.2.0))
property_writable kind.fields v text h = subst (λ (w : Property). CanPutOne (Some w)) (sym h.1) (spelled_is_writable h.0 text h.2)

maybe_writable : (b : Bool) (k : PropertyKind) (v : Option Property) (text : List ℕ) → IsMaybe b k v text → CanPutOne v
maybe_writable true k v text h = subst CanPutOne (sym h.1) (property_writable k h.0 text h.2)
maybe_writable false k v text h = subst CanPutOne (sym h.0) tt

props_writable : (flags : ℕ) (others : List Row) (vs : Properties) (text : List ℕ) → IsProps flags others vs text → CanPutAll vs
props_writable flags [] vs text h = subst CanPutAll (sym h.0) tt
props_writable flags (row ∷ others) vs text h =
    subst CanPutAll (sym h.1)
    (maybe_writable (bit_at row.0 flags) row.1 h.0.0 h.2.0 h.2.2, props_writable flags others h.0.1 h.2.1 h.2.3)

pub header_writable : (h : Header91) (bytes : List ℕ) → IsHeader h bytes → CanPut h
header_writable h bytes (flags, front, properties, even, spelled, props, parts) =
    props_writable flags rows (props_of h.props) properties props

-- ---- a head, put together from its parts

four_parts : (out a b c d p q r s : List ℕ) → p ≡ out ++ a → q ≡ p ++ b → r ≡ q ++ c → s ≡ r ++ d → s ≡ out ++ (a ++ (b ++ (c ++ d)))
four_parts out a b c d p q r s h i j k =
    k ∙ ap (λ (t : List ℕ). t ++ d) (j ∙ ap (λ (t : List ℕ). t ++ c) (i ∙ ap (λ (t : List ℕ). t ++ b) h)) ∙ simp append_assoc

pub head_written : (class weight size flags : ℕ) (out p q r s : List ℕ) → p ≡ out ++ to_be_bytes w16 class → q ≡ p ++ to_be_bytes w16 weight
    → r ≡ q ++ to_be_bytes w64 size → s ≡ r ++ to_be_bytes w16 flags → s ≡ out ++ head_text class weight size flags
unfolding head_text
head_written class weight size flags out p q r s h i j k =
    four_parts out (to_be_bytes w16 class) (to_be_bytes w16 weight) (to_be_bytes w64 size) (to_be_bytes w16 flags) p q r s h i j k
