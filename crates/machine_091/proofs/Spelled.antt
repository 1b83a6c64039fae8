-- A content header and a basic.publish that were read are spelled in their frames, and the names in
-- a queue.declare, a basic.consume and a basic.cancel are short strings.
use Rattle.std.proofs.Common.{◌≡◌, ℕ, Bool, true, false, eqb, ◌&&◌, List, [], ◌∷◌, Option, None}
use Rattle.std.proofs.Common.{Some, Result, Ok, Err, refl, sym, ap, subst, ◌∙◌, ◌≤◌, length, arith}
use Rattle.std.proofs.lemmas.Bool.{eqb-true}
use Rattle.wire_base.specs.Bytes.{IsBytes}
use Rattle.wire_base.specs.declared.scan.At.{At}
use Rattle.wire_base.proofs.Laws.{ok_is}
use Rattle.methods_091.specs.Arguments.{Arg}
use Rattle.methods_091.specs.Arguments as arg
use Rattle.methods_091.specs.Grammar.{IsArgs, IsPayload, IsMethod, bits_from}
use Rattle.methods_091.specs.Reading.{method_in}
use Rattle.methods_091.specs.Reading as methods
use Rattle.methods_091.specs.Rows.{Kind, class_of, id_of, shape}
use Rattle.methods_091.specs.Rows as rows_of
use Rattle.methods_091.specs.View.{kind_of, args_of}
use Rattle.methods_091.proofs.KindLaws.{kinds_apart}
use Rattle.methods_091.proofs.MethodLaws as method_laws
use Rattle.content_091.specs.Grammar.{IsProperty, IsMaybe, IsProps, IsHeader, bit_at}
use Rattle.content_091.specs.Grammar as header_grammar
use Rattle.content_091.specs.Properties.{Property, Properties, Parts}
use Rattle.content_091.specs.Reading.{header_in}
use Rattle.content_091.specs.Reading as headers
use Rattle.content_091.specs.Rows.{PropertyKind, Row, rows}
use Rattle.content_091.specs.Rows as kind
use Rattle.content_091.specs.View.{an_octet, a_longlong, a_text, a_table, parts_of}
use Rattle.content_091.specs.declared.reading.HeaderFault.{HeaderFault}
use Rattle.content_091.proofs.HeaderLaws as header_laws
use Rattle.machine_091.specs.Headers.{octet_of, longlong_of, shortstr_of, fields_of, header_of}
use Rattle.machine_091.specs.Ids.{is_of_kind}
use Rattle.machine_091.specs.Methods.{cancel_of, consume_of, publish_of, queue_declare_of, text_at}
use Rattle.machine_091.specs.Writable.{HasShortNames}
use Rattle.machine_091.specs.declared.ids.TheConstants.{BASIC_CANCEL, BASIC_CONSUME, BASIC_PUBLISH}
use Rattle.machine_091.specs.declared.ids.TheConstants.{QUEUE_DECLARE}
use Rattle.machine_091.proofs.IdLaws.{told_is}

-- ---- a content header

-- a property of its kind, or none
abbrev FitsOne : PropertyKind → Option Property → Type 0
FitsOne kind.octet v = an_octet (octet_of v) ≡ v
FitsOne kind.longlong v = a_longlong (longlong_of v) ≡ v
FitsOne kind.shortstr v = a_text (shortstr_of v) ≡ v
FitsOne kind.fields v = a_table (fields_of v) ≡ v

-- the properties of these rows
abbrev Fits : List Row → Properties → Type 0
Fits [] vs = vs ≡ []
Fits (row ∷ others) vs = (v : Option Property) × (rest : Properties) × (vs ≡ v ∷ rest) × FitsOne row.1 v × Fits others rest

none_fits : (k : PropertyKind) → FitsOne k None
none_fits kind.octet = refl
none_fits kind.longlong = refl
none_fits kind.shortstr = refl
none_fits kind.fields = refl

some_fits : (k : PropertyKind) (p : Property) (text : List ℕ) → IsProperty k p text → FitsOne k (Some p)
some_fits kind.octet p text (n, is, spelled) = rw is refl
some_fits kind.longlong p text (n, is, spelled) = rw is refl
some_fits kind.shortstr p text (s, is, spelled) = rw is refl
some_fits kind.fields p text (ms, is, spelled) = rw is refl

one_fits : (b : Bool) (k : PropertyKind) (v : Option Property) (text : List ℕ) → IsMaybe b k v text → FitsOne k v
one_fits true k v text (p, is, spelled) = subst (FitsOne k) (sym is) (some_fits k p text spelled)
one_fits false k v text (is, none) = subst (FitsOne k) (sym is) (none_fits k)

all_fit : (flags : ℕ) (others : List Row) (vs : Properties) (text : List ℕ) → IsProps flags others vs text → Fits others vs
all_fit flags [] vs text (is, none) = is
all_fit flags (row ∷ others) vs text (p, is, (front, back, one, more, split)) =
    (p.0, p.1, is, one_fits (bit_at row.0 flags) row.1 p.0 front one, all_fit flags others p.1 back more)

rebuilt : (n : ℕ) (vs : Properties) → Fits rows vs → parts_of (header_of (n, vs)) ≡ (n, vs)
rebuilt n vs (v0, r0, e0, f0, (v1, r1, e1, f1, (v2, r2, e2, f2, (v3, r3, e3, f3, (v4, r4, e4, f4, (v5, r5, e5, f5, (v6, r6, e6, f6, (v7, r7, e7, f7, (v8, r8, e8, f8, (v9, r9, e9, f9, (v10, r10, e10, f10, (v11, r11, e11, f11, (v12, r12, e12, f12, (v13, r13, e13, f13, none)))))))))))))) =
    let is : vs ≡ v0 ∷ v1 ∷ v2 ∷ v3 ∷ v4 ∷ v5 ∷ v6 ∷ v7 ∷ v8 ∷ v9 ∷ v10 ∷ v11 ∷ v12 ∷ v13 ∷ [] =
    e0 ∙ ap (λ (xs : Properties). v0 ∷ xs) (e1 ∙ ap (λ (xs : Properties). v1 ∷ xs) (e2 ∙ ap (λ (xs : Properties). v2 ∷ xs) (e3 ∙ ap (λ (xs : Properties). v3 ∷ xs) (e4 ∙ ap (λ (xs : Properties). v4 ∷ xs) (e5 ∙ ap (λ (xs : Properties). v5 ∷ xs) (e6 ∙ ap (λ (xs : Properties). v6 ∷ xs) (e7 ∙ ap (λ (xs : Properties). v7 ∷ xs) (e8 ∙ ap (λ (xs : Properties). v8 ∷ xs) (e9 ∙ ap (λ (xs : Properties). v9 ∷ xs) (e10 ∙ ap (λ (xs : Properties). v10 ∷ xs) (e11 ∙ ap (λ (xs : Properties). v11 ∷ xs) (e12 ∙ ap (λ (xs : Properties). v12 ∷ xs) (e13 ∙ ap (λ (xs : Properties). v13 ∷ xs) (none)))))))))))))) in
    subst (λ (xs : Properties). parts_of (header_of (n, xs)) ≡ (n, xs)) (sym is)
    (rw (f0, f1, f2, f3, f4, f5, f6, f7, f8, f9, f10, f11, f12, f13) refl)

told_header : (r : Result (Result Parts (At HeaderFault)) ℕ) (p : Parts) → headers.told r ≡ Ok p → r ≡ Ok (Ok p)
told_header (Ok (Ok x)) p e = ap (λ (y : Parts). Ok (Ok y)) (ok_is {F = At HeaderFault} x p e)
told_header (Ok (Err x)) p e = absurd cc
told_header (Err at) p e = absurd cc

pub header_spelled : (bytes : List ℕ) (p : Parts) → IsBytes bytes → header_in bytes ≡ Ok p → IsHeader (header_of p) bytes
header_spelled bytes p fits e =
    let spelled = header_laws.read_is_spelled bytes p fits (told_header (headers.payload_in bytes) p e) in
    subst (λ (q : Parts). header_grammar.IsPayload q bytes) (sym (rebuilt p.0 p.1 (by spelled))) spelled
  where
    by : header_grammar.IsPayload p bytes → Fits rows p.1
    by (flags, head, properties, are, is, props, split) = all_fit flags rows p.1 properties props

-- ---- the ids of a method

-- those of a kind are its own alone
kind_has_ids : (j k : Kind) → is_of_kind (class_of j, id_of j) k ≡ true → k ≡ j
kind_has_ids j k e = kinds_apart k j (first (eqb (class_of k) (class_of j)) refl e) (second (eqb (class_of k) (class_of j)) (eqb (id_of k) (id_of j)) refl e)
  where
    first : (b : Bool) → eqb (class_of k) (class_of j) ≡ b → (b && eqb (id_of k) (id_of j)) ≡ true → class_of k ≡ class_of j
    first true z e = eqb-true (class_of k) (class_of j) z
    first false z e = absurd cc

    second : (b d : Bool) → eqb (id_of k) (id_of j) ≡ d → (b && d) ≡ true → id_of k ≡ id_of j
    second true true z e = eqb-true (id_of k) (id_of j) z
    second true false z e = absurd cc
    second false d z e = absurd cc

-- the bytes of a method that was read spell it
read_spelled : (j : Kind) (bytes : List ℕ) (k : Kind) (args : List Arg) → IsBytes bytes → method_in bytes ≡ Ok (k, args) → is_of_kind (class_of j, id_of j) k ≡ true
    → IsPayload (j, args) bytes
read_spelled j bytes k args fits e is =
    let read : methods.payload_in bytes ≡ Ok (Some (k, args)) = told_is (methods.payload_in bytes) (k, args) e in
    subst (λ (i : Kind). IsPayload (i, args) bytes) (kind_has_ids j k is) (method_laws.read_is_spelled bytes (k, args) fits read)

-- ---- a basic.publish

-- its kind
abbrev pub publishes : Kind
publishes = kind_of (publish_of [])

-- its ids are those of its kind alone
pub publish_kind : (k : Kind) → is_of_kind BASIC_PUBLISH k ≡ true → k ≡ publishes
publish_kind k e = kind_has_ids publishes k e

-- its arguments
abbrev four : List ℕ → List ℕ → ℕ → List Arg
four exchange key n =
    arg.reserved rows_of.short ∷ arg.shortstr exchange ∷ arg.shortstr key ∷ arg.bits (bits_from 0 2 n) ∷ []

publish_args : (args : List Arg) (text : List ℕ) → IsArgs (shape publishes) args text → args_of (publish_of args) ≡ args
publish_args args text (x, e, (f, b, (y, r, s), (x2, e2, (f2, b2, (y2, r2, s2), (x3, e3, (f3, b3, (y3, r3, s3), (x4, e4, (f4, b4, (y4, r4, s4), (none, empty), t4)), t3)), t2)), t)) =
    let is : args ≡ four y2 y3 y4 =
    e ∙ ap (λ (a : Arg). a ∷ x.1) r
    ∙ ap (λ (xs : List Arg). arg.reserved rows_of.short ∷ xs)
    (e2 ∙ ap (λ (a : Arg). a ∷ x2.1) r2
    ∙ ap (λ (xs : List Arg). arg.shortstr y2 ∷ xs)
    (e3 ∙ ap (λ (a : Arg). a ∷ x3.1) r3
    ∙ ap (λ (xs : List Arg). arg.shortstr y3 ∷ xs) (e4 ∙ ap (λ (a : Arg). a ∷ x4.1) r4 ∙ ap (λ (xs : List Arg). arg.bits (bits_from 0 2 y4) ∷ xs) none))) in
    subst (λ (xs : List Arg). args_of (publish_of xs) ≡ xs) (sym is) refl

pub publish_spelled : (bytes : List ℕ) (k : Kind) (args : List Arg) → IsBytes bytes → method_in bytes ≡ Ok (k, args) → is_of_kind BASIC_PUBLISH k ≡ true
    → IsMethod (publish_of args) bytes
publish_spelled bytes k args fits e publish =
    let spelled : IsPayload (publishes, args) bytes = read_spelled publishes bytes k args fits e publish in
    subst (λ (xs : List Arg). IsPayload (publishes, xs) bytes) (sym (publish_args args spelled.0 spelled.1)) spelled

-- ---- a queue.declare

-- its kind
abbrev declares : Kind
declares = kind_of (queue_declare_of [])

-- the name among its arguments
declare_name : (args : List Arg) (text : List ℕ) → IsArgs (shape declares) args text → HasShortNames (queue_declare_of args)
declare_name args text (x, e, (f, b, (y, r, s), (x2, e2, (f2, b2, (y2, r2, s2), others, t2)), t)) =
    let is : args ≡ arg.reserved rows_of.short ∷ arg.shortstr y2 ∷ x2.1 =
    e ∙ ap (λ (a : Arg). a ∷ x.1) r ∙ ap (λ (xs : List Arg). arg.reserved rows_of.short ∷ xs) (e2 ∙ ap (λ (a : Arg). a ∷ x2.1) r2) in
    subst (λ (xs : List Arg). length (text_at 1 xs) ≤ 255) (sym is) (omega (arith, s2.0))

pub declare_short : (bytes : List ℕ) (k : Kind) (args : List Arg) → IsBytes bytes → method_in bytes ≡ Ok (k, args) → is_of_kind QUEUE_DECLARE k ≡ true
    → HasShortNames (queue_declare_of args)
declare_short bytes k args fits e declare =
    let spelled : IsPayload (declares, args) bytes = read_spelled declares bytes k args fits e declare in
    declare_name args spelled.0 spelled.1

-- ---- a basic.consume

-- its kind
abbrev consumes : Kind
consumes = kind_of (consume_of [])

-- the names among its arguments
consume_names : (args : List Arg) (text : List ℕ) → IsArgs (shape consumes) args text → HasShortNames (consume_of args)
consume_names args text (x, e, (f, b, (y, r, s), (x2, e2, (f2, b2, (y2, r2, s2), (x3, e3, (f3, b3, (y3, r3, s3), others, t3)), t2)), t)) =
    let is : args ≡ arg.reserved rows_of.short ∷ arg.shortstr y2 ∷ arg.shortstr y3 ∷ x3.1 =
    e ∙ ap (λ (a : Arg). a ∷ x.1) r
    ∙ ap (λ (xs : List Arg). arg.reserved rows_of.short ∷ xs)
    (e2 ∙ ap (λ (a : Arg). a ∷ x2.1) r2 ∙ ap (λ (xs : List Arg). arg.shortstr y2 ∷ xs) (e3 ∙ ap (λ (a : Arg). a ∷ x3.1) r3)) in
    subst (λ (xs : List Arg). (length (text_at 1 xs) ≤ 255) × (length (text_at 2 xs) ≤ 255)) (sym is) (omega (arith, s2.0), omega (arith, s3.0))

pub consume_short : (bytes : List ℕ) (k : Kind) (args : List Arg) → IsBytes bytes → method_in bytes ≡ Ok (k, args) → is_of_kind BASIC_CONSUME k ≡ true
    → HasShortNames (consume_of args)
consume_short bytes k args fits e consume =
    let spelled : IsPayload (consumes, args) bytes = read_spelled consumes bytes k args fits e consume in
    consume_names args spelled.0 spelled.1

-- ---- a basic.cancel

-- its kind
abbrev cancels : Kind
cancels = kind_of (cancel_of [])

-- the tag among its arguments
cancel_tag : (args : List Arg) (text : List ℕ) → IsArgs (shape cancels) args text → HasShortNames (cancel_of args)
cancel_tag args text (x, e, (f, b, (y, r, s), others, t)) =
    let is : args ≡ arg.shortstr y ∷ x.1 = e ∙ ap (λ (a : Arg). a ∷ x.1) r in
    subst (λ (xs : List Arg). length (text_at 0 xs) ≤ 255) (sym is) (omega (arith, s.0))

pub cancel_short : (bytes : List ℕ) (k : Kind) (args : List Arg) → IsBytes bytes → method_in bytes ≡ Ok (k, args) → is_of_kind BASIC_CANCEL k ≡ true
    → HasShortNames (cancel_of args)
cancel_short bytes k args fits e cancel =
    let spelled : IsPayload (cancels, args) bytes = read_spelled cancels bytes k args fits e cancel in
    cancel_tag args spelled.0 spelled.1
