-- A content header is read exactly where bytes spell it.
use Rattle.std.proofs.Common.{◌≡◌, ℕ, ◌%◌, ◌≤◌, Bool, true, false, cond, eqb, ltb, List, [], ◌∷◌}
use Rattle.std.proofs.Common.{◌++◌, length, take, drop, Option, Some, None, Result, Ok, Err, refl}
use Rattle.std.proofs.Common.{sym, ap, subst, ◌∙◌, arith}
use Rattle.std.proofs.lemmas.Bool.{ltb-false, le-ltb, eqb-true}
use Rattle.std.proofs.lemmas.List.{append-nil, length-append, length-drop}
use Rattle.std.specs.Int.{w16, w64, from_be_bytes}
use Rattle.wire_base.specs.Bytes.{IsBytes}
use Rattle.wire_base.specs.Reading.{◌>>=◌}
use Rattle.wire_base.specs.declared.scan.At.{At}
use Rattle.wire_base.proofs.Laws.{bind_is, ok_is}
use Rattle.content_091.specs.Rows.{rows}
use Rattle.content_091.specs.Properties.{Properties, Parts}
use Rattle.content_091.specs.Grammar.{IsProps, Head, IsHead, basic, IsPayload, IsHeader}
use Rattle.content_091.specs.Reading.{props_in, numbers_in, head_fault, nothing_in, all_in}
use Rattle.content_091.specs.Reading.{behind_in, payload_in}
use Rattle.content_091.specs.Faults.{HasHead}
use Rattle.content_091.specs.View.{parts_of}
use Rattle.content_091.specs.declared.header.Header91.{Header91}
use Rattle.content_091.specs.declared.reading.HeaderFault.{HeaderFault}
use Rattle.content_091.specs.declared.reading.HeaderFault.TheVariants as fault
use Rattle.content_091.proofs.PropertyLaws.{something_is, props_reader, head_reader}
use Rattle.content_091.proofs.Rebuilding.{same_parts}

-- ---- heads

-- a head has fourteen bytes
fourteen : (head : Head) (front : List ℕ) → IsHead head front → length front ≡ 14
fourteen head front (before, flags, (ids, size, (class, weight, h, j, k), l, m), n, o) =
    omega (
      arith,
      ap length o,
      length-append before flags,
      ap length n.1,
      ap length m,
      length-append ids size,
      ap length l.1,
      ap length k,
      length-append class weight,
      ap length h.1,
      ap length j.1,
    )

-- what is read behind a head
pub headed : (head : Head) (bytes rest : List ℕ) → HasHead head bytes rest
    → payload_in bytes ≡ behind_in (head_fault head) head (length bytes) rest
headed head bytes rest (front, spelled, parts) =
    let long : ltb (length bytes) 14 ≡ false =
    le-ltb _ _ (omega (arith, ap length parts, length-append front rest, fourteen head front spelled)) in
    let read : numbers_in (length bytes) bytes ≡ Ok (head, rest) =
    ap (numbers_in (length bytes)) parts ∙ head_reader.again (length bytes) head front rest spelled in
    rw (long, read) refl

pub rest_fits : (head : Head) (bytes rest : List ℕ) → IsBytes bytes → HasHead head bytes rest → IsBytes rest
rest_fits head bytes rest fits (front, spelled, parts) =
    let read : numbers_in (length bytes) bytes ≡ Ok (head, rest) =
    ap (numbers_in (length bytes)) parts ∙ head_reader.again (length bytes) head front rest spelled in
    (head_reader.finds (length bytes) bytes (head, rest) fits read).rest_fits

-- fourteen bytes begin with a head
numbers_there : (end : ℕ) (bytes : List ℕ) → 14 ≤ length bytes → (x : Head × List ℕ) × (numbers_in end bytes ≡ Ok x)
numbers_there end bytes long =
    let second = drop 2 bytes in
    let third = drop 2 (drop 2 bytes) in
    let fourth = drop 8 (drop 2 (drop 2 bytes)) in
    let a : ltb (length bytes) 2 ≡ false = le-ltb _ _ (omega arith) in
    let b : ltb (length (drop 2 bytes)) 2 ≡ false = le-ltb _ _ (omega (arith, long, length-drop 2 bytes)) in
    let c : ltb (length (drop 2 (drop 2 bytes))) 8 ≡ false =
    le-ltb _ _ (omega (arith, long, length-drop 2 bytes, length-drop 2 (drop 2 bytes))) in
    let d : ltb (length (drop 8 (drop 2 (drop 2 bytes)))) 2 ≡ false =
    le-ltb _ _ (omega (arith, long, length-drop 2 bytes, length-drop 2 (drop 2 bytes), length-drop 8 (drop 2 (drop 2 bytes)))) in (
      ((((from_be_bytes w16 (take 2 bytes), from_be_bytes w16 (take 2 second)), from_be_bytes w64 (take 8 third)), from_be_bytes w16 (take 2 fourth)), drop 2 fourth),
      rw (a, b, c, d) refl,
    )

pub has_head : (bytes : List ℕ) → IsBytes bytes → 14 ≤ length bytes → (head : Head) × (rest : List ℕ) × HasHead head bytes rest × IsBytes rest
has_head bytes fits long =
    let x = numbers_there (length bytes) bytes long in
    let f = head_reader.finds (length bytes) bytes x.0 fits x.1 in
    (x.0.0, x.0.1, (f.front, f.spelled, f.parts), f.rest_fits)

-- ---- what is read is spelled so

-- properties behind which nothing is left
nothing_left : (end : ℕ) (text : List ℕ) (x : Unit {0} × List ℕ) → nothing_in end text ≡ Ok x → text ≡ []
nothing_left end [] x e = refl
nothing_left end (b ∷ rest) x e = absurd (cc (something_is end b rest, e))

all_spelled : (flags end : ℕ) (text : List ℕ) (x : (Properties × Unit {0}) × List ℕ) → IsBytes text → all_in flags end text ≡ Ok x
    → IsProps flags rows x.0.0 text
all_spelled flags end text x fits e =
    let a = bind_is (props_in flags rows end text) (λ a. nothing_in end a.1 >>= λ b. Ok ((a.0, b.0), b.1)) x e in
    let b = bind_is (nothing_in end a.0.1) (λ b. Ok ((a.0.0, b.0), b.1)) x a.2 in
    let f = (props_reader flags rows).finds end text a.0 fits a.1 in
    let front : text ≡ f.front =
    f.parts ∙ ap (λ (rest : List ℕ). f.front ++ rest) (nothing_left end a.0.1 b.0 b.1) ∙ append-nil f.front in
    let same : a.0.0 ≡ x.0.0 =
    ap (λ (y : (Properties × Unit {0}) × List ℕ). y.0.0) (ok_is {F = ℕ} ((a.0.0, b.0.0), b.0.1) x b.2) in
    subst (λ (vs : Properties). IsProps flags rows vs text) same (subst (λ (t : List ℕ). IsProps flags rows a.0.0 t) (sym front) f.spelled)

-- behind a head without fault
whole_spelled : (class weight size flags : ℕ) (bytes rest : List ℕ) (p : Parts) → HasHead (((class, weight), size), flags) bytes rest → IsBytes rest
    → class ≡ basic → weight ≡ 0 → flags % 4 ≡ 0 → behind_in None (((class, weight), size), flags) (length bytes) rest ≡ Ok (Ok p) → IsPayload p bytes
whole_spelled class weight size flags bytes rest p (front, spelled, parts) fits is_basic is_zero even e =
    let x = bind_is (all_in flags (length bytes) rest) (λ x. Ok (Ok (size, x.0.0))) (Ok p) e in
    let same : (size, x.0.0.0) ≡ p = cc x.2 in
    let head : IsHead (((basic, 0), size), flags) front =
    subst (λ (c : ℕ). IsHead (((c, 0), size), flags) front) is_basic (subst (λ (w : ℕ). IsHead (((class, w), size), flags) front) is_zero spelled) in
    subst (λ (q : Parts). IsPayload q bytes) same (flags, front, rest, even, head, all_spelled flags (length bytes) rest x.0 fits x.1, parts)

-- behind a head that may have a fault
head_spelled : (class weight size flags : ℕ) (bytes rest : List ℕ) (p : Parts) → HasHead (((class, weight), size), flags) bytes rest → IsBytes rest
    → behind_in (head_fault (((class, weight), size), flags)) (((class, weight), size), flags) (length bytes) rest ≡ Ok (Ok p) → IsPayload p bytes
head_spelled class weight size flags bytes rest p has fits = by_class (eqb class basic) refl
  where
    read : Option (At HeaderFault) → Result (Result Parts (At HeaderFault)) ℕ
    read fault = behind_in fault (((class, weight), size), flags) (length bytes) rest

    by_flags : (t : Bool) → eqb (flags % 4) 0 ≡ t → class ≡ basic → weight ≡ 0
        → read (cond t None (Some (record { fault = fault.Flags; at = 12 }))) ≡ Ok (Ok p) → IsPayload p bytes
    by_flags true t is_basic is_zero e =
        whole_spelled class weight size flags bytes rest p has fits is_basic is_zero (eqb-true _ _ t) e
    by_flags false t is_basic is_zero e = absurd (cc e)

    by_weight : (t : Bool) → eqb weight 0 ≡ t → class ≡ basic
        → read (cond t (cond (eqb (flags % 4) 0) None (Some (record { fault = fault.Flags; at = 12 }))) (Some (record { fault = fault.Class; at = 2 }))) ≡ Ok (Ok p)
        → IsPayload p bytes
    by_weight true t is_basic e = by_flags (eqb (flags % 4) 0) refl is_basic (eqb-true _ _ t) e
    by_weight false t is_basic e = absurd (cc e)

    by_class : (t : Bool) → eqb class basic ≡ t
        → read (cond t (cond (eqb weight 0) (cond (eqb (flags % 4) 0) None (Some (record { fault = fault.Flags; at = 12 }))) (Some (record { fault = fault.Class; at = 2 }))) (Some (record { fault = fault.Class; at = 0 }))) ≡ Ok (Ok p)
        → IsPayload p bytes
    by_class true t e = by_weight (eqb weight 0) refl (eqb-true _ _ t) e
    by_class false t e = absurd (cc e)

pub read_is_spelled : (bytes : List ℕ) (p : Parts) → IsBytes bytes → payload_in bytes ≡ Ok (Ok p) → IsPayload p bytes
read_is_spelled bytes p fits e = by_length (ltb (length bytes) 14) refl
  where
    by_length : (t : Bool) → ltb (length bytes) 14 ≡ t → IsPayload p bytes
    by_length true t = absurd (cc (cut t, e))
      where
        cut : ltb (length bytes) 14 ≡ true → payload_in bytes ≡ Err (length bytes)
        cut t = rw t refl
    by_length false t =
        let h = has_head bytes fits (ltb-false _ _ t) in
        head_spelled h.0.0.0.0 h.0.0.0.1 h.0.0.1 h.0.1 bytes h.1 p h.2 h.3 (sym (headed h.0 bytes h.1 h.2) ∙ e)

-- ---- what is spelled so is read

pub spelled_is_read : (bytes : List ℕ) (p : Parts) → IsPayload p bytes → payload_in bytes ≡ Ok (Ok p)
spelled_is_read bytes p (flags, front, properties, even, spelled, props, parts) =
    let end = length bytes in
    let read : props_in flags rows end properties ≡ Ok (p.1, []) =
    ap (props_in flags rows end) (sym (append-nil properties)) ∙ (props_reader flags rows).again end p.1 properties [] props in
    headed (((basic, 0), p.0), flags) bytes properties (front, spelled, parts) ∙ rw (even, read) refl

-- ---- headers

pub header_is_read : (h : Header91) (bytes : List ℕ) → IsHeader h bytes → payload_in bytes ≡ Ok (Ok (parts_of h))
header_is_read h bytes spelled = spelled_is_read bytes (parts_of h) spelled

-- what was read is the one header that the bytes spell
pub read_is : (h i : Header91) (bytes : List ℕ) → payload_in bytes ≡ Ok (Ok (parts_of h)) → IsHeader i bytes → h ≡ i
read_is h i bytes e spelled =
    let same : parts_of h ≡ parts_of i = cc (e, header_is_read i bytes spelled) in
    same_parts h i same

-- bytes spell at most one header
pub one_header : (h i : Header91) (bytes : List ℕ) → IsHeader h bytes → IsHeader i bytes → h ≡ i
one_header h i bytes j k = read_is h i bytes (header_is_read h bytes j) k
