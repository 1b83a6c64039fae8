-- The answers of a reading of methods, in the words of the grammar.
use Rattle.std.proofs.Common.{◌≡◌, ◌↔◌, ℕ, ◌-◌, ◌/◌, ◌%◌, ltb, false, List, [], ◌∷◌, length, take}
use Rattle.std.proofs.Common.{drop, get_or, Option, Some, None, Result, Ok, Err, IfOk, IfErr, refl}
use Rattle.std.proofs.Common.{sym, ap, subst, ◌∙◌, inl, inr, arith}
use Rattle.std.proofs.lemmas.Bool.{le-ltb}
use Rattle.std.specs.Int.{w16, from_be_bytes}
use Rattle.wire_base.specs.Bytes.{IsBytes}
use Rattle.wire_base.specs.Reading.{Reads, ◌>>=◌, made}
use Rattle.wire_base.specs.declared.scan.At.{At}
use Rattle.methods_091.specs.Rows.{class_of, id_of, shape, kind_with}
use Rattle.methods_091.specs.Arguments.{Arg}
use Rattle.methods_091.specs.Grammar.{IsMethod, ids_text}
use Rattle.methods_091.specs.Reading.{args_in, whole, known_in, payload_in, told, method_in, seen}
use Rattle.methods_091.specs.Faults.{IsUnknown, IsFault}
use Rattle.methods_091.specs.Writing.{CanPut}
use Rattle.methods_091.specs.View.{parts_of}
use Rattle.methods_091.specs.declared.kind.MethodKind.{MethodKind}
use Rattle.methods_091.specs.declared.method.Method91.{Method91}
use Rattle.methods_091.specs.declared.reading.MethodFault.{MethodFault}
use Rattle.methods_091.specs.declared.reading.MethodFault.TheVariants.{UnknownMethod, Syntax}
use Rattle.methods_091.proofs.KindLaws.{kind_is, kind_known}
use Rattle.methods_091.proofs.Writable.{method_writable}
use Rattle.methods_091.proofs.MethodLaws.{read_is_spelled, method_is_read, read_is}

-- ---- what was told of a reading

told_ok : (r : Result (Option (MethodKind × List Arg)) ℕ) (x : MethodKind × List Arg) → told r ≡ Ok x → r ≡ Ok (Some x)
told_ok (Ok (Some y)) x e = cc
told_ok (Ok None) x e = absurd cc
told_ok (Err at) x e = absurd cc

abbrev failed : At MethodFault → Result (MethodKind × List Arg) (At MethodFault)
failed e = Err e

failed_is : (d e : At MethodFault) → failed d ≡ failed e → d ≡ e
failed_is d e h = cc

-- ---- the ids, byte by byte

-- the kind whose ids these four bytes are
abbrev kind_at : ℕ → ℕ → ℕ → ℕ → Option MethodKind
kind_at a b c d = kind_with (from_be_bytes w16 (a ∷ b ∷ [])) (from_be_bytes w16 (c ∷ d ∷ []))

ids_are_read : (a b c d : ℕ) (rest : List ℕ) → payload_in (a ∷ b ∷ c ∷ d ∷ rest) ≡ known_in (kind_at a b c d) (length (a ∷ b ∷ c ∷ d ∷ rest)) rest
ids_are_read a b c d rest =
    let both : ltb (length (a ∷ b ∷ c ∷ d ∷ rest)) 4 ≡ false = le-ltb _ _ (omega arith) in
    let first : ltb (length (a ∷ b ∷ c ∷ d ∷ rest)) 2 ≡ false = le-ltb _ _ (omega arith) in
    let second : ltb (length (c ∷ d ∷ rest)) 2 ≡ false = le-ltb _ _ (omega arith) in
    rw (both, first, second) refl

kind_has_ids : (a b c d : ℕ) (rest : List ℕ) (k : MethodKind) → IsBytes (a ∷ b ∷ c ∷ d ∷ rest) → kind_at a b c d ≡ Some k → a ∷ b ∷ c ∷ d ∷ [] ≡ ids_text k
kind_has_ids a b c d rest k fits e =
    let is = kind_is (from_be_bytes w16 (a ∷ b ∷ [])) (from_be_bytes w16 (c ∷ d ∷ [])) k e in
    let first : a ≡ class_of k / 256 % 256 = omega (arith, is.0, fits 0, fits 1) in
    let second : b ≡ class_of k % 256 = omega (arith, is.0, fits 0, fits 1) in
    let third : c ≡ id_of k / 256 % 256 = omega (arith, is.1, fits 2, fits 3) in
    let fourth : d ≡ id_of k % 256 = omega (arith, is.1, fits 2, fits 3) in
    cc (first, second, third, fourth)

ids_have_kind : (a b c d : ℕ) (k : MethodKind) → a ∷ b ∷ c ∷ d ∷ [] ≡ ids_text k → kind_at a b c d ≡ Some k
ids_have_kind a b c d k e =
    let known = kind_known k in
    let at : (i : ℕ) → get_or (a ∷ b ∷ c ∷ d ∷ []) i 0 ≡ get_or (ids_text k) i 0 = λ i. ap (λ (t : List ℕ). get_or t i 0) e in
    let class : from_be_bytes w16 (a ∷ b ∷ []) ≡ class_of k = omega (arith, at 0, at 1, known.0) in
    let id : from_be_bytes w16 (c ∷ d ∷ []) ≡ id_of k = omega (arith, at 2, at 3, known.1) in
    rw (class, id) known.2

-- ---- faults

-- what is read behind the ids, by what the reading of the arguments gave
abbrev with_kind : MethodKind → List Arg → MethodKind × List Arg
with_kind k args = (k, args)

abbrev behind_ids : MethodKind → ℕ → Reads (List Arg) ℕ → Result (Option (MethodKind × List Arg)) ℕ
behind_ids k end read = made (with_kind k) read >>= λ x. whole end x >>= λ parts. Ok (Some parts)

-- a method's arguments are broken, or followed by bytes
arguments_fault : (k : MethodKind) (bytes rest : List ℕ) (e : At MethodFault) (read : Reads (List Arg) ℕ) → args_in (shape k) (length bytes) rest ≡ read
    → told (behind_ids k (length bytes) read) ≡ Err e → rest ≡ drop 4 bytes → take 4 bytes ≡ ids_text k → IsFault bytes e
arguments_fault k bytes rest e (Ok (args, [])) is h behind ids = absurd cc
arguments_fault k bytes rest e (Ok (args, b ∷ more)) is h behind ids =
    subst (IsFault bytes) (failed_is (record { fault = Syntax; at = length bytes - length (b ∷ more) }) e h) (inr (k, ids, inr (args, b ∷ more, rw behind at is, (λ none. absurd cc), refl)))
arguments_fault k bytes rest e (Err at) is h behind ids = subst (IsFault bytes) (failed_is (record { fault = Syntax; at = at }) e h) (inr (k, ids, inl (rw behind at is)))

-- by what the ids are
known_fault : (a b c d : ℕ) (rest : List ℕ) (e : At MethodFault) (found : Option MethodKind) → IsBytes (a ∷ b ∷ c ∷ d ∷ rest) → kind_at a b c d ≡ found
    → told (known_in found (length (a ∷ b ∷ c ∷ d ∷ rest)) rest) ≡ Err e → IsFault (a ∷ b ∷ c ∷ d ∷ rest) e
known_fault a b c d rest e None fits is h =
    subst (IsFault (a ∷ b ∷ c ∷ d ∷ rest)) (failed_is (record { fault = UnknownMethod; at = 0 }) e h) (refl, (omega arith, λ k ids. absurd (cc (ids_have_kind a b c d k ids, is))))
known_fault a b c d rest e (Some k) fits is h =
    arguments_fault k (a ∷ b ∷ c ∷ d ∷ rest) rest e (args_in (shape k) (length (a ∷ b ∷ c ∷ d ∷ rest)) rest) refl h refl (kind_has_ids a b c d rest k fits is)

fault_is : (bytes : List ℕ) (e : At MethodFault) → IsBytes bytes → method_in bytes ≡ Err e → IsFault bytes e
fault_is [] e fits h = subst (IsFault []) (failed_is (record { fault = Syntax; at = 0 }) e h) (inl (omega arith, refl))
fault_is (a ∷ []) e fits h = subst (IsFault (a ∷ [])) (failed_is (record { fault = Syntax; at = 1 }) e h) (inl (omega arith, refl))
fault_is (a ∷ b ∷ []) e fits h = subst (IsFault (a ∷ b ∷ [])) (failed_is (record { fault = Syntax; at = 2 }) e h) (inl (omega arith, refl))
fault_is (a ∷ b ∷ c ∷ []) e fits h = subst (IsFault (a ∷ b ∷ c ∷ [])) (failed_is (record { fault = Syntax; at = 3 }) e h) (inl (omega arith, refl))
fault_is (a ∷ b ∷ c ∷ d ∷ rest) e fits h =
    known_fault a b c d rest e (kind_at a b c d) fits refl (ap told (sym (ids_are_read a b c d rest)) ∙ h)

-- bytes whose ids are those of no method
no_kind : (found : Option MethodKind) (end : ℕ) (rest : List ℕ) → ((k : MethodKind) → found ≡ Some k → ⊥) → told (known_in found end rest) ≡ Err (record { fault = UnknownMethod; at = 0 })
no_kind None end rest none = refl
no_kind (Some k) end rest none = absurd (none k refl)

unknown_is : (bytes : List ℕ) → IsBytes bytes → IsUnknown bytes → method_in bytes ≡ Err (record { fault = UnknownMethod; at = 0 })
unknown_is [] fits h = absurd (omega (arith, h.0))
unknown_is (a ∷ []) fits h = absurd (omega (arith, h.0))
unknown_is (a ∷ b ∷ []) fits h = absurd (omega (arith, h.0))
unknown_is (a ∷ b ∷ c ∷ []) fits h = absurd (omega (arith, h.0))
unknown_is (a ∷ b ∷ c ∷ d ∷ rest) fits h =
    ap told (ids_are_read a b c d rest) ∙ no_kind (kind_at a b c d) (length (a ∷ b ∷ c ∷ d ∷ rest)) rest (λ k is. h.1 k (kind_has_ids a b c d rest k fits is))

-- ---- the clauses, of what a function answers

pub found_by : (bytes : List ℕ) (read : Result Method91 (At MethodFault)) → IsBytes bytes → seen read ≡ method_in bytes → IfOk read (λ m. IsMethod m bytes)
found_by bytes (Ok m) fits h = read_is_spelled bytes (parts_of m) fits (told_ok (payload_in bytes) (parts_of m) (sym h))
found_by bytes (Err e) fits h = tt

pub only_by : (bytes : List ℕ) (read : Result Method91 (At MethodFault)) → seen read ≡ method_in bytes → (m : Method91) → IsMethod m bytes → read ≡ Ok m
only_by bytes (Ok n) h m is = ap (λ (x : Method91). Ok x) (read_is n m bytes (told_ok (payload_in bytes) (parts_of n) (sym h)) is)
only_by bytes (Err e) h m is = absurd (cc (h, ap told (method_is_read m bytes is)))

pub writable_by : (bytes : List ℕ) (read : Result Method91 (At MethodFault)) → IsBytes bytes → seen read ≡ method_in bytes → IfOk read CanPut
writable_by bytes (Ok m) fits h = method_writable m bytes (found_by bytes (Ok m) fits h)
writable_by bytes (Err e) fits h = tt

-- a method is read exactly where bytes spell it
pub read_exactly : (m : Method91) (bytes : List ℕ) → IsBytes bytes → (method_in bytes ≡ Ok (parts_of m)) ↔ IsMethod m bytes
read_exactly m bytes fits =
    ((λ e. read_is_spelled bytes (parts_of m) fits (told_ok (payload_in bytes) (parts_of m) e)), λ h. ap told (method_is_read m bytes h))

pub fault_by : (bytes : List ℕ) (read : Result Method91 (At MethodFault)) → IsBytes bytes → seen read ≡ method_in bytes → IfErr read (IsFault bytes)
fault_by bytes (Ok m) fits h = tt
fault_by bytes (Err e) fits h = fault_is bytes e fits (sym h)

pub unknown_by : (bytes : List ℕ) (read : Result Method91 (At MethodFault)) → IsBytes bytes → seen read ≡ method_in bytes → IsUnknown bytes → read ≡ Err (record { fault = UnknownMethod; at = 0 })
unknown_by bytes (Ok m) fits h unknown = absurd (cc (h, unknown_is bytes fits unknown))
unknown_by bytes (Err e) fits h unknown = ap (λ (x : At MethodFault). Err x) (failed_is e (record { fault = UnknownMethod; at = 0 }) (h ∙ unknown_is bytes fits unknown))
