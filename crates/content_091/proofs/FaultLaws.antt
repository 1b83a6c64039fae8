-- The answers of a reading of content headers, in the words of the grammar and of the faults.
use Rattle.std.proofs.Common.{◌≡◌, ◌↔◌, inl, inr, ℕ, ◌%◌, ◌≤◌, Bool, true, false, cond, eqb, ltb}
use Rattle.std.proofs.Common.{List, length, Option, Some, None, Result, Ok, Err, IfOk, IfErr, refl}
use Rattle.std.proofs.Common.{sym, ap, subst, ◌∙◌, arith}
use Rattle.std.proofs.lemmas.Bool.{ltb-true, ltb-false, lt-ltb, eqb-true, eq-eqb}
use Rattle.std.proofs.lemmas.List.{length-append}
use Rattle.wire_base.specs.Bytes.{IsBytes}
use Rattle.wire_base.specs.Reading.{Reads, ◌>>=◌}
use Rattle.wire_base.specs.declared.scan.At.{At}
use Rattle.content_091.specs.Properties.{Properties, Parts}
use Rattle.content_091.specs.Grammar.{basic, IsHeader}
use Rattle.content_091.specs.Reading.{head_fault, all_in, behind_in, payload_in, told, header_in}
use Rattle.content_091.specs.Reading.{seen}
use Rattle.content_091.specs.Faults.{HasHead, IsFaultOf, IsFault}
use Rattle.content_091.specs.Writing.{CanPut}
use Rattle.content_091.specs.View.{parts_of}
use Rattle.content_091.specs.declared.header.Header91.{Header91}
use Rattle.content_091.specs.declared.reading.HeaderFault.{HeaderFault}
use Rattle.content_091.specs.declared.reading.HeaderFault.TheVariants as fault
use Rattle.content_091.proofs.PropertyLaws.{differs, all_within}
use Rattle.content_091.proofs.HeaderLaws.{headed, has_head, rest_fits, read_is_spelled}
use Rattle.content_091.proofs.HeaderLaws.{header_is_read, read_is}
use Rattle.content_091.proofs.Written.{header_writable}

-- ---- what was told of a reading

told_ok : (r : Result (Result Parts (At HeaderFault)) ℕ) (p : Parts) → told r ≡ Ok p → r ≡ Ok (Ok p)
told_ok (Ok (Ok q)) p e = cc
told_ok (Ok (Err d)) p e = absurd cc
told_ok (Err at) p e = absurd cc

abbrev failed : At HeaderFault → Result Parts (At HeaderFault)
failed e = Err e

failed_is : (d e : At HeaderFault) → failed d ≡ failed e → d ≡ e
failed_is d e h = cc

abbrev at_place : HeaderFault → ℕ → At HeaderFault
at_place f at = record { fault = f; at = at }

-- ---- a fault that is told is there

-- shorter than its front and what is behind that
behind_fits : (bytes rest : List ℕ) (class weight size flags : ℕ) → HasHead (((class, weight), size), flags) bytes rest → length rest ≤ length bytes
behind_fits bytes rest class weight size flags (front, spelled, parts) = omega (arith, ap length parts, length-append front rest)

-- behind a head without fault
broken_is : (class weight size flags : ℕ) (bytes rest : List ℕ) (e : At HeaderFault) (read : Reads (Properties × Unit {0}) ℕ) → HasHead (((class, weight), size), flags) bytes rest → IsBytes rest
    → class ≡ basic → weight ≡ 0 → flags % 4 ≡ 0 → all_in flags (length bytes) rest ≡ read → told {A = Parts} (read >>= λ x. Ok (Ok (size, x.0.0))) ≡ Err e → IsFault bytes e
broken_is class weight size flags bytes rest e (Ok x) has fits is_basic is_zero even is h = absurd cc
broken_is class weight size flags bytes rest e (Err at) has fits is_basic is_zero even is h =
    let head : HasHead (((basic, 0), size), flags) bytes rest =
    subst (λ (c : ℕ). HasHead (((c, 0), size), flags) bytes rest) is_basic (subst (λ (w : ℕ). HasHead (((class, w), size), flags) bytes rest) is_zero has) in
    let inside = (all_within flags).found (length bytes) rest at (behind_fits bytes rest class weight size flags has) fits is in
    subst (IsFault bytes) (failed_is (at_place fault.Syntax at) e h) (inr (size, flags, rest, head, even, inside))

-- by what the head is
head_is : (class weight size flags : ℕ) (bytes rest : List ℕ) (e : At HeaderFault) → HasHead (((class, weight), size), flags) bytes rest → IsBytes rest
    → told (behind_in (head_fault (((class, weight), size), flags)) (((class, weight), size), flags) (length bytes) rest) ≡ Err e → IsFault bytes e
head_is class weight size flags bytes rest e has fits = by_class (eqb class basic) refl
  where
    read : Option (At HeaderFault) → Result Parts (At HeaderFault)
    read fault = told (behind_in fault (((class, weight), size), flags) (length bytes) rest)

    by_flags : (t : Bool) → eqb (flags % 4) 0 ≡ t → class ≡ basic → weight ≡ 0 → read (cond t None (Some (at_place fault.Flags 12))) ≡ Err e → IsFault bytes e
    by_flags true t is_basic is_zero h =
        broken_is class weight size flags bytes rest e (all_in flags (length bytes) rest) has fits is_basic is_zero (eqb-true _ _ t) refl h
    by_flags false t is_basic is_zero h =
        let head : HasHead (((basic, 0), size), flags) bytes rest =
        subst (λ (c : ℕ). HasHead (((c, 0), size), flags) bytes rest) is_basic (subst (λ (w : ℕ). HasHead (((class, w), size), flags) bytes rest) is_zero has) in
        subst (IsFault bytes) (failed_is (at_place fault.Flags 12) e h) (size, flags, rest, head, (λ even. absurd (cc (eq-eqb _ _ even, t))), refl)

    by_weight : (t : Bool) → eqb weight 0 ≡ t → class ≡ basic
        → read (cond t (cond (eqb (flags % 4) 0) None (Some (at_place fault.Flags 12))) (Some (at_place fault.Class 2))) ≡ Err e → IsFault bytes e
    by_weight true t is_basic h = by_flags (eqb (flags % 4) 0) refl is_basic (eqb-true _ _ t) h
    by_weight false t is_basic h =
        subst (IsFault bytes) (failed_is (at_place fault.Class 2) e h)
        (class, weight, size, flags, rest, has, inr (is_basic, (λ zero. absurd (cc (eq-eqb _ _ zero, t))), refl))

    by_class : (t : Bool) → eqb class basic ≡ t
        → read (cond t (cond (eqb weight 0) (cond (eqb (flags % 4) 0) None (Some (at_place fault.Flags 12))) (Some (at_place fault.Class 2))) (Some (at_place fault.Class 0))) ≡ Err e
        → IsFault bytes e
    by_class true t h = by_weight (eqb weight 0) refl (eqb-true _ _ t) h
    by_class false t h =
        subst (IsFault bytes) (failed_is (at_place fault.Class 0) e h)
        (class, weight, size, flags, rest, has, inl ((λ same. absurd (cc (eq-eqb _ _ same, t))), refl))

fault_is : (bytes : List ℕ) (e : At HeaderFault) → IsBytes bytes → header_in bytes ≡ Err e → IsFault bytes e
fault_is bytes e fits h = by_length (ltb (length bytes) 14) refl
  where
    cut : ltb (length bytes) 14 ≡ true → header_in bytes ≡ Err (at_place fault.Syntax (length bytes))
    cut t = rw t refl

    by_length : (t : Bool) → ltb (length bytes) 14 ≡ t → IsFault bytes e
    by_length true t = subst (IsFault bytes) (failed_is (at_place fault.Syntax (length bytes)) e (sym (cut t) ∙ h)) (inl (ltb-true _ _ t, refl))
    by_length false t =
        let x = has_head bytes fits (ltb-false _ _ t) in
        head_is x.0.0.0.0 x.0.0.0.1 x.0.0.1 x.0.1 bytes x.1 e x.2 x.3 (ap told (sym (headed x.0 bytes x.1 x.2)) ∙ h)

-- ---- a fault that is there is told

fault_told : (f : HeaderFault) (at : ℕ) (bytes : List ℕ) → IsBytes bytes → IsFaultOf f at bytes → header_in bytes ≡ Err (at_place f at)
fault_told fault.Syntax at bytes fits (inl h) = rw (lt-ltb _ _ h.0, h.1) refl
fault_told fault.Syntax at bytes fits (inr (size, flags, rest, has, even, inside)) =
    let s = rest_fits (((basic, 0), size), flags) bytes rest fits has in
    let read = (all_within flags).told (length bytes) rest at (behind_fits bytes rest basic 0 size flags has) s inside in
    ap told (headed (((basic, 0), size), flags) bytes rest has) ∙ rw (even, read) refl
fault_told fault.Class at bytes fits (class, weight, size, flags, rest, has, inl (other, place)) =
    ap told (headed (((class, weight), size), flags) bytes rest has) ∙ rw (differs class basic other, place) refl
fault_told fault.Class at bytes fits (class, weight, size, flags, rest, has, inr (same, other, place)) =
    ap told (headed (((class, weight), size), flags) bytes rest has) ∙ rw (same, differs weight 0 other, place) refl
fault_told fault.Flags at bytes fits (size, flags, rest, has, odd, place) =
    ap told (headed (((basic, 0), size), flags) bytes rest has) ∙ rw (differs (flags % 4) 0 odd, place) refl

-- the fault that is told is the one that is there
pub fault_exactly : (bytes : List ℕ) (e : At HeaderFault) → IsBytes bytes → (header_in bytes ≡ Err e) ↔ IsFault bytes e
fault_exactly bytes e fits = ((λ h. fault_is bytes e fits h), λ h. fault_told e.fault e.at bytes fits h)

-- ---- the clauses, of what a function answers

pub found_by : (bytes : List ℕ) (read : Result Header91 (At HeaderFault)) → IsBytes bytes → seen read ≡ header_in bytes → IfOk read (λ h. IsHeader h bytes)
found_by bytes (Ok h) fits e = read_is_spelled bytes (parts_of h) fits (told_ok (payload_in bytes) (parts_of h) (sym e))
found_by bytes (Err d) fits e = tt

pub only_by : (bytes : List ℕ) (read : Result Header91 (At HeaderFault)) → seen read ≡ header_in bytes → (h : Header91) → IsHeader h bytes → read ≡ Ok h
only_by bytes (Ok i) e h is = ap (λ (x : Header91). Ok x) (read_is i h bytes (told_ok (payload_in bytes) (parts_of i) (sym e)) is)
only_by bytes (Err d) e h is = absurd (cc (e, ap told (header_is_read h bytes is)))

pub writable_by : (bytes : List ℕ) (read : Result Header91 (At HeaderFault)) → IsBytes bytes → seen read ≡ header_in bytes → IfOk read CanPut
writable_by bytes (Ok h) fits e = header_writable h bytes (found_by bytes (Ok h) fits e)
writable_by bytes (Err d) fits e = tt

pub fault_by : (bytes : List ℕ) (read : Result Header91 (At HeaderFault)) → IsBytes bytes → seen read ≡ header_in bytes → IfErr read (IsFault bytes)
fault_by bytes (Ok h) fits e = tt
fault_by bytes (Err d) fits e = fault_is bytes d fits (sym e)

-- a header is read exactly where bytes spell it
pub read_exactly : (h : Header91) (bytes : List ℕ) → IsBytes bytes → (header_in bytes ≡ Ok (parts_of h)) ↔ IsHeader h bytes
read_exactly h bytes fits =
    ((λ e. read_is_spelled bytes (parts_of h) fits (told_ok (payload_in bytes) (parts_of h) e)), λ is. ap told (header_is_read h bytes is))
