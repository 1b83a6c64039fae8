-- A message is read exactly where one fills the bytes.
use Rattle.std.proofs.Common.{◌≡◌, ◌↔◌, ℕ, Bool, true, false, cond, ltb, List, length, Option, Some}
use Rattle.std.proofs.Common.{None, Result, Ok, Err, IfOk, IsOkAnd, refl, sym, subst, ◌∙◌, arith}
use Rattle.std.proofs.lemmas.Bool.{ltb-false, le-ltb}
use Rattle.wire_base.specs.Bytes.{IsBytes}
use Rattle.wire_base.specs.declared.scan.At.{At}
use Rattle.sections_10.specs.View.{Kept, kept_of}
use Rattle.sections_10.specs.Reading.{code_at, Sections, sections_in, last_rank, fault_of, kept_in}
use Rattle.sections_10.specs.Reading.{whole, message_in, seen}
use Rattle.sections_10.specs.Grammar.{IsMessage}
use Rattle.sections_10.specs.declared.message.Body10.{Body10}
use Rattle.sections_10.specs.declared.message.Message10.{Message10}
use Rattle.sections_10.specs.declared.reading.SectionFault.{SectionFault}
use Rattle.sections_10.proofs.Standing.{sections_found}
use Rattle.sections_10.proofs.ReadingLaws.{order_ends, sections_read}

abbrev kept_with : Sections → Body10 → Kept
kept_with s b = record { header = s.header; annotations = s.annotations; properties = s.properties; application = s.application; body = b }

abbrev done : Kept → Result Kept (At SectionFault)
done k = Ok k

done_is : (k j : Kept) → done k ≡ done j → k ≡ j
done_is k j e = cc

-- what is read is a message
pub read_is_spelled : (bytes : List ℕ) (k : Kept) → IsBytes bytes → message_in bytes ≡ Ok k → IsMessage k bytes
read_is_spelled bytes k fits e = by_sections (sections_in bytes) refl e
  where
    by_body : (s : Sections) (o : Option Body10) → s.body ≡ o → sections_in bytes ≡ Ok s → length bytes ≡ s.after → kept_in s o ≡ Ok k → IsMessage k bytes
    by_body s None is read fills e = absurd (cc e)
    by_body s (Some b) is read fills e =
        subst (λ (j : Kept). IsMessage j bytes) (done_is (kept_with s b) k e)
        (record {
          sections = s;
          in_order = sections_found bytes s fits read;
          fills = sym fills;
          header = refl;
          annotations = refl;
          properties = refl;
          application = refl;
          body = is;
        })

    by_end : (s : Sections) (t : Bool) → ltb s.after (length bytes) ≡ t → sections_in bytes ≡ Ok s
        → cond t (Err (record { fault = fault_of (last_rank s) (code_at bytes s.after); at = s.after })) (kept_in s s.body) ≡ Ok k → IsMessage k bytes
    by_end s true t read e = absurd (cc e)
    by_end s false t read e =
        by_body s s.body refl read (omega (arith, ltb-false _ _ t, order_ends s bytes (sections_found bytes s fits read))) e

    by_sections : (r : Result Sections ℕ) → sections_in bytes ≡ r → whole bytes r ≡ Ok k → IsMessage k bytes
    by_sections (Err at) read e = absurd (cc e)
    by_sections (Ok s) read e = by_end s (ltb s.after (length bytes)) refl read e

-- a message is read
pub spelled_is_read : (bytes : List ℕ) (k : Kept) → IsMessage k bytes → message_in bytes ≡ Ok k
spelled_is_read bytes k m =
    let s = m.sections in
    let read = sections_read s bytes m.in_order (omega (arith, m.fills)) in
    let end : ltb s.after (length bytes) ≡ false = le-ltb _ _ (omega (arith, m.fills)) in
    rw (read, end, m.body, m.header, m.annotations, m.properties, m.application) refl

pub read_exactly : (k : Kept) (bytes : List ℕ) → IsBytes bytes → (message_in bytes ≡ Ok k) ↔ IsMessage k bytes
read_exactly k bytes fits = ((λ e. read_is_spelled bytes k fits e), λ m. spelled_is_read bytes k m)

pub one_message : (j k : Kept) (bytes : List ℕ) → IsMessage j bytes → IsMessage k bytes → j ≡ k
one_message j k bytes m n = done_is j k (sym (spelled_is_read bytes j m) ∙ spelled_is_read bytes k n)

-- ---- the clauses, of what a function answers

pub found_by : (bytes : List ℕ) (read : Result Message10 (At SectionFault)) → IsBytes bytes → seen read ≡ message_in bytes → IfOk read (λ m. IsMessage (kept_of m) bytes)
found_by bytes (Ok m) fits e = read_is_spelled bytes (kept_of m) fits (sym e)
found_by bytes (Err d) fits e = tt

pub only_by : (bytes : List ℕ) (read : Result Message10 (At SectionFault)) → IsBytes bytes → seen read ≡ message_in bytes → (k : Kept) → IsMessage k bytes → IsOkAnd read (λ m. kept_of m ≡ k)
only_by bytes (Ok m) fits e k is = done_is (kept_of m) k (e ∙ spelled_is_read bytes k is)
only_by bytes (Err d) fits e k is = absurd (cc (e, spelled_is_read bytes k is))
