-- What stands in bytes is read, up to where it stands.
use Rattle.std.proofs.Common.{◌≡◌, ◌≢◌, ◌⊎◌, inl, inr, ℕ, zero, suc, ◌+◌, ◌<◌, ◌≤◌, Bool, true}
use Rattle.std.proofs.Common.{false, ltb, eqb, List, [], ◌∷◌, length, Option, Some, None, Ok, refl}
use Rattle.std.proofs.Common.{sym, ap, subst, ◌∙◌, arith}
use Rattle.std.proofs.lemmas.Bool.{le-ltb, eqb-true}
use Rattle.types_10.specs.Tree.{Tree}
use Rattle.sections_10.specs.Rows.{Section, header_section, delivery_section, message_section}
use Rattle.sections_10.specs.Rows.{properties_section, application_section, data_section}
use Rattle.sections_10.specs.Rows.{sequence_section, value_section, footer_section}
use Rattle.sections_10.specs.Reading.{code_at, if_code, section_in, run_in, data_in, sequences_in}
use Rattle.sections_10.specs.Reading.{body_in, Sections, sections_in}
use Rattle.sections_10.specs.Grammar.{IsSectionAt, IsMaybeAt, IsRunAt, IsBodyAt, AreInOrder}
use Rattle.sections_10.specs.declared.message.Body10.{Body10}
use Rattle.sections_10.proofs.Standing.{code_read, section_read, section_skipped, all_data}
use Rattle.sections_10.proofs.Standing.{all_found}

-- ---- where sections end

-- a section takes bytes, and they are there
section_ends : (s : Section) (t : Tree) (bytes : List ℕ) (at after : ℕ) → IsSectionAt s t bytes at after → (at < after) × (after ≤ length bytes)
section_ends s t bytes at after (u, middle, code, stands, means) = (omega (arith, code.2.0, stands.0), stands.1)

pub maybe_ends : (s : Section) (v : Option Tree) (bytes : List ℕ) (at after : ℕ) → at ≤ length bytes → IsMaybeAt s v bytes at after → after ≤ length bytes
maybe_ends s None bytes at after le h = omega (arith, le, h)
maybe_ends s (Some t) bytes at after le h = (section_ends s t bytes at after h).1

run_ends : (s : Section) (ts : List Tree) (bytes : List ℕ) (at after : ℕ) → at ≤ length bytes → IsRunAt s ts bytes at after → (at + length ts ≤ after) × (after ≤ length bytes)
run_ends s [] bytes at after le h = (omega (arith, h), omega (arith, le, h))
run_ends s (t ∷ ts) bytes at after le (middle, first, others) =
    let one = section_ends s t bytes at middle first in
    let more = run_ends s ts bytes middle after one.1 others in
    (omega (arith, one.0, more.0), more.1)

pub body_ends : (b : Option Body10) (bytes : List ℕ) (at after : ℕ) → at ≤ length bytes → IsBodyAt b bytes at after → after ≤ length bytes
body_ends None bytes at after le h = omega (arith, le, h)
body_ends (Some b) bytes at after le (inl (ts, some, run, is)) = (run_ends data_section ts bytes at after le run).1
body_ends (Some b) bytes at after le (inr (inl (ts, some, run, is))) = (run_ends sequence_section ts bytes at after le run).1
body_ends (Some b) bytes at after le (inr (inr (t, stands, is))) = (section_ends value_section t bytes at after stands).1

pub order_ends : (s : Sections) (bytes : List ℕ) → AreInOrder s bytes → s.after ≤ length bytes
order_ends s bytes o =
    let a = maybe_ends header_section s.header bytes 0 o.delivery_from (omega arith) o.header in
    let b = maybe_ends delivery_section s.delivery bytes o.delivery_from o.annotations_from a o.delivery in
    let c = maybe_ends message_section s.annotations bytes o.annotations_from o.properties_from b o.annotations in
    let d = maybe_ends properties_section s.properties bytes o.properties_from o.application_from c o.properties in
    let e = maybe_ends application_section s.application bytes o.application_from o.body_from d o.application in
    let f = body_ends s.body bytes o.body_from o.footer_from e o.body in
    maybe_ends footer_section s.footer bytes o.footer_from s.after f o.footer

-- ---- what stands behind

-- no code stands there, or a greater one
abbrev pub Beyond : ℕ → List ℕ → ℕ → Type 0
Beyond c bytes at = (code_at bytes at ≡ None) ⊎ ((d : ℕ) × (m : ℕ) × (c < d) × (code_at bytes at ≡ Some (d, m)))

pub differs : (a b : ℕ) → a ≢ b → eqb a b ≡ false
differs a b apart = at (eqb a b) refl
  where
    at : (t : Bool) → eqb a b ≡ t → eqb a b ≡ false
    at true e = absurd (apart (eqb-true a b e))
    at false e = e

skips : (c : ℕ) (bytes : List ℕ) (at : ℕ) → Beyond c bytes at → if_code c (code_at bytes at) ≡ None
skips c bytes at (inl none) = rw none refl
skips c bytes at (inr (d, m, more, is)) = rw (is, differs d c (λ same. absurd (omega (arith, same, more)))) refl

weaker : (b c : ℕ) (bytes : List ℕ) (at : ℕ) → b ≤ c → Beyond c bytes at → Beyond b bytes at
weaker b c bytes at le (inl none) = inl none
weaker b c bytes at le (inr (d, m, more, is)) = inr (d, m, omega (arith, le, more), is)

pub nothing_beyond : (c : ℕ) (bytes : List ℕ) (at : ℕ) → length bytes ≤ at → Beyond c bytes at
unfolding code_at
nothing_beyond c bytes at le =
    let past : ltb at (length bytes) ≡ false = le-ltb _ _ le in
    inl (rw past refl)

starts : (c : ℕ) (s : Section) (t : Tree) (bytes : List ℕ) (at after : ℕ) → c < s.0 → IsSectionAt s t bytes at after → Beyond c bytes at
starts c s t bytes at after more (u, middle, code, stands, means) = inr (s.0, middle, more, code_read s.0 bytes at middle code)

maybe_beyond : (c : ℕ) (s : Section) (v : Option Tree) (bytes : List ℕ) (at after : ℕ) → c < s.0 → IsMaybeAt s v bytes at after → Beyond s.0 bytes after → Beyond c bytes at
maybe_beyond c s None bytes at after more h b = subst (λ (n : ℕ). Beyond c bytes n) h (weaker c s.0 bytes after (omega (arith, more)) b)
maybe_beyond c s (Some t) bytes at after more h b = starts c s t bytes at after more h

run_beyond : (c : ℕ) (s : Section) (ts : List Tree) (bytes : List ℕ) (at after : ℕ) → c < s.0 → ts ≢ [] → IsRunAt s ts bytes at after → Beyond c bytes at
run_beyond c s [] bytes at after more some h = absurd (some refl)
run_beyond c s (t ∷ ts) bytes at after more some (middle, first, others) = starts c s t bytes at middle more first

body_beyond : (b : Option Body10) (bytes : List ℕ) (at after : ℕ) → IsBodyAt b bytes at after → Beyond 119 bytes after → Beyond 116 bytes at
body_beyond None bytes at after h b = subst (λ (n : ℕ). Beyond 116 bytes n) h (weaker 116 119 bytes after (omega arith) b)
body_beyond (Some x) bytes at after (inl (ts, some, run, is)) b = run_beyond 116 data_section ts bytes at after (omega arith) some run
body_beyond (Some x) bytes at after (inr (inl (ts, some, run, is))) b = run_beyond 116 sequence_section ts bytes at after (omega arith) some run
body_beyond (Some x) bytes at after (inr (inr (t, stands, is))) b = starts 116 value_section t bytes at after (omega arith) stands

-- ---- what stands there is read

maybe_read : (s : Section) (v : Option Tree) (bytes : List ℕ) (at after : ℕ) → IsMaybeAt s v bytes at after → Beyond s.0 bytes after → section_in s bytes at ≡ Ok (v, after)
maybe_read s None bytes at after h b =
    section_skipped s bytes at (skips s.0 bytes at (subst (λ (n : ℕ). Beyond s.0 bytes n) h b)) ∙ ap (λ (n : ℕ). Ok (None, n)) (sym h)
maybe_read s (Some t) bytes at after h b = section_read s t bytes at after h

run_read : (s : Section) (ts : List Tree) (most : ℕ) (bytes : List ℕ) (at after : ℕ) → length ts ≤ most → IsRunAt s ts bytes at after → Beyond s.0 bytes after → run_in s most bytes at ≡ Ok (ts, after)
unfolding run_in
run_read s [] zero bytes at after le h b = ap (λ (n : ℕ). Ok ([], n)) (sym h)
run_read s [] (suc most) bytes at after le h b =
    let skipped : section_in s bytes at ≡ Ok (None, at) = section_skipped s bytes at (skips s.0 bytes at (subst (λ (n : ℕ). Beyond s.0 bytes n) h b)) in
    rw skipped (ap (λ (n : ℕ). Ok ([], n)) (sym h))
run_read s (t ∷ ts) zero bytes at after le h b = absurd (omega (arith, le))
run_read s (t ∷ ts) (suc most) bytes at after le (middle, first, others) b =
    let one = section_read s t bytes at middle first in
    let more = run_read s ts most bytes middle after (omega (arith, le)) others b in
    rw (one, more) refl

no_run : (s : Section) (most : ℕ) (bytes : List ℕ) (at : ℕ) → Beyond s.0 bytes at → run_in s most bytes at ≡ Ok ([], at)
no_run s most bytes at b = run_read s [] most bytes at at (omega arith) refl b

body_read : (b : Option Body10) (bytes : List ℕ) (at after : ℕ) → at ≤ length bytes → IsBodyAt b bytes at after → Beyond 119 bytes after → body_in bytes at ≡ Ok (b, after)
unfolding body_in data_in sequences_in
body_read None bytes at after le h b =
    let here = subst (λ (n : ℕ). Beyond 119 bytes n) h b in
    let datas = no_run data_section (length bytes) bytes at (weaker 117 119 bytes at (omega arith) here) in
    let sequences = no_run sequence_section (length bytes) bytes at (weaker 118 119 bytes at (omega arith) here) in
    let value = section_skipped value_section bytes at (skips 119 bytes at here) in
    rw (datas, sequences, value) (ap (λ (n : ℕ). Ok (None, n)) (sym h))
body_read (Some x) bytes at after le (inl ([], some, run, is)) b = absurd (some refl)
body_read (Some x) bytes at after le (inl (t ∷ ts, some, run, is)) b =
    let few : length (t ∷ ts) ≤ length bytes = omega (arith, run_ends data_section (t ∷ ts) bytes at after le run) in
    let datas = run_read data_section (t ∷ ts) (length bytes) bytes at after few run (weaker 117 119 bytes after (omega arith) b) in
    rw (datas, all_data t ts) (ap (λ (y : Body10). Ok (Some y, after)) (sym is))
body_read (Some x) bytes at after le (inr (inl ([], some, run, is))) b = absurd (some refl)
body_read (Some x) bytes at after le (inr (inl (t ∷ ts, some, run, is))) b =
    let few : length (t ∷ ts) ≤ length bytes = omega (arith, run_ends sequence_section (t ∷ ts) bytes at after le run) in
    let datas = no_run data_section (length bytes) bytes at (run_beyond 117 sequence_section (t ∷ ts) bytes at after (omega arith) some run) in
    let sequences = run_read sequence_section (t ∷ ts) (length bytes) bytes at after few run (weaker 118 119 bytes after (omega arith) b) in
    rw (datas, sequences, all_found ts) (ap (λ (y : Body10). Ok (Some y, after)) (sym is))
body_read (Some x) bytes at after le (inr (inr (t, stands, is))) b =
    let datas = no_run data_section (length bytes) bytes at (starts 117 value_section t bytes at after (omega arith) stands) in
    let sequences = no_run sequence_section (length bytes) bytes at (starts 118 value_section t bytes at after (omega arith) stands) in
    let value = section_read value_section t bytes at after stands in
    rw (datas, sequences, value) (ap (λ (y : Body10). Ok (Some y, after)) (sym is))

pub sections_read : (s : Sections) (bytes : List ℕ) → AreInOrder s bytes → length bytes ≤ s.after → sections_in bytes ≡ Ok s
unfolding sections_in
sections_read s bytes o all =
    let a = maybe_ends header_section s.header bytes 0 o.delivery_from (omega arith) o.header in
    let b = maybe_ends delivery_section s.delivery bytes o.delivery_from o.annotations_from a o.delivery in
    let c = maybe_ends message_section s.annotations bytes o.annotations_from o.properties_from b o.annotations in
    let d = maybe_ends properties_section s.properties bytes o.properties_from o.application_from c o.properties in
    let e = maybe_ends application_section s.application bytes o.application_from o.body_from d o.application in
    let behind_footer = nothing_beyond 120 bytes s.after all in
    let behind_body = maybe_beyond 119 footer_section s.footer bytes o.footer_from s.after (omega arith) o.footer behind_footer in
    let behind_application = body_beyond s.body bytes o.body_from o.footer_from o.body behind_body in
    let behind_properties = maybe_beyond 115 application_section s.application bytes o.application_from o.body_from (omega arith) o.application behind_application in
    let behind_annotations = maybe_beyond 114 properties_section s.properties bytes o.properties_from o.application_from (omega arith) o.properties behind_properties in
    let behind_delivery = maybe_beyond 113 message_section s.annotations bytes o.annotations_from o.properties_from (omega arith) o.annotations behind_annotations in
    let behind_header = maybe_beyond 112 delivery_section s.delivery bytes o.delivery_from o.annotations_from (omega arith) o.delivery behind_delivery in
    rw (
      maybe_read header_section s.header bytes 0 o.delivery_from o.header behind_header,
      maybe_read delivery_section s.delivery bytes o.delivery_from o.annotations_from o.delivery behind_delivery,
      maybe_read message_section s.annotations bytes o.annotations_from o.properties_from o.annotations behind_annotations,
      maybe_read properties_section s.properties bytes o.properties_from o.application_from o.properties behind_properties,
      maybe_read application_section s.application bytes o.application_from o.body_from o.application behind_application,
      body_read s.body bytes o.body_from o.footer_from e o.body behind_body,
      maybe_read footer_section s.footer bytes o.footer_from s.after o.footer behind_footer,
    ) refl
