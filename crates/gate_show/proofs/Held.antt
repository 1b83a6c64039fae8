-- What a sink holds before anything was written, and after one line more.
use Rattle.std.proofs.Common.{◌≡◌, ℕ, ◌+◌, List, [], ◌∷◌, ◌++◌, length, Option, None, Some, refl}
use Rattle.std.proofs.Common.{sym, ap, subst, ◌∙◌, append_assoc, append-nil, arith}
use Rattle.std.specs.List.{flat_map, AllByRecursion}
use Rattle.gate_outside.specs.declared.log.LogEntry.{LogEntry}
use Rattle.gate_outside.specs.Streams.{Appends, AppendsFront}
use Rattle.gate_outside.proofs.Appending.{appends_then}
use Rattle.gate_capture.specs.Spelling.{spelling_of}
use Rattle.gate_capture.specs.Captures.{IsInForm}
use Rattle.gate_capture.proofs.Fronts.{front_of_second}
use Rattle.gate_show.specs.Listing.{line, lines}
use Rattle.gate_show.specs.Showing.{Before}

pub appends_nothing : (a : Option (List ℕ)) → Appends a a []
appends_nothing None = tt
appends_nothing (Some held) = sym (append-nil held)

pub front_nothing : (a : Option (List ℕ)) (text : List ℕ) → AppendsFront a a text
front_nothing a text = record { front = []; back = text; parts = refl; added = appends_nothing a }

lines_last : (number : ℕ) (log : List LogEntry) (e : LogEntry) → lines number (log ++ e ∷ []) ≡ lines number log ++ line (number + length log) e
lines_last number [] e =
    let same : number + 0 ≡ number = omega arith in
    rw same (append-nil (line number e))
lines_last number (x ∷ log) e =
    let same : (number + 1) + length log ≡ number + length (x ∷ log) = omega arith in
    ap (λ (s : List ℕ). line number x ++ s) (lines_last (number + 1) log e ∙ ap (λ (n : ℕ). lines (number + 1) log ++ line n e) same)
    ∙ sym (append_assoc (line number x) (lines (number + 1) log) (line (number + length (x ∷ log)) e))

pub one_line_more : (a b c : Option (List ℕ)) (log : List LogEntry) (e : LogEntry) → Appends a b (lines 0 log) → Appends b c (line (length log) e) → Appends a c (lines 0 (log ++ e ∷ []))
one_line_more a b c log e p q =
    let same : 0 + length log ≡ length log = omega arith in
    subst (λ (s : List ℕ). Appends a c s) (sym (lines_last 0 log e ∙ ap (λ (n : ℕ). lines 0 log ++ line n e) same)) (appends_then a b c (lines 0 log) (line (length log) e) p q)

pub front_of_line : (a b c : Option (List ℕ)) (log : List LogEntry) (e : LogEntry) → Appends a b (lines 0 log) → AppendsFront b c (line (length log) e) → AppendsFront a c (lines 0 (log ++ e ∷ []))
front_of_line a b c log e p q =
    let same : 0 + length log ≡ length log = omega arith in
    subst (λ (s : List ℕ). AppendsFront a c s) (sym (lines_last 0 log e ∙ ap (λ (n : ℕ). lines 0 log ++ line n e) same)) (front_of_second (lines 0 log) p q)

-- ---- one entry more

spelled_last : (log : List LogEntry) (e : LogEntry) → flat_map spelling_of (log ++ e ∷ []) ≡ flat_map spelling_of log ++ spelling_of e
spelled_last [] e = append-nil (spelling_of e)
spelled_last (x ∷ log) e = ap (λ (s : List ℕ). spelling_of x ++ s) (spelled_last log e) ∙ sym (append_assoc (spelling_of x) (flat_map spelling_of log) (spelling_of e))

forms_last : (log : List LogEntry) (e : LogEntry) → AllByRecursion IsInForm log → IsInForm e → AllByRecursion IsInForm (log ++ e ∷ [])
forms_last [] e h p = (p, tt)
forms_last (x ∷ log) e h p = (h.0, forms_last log e h.1 p)

pub one_entry_more : (log : List LogEntry) (e : LogEntry) (rest after bytes : List ℕ) → Before log rest bytes → IsInForm e → rest ≡ spelling_of e ++ after → Before (log ++ e ∷ []) after bytes
one_entry_more log e rest after bytes b form parts = record {
  entries = forms_last log e b.entries form;
  parts = b.parts ∙ ap (λ (s : List ℕ). flat_map spelling_of log ++ s) parts
      ∙ sym (append_assoc (flat_map spelling_of log) (spelling_of e) after)
      ∙ ap (λ (s : List ℕ). s ++ after) (sym (spelled_last log e));
}
