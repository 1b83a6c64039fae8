-- Captures against what reads them.
use Rattle.std.proofs.Common.{◌≡◌, ℕ, ◌<◌, ◌^◌, Bool, true, false, cond, eqb, List, [], ◌∷◌, ◌++◌}
use Rattle.std.proofs.Common.{length, reverse, Result, Ok, Err, IfOk, refl, sym, ap, subst, ◌∙◌}
use Rattle.std.proofs.Common.{append_assoc, append-nil, arith}
use Rattle.std.proofs.lemmas.Bool.{eqb-true}
use Rattle.std.proofs.lemmas.List.{reverse-append}
use Rattle.std.specs.Int.{w8, w32, to_be_bytes}
use Rattle.std.specs.List.{flat_map, AllByRecursion}
use Rattle.wire_base.specs.Bytes.{IsBytes}
use Rattle.wire_base.specs.declared.scan.At.{At}
use Rattle.wire_base.specs.Reading.{◌>>=◌, all_items}
use Rattle.wire_base.specs.Spelling.{IsNumber, IsItems}
use Rattle.wire_base.proofs.Laws.{IsReader, Finds, bind_is, ok_is}
use Rattle.wire_base.proofs.Items.{Shrinks, reader_shrinks, items_found, items_again}
use Rattle.gate_outside.specs.declared.log.LogEntry.{LogEntry}
use Rattle.gate_capture.specs.declared.reading.Capture.{Capture}
use Rattle.gate_capture.specs.declared.reading.CaptureFault.{CaptureFault}
use Rattle.gate_capture.specs.declared.reading.CaptureFault.TheVariants.{Magic}
use Rattle.gate_capture.specs.Spelling.{spelling_of, HasSpelling}
use Rattle.gate_capture.specs.Captures.{start, capture, spelling, IsInForm, IsCapture}
use Rattle.gate_capture.specs.Reading.{cut, octet_in, long_in, then_in, bytes_in, entry_in}
use Rattle.gate_capture.specs.Reading.{letter_is, letter_in, magic_in, start_in, capture_in, seen}
use Rattle.gate_capture.proofs.Readers.{reader_as, IsThen, then_reader, octet_reader, octet_text}
use Rattle.gate_capture.proofs.Readers.{long_reader, IsRun, bytes_reader}
use Rattle.gate_capture.proofs.EntryLaws.{IsEntry, entry_reader, entry_filled}

pub entry_shrinks : (size : ℕ) → Shrinks (entry_in size)
entry_shrinks size = reader_shrinks IsEntry entry_in entry_reader entry_filled size

-- ---- logs

items_are : (log : List LogEntry) (text : List ℕ) → IsItems IsEntry log text → AllByRecursion IsInForm log × (text ≡ flat_map spelling_of log)
items_are [] text h = (tt, h)
items_are (e ∷ log) text h =
    let others = items_are log h.1 h.3 in
    ((h.2.0, others.0), rw (h.4, h.2.1, others.1) refl)

are_items : (log : List LogEntry) (text : List ℕ) → AllByRecursion IsInForm log → text ≡ flat_map spelling_of log → IsItems IsEntry log text
are_items [] text h e = e
are_items (x ∷ log) text h e = (spelling_of x, flat_map spelling_of log, (h.0, refl), are_items log (flat_map spelling_of log) h.1 refl, e)

-- ---- the start

abbrev IsMatch : ℕ → ℕ → Unit {0} → List ℕ → Type 0
IsMatch letter byte u text = (byte ≡ letter) × (text ≡ [])

-- a test that held
held : {A F : Type 0} (b : Bool) (d : F) (x y : A) → cond b (Ok x) (Err d) ≡ Ok y → (b ≡ true) × (x ≡ y)
held true d x y e = (refl, cc)
held false d x y e = absurd cc

same_byte : (n : ℕ) → eqb n n ≡ true
same_byte n = grind arith

match_reader : (letter byte : ℕ) (f : At CaptureFault) → IsReader (IsMatch letter byte) (letter_is letter byte f)
match_reader letter byte f = record {
  finds = λ size text x fits e.
      let h = held (eqb byte letter) (record { fault = Magic; at = f.at }) (tt, text) x e in
      subst (λ (y : Unit {0} × List ℕ). Finds (IsMatch letter byte) text y) h.1 (record { front = []; spelled = (eqb-true byte letter h.0, refl); parts = refl; rest_fits = fits });
  again = λ size u front rest h. rw (h.0, h.1, same_byte letter) refl;
}

abbrev IsLetter : ℕ → Unit {0} → List ℕ → Type 0
IsLetter letter u text = text ≡ letter ∷ []

letter_reader : (letter : ℕ) → letter < 256 → IsReader (IsLetter letter) (letter_in letter)
letter_reader letter below =
    reader_as (IsThen (IsNumber w8) (IsMatch letter)) (IsLetter letter) (letter_in letter) to from
    (then_reader (IsNumber w8) (IsMatch letter) octet_in (letter_is letter) octet_reader (match_reader letter))
  where
    to : (u : Unit {0}) (text : List ℕ) → IsThen (IsNumber w8) (IsMatch letter) u text → IsLetter letter u text
    to u text (byte, front, back, p, q, e) = e ∙ rw (q.1, p.1, append-nil) (sym (octet_text byte p.0)) ∙ ap (λ (m : ℕ). m ∷ []) q.0

    from : (u : Unit {0}) (text : List ℕ) → IsLetter letter u text → IsThen (IsNumber w8) (IsMatch letter) u text
    from u text e = (letter, letter ∷ [], [], (below, octet_text letter below), (refl, refl), e)

abbrev IsVersion : Unit {0} → Unit {0} → List ℕ → Type 0
IsVersion c = IsLetter 49

abbrev IsThird : Unit {0} → Unit {0} → List ℕ → Type 0
IsThird g = IsThen (IsLetter 67) IsVersion

abbrev IsSecond : Unit {0} → Unit {0} → List ℕ → Type 0
IsSecond a = IsThen (IsLetter 71) IsThird

magic_reader : IsReader (IsThen (IsLetter 65) IsSecond) magic_in
magic_reader =
    then_reader (IsLetter 65) IsSecond (letter_in 65) (λ a f. then_in (letter_in 71) (λ g f. then_in (letter_in 67) (λ c f. letter_in 49))) (letter_reader 65 (omega arith))
    (λ a f. then_reader (IsLetter 71) IsThird (letter_in 71) (λ g f. then_in (letter_in 67) (λ c f. letter_in 49)) (letter_reader 71 (omega arith))
    (λ g f. then_reader (IsLetter 67) IsVersion (letter_in 67) (λ c f. letter_in 49) (letter_reader 67 (omega arith)) (λ c f. letter_reader 49 (omega arith))))

abbrev IsWords : Unit {0} → List ℕ → List ℕ → Type 0
IsWords u = IsThen (IsNumber w32) IsRun

abbrev pub IsStart : List ℕ → List ℕ → Type 0
IsStart words text = (length words < 2 ^ 32) × (text ≡ start words)

pub start_reader : IsReader IsStart start_in
start_reader =
    reader_as (IsThen (IsThen (IsLetter 65) IsSecond) IsWords) IsStart start_in to from
    (then_reader (IsThen (IsLetter 65) IsSecond) IsWords magic_in (λ u f. then_in long_in (λ n f. bytes_in n)) magic_reader
    (λ u f. then_reader (IsNumber w32) IsRun long_in (λ n f. bytes_in n) long_reader (λ n f. bytes_reader n)))
  where
    to : (words text : List ℕ) → IsThen (IsThen (IsLetter 65) IsSecond) IsWords words text → IsStart words text
    to words text (u, front, back, (a, fa, ba, pa, (g, fg, bg, pg, (c, fc, bc, pc, v, ec), eg), ea), (n, fn, bn, number, run, en), e) =
        let size : length words ≡ n = run.0 in
        (omega (arith, size, number.0), rw (e, ea, pa, eg, pg, ec, pc, v, en, number.1, run.1, ← size) refl)

    from : (words text : List ℕ) → IsStart words text → IsThen (IsThen (IsLetter 65) IsSecond) IsWords words text
    from words text h = (
      tt,
      65 ∷ 71 ∷ 67 ∷ 49 ∷ [],
      to_be_bytes w32 (length words) ++ words,
      (tt, 65 ∷ [], 71 ∷ 67 ∷ 49 ∷ [], refl, (tt, 71 ∷ [], 67 ∷ 49 ∷ [], refl, (tt, 67 ∷ [], 49 ∷ [], refl, refl, refl), refl), refl),
      (length words, to_be_bytes w32 (length words), words, (h.0, refl), (refl, refl), refl),
      h.1,
    )

-- ---- captures

abbrev with_words : List ℕ → Result (List LogEntry) (At CaptureFault) → Result (List ℕ × List LogEntry) (At CaptureFault)
with_words words log = log >>= λ log. Ok (words, log)

pub read_is_capture : (bytes : List ℕ) (c : List ℕ × List LogEntry) → IsBytes bytes → capture_in bytes ≡ Ok c → IsCapture c.0 c.1 bytes
read_is_capture bytes c fits e =
    let size = length bytes in
    let w = bind_is (start_in size bytes) (λ words. with_words words.0 (all_items (cut size) entry_in size words.1)) c e in
    let l = bind_is (all_items (cut size) entry_in size w.0.1) (λ log. Ok (w.0.0, log)) c w.2 in
    let f = start_reader.finds size bytes w.0 fits w.1 in
    let items = items_are l.0 w.0.1 (items_found (cut size) IsEntry entry_in entry_reader size (entry_shrinks size) w.0.1 l.0 f.rest_fits l.1) in
    subst (λ (x : List ℕ × List LogEntry). IsCapture x.0 x.1 bytes) (ok_is {F = At CaptureFault} (w.0.0, l.0) c l.2)
    (record { small = f.spelled.0; entries = items.0; spelled = f.parts ∙ ap (λ (s : List ℕ). s ++ w.0.1) f.spelled.1 ∙ ap (λ (s : List ℕ). start w.0.0 ++ s) items.1 })

pub capture_is_read : (bytes words : List ℕ) (log : List LogEntry) → IsCapture words log bytes → capture_in bytes ≡ Ok (words, log)
capture_is_read bytes words log h =
    let size = length bytes in
    let start_is : start_in size bytes ≡ Ok (words, flat_map spelling_of log) = ap (start_in size) h.spelled ∙ start_reader.again size words (start words) (flat_map spelling_of log) (h.small, refl) in
    let log_is : all_items (cut size) entry_in size (flat_map spelling_of log) ≡ Ok log = items_again (cut size) IsEntry entry_in entry_reader entry_filled size log (flat_map spelling_of log) (are_items log (flat_map spelling_of log) h.entries refl) in
    rw (start_is, log_is) refl

-- ---- of what a function answers

pub found_by : (bytes : List ℕ) (read : Result Capture (At CaptureFault)) → IsBytes bytes → seen read ≡ capture_in bytes → IfOk read (λ c. IsCapture c.words c.entries bytes)
found_by bytes (Ok c) fits h = read_is_capture bytes (c.words, c.entries) fits (sym h)
found_by bytes (Err e) fits h = tt

seen_is : (read : Result Capture (At CaptureFault)) (words : List ℕ) (log : List LogEntry) → seen read ≡ Ok (words, log) → read ≡ Ok (record { words = words; entries = log })
seen_is (Ok c) words log h =
    let same : (c.words, c.entries) ≡ (words, log) = ok_is {F = At CaptureFault} (c.words, c.entries) (words, log) h in
    ap (λ (x : List ℕ × List LogEntry). Ok (record { words = x.0; entries = x.1 })) same
seen_is (Err e) words log h = absurd cc

pub only_by : (bytes words : List ℕ) (log : List LogEntry) (read : Result Capture (At CaptureFault)) → seen read ≡ capture_in bytes → IsCapture words log bytes → read ≡ Ok (record { words = words; entries = log })
only_by bytes words log read h is = seen_is read words log (h ∙ capture_is_read bytes words log is)

-- ---- laws

pub written_is_capture : (words : List ℕ) (log : List LogEntry) → length words < 2 ^ 32 → AllByRecursion IsInForm log → IsCapture words log (capture words log)
written_is_capture words log small entries = record { small = small; entries = entries; spelled = refl }

pub one_capture : (words more : List ℕ) (log others : List LogEntry) (bytes : List ℕ) → IsCapture words log bytes → IsCapture more others bytes → (words ≡ more) × (log ≡ others)
one_capture words more log others bytes h k =
    let same : (words, log) ≡ (more, others) = ok_is {F = At CaptureFault} (words, log) (more, others) (sym (capture_is_read bytes words log h) ∙ capture_is_read bytes more others k) in
    (ap (λ (x : List ℕ × List LogEntry). x.0) same, ap (λ (x : List ℕ × List LogEntry). x.1) same)

spelled_last : (log : List LogEntry) (e : LogEntry) → flat_map spelling_of (log ++ e ∷ []) ≡ flat_map spelling_of log ++ spelling_of e
spelled_last [] e = append-nil (spelling_of e)
spelled_last (x ∷ log) e = ap (λ (s : List ℕ). spelling_of x ++ s) (spelled_last log e) ∙ sym (append_assoc (spelling_of x) (flat_map spelling_of log) (spelling_of e))

pub history_is : (log : List LogEntry) → spelling log ≡ flat_map spelling_of (reverse log)
history_is [] = refl
history_is (e ∷ log) =
    ap (λ (s : List ℕ). s ++ spelling_of e) (history_is log) ∙ sym (spelled_last (reverse log) e)
    ∙ ap (flat_map spelling_of) (sym (reverse-append (e ∷ []) log))

pub forms_are_spelled : (log : List LogEntry) → AllByRecursion IsInForm log → AllByRecursion HasSpelling log
forms_are_spelled [] h = tt
forms_are_spelled (e ∷ log) h = (h.0.0, forms_are_spelled log h.1)

pub again_by : (bytes : List ℕ) (read : Result Capture (At CaptureFault)) → IsBytes bytes → seen read ≡ capture_in bytes → IfOk read (λ c. (length c.words < 2 ^ 32) × AllByRecursion HasSpelling c.entries)
again_by bytes (Ok c) fits h =
    let is = read_is_capture bytes (c.words, c.entries) fits (sym h) in
    (is.small, forms_are_spelled c.entries is.entries)
again_by bytes (Err e) fits h = tt
