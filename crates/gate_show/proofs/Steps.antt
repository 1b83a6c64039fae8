-- The steps of a listing of entries.
use Rattle.std.proofs.Common.{◌≡◌, ℕ, ◌+◌, ◌<◌, ◌≤◌, List, [], ◌∷◌, ◌++◌, length, Option, Ok, Err}
use Rattle.std.proofs.Common.{ap, subst, ◌∙◌, append-nil, arith}
use Rattle.std.proofs.lemmas.List.{length-append}
use Rattle.wire_base.specs.Bytes.{IsBytes}
use Rattle.wire_base.specs.declared.stop.Stop.{Stop}
use Rattle.wire_base.specs.declared.stop.Stop.TheVariants as stop
use Rattle.wire_base.proofs.Laws.{Finds}
use Rattle.gate_outside.specs.declared.log.LogEntry.{LogEntry}
use Rattle.gate_outside.specs.Streams.{Appends, AppendsFront}
use Rattle.gate_outside.proofs.Appending.{appends_then}
use Rattle.gate_capture.specs.Reading.{entry_in}
use Rattle.gate_capture.proofs.EntryLaws.{IsEntry, entry_reader, entry_filled}
use Rattle.gate_show.specs.Listing.{line, lines}
use Rattle.gate_show.specs.Showing.{Before, EntriesListed, NextListed, SoFar, ended_by}
use Rattle.gate_show.specs.declared.show.Shown.{Shown}
use Rattle.gate_show.specs.declared.show.Shown.TheVariants.{Whole, Bad, OutFailed}
use Rattle.gate_show.proofs.Held.{one_line_more, front_of_line, one_entry_more}

-- what stands at the front of the bytes
found : (size : ℕ) (rest : List ℕ) (e : LogEntry) (after : List ℕ) → IsBytes rest → entry_in size rest ≡ Ok (e, after) → Finds IsEntry rest (e, after)
found size rest e after fits read = entry_reader.finds size rest (e, after) fits read

pub shorter : (size : ℕ) (rest : List ℕ) (e : LogEntry) (after : List ℕ) → IsBytes rest → entry_in size rest ≡ Ok (e, after) → length after < length rest
shorter size rest e after fits read =
    let f = found size rest e after fits read in
    omega (arith, ap length f.parts, length-append f.front after, entry_filled e f.front f.spelled)

-- an entry more stands before what is left
entry_more : (size : ℕ) (log : List LogEntry) (rest bytes : List ℕ) (e : LogEntry) (after : List ℕ) → IsBytes rest → Before log rest bytes → entry_in size rest ≡ Ok (e, after) → Before (log ++ e ∷ []) after bytes
entry_more size log rest bytes e after fits b read =
    let f = found size rest e after fits read in
    one_entry_more log e rest after bytes b f.spelled.0 (f.parts ∙ ap (λ (s : List ℕ). s ++ after) f.spelled.1)

pub goes_on : (faults faults' faults'' number size : ℕ) (old mid new : Option (List ℕ)) (bytes rest after : List ℕ) (e : LogEntry) → SoFar faults faults' old mid number bytes rest → faults' ≤ faults''
    → entry_in size rest ≡ Ok (e, after) → Appends mid new (line number e) → SoFar faults faults'' old new (number + 1) bytes after
goes_on faults faults' faults'' number size old mid new bytes rest after e s later read added =
    let f = found size rest e after s.fits read in
    let less = shorter size rest e after s.fits read in
    record {
      log = s.log ++ e ∷ [];
      before = entry_more size s.log rest bytes e after s.fits s.before read;
      fits = f.rest_fits;
      count = omega (arith, s.count, length-append s.log (e ∷ []));
      room = omega (arith, s.room, less);
      later = omega (arith, s.later, later);
      listed = one_line_more old mid new s.log e s.listed (subst (λ (n : ℕ). Appends mid new (line n e)) s.count added);
    }

-- nothing more was written
nothing_more : (old mid new : Option (List ℕ)) (text : List ℕ) → Appends old mid text → Appends mid new [] → Appends old new text
nothing_more old mid new text p q = subst (λ (t : List ℕ). Appends old new t) (append-nil text) (appends_then old mid new text [] p q)

pub ends_by : {X : Type 0} (view : X → List ℕ) (why : Stop Shown) (faults faults' number size : ℕ) (old mid new : Option (List ℕ)) (bytes rest : List ℕ) → SoFar faults faults' old mid number bytes rest
    → NextListed view size number rest mid new (Err why) → EntriesListed size bytes old new (ended_by why)
ends_by view stop.Memory faults faults' number size old mid new bytes rest s h = (s.log, rest, s.before, nothing_more old mid new (lines 0 s.log) s.listed h)
ends_by view (stop.Fault Whole) faults faults' number size old mid new bytes rest s h = absurd h
ends_by view (stop.Fault (Bad e)) faults faults' number size old mid new bytes rest s h = (s.log, rest, s.before, h.0, nothing_more old mid new (lines 0 s.log) s.listed h.1)
ends_by view (stop.Fault OutFailed) faults faults' number size old mid new bytes rest s (e, after, read, part) =
    (s.log ++ e ∷ [], after, entry_more size s.log rest bytes e after s.fits s.before read, front_of_line old mid new s.log e s.listed (subst (λ (n : ℕ). AppendsFront mid new (line n e)) s.count part))

pub is_whole : (faults faults' number size : ℕ) (old new : Option (List ℕ)) (bytes rest : List ℕ) → SoFar faults faults' old new number bytes rest → rest ≡ [] → EntriesListed size bytes old new (Ok Whole)
is_whole faults faults' number size old new bytes rest s none = (s.log, subst (λ (t : List ℕ). Before s.log t bytes) none s.before, s.listed)
