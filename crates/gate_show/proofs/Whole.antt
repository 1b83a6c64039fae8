-- The listing of a whole input.
use Rattle.std.proofs.Common.{◌≡◌, ℕ, List, [], ◌++◌, length, Option, Result, Ok, Err, refl, sym}
use Rattle.std.proofs.Common.{ap, ◌∙◌, append_assoc, append-nil, inl, inr}
use Rattle.std.specs.List.{flat_map}
use Rattle.wire_base.specs.Bytes.{IsBytes}
use Rattle.wire_base.specs.Reading.{Stops}
use Rattle.wire_base.specs.declared.memory.Memory.{Memory}
use Rattle.wire_base.specs.declared.scan.At.{At}
use Rattle.wire_base.specs.declared.stop.Stop.{Stop}
use Rattle.wire_base.specs.declared.stop.Stop.TheVariants as stop
use Rattle.gate_outside.specs.declared.log.LogEntry.{LogEntry}
use Rattle.gate_capture.specs.Spelling.{spelling_of}
use Rattle.gate_capture.specs.Captures.{start, capture}
use Rattle.gate_capture.specs.Reading.{start_in}
use Rattle.gate_capture.specs.declared.reading.CaptureFault.{CaptureFault}
use Rattle.gate_capture.proofs.CaptureLaws.{start_reader}
use Rattle.gate_show.specs.Showing.{Before, BeginsWith, EntriesListed, IsListed, start_ended_by}
use Rattle.gate_show.specs.declared.show.Shown.{Shown}
use Rattle.gate_show.specs.declared.show.Shown.TheVariants.{Whole, Bad, OutFailed}
use Rattle.gate_show.proofs.Held.{appends_nothing}

begins : (words behind bytes : List ℕ) (log : List LogEntry) (rest : List ℕ) → IsBytes bytes → start_in (length bytes) bytes ≡ Ok (words, behind) → Before log rest behind → BeginsWith words log rest bytes
begins words behind bytes log rest fits read b =
    let f = start_reader.finds (length bytes) bytes (words, behind) fits read in
    record {
      small = f.spelled.0;
      entries = b.entries;
      parts = f.parts ∙ ap (λ (s : List ℕ). s ++ behind) f.spelled.1 ∙ ap (λ (s : List ℕ). start words ++ s) b.parts
          ∙ sym (append_assoc (start words) (flat_map spelling_of log) rest);
    }

pub all_listed : (words behind bytes : List ℕ) (old new : Option (List ℕ)) (answer : Result Shown Memory) → IsBytes bytes → start_in (length bytes) bytes ≡ Ok (words, behind)
    → EntriesListed (length bytes) behind old new answer → IsListed bytes old new answer
all_listed words behind bytes old new (Ok Whole) fits read (log, b, added) =
    let w = begins words behind bytes log [] fits read b in
    (words, log, record { small = w.small; entries = w.entries; spelled = w.parts ∙ append-nil (capture words log) }, added)
all_listed words behind bytes old new (Ok (Bad e)) fits read (log, rest, b, fault, added) = (log, inr (words, rest, begins words behind bytes log rest fits read b, fault), added)
all_listed words behind bytes old new (Ok OutFailed) fits read (log, rest, b, part) = (log, inr (words, rest, begins words behind bytes log rest fits read b), part)
all_listed words behind bytes old new (Err e) fits read (log, rest, b, added) = (log, inr (words, rest, begins words behind bytes log rest fits read b), added)

pub start_listed : (why : Stop (At CaptureFault)) (bytes : List ℕ) (held : Option (List ℕ)) → Stops why (start_in (length bytes) bytes) → IsListed bytes held held (start_ended_by why)
start_listed stop.Memory bytes held h = ([], inl refl, appends_nothing held)
start_listed (stop.Fault e) bytes held h = ([], inl (refl, h), appends_nothing held)
