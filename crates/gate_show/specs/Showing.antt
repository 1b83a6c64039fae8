-- What the listing of a capture writes, by how it ended.
use Rattle.std.specs.Prelude.{◌≡◌, ℕ, ◌+◌, ◌≤◌, ◌⊎◌, ◌<◌, ◌^◌, List, [], ◌++◌, length, Option}
use Rattle.std.specs.Prelude.{Result, Ok, Err}
use Rattle.std.specs.List.{flat_map, AllByRecursion}
use Rattle.wire_base.specs.Bytes.{IsBytes}
use Rattle.wire_base.specs.declared.memory.Memory.{Memory}
use Rattle.wire_base.specs.declared.scan.At.{At}
use Rattle.wire_base.specs.declared.stop.Stop.{Stop}
use Rattle.wire_base.specs.declared.stop.Stop.TheVariants as stop
use Rattle.gate_outside.specs.declared.log.LogEntry.{LogEntry}
use Rattle.gate_outside.specs.Streams.{Appends, AppendsFront}
use Rattle.gate_capture.specs.Spelling.{spelling_of}
use Rattle.gate_capture.specs.Captures.{capture, IsInForm, IsCapture}
use Rattle.gate_capture.specs.Reading.{start_in, entry_in}
use Rattle.gate_capture.specs.declared.reading.CaptureFault.{CaptureFault}
use Rattle.gate_show.specs.Listing.{line, lines}
use Rattle.gate_show.specs.declared.show.Shown.{Shown}
use Rattle.gate_show.specs.declared.show.Shown.TheVariants.{Whole, Bad, OutFailed}

-- the bytes are these entries, and the rest
pub record Before (log : List LogEntry) (rest bytes : List ℕ) : Type 0 where
  pub entries : AllByRecursion IsInForm log
  pub parts : bytes ≡ flat_map spelling_of log ++ rest

-- the lines of the entries with which the bytes begin; all of them, or those before the first fault
-- or before out failed
abbrev pub EntriesListed : ℕ → List ℕ → Option (List ℕ) → Option (List ℕ) → Result Shown Memory
    → Type 0
EntriesListed size bytes old new (Ok Whole) =
    (log : List LogEntry) × Before log [] bytes × Appends old new (lines 0 log)
EntriesListed size bytes old new (Ok (Bad e)) =
    (log : List LogEntry) × (rest : List ℕ) × Before log rest bytes × (entry_in size rest
    ≡ Err e) × Appends old new (lines 0 log)
EntriesListed size bytes old new (Ok OutFailed) =
    (log : List LogEntry) × (rest : List ℕ) × Before log rest bytes
    × AppendsFront old new (lines 0 log)
EntriesListed size bytes old new (Err e) =
    (log : List LogEntry) × (rest : List ℕ) × Before log rest bytes × Appends old new (lines 0 log)

-- the line of the entry with which the bytes begin, or why there is none
abbrev pub NextListed : {X : Type 0} → (X → List ℕ) → ℕ → ℕ → List ℕ → Option (List ℕ)
    → Option (List ℕ) → Result X (Stop Shown) → Type 0
NextListed view size number bytes old new (Ok rest) =
    (entry : LogEntry) × (entry_in size bytes ≡ Ok (entry, view rest))
    × Appends old new (line number entry)
NextListed view size number bytes old new (Err (stop.Fault Whole)) = ⊥
NextListed view size number bytes old new (Err (stop.Fault (Bad e))) =
    (entry_in size bytes ≡ Err e) × Appends old new []
NextListed view size number bytes old new (Err (stop.Fault OutFailed)) =
    (entry : LogEntry) × (rest : List ℕ) × (entry_in size bytes
    ≡ Ok (entry, rest)) × AppendsFront old new (line number entry)
NextListed view size number bytes old new (Err stop.Memory) = Appends old new []

-- how far a listing has come: what is left, and the lines of the entries before it
pub record SoFar (faults faults' : ℕ) (old new : Option (List ℕ)) (number : ℕ)
    (bytes rest : List ℕ) : Type 0 where
  pub log : List LogEntry
  pub before : Before log rest bytes
  pub fits : IsBytes rest
  pub count : number ≡ length log
  pub room : number + length rest ≤ length bytes
  pub later : faults ≤ faults'
  pub listed : Appends old new (lines 0 log)

abbrev pub ended_by : Stop Shown → Result Shown Memory
ended_by stop.Memory = Err (record {})
ended_by (stop.Fault shown) = Ok shown

-- the bytes begin with the capture of these words and this log, and the rest is left
pub record BeginsWith (words : List ℕ) (log : List LogEntry) (rest bytes : List ℕ) : Type 0 where
  pub small : length words < 2 ^ 32
  pub entries : AllByRecursion IsInForm log
  pub parts : bytes ≡ capture words log ++ rest

-- the first fault is in the start of the capture, or in what is left behind these entries
abbrev pub IsBefore : At CaptureFault → List LogEntry → List ℕ → Type 0
IsBefore e log bytes =
    ((log ≡ []) × (start_in (length bytes) bytes ≡ Err e))
    ⊎ ((words : List ℕ) × (rest : List ℕ) × BeginsWith words log rest bytes
    × (entry_in (length bytes) rest ≡ Err e))

-- no entry, or some with which the bytes begin
abbrev pub AreFirst : List LogEntry → List ℕ → Type 0
AreFirst log bytes =
    (log ≡ []) ⊎ ((words : List ℕ) × (rest : List ℕ) × BeginsWith words log rest bytes)

-- Whole: out holds the lines of all entries of the capture. Bad: those of the entries before the
-- first fault. OutFailed, and where memory ran out: a front part of the lines of entries with which
-- the bytes begin.
abbrev pub IsListed : List ℕ → Option (List ℕ) → Option (List ℕ) → Result Shown Memory → Type 0
IsListed bytes old new (Ok Whole) =
    (words : List ℕ) × (log : List LogEntry) × IsCapture words log bytes
    × Appends old new (lines 0 log)
IsListed bytes old new (Ok (Bad e)) =
    (log : List LogEntry) × IsBefore e log bytes × Appends old new (lines 0 log)
IsListed bytes old new (Ok OutFailed) =
    (log : List LogEntry) × AreFirst log bytes × AppendsFront old new (lines 0 log)
IsListed bytes old new (Err e) =
    (log : List LogEntry) × AreFirst log bytes × Appends old new (lines 0 log)

abbrev pub start_ended_by : Stop (At CaptureFault) → Result Shown Memory
start_ended_by stop.Memory = Err (record {})
start_ended_by (stop.Fault e) = Ok (Bad e)
