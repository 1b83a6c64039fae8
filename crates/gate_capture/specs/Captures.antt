-- Captures, version 1: the words of a command, and a log.
use Rattle.std.specs.Prelude.{◌≡◌, ℕ, ◌<◌, ◌≤◌, ◌^◌, List, [], ◌∷◌, ◌++◌, length}
use Rattle.std.specs.Int.{w32, to_be_bytes}
use Rattle.std.specs.List.{flat_map, AllByRecursion}
use Rattle.gate_outside.specs.declared.ports.Accepted.{Accepted}
use Rattle.gate_outside.specs.declared.ports.Accepted.TheVariants as accepted
use Rattle.gate_outside.specs.declared.log.LogEntry.{LogEntry}
use Rattle.gate_outside.specs.declared.log.LogEntry.TheVariants as entry
use Rattle.gate_capture.specs.Spelling.{spelling_of, HasSpelling}

-- the letters AGC and the version 1, and the words behind their length in four bytes
abbrev pub start : List ℕ → List ℕ
start words = 65 ∷ 71 ∷ 67 ∷ 49 ∷ to_be_bytes w32 (length words) ++ words

-- the words, and the entries in the order of the calls
abbrev pub capture : List ℕ → List LogEntry → List ℕ
capture words log = start words ++ flat_map spelling_of log

-- the entries of a log whose newest entry stands first, in the order of the calls
abbrev pub spelling : List LogEntry → List ℕ
spelling [] = []
spelling (entry ∷ history) = spelling history ++ spelling_of entry

abbrev pub AnswerFits : Accepted → Type 0
AnswerFits (accepted.Pair pair) = pair < 2 ^ 32
AnswerFits accepted.NotYet = Unit {0}
AnswerFits accepted.Failed = Unit {0}

-- the numbers of an entry fit their fields, and a read has room for a byte
abbrev pub FieldsFit : LogEntry → Type 0
FieldsFit (entry.Accept answer) = AnswerFits answer
FieldsFit (entry.Connect pair answer) = pair < 2 ^ 32
FieldsFit (entry.Read pair end room answer bytes) = (pair < 2 ^ 32) × (1 ≤ room) × (room < 2 ^ 32)
FieldsFit (entry.Write pair end bytes answer) = pair < 2 ^ 32
FieldsFit (entry.Shut pair end) = pair < 2 ^ 32
FieldsFit (entry.Idle answer) = Unit {0}
FieldsFit (entry.Now ms) = ms < 2 ^ 64

-- an entry that a capture can hold
abbrev pub IsInForm : LogEntry → Type 0
IsInForm entry = HasSpelling entry × FieldsFit entry

-- the bytes are the capture of these words and this log
pub record IsCapture (words : List ℕ) (log : List LogEntry) (bytes : List ℕ) : Type 0 where
  pub small : length words < 2 ^ 32
  pub entries : AllByRecursion IsInForm log
  pub spelled : bytes ≡ capture words log
