-- What the commands do whose input is a capture.
use Rattle.std.specs.Prelude.{◌≡◌, ◌⊎◌, ℕ, List, ◌++◌, length, Option, Result, Ok, Err, codes}
use Rattle.std.specs.Prelude.{decimal}
use Rattle.std.specs.Str.{IsUtf8}
use Rattle.wire_base.specs.declared.scan.At.{At}
use Rattle.gate_outside.specs.declared.log.LogEntry.{LogEntry}
use Rattle.gate_outside.specs.Streams.{Appends, AppendsFront}
use Rattle.gate_capture.specs.Captures.{IsCapture}
use Rattle.gate_capture.specs.Reading.{capture_in}
use Rattle.gate_capture.specs.declared.reading.CaptureFault.{CaptureFault}
use Rattle.gate_capture.specs.declared.reading.CaptureFault.TheVariants as fault
use Rattle.gate_model.specs.Setup.{SetupText}
use Rattle.gate_runs.specs.declared.limits.Limits.{Limits}
use Rattle.gate_show.specs.Listing.{lines}
use Rattle.gate_show.specs.Showing.{IsListed}
use Rattle.gate_show.specs.declared.show.Shown.{Shown}
use Rattle.gate_show.specs.declared.show.Shown.TheVariants as shown
use Rattle.gate_command.specs.declared.input.Input.{Input}
use Rattle.gate_command.specs.declared.input.Input.TheVariants.{Whole, TooLong, Failed}
use Rattle.gate_command.specs.declared.replay.Replayed.{Replayed}
use Rattle.gate_command.specs.declared.replay.Replayed.TheVariants.{Same, Differs}
use Rattle.gate_command.specs.declared.top_call.Status.{Status}
use Rattle.gate_command.specs.declared.top_call.Status.TheVariants as status
use Rattle.gate_command.specs.declared.words.Asked.{Asked}
use Rattle.gate_command.specs.declared.words.Asked.TheVariants.{Serve}
use Rattle.gate_command.specs.declared.words.Misplaced.{Misplaced}
use Rattle.gate_command.specs.Command.{Asks, words_of}
use Rattle.gate_command.specs.Input.{IsInput}
use Rattle.gate_command.specs.Replaying.{IsRerun, IsOther}

-- ---- lines

-- a text, a number and a text
abbrev pub counted_line : List ℕ → ℕ → List ℕ → List ℕ
counted_line before n after = before ++ (decimal n ++ after)

-- how the line for an input at fault ends
abbrev pub fault_text : CaptureFault → List ℕ
fault_text fault.Magic = codes ": Magic\n"
fault_text fault.Cut = codes ": Cut\n"
fault_text fault.Kind = codes ": Kind\n"

abbrev pub bad_line : ℕ → List ℕ → List ℕ
bad_line at text = counted_line (codes "bad input at ") at text

abbrev pub long_line : List ℕ
long_line = bad_line 268435456 (codes ": TooLong\n")

abbrev pub same_line : ℕ → List ℕ
same_line n = counted_line (codes "same: ") n (codes " calls\n")

abbrev pub differs_line : ℕ → List ℕ
differs_line k = counted_line (codes "differs at call ") k (codes "\n")

-- the status and the line of a replay
abbrev pub meant_of : Replayed → Status
meant_of (Same n) = status.Ok
meant_of (Differs k) = status.Differs

abbrev pub line_of : Replayed → List ℕ
line_of (Same n) = same_line n
line_of (Differs k) = differs_line k

-- out took this line, and the status is the one that is meant; or out failed at it
abbrev pub Says : Status → List ℕ → Status → Option (List ℕ) → Option (List ℕ) → Type 0
Says meant line answer held held' =
    ((answer ≡ meant) × Appends held held' line) ⊎ ((answer ≡ status.Outside)
    × AppendsFront held held' line)

-- ---- replays

-- the words that this text tells ask for a run of the service with these limits, whose pairs share
-- this
pub record ServesBy (text : List ℕ) (c : Limits) (s : SetupText) : Type 0 where
  pub listen : List ℕ
  pub upstream : List ℕ
  pub path : Option (List ℕ)
  pub asks : Asks (words_of text) (Serve c s listen upstream path)

-- and it is text
abbrev pub AsksFor : List ℕ → Limits → SetupText → Type 0
AsksFor text c s = IsUtf8 text × ServesBy text c s

-- what the words read ask for
abbrev pub IsService : Result Asked Misplaced → Limits → SetupText → Type 0
IsService read c s =
    (listen : List ℕ) × (upstream : List ℕ) × (path : Option (List ℕ)) × (read
    ≡ Ok (Serve c s listen upstream path))

-- what a replay says of the words and the log of a capture
pub data IsOf (words : List ℕ) (log : List LogEntry) : Status → List ℕ → Type 0 where
  -- its words ask for no run
  WithoutRun : ((c : Limits) (s : SetupText) → ¬ AsksFor words c s)
      → IsOf words log status.BadInput (bad_line 8 (fault_text fault.Kind))
  -- its log is the run of the service that its words ask for, with all its laws
  IsSame : (c : Limits) (s : SetupText) (count : ℕ) → AsksFor words c s → IsRerun s c count log
      → IsOf words log status.Ok (same_line (length log))
  -- that run over its answers makes other calls from this place on
  IsAnother : (c : Limits) (s : SetupText) (k : ℕ) → AsksFor words c s → IsOther s c log k
      → IsOf words log status.Differs (differs_line k)

-- and of the bytes of an input
pub data IsVerdict (bytes : List ℕ) : Status → List ℕ → Type 0 where
  -- they are no capture, and this is their first fault
  AtFault : (e : At CaptureFault) → capture_in bytes ≡ Err e → IsVerdict bytes status.BadInput
      (bad_line e.at (fault_text e.fault))
  OfCapture : (words : List ℕ) (log : List LogEntry) (meant : Status) (line : List ℕ)
      → IsCapture words log bytes → IsOf words log meant line
      → IsVerdict bytes meant line

abbrev pub IsReplayed : Input → Status → Option (List ℕ) → Option (List ℕ) → Type 0
IsReplayed (Whole bytes) answer held held' =
    (meant : Status) × (line : List ℕ) × IsVerdict bytes meant line
    × Says meant line answer held held'
IsReplayed TooLong answer held held' = Says status.BadInput long_line answer held held'
IsReplayed Failed answer held held' = (answer ≡ status.Outside) × (held' ≡ held)

-- ---- listings

-- the lines of all entries; those before the first fault, and its line; or as many as out took
abbrev pub IsShown : List ℕ → Shown → Status → Option (List ℕ) → Option (List ℕ) → Type 0
IsShown bytes shown.Whole answer held held' =
    (answer ≡ status.Ok) × IsListed bytes held held' (Ok shown.Whole)
IsShown bytes (shown.Bad e) answer held held' =
    (listed : Option (List ℕ)) × IsListed bytes held listed (Ok (shown.Bad e))
    × Says status.BadInput (bad_line e.at (fault_text e.fault)) answer listed held'
IsShown bytes shown.OutFailed answer held held' =
    (answer ≡ status.Outside) × IsListed bytes held held' (Ok shown.OutFailed)

abbrev pub IsShownOf : Input → Status → Option (List ℕ) → Option (List ℕ) → Type 0
IsShownOf (Whole bytes) answer held held' = (how : Shown) × IsShown bytes how answer held held'
IsShownOf TooLong answer held held' = Says status.BadInput long_line answer held held'
IsShownOf Failed answer held held' = (answer ≡ status.Outside) × (held' ≡ held)

-- out took the lines of some entries
pub record HasLines (held held' : Option (List ℕ)) : Type 0 where
  pub log : List LogEntry
  pub added : Appends held held' (lines 0 log)

-- ---- the commands

-- what was read of the input was replayed; or memory ran out, and nothing was written
abbrev pub IsReplay : Status → Option (List ℕ) → Option (List ℕ) → Option (List ℕ)
    → Option (List ℕ) → Type 0
IsReplay answer left left' held held' =
    ((read : Input) × IsInput left left' read × IsReplayed read answer held held') ⊎ ((answer
    ≡ status.Memory) × (held' ≡ held))

-- it was listed; or memory ran out behind the lines of some entries
abbrev pub IsListing : Status → Option (List ℕ) → Option (List ℕ) → Option (List ℕ)
    → Option (List ℕ) → Type 0
IsListing answer left left' held held' =
    ((read : Input) × IsInput left left' read × IsShownOf read answer held held') ⊎ ((answer
    ≡ status.Memory) × HasLines held held')
