-- What a replay is: a run of the service over the answers of a log.
use Rattle.std.specs.Prelude.{◌≡◌, ◌≢◌, ℕ, Bool, true, false, if◌then◌else◌, List, [], ◌∷◌, ◌++◌}
use Rattle.std.specs.Prelude.{length, take, reverse, slice_get, Option, None, Some}
use Rattle.gate_outside.specs.declared.ports.End.TheVariants.{Client}
use Rattle.gate_outside.specs.declared.ports.Put.TheVariants.{Took}
use Rattle.gate_outside.specs.declared.log.Call.{Call}
use Rattle.gate_outside.specs.declared.log.LogEntry.{LogEntry}
use Rattle.gate_outside.specs.declared.log.LogEntry.TheVariants.{Write}
use Rattle.gate_outside.specs.LogState.{LogState, entry_of}
use Rattle.gate_capture.specs.Replay.{ReplayState, begun, whole, difference}
use Rattle.gate_model.specs.Setup.{SetupText}
use Rattle.gate_runs.specs.declared.limits.Limits.{Limits}
use Rattle.gate_runs.specs.declared.served.Served.{Served}
use Rattle.gate_runs.specs.Marks.{History, calls}
use Rattle.gate_command.specs.declared.replay.Replayed.{Replayed}
use Rattle.gate_command.specs.declared.replay.Replayed.TheVariants.{Same, Differs}
use Rattle.gate_command.specs.Runs.{IsRunOf}

-- ---- ports that answer from a log, and tell it beside their calls

-- the ports; the calls from the first on that wasn't its entry, in their order; whether they are
-- told
pub record RerunState : Type 0 where
  pub ports : ReplayState
  pub rest : List LogEntry
  pub tells : Bool

-- before the first call
abbrev pub anew : List LogEntry → RerunState
anew entries = record { ports = begun entries; rest = []; tells = true }

-- a mark between calls and a log, which no call is: of a write of no byte one was taken
abbrev pub no_call : LogEntry
no_call = Write 0 Client [] (Took 1)

-- the calls, the newest first, and behind the mark the log that they are answered from
abbrev pub told_over : RerunState → Option (List LogEntry)
told_over rerun =
    if rerun.tells then Some (reverse rerun.rest ++ (rerun.ports.log.used
    ++ no_call ∷ whole rerun.ports.log)) else None

-- the calls from some place on aren't the entries from there on: the first of both isn't the same
pub record Parts (rest left : List LogEntry) : Type 0 where
  pub first : LogEntry
  pub later : List LogEntry
  pub calls : rest ≡ first ∷ later
  pub other : slice_get left 0 ≢ Some first

-- while each call was its entry, no other is kept; since then the first that isn't
abbrev pub Agrees : Bool → Bool → List LogEntry → List LogEntry → Type 0
Agrees false tells rest left = (rest ≡ []) × (tells ≡ true)
Agrees true tells rest left = tells ≡ true → Parts rest left

-- a call for which the log used no entry is noted, where it finds room; another isn't
abbrev pub IsNoted : Bool → Call → List ℕ → Bool → Bool → LogState → LogState → Type 0
IsNoted false call bytes tells tells' old new = (tells' ≡ tells) × (new ≡ old)
IsNoted true call bytes tells tells' old new =
    tells' ≡ true → (tells ≡ true) × (new.entries ≡ old.entries ++ entry_of call bytes ∷ [])

-- what is answered after a run in which so many pairs ran out of memory
abbrev pub Answers : RerunState → ℕ → Replayed → Type 0
Answers rerun count (Same n) =
    (difference rerun.ports ≡ None) × (n ≡ length (whole rerun.ports.log))
Answers rerun count (Differs k) =
    (difference rerun.ports ≡ Some k) × (rerun.tells ≡ true) × (count ≡ 0)

-- ---- what a replay says of a log

-- these are the calls of a run of the service, with all its laws, in which so many pairs ran out of
-- memory
pub record IsRerun (s : SetupText) (c : Limits) (count : ℕ) (log : List LogEntry) : Type 0 where
  pub history : History
  pub made : log ≡ reverse (calls history)
  pub how : Served
  pub run : IsRunOf s c how count None None None None history

-- the run made other calls than the recorded ones: both lists are the same before this place, and
-- not there
pub record GoesApart (k : ℕ) (made log : List LogEntry) : Type 0 where
  pub front : take k made ≡ take k log
  pub other : slice_get made k ≢ slice_get log k

pub record IsOther (s : SetupText) (c : Limits) (log : List LogEntry) (k : ℕ) : Type 0 where
  pub made : List LogEntry
  pub run : IsRerun s c 0 made
  pub place : GoesApart k made log

-- the log is a run of the service, with so many calls; or it parts from one at this place
abbrev pub Replays : SetupText → Limits → List LogEntry → Replayed → Type 0
Replays s c log (Same n) = (n ≡ length log) × ((count : ℕ) × IsRerun s c count log)
Replays s c log (Differs k) = IsOther s c log k
