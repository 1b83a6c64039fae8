-- How the service ends, and what each turn did.
use Rattle.std.specs.Prelude.{◌≡◌, ℕ, Bool, true, false, [], ◌∷◌, Option, None, Some, is_some}
use Rattle.gate_outside.specs.declared.ports.End.{End}
use Rattle.gate_outside.specs.declared.ports.Accepted.TheVariants as accepted
use Rattle.gate_outside.specs.declared.ports.Next.TheVariants.{Go, Stop}
use Rattle.gate_outside.specs.declared.log.LogEntry.{LogEntry}
use Rattle.gate_outside.specs.declared.log.LogEntry.TheVariants.{Accept, Shut, Idle, Now}
use Rattle.gate_relay.specs.Entries.{is_empty}
use Rattle.gate_relay.specs.RelayWords.{RelayWords}
use Rattle.gate_runs.specs.declared.limits.Limits.{Limits}
use Rattle.gate_runs.specs.declared.served.Served.{Served}
use Rattle.gate_runs.specs.declared.served.Served.TheVariants.{Stopped, PairsDone, TurnLimit, Fault}
use Rattle.gate_runs.specs.declared.served.Served.TheVariants.{Memory}
use Rattle.gate_runs.specs.declared.served.Outside.TheVariants as outside
use Rattle.gate_runs.specs.Marks.{Mark, History, Call, Refuse, TakeUp, RunOut, Finish}
use Rattle.gate_runs.specs.Next.{accepted_count, pair_limit, live_pairs, turns_begun, is_done}
use Rattle.gate_runs.specs.Next.{has_moved, finish_of}
use Rattle.gate_runs.specs.Report.{lines_so_far}
use Rattle.gate_runs.specs.Serving.{IsCallLast}

abbrev pub newest : History → Option Mark
newest [] = None
newest (x ∷ m) = Some x

-- the newest mark is a call whose answer ends the service
abbrev pub is_stopped : History → Bool
is_stopped [] = false
is_stopped (Call (Idle Stop) ∷ m) = true
is_stopped (Call (Accept accepted.Failed) ∷ m) = true
is_stopped (x ∷ m) = false

-- why the service ends so after m: idle answered Stop; all pairs asked for were accepted and have
-- closed; exactly the turns asked for were made; accept failed; out failed at lines of the newest
-- mark; the record of the newest call was lost; there was no memory for the loop itself, before the
-- first call
abbrev pub EndsAs : RelayWords → Limits → History → Served → Type 0
EndsAs w c m Stopped = newest m ≡ Some (Call (Idle Stop))
EndsAs w c m PairsDone =
    (accepted_count m ≡ pair_limit c) × (live_pairs m ≡ []) × (is_stopped m ≡ false)
EndsAs w c m TurnLimit = (turns_begun m ≡ c.turns) × (is_done c m ≡ false) × (is_stopped m ≡ false)
EndsAs w c m (Fault outside.Accept) = newest m ≡ Some (Call (Accept accepted.Failed))
EndsAs w c m (Fault outside.Out) = is_empty (lines_so_far w m).newest ≡ false
EndsAs w c m (Fault outside.Capture) = IsCallLast m
EndsAs w c m Memory = m ≡ []

-- the service runs: it hasn't ended, and no answer ended it
pub record Runs (m : History) : Type 0 where
  pub lasts : finish_of m ≡ None
  pub goes_on : is_stopped m ≡ false

-- a call comes while the service runs, or shuts an end after its end
pub data ComesAfter (m : History) (entry : LogEntry) : Type 0 where
  InService : Runs m → ComesAfter m entry
  Closes : (p : ℕ) (end : End) → entry ≡ Shut p end → is_some (finish_of m) ≡ true
      → ComesAfter m entry

-- the service ends at most once, with a cause, and after its end only shuts come
abbrev pub EndsOnce : RelayWords → Limits → History → Type 0
EndsOnce w c [] = Unit {0}
EndsOnce w c (Call entry ∷ m) = ComesAfter m entry × EndsOnce w c m
EndsOnce w c (Refuse p ∷ m) = Runs m × EndsOnce w c m
EndsOnce w c (TakeUp p ∷ m) = Runs m × EndsOnce w c m
EndsOnce w c (RunOut p s cut ∷ m) = Runs m × EndsOnce w c m
EndsOnce w c (Finish how ∷ m) = (finish_of m ≡ None) × EndsAs w c m how × EndsOnce w c m

-- no turn began yet; or in the last turn something moved, or idle was called and told to go on
pub data Did (m : History) : Type 0 where
  NoneYet : m ≡ [] → Did m
  Moved : has_moved m ≡ true → Did m
  Idled : newest m ≡ Some (Call (Idle Go)) → Did m

-- before each turn, and before the service ends between two turns, the last turn did something
abbrev pub TurnsDid : History → Type 0
TurnsDid [] = Unit {0}
TurnsDid (Call (Now ms) ∷ m) = Did m × TurnsDid m
TurnsDid (Finish PairsDone ∷ m) = Did m × TurnsDid m
TurnsDid (Finish TurnLimit ∷ m) = Did m × TurnsDid m
TurnsDid (x ∷ m) = TurnsDid m
