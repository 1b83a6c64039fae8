-- Runs in which each mark is the one that comes next, and what a run of the service is.
use Rattle.std.specs.Prelude.{◌≡◌, ◌⊎◌, ℕ, ◌≤◌, Bool, true, false, List, [], ◌∷◌, ◌++◌, length}
use Rattle.std.specs.Prelude.{nat_lt, if◌then◌else◌, Option, None, Some}
use Rattle.std.specs.List.{AllByRecursion}
use Rattle.gate_outside.specs.declared.ports.End.{End}
use Rattle.gate_outside.specs.declared.ports.Accepted.TheVariants as accepted
use Rattle.gate_outside.specs.declared.ports.Got.TheVariants as got
use Rattle.gate_outside.specs.declared.ports.Put.TheVariants as put
use Rattle.gate_capture.specs.Captures.{spelling}
use Rattle.gate_outside.specs.declared.log.LogEntry.{LogEntry}
use Rattle.gate_outside.specs.declared.log.LogEntry.TheVariants.{Accept, Read, Write, Shut, Now}
use Rattle.gate_outside.specs.Streams.{Appends, AppendsFront}
use Rattle.gate_relay.specs.Entries.{is_out_of_memory, is_empty}
use Rattle.gate_relay.specs.RelayWords.{RelayWords}
use Rattle.gate_runs.specs.declared.limits.Limits.{Limits}
use Rattle.gate_runs.specs.declared.served.Served.{Served}
use Rattle.gate_runs.specs.declared.served.Served.TheVariants.{Stopped, PairsDone, TurnLimit, Fault}
use Rattle.gate_runs.specs.declared.served.Served.TheVariants.{Memory}
use Rattle.gate_runs.specs.declared.served.Outside.TheVariants as outside
use Rattle.gate_runs.specs.Journal.{journal, moment}
use Rattle.gate_runs.specs.Marks.{Mark, History, Call, Refuse, TakeUp, RunOut, Finish, calls}
use Rattle.gate_runs.specs.Next.{Do, Settle, EndBy, Done, AskWrite, asked, next, Point, Ended}
use Rattle.gate_runs.specs.Next.{point, stage_of, live_pairs, accepted_count, out_of_memory_count}
use Rattle.gate_runs.specs.Next.{finish_of}
use Rattle.gate_runs.specs.Report.{lines_so_far, report, last_line}
use Rattle.gate_runs.specs.Stages.{Stage, Reading, Taking, later, writing_at, at_running_out}
use Rattle.wire_base.specs.Bytes.{IsBytes}

-- ---- what may come

-- what ports may answer: pairs are numbered in order, a read gives bytes and fits its room, a write
-- takes of what was offered, no moment falls
abbrev pub Answered : History → LogEntry → Type 0
Answered m (Accept (accepted.Pair p)) = p ≡ accepted_count m
Answered m (Read p end room (got.Bytes n) bytes) =
    (1 ≤ n) × (n ≤ room) × (length bytes ≡ n) × IsBytes bytes
Answered m (Write p end bytes (put.Took n)) = (1 ≤ n) × (n ≤ length bytes)
Answered m (Now ms) = moment m ≤ ms
Answered m entry = Unit {0}

-- where a pair runs out of memory: right after a read that gave bytes of it, right after what came
-- was taken up, or where a write to it of what takes memory comes next
pub data RunsOutAt (w : RelayWords) (c : Limits) (p : ℕ) : Stage → ℕ → History → Type 0 where
  AtRead : (cut : ℕ) (end : End) (room n : ℕ) (bytes : List ℕ) (m : History)
      → RunsOutAt w c p (later (Reading end)) cut (Call (Read p end room (got.Bytes n) bytes) ∷ m)
  AtTakeUp : (cut : ℕ) (m : History) → RunsOutAt w c p (later Taking) cut (TakeUp p ∷ m)
  AtWrite : (end : End) (bytes : List ℕ) (m : History) → next w c m ≡ Do (AskWrite p end bytes)
      → w.takes_memory end (journal p m) ≡ true → RunsOutAt w c p (at_running_out (writing_at end
      (stage_of p (point m)))) 0 m

-- there is no memory for a pair right after its accept
abbrev pub RefusesAt : ℕ → History → Type 0
RefusesAt p (Call (Accept (accepted.Pair q)) ∷ m) = q ≡ p
RefusesAt p m = ⊥

-- the last that happened but for running out of memory was a call
abbrev pub IsCallLast : History → Type 0
IsCallLast [] = ⊥
IsCallLast (Call entry ∷ m) = Unit {0}
IsCallLast (RunOut p s cut ∷ m) = IsCallLast m
IsCallLast (Refuse p ∷ m) = ⊥
IsCallLast (TakeUp p ∷ m) = ⊥
IsCallLast (Finish how ∷ m) = ⊥

-- the service ends as comes next; for want of memory before the first call alone; because out
-- failed where the last that happened has lines; because the record of a call was lost right after
-- that call
abbrev pub EndsBy : RelayWords → Limits → Served → History → Type 0
EndsBy w c Memory m = m ≡ []
EndsBy w c (Fault outside.Out) m = is_empty (lines_so_far w m).newest ≡ false
EndsBy w c (Fault outside.Capture) m = IsCallLast m
EndsBy w c (Fault outside.Accept) m = next w c m ≡ EndBy (Fault outside.Accept)
EndsBy w c Stopped m = next w c m ≡ EndBy Stopped
EndsBy w c PairsDone m = next w c m ≡ EndBy PairsDone
EndsBy w c TurnLimit m = next w c m ≡ EndBy TurnLimit

abbrev pub is_ended : Point → Bool
is_ended Ended = true
is_ended x = false

-- each mark is the one that comes next
abbrev pub Follows : RelayWords → Limits → History → Type 0
Follows w c [] = Unit {0}
Follows w c (Call entry ∷ m) = (next w c m ≡ Do (asked entry)) × Answered m entry × Follows w c m
Follows w c (Refuse p ∷ m) = RefusesAt p m × Follows w c m
Follows w c (TakeUp p ∷ m) = (next w c m ≡ Settle p) × Follows w c m
Follows w c (RunOut p s cut ∷ m) =
    (is_out_of_memory (journal p m) ≡ false) × RunsOutAt w c p s cut m × Follows w c m
Follows w c (Finish how ∷ m) = EndsBy w c how m × (is_ended (point m) ≡ false) × Follows w c m

-- ---- what out and the record of calls hold

-- out holds the report so far
abbrev pub HoldsReport : RelayWords → Option (List ℕ) → Option (List ℕ) → History → Type 0
HoldsReport w base held m = Appends base held (report w m)

-- out failed at the lines of the newest mark: it holds the lines before them, and of them a front
-- part
pub record HoldsFront (w : RelayWords) (base held : Option (List ℕ)) (m : History) : Type 0 where
  pub reached : Option (List ℕ)
  pub before : Appends base reached (lines_so_far w m).before
  pub front : AppendsFront reached held (lines_so_far w m).newest

-- what may happen once a sink failed: an end is shut, or the service ends
abbrev pub is_shutting : Mark → Bool
is_shutting (Call (Shut p end)) = true
is_shutting (Finish how) = true
is_shutting x = false

-- a sink failed
abbrev pub is_sink_fault : Served → Bool
is_sink_fault (Fault outside.Out) = true
is_sink_fault (Fault outside.Capture) = true
is_sink_fault x = false

-- out failed at the lines of a mark, since which ends were shut and nothing else was done; or at
-- the last line, which says how the service ended unless a sink failed after that
pub data OutFailed (w : RelayWords) (base held : Option (List ℕ)) (m : History) : Type 0 where
  AtLines : (before after : History) → m ≡ after ++ before → AllByRecursion (λ x. is_shutting x
      ≡ true) after
      → HoldsFront w base held before → OutFailed w base held m
  AtLastLine : (how : Served) (reached : Option (List ℕ))
      → (finish_of m ≡ Some how) ⊎ (is_sink_fault how ≡ true) → HoldsReport w base reached m
      → AppendsFront reached held (last_line how (accepted_count m)) → OutFailed w base held m

-- out holds the report and one last line
pub record HoldsAll (w : RelayWords) (answer : Served) (base held : Option (List ℕ))
    (m : History) : Type 0 where
  pub reached : Option (List ℕ)
  pub lines : HoldsReport w base reached m
  pub last : Appends reached held (last_line answer (accepted_count m))

abbrev pub IsTold : RelayWords → Served → Option (List ℕ) → Option (List ℕ) → History → Type 0
IsTold w answer base held m =
    HoldsAll w answer base held m ⊎ ((answer ≡ Fault outside.Out) × OutFailed w base held m)

-- what was kept are the spellings of these calls, the newest first
abbrev pub Keeps : Option (List ℕ) → Option (List ℕ) → List LogEntry → Type 0
Keeps base kept entries = Appends base kept (spelling entries)

-- of the spellings of these calls a front part was kept
abbrev pub KeepsFront : Option (List ℕ) → Option (List ℕ) → List LogEntry → Type 0
KeepsFront base kept entries = AppendsFront base kept (spelling entries)

-- the record of a call was lost, since which ends were shut and nothing else was done
pub record LosesCall (base kept : Option (List ℕ)) (m : History) : Type 0 where
  pub before : History
  pub after : History
  pub parts : m ≡ after ++ before
  pub shuts : AllByRecursion (λ x. is_shutting x ≡ true) after
  pub front : KeepsFront base kept (calls before)

abbrev pub IsKept : Served → Option (List ℕ) → Option (List ℕ) → History → Type 0
IsKept answer base kept m =
    Keeps base kept (calls m) ⊎ ((is_sink_fault answer ≡ true) × LosesCall base kept m)

-- a count of 32 bits
abbrev pub counted : ℕ → ℕ
counted n = if nat_lt n 4294967295 then n else 4294967295

-- ---- a run of the service

-- the calls of a run, with what no call shows, and what the report and the record of calls held
-- before and hold after it
pub record IsServed (w : RelayWords) (c : Limits) (answer : Served) (count : ℕ)
    (held held' kept kept' : Option (List ℕ)) (m : History) : Type 0 where
  -- each mark is the one that comes next
  pub follows : Follows w c m
  -- nothing more comes
  pub over : next w c m ≡ Done
  -- no pair lives
  pub shut : live_pairs m ≡ []
  -- how the service ended
  pub why : Served
  pub ended : finish_of m ≡ Some why
  -- the answer says so, unless a sink failed after that
  pub answers : (answer ≡ why) ⊎ (is_sink_fault answer ≡ true)
  -- the count of the pairs that ran out of memory, which stands still at its type's end
  pub counted : counted (out_of_memory_count m) ≡ count
  pub told : IsTold w answer held held' m
  pub recorded : IsKept answer kept kept' m
