-- The report of a run: the lines of each mark stand behind those of the marks before it.
use Rattle.std.specs.Prelude.{◌≡◌, ℕ, Bool, true, false, if◌then◌else◌, List, [], ◌∷◌, ◌++◌}
use Rattle.gate_outside.specs.declared.ports.End.{End}
use Rattle.gate_outside.specs.declared.ports.Got.TheVariants as got
use Rattle.gate_outside.specs.declared.log.LogEntry.TheVariants.{Read, Shut}
use Rattle.gate_relay.specs.Entries.{Refused, Began}
use Rattle.gate_relay.specs.RelayWords.{RelayWords}
use Rattle.gate_runs.specs.Marks.{Mark, History, Call, TakeUp, RunOut}
use Rattle.gate_runs.specs.Journal.{journal}
use Rattle.gate_runs.specs.Stages.{Stage, Writing}
use Rattle.gate_runs.specs.Report.{memory_line, closed_line, closed_lines, mark_lines, report}
use Rattle.gate_turn_laws.specs.Pairs.{is_live}

-- a pair ran out of memory within a read or a take-up, so the lines of that fall away
abbrev pub takes_back : Mark → Bool
takes_back (RunOut p (Writing lap k) cut) = false
takes_back (RunOut p s cut) = true
takes_back x = false

-- the lines of all marks, the oldest first, without those that a mark takes back
abbrev pub told_lines : RelayWords → Bool → History → List ℕ
told_lines w back [] = []
told_lines w back (x ∷ m) = told_lines w (takes_back x) m ++ (if back then [] else mark_lines w x m)

-- a read that gave bytes of p, or the taking up of what came of it
abbrev pub IsStepOf : ℕ → Mark → Type 0
IsStepOf p (Call (Read q end room (got.Bytes n) bytes)) = q ≡ p
IsStepOf p (TakeUp q) = q ≡ p
IsStepOf p x = ⊥

-- the lines of a mark stand right behind all those before it; those of running out of memory within
-- a read or a take-up stand in place of the lines of that read or take-up
pub data AddsLines (w : RelayWords) (x : Mark) (m : History) : Type 0 where
  Adds : report w (x ∷ m) ≡ report w m ++ mark_lines w x m → AddsLines w x m
  InPlace : (p : ℕ) (s : Stage) (cut : ℕ) (y : Mark) (n : History) → x ≡ RunOut p s cut
      → m ≡ y ∷ n → IsStepOf p y
      → report w (x ∷ m) ≡ report w n ++ mark_lines w x m → AddsLines w x m

-- the lines of a shut: those of the pair, and the line closed where the pair lives no more; of a
-- pair that there was no memory for at its accept the lines memory and closed
pub data ShutLines (w : RelayWords) (p : ℕ) (end : End) (m : History) : Type 0 where
  OfPair : mark_lines w (Call (Shut p end)) m
      ≡ w.lines (journal p (Call (Shut p end) ∷ m)) ++ closed_lines p (is_live p (Call
      (Shut p end) ∷ m))
      → ShutLines w p end m
  OfRefused : (ms : ℕ) → journal p m ≡ Refused ∷ Began p ms ∷ []
      → is_live p (Call (Shut p end) ∷ m) ≡ false
      → mark_lines w (Call (Shut p end)) m ≡ memory_line p ++ closed_line p → ShutLines w p end m

abbrev pub MarkTells : RelayWords → Mark → History → Type 0
MarkTells w (Call (Shut p end)) m = AddsLines w (Call (Shut p end)) m × ShutLines w p end m
MarkTells w x m = AddsLines w x m

abbrev pub TellsInOrder : RelayWords → History → Type 0
TellsInOrder w [] = Unit {0}
TellsInOrder w (x ∷ m) = MarkTells w x m × TellsInOrder w m
