-- The report of a run: the lines of each mark, and one last line.
use Rattle.std.specs.Prelude.{ℕ, Bool, true, false, List, [], ◌∷◌, ◌++◌, codes, decimal}
use Rattle.gate_outside.specs.declared.log.LogEntry.{LogEntry}
use Rattle.gate_outside.specs.declared.log.LogEntry.TheVariants.{Accept, Connect, Read, Write, Shut}
use Rattle.gate_outside.specs.declared.log.LogEntry.TheVariants.{Idle, Now}
use Rattle.gate_relay.specs.Entries.{Entry}
use Rattle.gate_relay.specs.RelayWords.{RelayWords}
use Rattle.gate_relay.specs.Sides.{sides, has_end}
use Rattle.gate_runs.specs.declared.served.Served.{Served}
use Rattle.gate_runs.specs.declared.served.Served.TheVariants.{Stopped, PairsDone, TurnLimit, Fault}
use Rattle.gate_runs.specs.declared.served.Served.TheVariants.{Memory}
use Rattle.gate_runs.specs.declared.served.Outside.TheVariants as outside
use Rattle.gate_runs.specs.Journal.{journal}
use Rattle.gate_runs.specs.Marks.{Mark, History, Call, Refuse, TakeUp, RunOut, Finish}
use Rattle.gate_runs.specs.Next.{Point, Refusing, point, live_pairs}
use Rattle.gate_runs.specs.Stages.{Writing}

-- ---- the lines of the loop

-- a line about a pair
abbrev pub pair_line : ℕ → List ℕ → List ℕ
pair_line p what = codes "pair " ++ (decimal p ++ what)

abbrev pub memory_line : ℕ → List ℕ
memory_line p = pair_line p (codes " memory\n")

abbrev pub closed_line : ℕ → List ℕ
closed_line p = pair_line p (codes " closed\n")

abbrev pub count_line : List ℕ → ℕ → List ℕ
count_line what accepted = what ++ (decimal accepted ++ codes " pairs\n")

-- the last line: how the service ended, after so many pairs were accepted; there is none where out
-- failed
abbrev pub last_line : Served → ℕ → List ℕ
last_line Stopped accepted = count_line (codes "stopped: ") accepted
last_line PairsDone accepted = count_line (codes "done: ") accepted
last_line TurnLimit accepted = count_line (codes "turn limit: ") accepted
last_line (Fault outside.Accept) accepted = codes "fault: accept\n"
last_line (Fault outside.Out) accepted = []
last_line (Fault outside.Capture) accepted = codes "fault: capture\n"
last_line Memory accepted = codes "memory\n"

-- ---- the lines of a mark

-- where both ends are shut, or the client's where there is no other, the pair is closed
abbrev pub closed_lines : ℕ → Bool → List ℕ
closed_lines p true = []
closed_lines p false = closed_line p

-- after a shut: a pair that there was no memory for at its accept has the lines of the loop alone
abbrev pub shut_lines : RelayWords → ℕ → Point → List Entry → List ℕ
shut_lines w p (Refusing q) h = memory_line p ++ closed_line p
shut_lines w p x h = w.lines h ++ closed_lines p (has_end (sides h))

-- the newest lines of these pairs, in their order
abbrev pub lines_of : RelayWords → List ℕ → History → List ℕ
lines_of w [] n = []
lines_of w (p ∷ ps) n = w.lines (journal p n) ++ lines_of w ps n

-- the lines of a call
abbrev pub call_lines : RelayWords → LogEntry → History → List ℕ
call_lines w (Accept answer) m = []
call_lines w (Connect p answer) m = w.lines (journal p (Call (Connect p answer) ∷ m))
call_lines w (Read p end room answer bytes) m =
    w.lines (journal p (Call (Read p end room answer bytes) ∷ m))
call_lines w (Write p end bytes answer) m =
    w.lines (journal p (Call (Write p end bytes answer) ∷ m))
call_lines w (Shut p end) m = shut_lines w p (point m) (journal p (Call (Shut p end) ∷ m))
call_lines w (Idle answer) m = []
call_lines w (Now ms) m = lines_of w (live_pairs m) (Call (Now ms) ∷ m)

-- the lines of a mark after a history
abbrev pub mark_lines : RelayWords → Mark → History → List ℕ
mark_lines w (Call entry) m = call_lines w entry m
mark_lines w (Refuse p) m = []
mark_lines w (TakeUp p) m = w.lines (journal p (TakeUp p ∷ m))
mark_lines w (RunOut p s cut) m = memory_line p ++ w.lines (journal p (RunOut p s cut ∷ m))
mark_lines w (Finish how) m = []

-- ---- the report

-- what the newest mark adds to the lines of those before it
pub record Lines : Type 0 where
  pub before : List ℕ
  pub newest : List ℕ

abbrev pub all_lines : Lines → List ℕ
all_lines t = t.before ++ t.newest

-- of a read or a take-up within which the pair ran out of memory only what counts is told, so the
-- lines of that mark fall away
abbrev pub lines_before : Mark → Lines → List ℕ
lines_before (RunOut p (Writing lap k) cut) t = all_lines t
lines_before (RunOut p s cut) t = t.before
lines_before x t = all_lines t

abbrev pub lines_so_far : RelayWords → History → Lines
lines_so_far w [] = record { before = []; newest = [] }
lines_so_far w (x ∷ m) =
    record { before = lines_before x (lines_so_far w m); newest = mark_lines w x m }

abbrev pub report : RelayWords → History → List ℕ
report w m = all_lines (lines_so_far w m)
