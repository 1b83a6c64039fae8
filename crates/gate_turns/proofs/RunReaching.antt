-- The run reaches a place in the turn, or a sink failed.
use Rattle.std.proofs.Common.{◌≡◌, ℕ, false, List, Option, Result, Ok, Err}
use Rattle.gate_outside.specs.Streams.{Appends}
use Rattle.gate_relay.specs.Entries.{Entry}
use Rattle.gate_relay.specs.RelayWords.{RelayWords}
use Rattle.gate_runs.specs.declared.served.Served.TheVariants.{Fault}
use Rattle.gate_runs.specs.Marks.{History, calls}
use Rattle.gate_runs.specs.Next.{point}
use Rattle.gate_runs.specs.Serving.{Follows, IsCallLast, is_ended}
use Rattle.gate_turns.specs.declared.tally.SinkFault.{SinkFault}
use Rattle.gate_turns.specs.declared.tally.SinkFault.TheVariants.{Out, Capture}
use Rattle.gate_turns.specs.Parts.{TellsBy, outside_of}
use Rattle.gate_turns.specs.Rounds.{AtEnd, InRun, RunAgrees, RunContext, RunState}
use Rattle.gate_turns.proofs.Reporting.{HasLines, KeepsAfter, ends_by, holds_by}

abbrev pub ReachesPlace : {A : Type 0} → RelayWords → (A → List Entry → Type 0) → Type 0 → Result (Unit {0}) SinkFault → RunContext → RunState A → History → Type 0
ReachesPlace w r place (Ok done) x t n = InRun w r x place t n
ReachesPlace w r place (Err fault) x t n = AtEnd w r (Fault (outside_of fault)) x t n

-- the history grew by marks of which these are the lines, the last of them a call
pub run_reaches : {A : Type 0} (w : RelayWords) (r : A → List Entry → Type 0) (place : Type 0) (result : Result (Unit {0}) SinkFault) (x : RunContext) (t : RunState A)
    (held : Option (List ℕ)) (n : History) (before lines : List ℕ) → place → is_ended (point n) ≡ false → Follows w x.limits n → RunAgrees r x t n
    → HasLines w n before lines → Appends x.held held before → TellsBy result held t.held lines → IsCallLast n → KeepsAfter result x.kept t.kept (calls n)
    → ReachesPlace w r place result x t n
run_reaches {A} w r place (Ok done) x t held n before lines at open_still follows agrees e p told last kept = record {
  at = at;
  agrees = agrees;
  told = holds_by w (Ok done) x.held held t.held n before lines e p told;
  kept = kept;
}
run_reaches {A} w r place (Err Out) x t held n before lines at open_still follows agrees e p told last kept = record {
  ends = ends_by w x.limits Out n before lines held t.held e last told;
  open_still = open_still;
  follows = follows;
  agrees = agrees;
  told = holds_by w (Err Out) x.held held t.held n before lines e p told;
  kept = kept;
}
run_reaches {A} w r place (Err Capture) x t held n before lines at open_still follows agrees e p told last kept = record {
  ends = ends_by w x.limits Capture n before lines held t.held e last told;
  open_still = open_still;
  follows = follows;
  agrees = agrees;
  told = holds_by w (Err Capture) x.held held t.held n before lines e p told;
  kept = kept;
}
