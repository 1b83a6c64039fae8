-- A part of a pair's turn reaches its next stage, or a sink failed in it.
use Rattle.std.proofs.Common.{◌≡◌, ℕ, ◌+◌, true, false, List, Option, Result, Ok, Err, refl, ap}
use Rattle.std.proofs.Common.{◌∙◌, arith}
use Rattle.std.proofs.lemmas.Bool.Decides.{nat_tests}
use Rattle.gate_outside.specs.Streams.{Appends}
use Rattle.gate_relay.specs.Entries.{Entry, is_empty}
use Rattle.gate_relay.specs.RelayWords.{RelayWords}
use Rattle.gate_relay.specs.Sides.{has_end}
use Rattle.gate_runs.specs.Marks.{History, calls}
use Rattle.gate_runs.specs.Next.{Point, BetweenTurns, ClockRead, BeforePairs, Refusing, InPair}
use Rattle.gate_runs.specs.Next.{Ending, Ended, point}
use Rattle.gate_runs.specs.Report.{Lines}
use Rattle.gate_runs.specs.Serving.{IsCallLast, counted, is_ended}
use Rattle.gate_runs.specs.Stages.{Stage}
use Rattle.gate_turns.specs.declared.tally.SinkFault.{SinkFault}
use Rattle.gate_turns.specs.declared.tally.SinkFault.TheVariants.{Out, Capture}
use Rattle.gate_turns.specs.Parts.{AtStage, PartContext, PartState, PartAgrees, Reaches, PartEffect}
use Rattle.gate_turns.specs.Parts.{TellsBy, is_inside}
use Rattle.gate_turns.proofs.Reporting.{HasLines, KeepsAfter, holds_by}

pub inside_open : (x : Point) → is_inside x ≡ true → is_ended x ≡ false
inside_open BetweenTurns e = refl
inside_open ClockRead e = refl
inside_open BeforePairs e = refl
inside_open (Refusing p) e = refl
inside_open (InPair p s) e = refl
inside_open (Ending how) e = refl
inside_open Ended e = absurd cc

-- the history grew by marks of the pair, of which these are the lines
pub reaches : {A : Type 0} (w : RelayWords) (r : A → List Entry → Type 0) (x : PartContext) (result : Result (Unit {0}) SinkFault) (to : Stage) (t : PartState A)
    (held : Option (List ℕ)) (n : History) (before lines : List ℕ) → AtStage w x.limits x.pair to x.behind n → has_end t.live.sides ≡ true → PartAgrees r x t n
    → HasLines w n before lines → Appends x.held held before → TellsBy result held t.held lines → (result ≡ Err Capture → IsCallLast n) → KeepsAfter result x.kept t.kept (calls n)
    → Reaches w r x result to t n
reaches {A} w r x (Ok done) to t held n before lines at has agrees e p told last kept = record {
  at = at;
  has = has;
  agrees = agrees;
  told = holds_by w (Ok done) x.held held t.held n before lines e p told;
  kept = kept;
}
reaches {A} w r x (Err Out) to t held n before lines at has agrees e p told last kept = record {
  follows = at.follows;
  open_still = inside_open (point n) at.inside;
  ends = ap (λ (l : Lines). is_empty l.newest) e ∙ told.1;
  agrees = agrees;
  told = holds_by w (Err Out) x.held held t.held n before lines e p told;
  kept = kept;
}
reaches {A} w r x (Err Capture) to t held n before lines at has agrees e p told last kept = record {
  follows = at.follows;
  open_still = inside_open (point n) at.inside;
  ends = last refl;
  agrees = agrees;
  told = holds_by w (Err Capture) x.held held t.held n before lines e p told;
  kept = kept;
}

-- a count that stands still at its end
pub counted_more : (n : ℕ) → counted (n + 1) ≡ counted (counted n + 1)
counted_more n = grind (arith, nat_tests)

-- one part after the other
pub part_then : {A : Type 0} (w : RelayWords) (r : A → List Entry → Type 0) (from mid to : Stage) (result : Result (Unit {0}) SinkFault) (old new last : PartState A) (m n k : History)
    → PartEffect w r from mid (Ok tt) old new m n → PartEffect w r mid to result new last n k → PartEffect w r from to result old last m k
part_then {A} w r from mid to result old new last m n k f g = record { goes = λ x a. g.goes x (f.goes x a) }

pub part_stops : {A : Type 0} (w : RelayWords) (r : A → List Entry → Type 0) (from mid to : Stage) (fault : SinkFault) (old new : PartState A) (m n : History)
    → PartEffect w r from mid (Err fault) old new m n → PartEffect w r from to (Err fault) old new m n
part_stops {A} w r from mid to fault old new m n f = record { goes = λ x a. f.goes x a }
