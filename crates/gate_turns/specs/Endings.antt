-- What the end of a turn and of the service do to a history. These words are of the loop's own
-- functions.
use Rattle.std.specs.Prelude.{◌≡◌, ℕ, ◌+◌, Bool, true, false, not, if◌then◌else◌, List, ◌∷◌, ◌++◌}
use Rattle.std.specs.Prelude.{Option, Some, Result, Ok, Err}
use Rattle.std.specs.List.{AllByRecursion}
use Rattle.gate_outside.specs.declared.log.LogEntry.{LogEntry}
use Rattle.gate_outside.specs.declared.ports.End.{End}
use Rattle.gate_relay.specs.declared.loss.Loss.TheVariants as loss
use Rattle.gate_relay.specs.declared.sides.Sides.{Sides}
use Rattle.gate_relay.specs.Entries.{Entry}
use Rattle.gate_relay.specs.RelayWords.{RelayWords}
use Rattle.gate_relay.specs.Sides.{has_end, is_open_side, side_lost, side_of, with_side}
use Rattle.gate_runs.specs.declared.limits.Limits.{Limits}
use Rattle.gate_runs.specs.declared.served.Outside.TheVariants as outside
use Rattle.gate_runs.specs.declared.served.Served.{Served}
use Rattle.gate_runs.specs.declared.served.Served.TheVariants.{Fault, PairsDone}
use Rattle.gate_runs.specs.Marks.{History, calls}
use Rattle.gate_runs.specs.Next.{Ended, accepted_count, begin, finish_of, is_done, live_pairs, next}
use Rattle.gate_runs.specs.Next.{out_of_memory_count, point}
use Rattle.gate_runs.specs.Serving.{Follows, HoldsFront, HoldsReport, IsServed, Keeps, LosesCall}
use Rattle.gate_runs.specs.Serving.{counted, is_ended, is_shutting, is_sink_fault}
use Rattle.gate_turns.specs.declared.live.Live.{Live}
use Rattle.gate_turns.specs.declared.tally.SinkFault.{SinkFault}
use Rattle.gate_turns.specs.Parts.{KeptBy, TellsBy, outside_of}
use Rattle.gate_turns.specs.Rounds.{AtClock, AtEnd, AtRest, InRun, IsIn, IsRising, RunContext}
use Rattle.gate_turns.specs.Rounds.{RunState, numbers, with_turns}

-- ---- turns

-- a turn is over, or none was begun
pub record TurnIsOver (w : RelayWords) (c : Limits) (m : History) : Type 0 where
  pub coming : next w c m ≡ begin c m
  pub undone : is_done c m ≡ false
  pub open_still : is_ended (point m) ≡ false
  pub follows : Follows w c m

abbrev pub AtTurn : {A : Type 0} → RelayWords → (A → List Entry → Type 0) → RunContext
    → RunState A → History → Type 0
AtTurn w r x t m = InRun w r x (TurnIsOver w x.limits m) t m

-- how a turn ends: the service too, where the pairs asked for were accepted and have closed
abbrev pub end_of : Bool → Result (Unit {0}) Served
end_of true = Err PairsDone
end_of false = Ok tt

-- the next turn comes, or the service is to end
abbrev pub ReachesTurn : {A : Type 0} → RelayWords → (A → List Entry → Type 0)
    → Result (Unit {0}) Served → RunContext → RunState A → History → Type 0
ReachesTurn w r (Ok done) x t m = AtTurn w r x t m
ReachesTurn w r (Err how) x t m = AtEnd w r how x t m

-- the end of a turn, after the last pair: idle, where nothing moved
pub record CloseEffect {A : Type 0} (w : RelayWords) (r : A → List Entry
    → Type 0) (c : Limits) (result : Result (Unit {0}) Served) (old new : RunState A)
    (m n : History) : Type 0 where
  pub goes : (x : RunContext) → x.limits ≡ c → AtRest w r x old m → ReachesTurn w r result x new n

-- a whole turn
pub record TurnEffect {A : Type 0} (w : RelayWords) (r : A → List Entry
    → Type 0) (c : Limits) (result : Result (Unit {0}) Served) (old new : RunState A)
    (m n : History) : Type 0 where
  pub goes : (x : RunContext) → x.limits ≡ c → AtClock w r x old m
      → ReachesTurn w r result (with_turns (x.turns + 1) x) new n

-- turns, until the service is to end
pub record RunEffect {A : Type 0} (w : RelayWords) (r : A → List Entry
    → Type 0) (c : Limits) (how : Served) (old new : RunState A) (m n : History) : Type 0 where
  pub turns : ℕ
  pub goes : (x : RunContext) → x.limits ≡ c → x.turns ≡ 0 → AtTurn w r x old m
      → AtEnd w r how (with_turns turns x) new n

-- ---- the end of the service

-- the report is told its lines, as long as out didn't fail
abbrev pub is_told : Served → Bool
is_told (Fault outside.Out) = false
is_told x = true

-- calls are recorded, as long as no sink failed
abbrev pub is_recorded : Served → Bool
is_recorded answer = not (is_sink_fault answer)

-- how the service ended, after a sink failed or not
abbrev pub with_fault : Served → Result (Unit {0}) SinkFault → Served
with_fault answer (Ok done) = answer
with_fault answer (Err fault) = Fault (outside_of fault)

-- out took these lines or failed at them, unless it failed before
abbrev pub TellsWhile : Bool → Result (Unit {0}) SinkFault → Option (List ℕ) → Option (List ℕ)
    → List ℕ → Type 0
TellsWhile true result old new lines = TellsBy result old new lines
TellsWhile false result old new lines = (result ≡ Ok tt) × (new ≡ old)

-- a call was kept, or a front part of its spelling, unless a sink failed before
abbrev pub KeptWhile : Bool → Bool → Option (List ℕ) → Option (List ℕ) → LogEntry → Type 0
KeptWhile true kept old new entry = KeptBy kept old new entry
KeptWhile false kept old new entry = (kept ≡ true) × (new ≡ old)

-- the ends of a pair after one was shut, if it was open
abbrev pub sides_shut : End → Sides → Sides
sides_shut end s = if is_open_side (side_of end s) then with_side end (side_lost loss.Shut) s else s

-- the lines of an entry were not taken, since which ends were shut and nothing else was done
pub record LosesLines (w : RelayWords) (base held : Option (List ℕ)) (m : History) : Type 0 where
  pub before : History
  pub after : History
  pub parts : m ≡ after ++ before
  pub shuts : AllByRecursion (λ x. is_shutting x ≡ true) after
  pub front : HoldsFront w base held before

-- what out holds while ends are shut, whether the report is told or out failed before
abbrev pub HoldsWhile : Bool → RelayWords → Option (List ℕ) → Option (List ℕ) → History → Type 0
HoldsWhile true w base held m = HoldsReport w base held m
HoldsWhile false w base held m = LosesLines w base held m

-- and what was kept
abbrev pub KeepsWhile : Bool → Option (List ℕ) → Option (List ℕ) → History → Type 0
KeepsWhile true base kept m = Keeps base kept (calls m)
KeepsWhile false base kept m = LosesCall base kept m

-- what stays while ends are shut
pub record ClosingContext : Type 0 where
  pub limits : Limits
  -- how the service ended, before any sink failed at that
  pub why : Served
  pub accepted : ℕ
  pub count : ℕ
  pub held : Option (List ℕ)
  pub kept : Option (List ℕ)

-- what changes
pub record ClosingState (A : Type 0) : Type 0 where
  -- the pairs that are yet to be shut
  pub left : List (Live A)
  -- how the service ended so far
  pub answer : Served
  pub held : Option (List ℕ)
  pub kept : Option (List ℕ)

abbrev pub closing_state : {A : Type 0} → List (Live A) → Served → Option (List ℕ)
    → Option (List ℕ) → ClosingState A
closing_state left answer held kept =
    record { left = left; answer = answer; held = held; kept = kept }

-- the pairs yet to be shut: this one, while it has an open end, and those behind it
abbrev pub with_pair : {A : Type 0} → Live A → List (Live A) → List (Live A)
with_pair b back = if has_end b.sides then b ∷ back else back

-- the service ended, and these pairs are yet to be shut
pub record IsClosing {A : Type 0} (w : RelayWords) (r : A → List Entry
    → Type 0) (x : ClosingContext) (t : ClosingState A) (m : History) : Type 0 where
  pub here : point m ≡ Ended
  pub follows : Follows w x.limits m
  pub live : live_pairs m ≡ numbers t.left
  pub rising : IsRising 0 t.left
  pub each : AllByRecursion (IsIn r m) t.left
  pub finish : finish_of m ≡ Some x.why
  pub accepts : accepted_count m ≡ x.accepted
  pub count : counted (out_of_memory_count m) ≡ x.count
  pub told : HoldsWhile (is_told t.answer) w x.held t.held m
  pub kept : KeepsWhile (is_recorded t.answer) x.kept t.kept m

-- some of the pairs were shut
pub record ClosingEffect {A : Type 0} (w : RelayWords) (r : A → List Entry
    → Type 0) (old new : ClosingState A) (m n : History) : Type 0 where
  pub goes : (x : ClosingContext) → IsClosing w r x old m → IsClosing w r x new n

-- the whole end of the service
pub record ConcludeEffect {A : Type 0} (w : RelayWords) (r : A → List Entry
    → Type 0) (why answer : Served) (old : RunState A) (held kept : Option (List ℕ))
    (m n : History) : Type 0 where
  pub goes : (x : RunContext) → AtEnd w r why x old m
      → IsServed w x.limits answer old.tally.out_of_memory x.held held x.kept kept n
