-- What the beginning of a turn does to a history. These words are of the loop's own functions.
use Rattle.std.specs.Prelude.{◌≡◌, ℕ, ◌+◌, Bool, true, false, List, [], ◌∷◌, ◌++◌, map, Option}
use Rattle.std.specs.Prelude.{Result, Ok, Err}
use Rattle.gate_capture.specs.Spelling.{spelling_of}
use Rattle.gate_outside.specs.declared.log.LogEntry.{LogEntry}
use Rattle.gate_outside.specs.Streams.{Appends, AppendsFront}
use Rattle.gate_relay.specs.declared.sides.Sides.{Sides}
use Rattle.gate_relay.specs.Entries.{Entry, Began}
use Rattle.gate_relay.specs.RelayWords.{RelayWords}
use Rattle.gate_runs.specs.declared.limits.Limits.{Limits}
use Rattle.gate_runs.specs.declared.served.Outside.{Outside}
use Rattle.gate_runs.specs.declared.served.Served.TheVariants.{Fault}
use Rattle.gate_runs.specs.Journal.{moment}
use Rattle.gate_runs.specs.Marks.{History}
use Rattle.gate_runs.specs.Next.{ClockRead, point}
use Rattle.gate_runs.specs.Serving.{Follows}
use Rattle.gate_turns.specs.declared.live.Live.{Live}
use Rattle.gate_turns.specs.declared.service.Service.{Service}
use Rattle.gate_turns.specs.declared.tally.SinkFault.{SinkFault}
use Rattle.gate_turns.specs.Parts.{outside_of}
use Rattle.gate_turns.specs.Represents.{Represents}
use Rattle.gate_turns.specs.Rounds.{AtAccept, AtClock, AtEnd, AtPairs, InRun, RunContext, RunState}
use Rattle.gate_turns.specs.Rounds.{with_turns}

-- a pair has one entry more, which leaves its number and its ends
pub record HasEntry {A : Type 0} (r : A → List Entry → Type 0) (e : Entry)
    (old new : Live A) : Type 0 where
  pub number : new.number ≡ old.number
  pub sides : new.sides ≡ old.sides
  pub entry : (h : List Entry) → Represents r old h → Represents r new (e ∷ h)

-- each pair of a list has
abbrev pub HaveEntry : {A : Type 0} → (A → List Entry → Type 0) → Entry → List (Live A)
    → List (Live A) → Type 0
HaveEntry r e [] [] = Unit {0}
HaveEntry r e [] (b ∷ bs) = ⊥
HaveEntry r e (a ∷ xs) [] = ⊥
HaveEntry r e (a ∷ xs) (b ∷ bs) = HasEntry r e a b × HaveEntry r e xs bs

-- the numbers of pairs, and how far their ends are
abbrev pub numbered_sides : {A : Type 0} → List (Live A) → List (ℕ × Sides)
numbered_sides live = map (λ b. (b.number, b.sides)) live

-- the clock was read in this turn, and no client accepted
pub record ClockIsRead (w : RelayWords) (c : Limits) (ms : ℕ) (m : History) : Type 0 where
  pub here : point m ≡ ClockRead
  pub follows : Follows w c m
  pub now : moment m ≡ ms

abbrev pub AtClockRead : {A : Type 0} → RelayWords → (A → List Entry → Type 0) → RunContext
    → RunState A → History → Type 0
AtClockRead w r x t m = InRun w r x (ClockIsRead w x.limits t.moment m) t m

-- the clock was read, or a sink failed at that
abbrev pub ReachesClock : {A : Type 0} → RelayWords → (A → List Entry → Type 0)
    → Result ℕ SinkFault → RunContext → RunState A → History → Type 0
ReachesClock w r (Ok moment) x t m = AtClockRead w r x t m
ReachesClock w r (Err fault) x t m = AtEnd w r (Fault (outside_of fault)) x t m

pub record ClockEffect {A : Type 0} (w : RelayWords) (r : A → List Entry
    → Type 0) (result : Result ℕ SinkFault) (old new : RunState A) (m n : History) : Type 0 where
  pub goes : (x : RunContext) → AtClock w r x old m → ReachesClock w r result (with_turns
      (x.turns + 1) x) new n

-- a pair that was accepted lives
pub record Admitted {A : Type 0} (r : A → List Entry → Type 0) (p ms : ℕ)
    (old new : Service A) : Type 0 where
  pub pair : Live A
  pub live : new.live.items ≡ old.live.items ++ pair ∷ []
  pub number : pair.number ≡ p
  pub represents : Represents r pair (Began p ms ∷ [])

-- a call was kept, where the one before it was; where that was lost, nothing more is kept, and the
-- recorder failed
abbrev pub KeptAlso : Bool → Result (Unit {0}) SinkFault → Option (List ℕ) → Option (List ℕ)
    → LogEntry → Type 0
KeptAlso true (Ok done) old new entry = Appends old new (spelling_of entry)
KeptAlso true (Err fault) old new entry = AppendsFront old new (spelling_of entry)
KeptAlso false (Ok done) old new entry = ⊥
KeptAlso false (Err fault) old new entry = new ≡ old

-- what of the outside failed, if a sink did
abbrev pub outcome : Result (Unit {0}) SinkFault → Result (Unit {0}) Outside
outcome (Ok done) = Ok done
outcome (Err fault) = Err (outside_of fault)

-- the live pairs' part of the turn comes, or the service is to end
abbrev pub ReachesRound : {A : Type 0} → RelayWords → (A → List Entry → Type 0)
    → Result (Unit {0}) Outside → RunContext → RunState A → History → Type 0
ReachesRound w r (Ok done) x t m = AtPairs w r 0 x t m
ReachesRound w r (Err outside) x t m = AtEnd w r (Fault outside) x t m

-- a client is accepted, if one waits
pub record WelcomeEffect {A : Type 0} (w : RelayWords) (r : A → List Entry
    → Type 0) (result : Result (Unit {0}) Outside) (old new : RunState A)
    (m n : History) : Type 0 where
  pub goes : (x : RunContext) → AtAccept w r x old m → ReachesRound w r result x new n

-- the beginning of a turn, up to the live pairs' part
pub record OpenEffect {A : Type 0} (w : RelayWords) (r : A → List Entry
    → Type 0) (c : Limits) (result : Result (Unit {0}) Outside) (old new : RunState A)
    (m n : History) : Type 0 where
  pub goes : (x : RunContext) → x.limits ≡ c → AtClock w r x old m
      → ReachesRound w r result (with_turns (x.turns + 1) x) new n
