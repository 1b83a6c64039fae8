-- What the turns of the service do to a history. These words are of the loop's own functions.
use Rattle.std.specs.Prelude.{◌≡◌, ℕ, ◌+◌, ◌<◌, ◌≤◌, ◌==◌, Bool, true, false, ◌||◌, List, [], ◌∷◌}
use Rattle.std.specs.Prelude.{map, drop, Option, None, Result, Ok, Err}
use Rattle.std.specs.List.{AllByRecursion}
use Rattle.gate_outside.specs.declared.ports.End.{End}
use Rattle.gate_outside.specs.Ends.{is_open}
use Rattle.gate_relay.specs.Entries.{Entry}
use Rattle.gate_relay.specs.RelayWords.{RelayWords}
use Rattle.gate_relay.specs.Sides.{has_end}
use Rattle.gate_runs.specs.declared.limits.Limits.{Limits}
use Rattle.gate_runs.specs.declared.served.Outside.TheVariants as outside
use Rattle.gate_runs.specs.declared.served.Served.{Served}
use Rattle.gate_runs.specs.declared.served.Served.TheVariants.{Stopped, PairsDone, TurnLimit, Fault}
use Rattle.gate_runs.specs.declared.served.Served.TheVariants.{Memory}
use Rattle.gate_runs.specs.Journal.{journal, moment}
use Rattle.gate_runs.specs.Marks.{History, calls}
use Rattle.gate_runs.specs.Next.{Upcoming, Do, AskNow, AskAccept, next, point, live_pairs}
use Rattle.gate_runs.specs.Next.{accepted_count, turns_begun, has_moved, out_of_memory_count}
use Rattle.gate_runs.specs.Next.{finish_of}
use Rattle.gate_runs.specs.Serving.{Follows, EndsBy, HoldsReport, HoldsFront, Keeps, KeepsFront}
use Rattle.gate_runs.specs.Serving.{counted, is_ended}
use Rattle.gate_turns.specs.declared.live.Live.{Live}
use Rattle.gate_turns.specs.declared.service.Service.{Service}
use Rattle.gate_turns.specs.declared.tally.SinkFault.{SinkFault}
use Rattle.gate_turns.specs.declared.tally.Tally.{Tally}
use Rattle.gate_turns.specs.Parts.{EndsAre, PairsAhead, outside_of}
use Rattle.gate_turns.specs.Represents.{Represents}

-- ---- the live pairs and the ports' ends, whether or not calls are told

abbrev pub numbers : {A : Type 0} → List (Live A) → List ℕ
numbers live = map (λ b. b.number) live

-- each number is at least this one, and they rise
abbrev pub IsRising : {A : Type 0} → ℕ → List (Live A) → Type 0
IsRising low [] = Unit {0}
IsRising low (b ∷ bs) = (low ≤ b.number) × IsRising (b.number + 1) bs

-- p is one of these numbers
abbrev pub is_among : ℕ → List ℕ → Bool
is_among p [] = false
is_among p (q ∷ qs) = (q == p) || is_among p qs

-- a pair was accepted, has an open end, and its open ends are those of the ports
pub record HasEnds {A : Type 0} (pairs : ℕ) (ends : List (ℕ × End)) (b : Live A) : Type 0 where
  pub below : b.number < pairs
  pub has : has_end b.sides ≡ true
  pub open_ends : EndsAre b.number b.sides ends

-- the ports' open ends are those of the live pairs
pub record OwnsEnds {A : Type 0} (live : List (Live A)) (pairs : ℕ) (ends : List (ℕ
    × End)) : Type 0 where
  pub rising : IsRising 0 live
  pub each : AllByRecursion (HasEnds pairs ends) live
  pub only : (p : ℕ) (end : End) → is_among p (numbers live) ≡ false → is_open p end ends ≡ false

-- the counts and the live pairs agree with the ports
pub record Holds {A : Type 0} (s : Service A) (pairs : ℕ) (ends : List (ℕ × End)) : Type 0 where
  pub accepts : s.accepted ≡ pairs
  pub owns : OwnsEnds s.live.items pairs ends

-- ---- the service and a history

-- what stays in a turn
pub record RunContext : Type 0 where
  pub limits : Limits
  pub turns : ℕ
  -- what out held and what was kept before the run
  pub held : Option (List ℕ)
  pub kept : Option (List ℕ)

-- what changes in it
pub record RunState (A : Type 0) : Type 0 where
  pub live : List (Live A)
  pub accepted : ℕ
  pub tally : Tally
  -- the last moment that the ports gave
  pub moment : ℕ
  pub held : Option (List ℕ)
  pub kept : Option (List ℕ)

abbrev pub run_state : {A : Type 0} → Service A → Tally → ℕ → Option (List ℕ) → Option (List ℕ)
    → RunState A
run_state s tally moment held kept =
    record { live = s.live.items; accepted = s.accepted; tally = tally; moment = moment; held = held; kept = kept }

-- a pair's state is what its journal says
abbrev pub IsIn : {A : Type 0} → (A → List Entry → Type 0) → History → Live A → Type 0
IsIn r m b = Represents r b (journal b.number m)

-- the live pairs and the counts agree with a history
pub record RunAgrees {A : Type 0} (r : A → List Entry → Type 0) (x : RunContext) (t : RunState A)
    (m : History) : Type 0 where
  pub each : AllByRecursion (IsIn r m) t.live
  pub live : live_pairs m ≡ numbers t.live
  pub accepts : accepted_count m ≡ t.accepted
  pub turn : turns_begun m ≡ x.turns
  pub time : moment m ≤ t.moment
  pub motion : has_moved m ≡ t.tally.moved
  pub count : counted (out_of_memory_count m) ≡ t.tally.out_of_memory
  pub finish : finish_of m ≡ None

-- the run is at a place, and the sinks hold what they should
pub record InRun {A : Type 0} (w : RelayWords) (r : A → List Entry
    → Type 0) (x : RunContext) (place : Type 0) (t : RunState A) (m : History) : Type 0 where
  pub at : place
  pub agrees : RunAgrees r x t m
  pub told : HoldsReport w x.held t.held m
  pub kept : Keeps x.kept t.kept (calls m)

-- this comes next
pub record Comes (w : RelayWords) (c : Limits) (up : Upcoming) (m : History) : Type 0 where
  pub coming : next w c m ≡ up
  pub follows : Follows w c m

-- this comes next, and the last moment is this
pub record ComesAt (w : RelayWords) (c : Limits) (up : Upcoming) (ms : ℕ)
    (m : History) : Type 0 where
  pub coming : next w c m ≡ up
  pub follows : Follows w c m
  pub now : moment m ≡ ms

-- the numbers of the live pairs from a place in the list on
abbrev pub numbers_from : {A : Type 0} → ℕ → List (Live A) → List ℕ
numbers_from at live = numbers (drop at live)

-- the clock is to be read
abbrev pub AtClock : {A : Type 0} → RelayWords → (A → List Entry → Type 0) → RunContext
    → RunState A → History → Type 0
AtClock w r x t m = InRun w r x (Comes w x.limits (Do AskNow) m) t m

-- a client is to be accepted
abbrev pub AtAccept : {A : Type 0} → RelayWords → (A → List Entry → Type 0) → RunContext
    → RunState A → History → Type 0
AtAccept w r x t m = InRun w r x (ComesAt w x.limits (Do AskAccept) t.moment m) t m

-- the pairs from a place in the list on are yet to have their part of the turn
abbrev pub AtPairs : {A : Type 0} → RelayWords → (A → List Entry → Type 0) → ℕ → RunContext
    → RunState A → History → Type 0
AtPairs w r at x t m = InRun w r x (PairsAhead w x.limits (numbers_from at t.live) m) t m

-- each of them had its part
abbrev pub AtRest : {A : Type 0} → RelayWords → (A → List Entry → Type 0) → RunContext
    → RunState A → History → Type 0
AtRest w r x t m = InRun w r x (PairsAhead w x.limits [] m) t m

-- what out holds at the end of the service
abbrev pub HoldsAt : RelayWords → Served → Option (List ℕ) → Option (List ℕ) → History → Type 0
HoldsAt w Stopped base held m = HoldsReport w base held m
HoldsAt w PairsDone base held m = HoldsReport w base held m
HoldsAt w TurnLimit base held m = HoldsReport w base held m
HoldsAt w (Fault outside.Accept) base held m = HoldsReport w base held m
HoldsAt w (Fault outside.Out) base held m = HoldsFront w base held m
HoldsAt w (Fault outside.Capture) base held m = HoldsReport w base held m
HoldsAt w Memory base held m = HoldsReport w base held m

-- and what was kept
abbrev pub KeepsAt : Served → Option (List ℕ) → Option (List ℕ) → History → Type 0
KeepsAt Stopped base kept m = Keeps base kept (calls m)
KeepsAt PairsDone base kept m = Keeps base kept (calls m)
KeepsAt TurnLimit base kept m = Keeps base kept (calls m)
KeepsAt (Fault outside.Accept) base kept m = Keeps base kept (calls m)
KeepsAt (Fault outside.Out) base kept m = KeepsFront base kept (calls m)
KeepsAt (Fault outside.Capture) base kept m = KeepsFront base kept (calls m)
KeepsAt Memory base kept m = Keeps base kept (calls m)

-- the service is to end so
pub record AtEnd {A : Type 0} (w : RelayWords) (r : A → List Entry
    → Type 0) (how : Served) (x : RunContext) (t : RunState A) (m : History) : Type 0 where
  pub ends : EndsBy w x.limits how m
  pub open_still : is_ended (point m) ≡ false
  pub follows : Follows w x.limits m
  pub agrees : RunAgrees r x t m
  pub told : HoldsAt w how x.held t.held m
  pub kept : KeepsAt how x.kept t.kept m

-- ---- what the parts of a turn do

-- where a sink failed, the service is to end
abbrev pub ReachesPairs : {A : Type 0} → RelayWords → (A → List Entry → Type 0) → ℕ
    → Result (Unit {0}) SinkFault → RunContext → RunState A → History → Type 0
ReachesPairs w r at (Ok done) x t m = AtPairs w r at x t m
ReachesPairs w r at (Err fault) x t m = AtEnd w r (Fault (outside_of fault)) x t m

-- the parts of the turn of the pairs from one place in the list to another
pub record PairsEffect {A : Type 0} (w : RelayWords) (r : A → List Entry
    → Type 0) (from to : ℕ) (result : Result (Unit {0}) SinkFault) (old new : RunState A)
    (m n : History) : Type 0 where
  pub goes : (x : RunContext) → AtPairs w r from x old m → ReachesPairs w r to result x new n

-- the whole round
abbrev pub ReachesRest : {A : Type 0} → RelayWords → (A → List Entry → Type 0)
    → Result (Unit {0}) SinkFault → RunContext → RunState A → History → Type 0
ReachesRest w r (Ok done) x t m = AtRest w r x t m
ReachesRest w r (Err fault) x t m = AtEnd w r (Fault (outside_of fault)) x t m

pub record RoundEffect {A : Type 0} (w : RelayWords) (r : A → List Entry
    → Type 0) (result : Result (Unit {0}) SinkFault) (old new : RunState A)
    (m n : History) : Type 0 where
  pub goes : (x : RunContext) → AtPairs w r 0 x old m → ReachesRest w r result x new n

-- the place in the list of the next pair, after the part of the turn of the pair at one, which
-- lives on or not
abbrev pub place_after : Bool → ℕ → ℕ
place_after true at = at + 1
place_after false at = at

-- so many turns begun
abbrev pub with_turns : ℕ → RunContext → RunContext
with_turns k x = record { limits = x.limits; turns = k; held = x.held; kept = x.kept }
