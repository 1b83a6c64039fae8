-- What the parts of a pair's turn do to a history. These words are of the loop's own functions.
use Rattle.std.specs.Prelude.{◌≡◌, ◌≢◌, ℕ, ◌+◌, ◌<◌, ◌≤◌, Bool, true, false, ◌||◌, if◌then◌else◌}
use Rattle.std.specs.Prelude.{◌^◌, List, [], ◌++◌, length, Option, None, Some, Result, Ok, Err}
use Rattle.std.specs.List.{AllByRecursion}
use Rattle.gate_outside.specs.Counts.{Rose}
use Rattle.gate_outside.specs.declared.ports.Ports as ports
use Rattle.gate_outside.specs.declared.ports.End.{End}
use Rattle.gate_outside.specs.declared.ports.End.TheVariants.{Client, Up}
use Rattle.gate_outside.specs.declared.ports.Got.{Got}
use Rattle.gate_outside.specs.declared.ports.Got.TheVariants as got
use Rattle.gate_outside.specs.declared.ports.Put.{Put}
use Rattle.gate_outside.specs.declared.ports.Put.TheVariants as put
use Rattle.gate_capture.specs.Spelling.{spelling_of}
use Rattle.gate_outside.specs.declared.log.LogEntry.{LogEntry}
use Rattle.gate_outside.specs.Ends.{is_open}
use Rattle.gate_outside.specs.Streams.{Appends, AppendsFront}
use Rattle.gate_relay.specs.declared.sides.Sides.{Sides}
use Rattle.gate_relay.specs.Entries.{Entry, is_empty}
use Rattle.gate_relay.specs.Relayed.{read_room}
use Rattle.gate_relay.specs.RelayWords.{RelayWords}
use Rattle.gate_relay.specs.Sides.{side_of, is_open_side, has_end}
use Rattle.gate_runs.specs.declared.lap.Lap.{Lap}
use Rattle.gate_runs.specs.declared.lap.Lap.TheVariants.{ToUp, ToClient, ToClientLate, ToUpAgain}
use Rattle.gate_runs.specs.declared.limits.Limits.{Limits}
use Rattle.gate_runs.specs.declared.served.Served.TheVariants.{Fault}
use Rattle.gate_runs.specs.declared.served.Outside.{Outside}
use Rattle.gate_runs.specs.declared.served.Outside.TheVariants as outside
use Rattle.gate_runs.specs.Journal.{journal, moment}
use Rattle.gate_runs.specs.Marks.{History, calls}
use Rattle.gate_relay.specs.Guards.{offers}
use Rattle.gate_runs.specs.Next.{most_writes, Point, BetweenTurns, Refusing, Ending, Ended, point}
use Rattle.gate_runs.specs.Next.{stage_of, visit, round, beyond, unless_gone, next, live_pairs}
use Rattle.gate_runs.specs.Next.{accepted_count, turns_begun, has_moved, out_of_memory_count}
use Rattle.gate_runs.specs.Next.{finish_of}
use Rattle.gate_runs.specs.Report.{memory_line}
use Rattle.gate_runs.specs.Serving.{Follows, EndsBy, HoldsReport, HoldsFront, Keeps, KeepsFront}
use Rattle.gate_runs.specs.Serving.{counted, is_ended}
use Rattle.gate_runs.specs.Stages.{Stage, Reading, Taking, Linking, Writing, Shutting, Past, later}
use Rattle.gate_runs.specs.Stages.{writing_at, lap_end, lap_after}
use Rattle.gate_turns.specs.declared.live.Live.{Live}
use Rattle.gate_turns.specs.declared.tally.SinkFault.{SinkFault}
use Rattle.gate_turns.specs.declared.tally.SinkFault.TheVariants.{Out, Capture}
use Rattle.gate_turns.specs.declared.tally.Tally.{Tally}
use Rattle.gate_turns.specs.Represents.{Represents}

-- ---- ends, counts and sinks

-- the open ends of pair p are these
abbrev pub EndsAre : ℕ → Sides → List (ℕ × End) → Type 0
EndsAre p s ends = (end : End) → is_open p end ends ≡ is_open_side (side_of end s)

-- the open ends of the other pairs stay
abbrev pub KeepsOthers : ℕ → List (ℕ × End) → List (ℕ × End) → Type 0
KeepsOthers p old new = (q : ℕ) (end : End) → q ≢ p → is_open q end new ≡ is_open q end old

-- the pair stays the one that it was, and knows its open ends; those of the other pairs stay
pub record KeepsEnds {A : Type 0} (old new : Live A) (ends ends' : List (ℕ
    × End)) : Type 0 where
  pub number : new.number ≡ old.number
  pub open_ends : EndsAre new.number new.sides ends'
  pub others : KeepsOthers old.number ends ends'

-- no pair is accepted and no moment is given, and the count of faults doesn't fall
pub record KeepsPorts {P : Type 0} (g : ports.Ghosts P) (old new : P) : Type 0 where
  pub pairs : g.pairs new ≡ g.pairs old
  pub last : g.last new ≡ g.last old
  pub later : g.faults old ≤ g.faults new

-- a count of faults doesn't fall, and rose if this failed
pub record CountsFaults {S : Type 0} (faults : S → ℕ) (failed : Type 0) (old new : S) : Type 0 where
  pub later : faults old ≤ faults new
  pub cause : failed → Rose (faults old) (faults new)

-- the room of a read, as ports take it
pub record IsReadRoom (room : List ℕ) : Type 0 where
  pub size : length room ≡ read_room
  pub some : 0 < length room
  pub small : length room < 2 ^ 32

-- nothing moved yet in a turn
abbrev pub begun : Tally → Tally
begun t = record { moved = false; out_of_memory = t.out_of_memory }

abbrev pub noted : Bool → Bool → Tally → Tally
noted moved ran_out t =
    record {
      moved = t.moved || moved;
      out_of_memory = if ran_out then counted
          (t.out_of_memory + 1) else t.out_of_memory;
    }

-- a read that gave nothing yet moves nothing, nor does a write that took nothing yet
abbrev pub got_moved : Got → Bool
got_moved (got.Bytes n) = true
got_moved got.NotYet = false
got_moved got.Ended = true
got_moved got.Failed = true

abbrev pub put_moved : Put → Bool
put_moved (put.Took n) = true
put_moved put.NotYet = false
put_moved put.Failed = true

-- a read gave no more bytes than there was room for
abbrev pub ReadsWithin : Got → ℕ → Type 0
ReadsWithin (got.Bytes n) room = n ≤ room
ReadsWithin got.NotYet room = Unit {0}
ReadsWithin got.Ended room = Unit {0}
ReadsWithin got.Failed room = Unit {0}

-- more may be written after a write that took bytes
abbrev pub put_more : Put → Bool
put_more (put.Took n) = true
put_more put.NotYet = false
put_more put.Failed = false

-- the line of a pair that ran out of memory, if it did
abbrev pub memory_lines : Bool → ℕ → List ℕ
memory_lines true p = memory_line p
memory_lines false p = []

-- the lines of the newest entry of a pair, after running out of memory or not
abbrev pub own_lines : Bool → ℕ → List ℕ → List ℕ
own_lines ran_out p lines = memory_lines ran_out p ++ lines

abbrev pub outside_of : SinkFault → Outside
outside_of Out = outside.Out
outside_of Capture = outside.Capture

-- out took these lines, or failed at them
abbrev pub TellsBy : Result (Unit {0}) SinkFault → Option (List ℕ) → Option (List ℕ) → List ℕ
    → Type 0
TellsBy (Ok done) old new lines = Appends old new lines
TellsBy (Err Out) old new lines = AppendsFront old new lines × (is_empty lines ≡ false)
TellsBy (Err Capture) old new lines = Appends old new lines

-- a call was kept, or a front part of its spelling
abbrev pub KeptBy : Bool → Option (List ℕ) → Option (List ℕ) → LogEntry → Type 0
KeptBy true old new entry = Appends old new (spelling_of entry)
KeptBy false old new entry = AppendsFront old new (spelling_of entry)

-- which sink failed, if one did
abbrev pub both : Result (Unit {0}) SinkFault → Bool → Result (Unit {0}) SinkFault
both (Ok done) true = Ok done
both (Ok done) false = Err Capture
both (Err fault) kept = Err fault

-- ---- where a pair's part of the turn is

-- in a turn, before the end of the service and not at a refused accept
abbrev pub is_inside : Point → Bool
is_inside BetweenTurns = false
is_inside (Refusing p) = false
is_inside (Ending how) = false
is_inside Ended = false
is_inside x = true

-- what is known at a stage of the one that the pair's last mark left
abbrev pub Unwritten : Stage → Type 0
Unwritten s = (writing_at Up s ≡ Writing ToUp 0) × (writing_at Client s ≡ Writing ToClient 0)

abbrev pub Written : Stage → Stage → Type 0
Written (Reading end) s = Unwritten s
Written Taking s = Unwritten s
Written Linking s = Unwritten s
Written (Writing ToUp k) s =
    (writing_at Up s ≡ Writing ToUp k) × (writing_at Client s ≡ Writing ToClient 0)
Written (Writing ToClient k) s = writing_at Client s ≡ Writing ToClient k
Written (Writing ToClientLate k) s =
    (writing_at Client s ≡ Writing ToClientLate k) × (writing_at Up s ≡ Writing ToUpAgain 0)
Written (Writing ToUpAgain k) s = writing_at Up s ≡ Writing ToUpAgain k
Written (Shutting end) s = Unit {0}
Written Past s = Unit {0}

-- none of these pairs had its part of the turn
abbrev pub AreFresh : List ℕ → Point → Type 0
AreFresh ps x = AllByRecursion (λ q. stage_of q x ≡ Reading Up) ps

-- p is none of these pairs
abbrev pub AreOthers : ℕ → List ℕ → Type 0
AreOthers p ps = AllByRecursion (λ q. q ≢ p) ps

-- pair p is at a stage of its part of the turn, and the pairs ps are behind it
pub record AtStage (w : RelayWords) (c : Limits) (p : ℕ) (s : Stage) (ps : List ℕ)
    (m : History) : Type 0 where
  pub coming : next w c m ≡ visit w p s (journal p m) (round w c m ps)
  pub behind : beyond p (live_pairs m) ≡ ps
  pub written : Written s (stage_of p (point m))
  pub fresh : AreFresh ps (point m)
  pub others : AreOthers p ps
  pub inside : is_inside (point m) ≡ true
  pub follows : Follows w c m

-- the pairs ps are yet to have their part of the turn
pub record PairsAhead (w : RelayWords) (c : Limits) (ps : List ℕ) (m : History) : Type 0 where
  pub coming : next w c m ≡ round w c m ps
  pub fresh : AreFresh ps (point m)
  pub inside : is_inside (point m) ≡ true
  pub follows : Follows w c m

-- ---- what a part of a pair's turn does

-- what stays in a pair's part of a turn
pub record PartContext : Type 0 where
  pub limits : Limits
  pub pair : ℕ
  -- the pairs behind it
  pub behind : List ℕ
  -- the journals of the other pairs
  pub others : ℕ → List Entry
  pub live : List ℕ
  pub accepted : ℕ
  pub turns : ℕ
  pub moment : ℕ
  -- what out held and what was kept before the run
  pub held : Option (List ℕ)
  pub kept : Option (List ℕ)

-- what changes in it
pub record PartState (A : Type 0) : Type 0 where
  pub live : Live A
  pub tally : Tally
  pub held : Option (List ℕ)
  pub kept : Option (List ℕ)

abbrev pub state : {A : Type 0} → Live A → Tally → Option (List ℕ) → Option (List ℕ) → PartState A
state live tally held kept = record { live = live; tally = tally; held = held; kept = kept }

-- the pair, the counts and the other pairs agree with a history
pub record PartAgrees {A : Type 0} (r : A → List Entry → Type 0) (x : PartContext)
    (t : PartState A) (m : History) : Type 0 where
  pub number : t.live.number ≡ x.pair
  pub represents : Represents r t.live (journal x.pair m)
  pub others : (q : ℕ) → q ≢ x.pair → journal q m ≡ x.others q
  pub live : live_pairs m ≡ unless_gone (has_end t.live.sides) x.pair x.live
  pub accepts : accepted_count m ≡ x.accepted
  pub turn : turns_begun m ≡ x.turns
  pub time : moment m ≡ x.moment
  pub motion : has_moved m ≡ t.tally.moved
  pub count : counted (out_of_memory_count m) ≡ t.tally.out_of_memory
  pub finish : finish_of m ≡ None

-- the pair is at a stage of its part of the turn; out and the record of calls hold what they should
pub record InStage {A : Type 0} (w : RelayWords) (r : A → List Entry
    → Type 0) (x : PartContext) (s : Stage) (t : PartState A) (m : History) : Type 0 where
  pub at : AtStage w x.limits x.pair s x.behind m
  pub has : has_end t.live.sides ≡ true
  pub agrees : PartAgrees r x t m
  pub told : HoldsReport w x.held t.held m
  pub kept : Keeps x.kept t.kept (calls m)

-- what out holds where a sink failed
abbrev pub HoldsBy : RelayWords → SinkFault → Option (List ℕ) → Option (List ℕ) → History → Type 0
HoldsBy w Out base held m = HoldsFront w base held m
HoldsBy w Capture base held m = HoldsReport w base held m

-- a sink failed, and the service is to end
pub record Halted {A : Type 0} (w : RelayWords) (r : A → List Entry
    → Type 0) (x : PartContext) (fault : SinkFault) (t : PartState A) (m : History) : Type 0 where
  pub follows : Follows w x.limits m
  pub open_still : is_ended (point m) ≡ false
  pub ends : EndsBy w x.limits (Fault (outside_of fault)) m
  pub agrees : PartAgrees r x t m
  pub told : HoldsBy w fault x.held t.held m
  pub kept : KeepsFront x.kept t.kept (calls m)

abbrev pub Reaches : {A : Type 0} → RelayWords → (A → List Entry → Type 0) → PartContext
    → Result (Unit {0}) SinkFault → Stage → PartState A → History → Type 0
Reaches w r x (Ok done) to t m = InStage w r x to t m
Reaches w r x (Err fault) to t m = Halted w r x fault t m

-- from one stage of a pair's part of the turn to another
pub record PartEffect {A : Type 0} (w : RelayWords) (r : A → List Entry
    → Type 0) (from to : Stage) (result : Result (Unit {0}) SinkFault) (old new : PartState A)
    (m n : History) : Type 0 where
  pub goes : (x : PartContext) → InStage w r x from old m → Reaches w r x result to new n

-- ---- writes

-- the stage after a write of a lap, or where nothing was offered
abbrev pub stage_wrote : Bool → Lap → ℕ → Stage
stage_wrote true lap k = Writing lap (k + 1)
stage_wrote false lap k = later (Writing lap k)

-- one write of these bytes, as one of fewer than 4,096 in any lap to that end
pub record OfferEffect {A : Type 0} (w : RelayWords) (r : A → List Entry
    → Type 0) (end : End) (bytes : List ℕ) (more : Bool) (result : Result (Unit {0}) SinkFault)
    (old new : PartState A) (m n : History) : Type 0 where
  pub goes : (lap : Lap) (k : ℕ) (x : PartContext) → lap_end lap
      ≡ end → k < most_writes → offers w end (journal x.pair m) ≡ Some bytes
      → InStage w r x (Writing lap k) old m → Reaches w r x result (stage_wrote more lap k) new n

-- what was found for a write to an end
pub record LookEffect {A : Type 0} (w : RelayWords) (r : A → List Entry
    → Type 0) (end : End) (ran_out : Bool) (found : Option (List ℕ)) (result : Result
    (Unit {0}) SinkFault) (old new : PartState A) (m n : History) : Type 0 where
  pub goes : (lap : Lap) (k : ℕ) (x : PartContext) → lap_end lap ≡ end → k < most_writes
      → InStage w r x (Writing lap k) old m → Reaches w r x result (Writing
      (lap_after ran_out lap) k) new n
  pub found_is : (x : PartContext) → PartAgrees r x old m → offers w end (journal x.pair n) ≡ found

-- one write, if something is offered, as one of fewer than 4,096 in any lap to that end
pub record WriteEffect {A : Type 0} (w : RelayWords) (r : A → List Entry
    → Type 0) (end : End) (more ran_out : Bool) (result : Result (Unit {0}) SinkFault)
    (old new : PartState A) (m n : History) : Type 0 where
  pub goes : (lap : Lap) (k : ℕ) (x : PartContext) → lap_end lap ≡ end → k < most_writes
      → InStage w r x (Writing lap k) old m → Reaches w r x result (stage_wrote more
      (lap_after ran_out lap) k) new n

-- ---- shuts

-- the pair is at a stage at which its ends are shut, and may have none any more
pub record InShutting {A : Type 0} (w : RelayWords) (r : A → List Entry
    → Type 0) (x : PartContext) (s : Stage) (t : PartState A) (m : History) : Type 0 where
  pub at : AtStage w x.limits x.pair s x.behind m
  pub agrees : PartAgrees r x t m
  pub told : HoldsReport w x.held t.held m
  pub kept : Keeps x.kept t.kept (calls m)

abbrev pub ReachesShut : {A : Type 0} → RelayWords → (A → List Entry → Type 0) → PartContext
    → Result (Unit {0}) SinkFault → Stage → PartState A → History → Type 0
ReachesShut w r x (Ok done) to t m = InShutting w r x to t m
ReachesShut w r x (Err fault) to t m = Halted w r x fault t m

-- from one stage of a pair's part of the turn to another, where its ends may be shut
pub record ShutEffect {A : Type 0} (w : RelayWords) (r : A → List Entry
    → Type 0) (from to : Stage) (result : Result (Unit {0}) SinkFault) (old new : PartState A)
    (m n : History) : Type 0 where
  pub goes : (x : PartContext) → InStage w r x from old m → ReachesShut w r x result to new n
