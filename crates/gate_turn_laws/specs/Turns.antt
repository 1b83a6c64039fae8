-- The shape of a turn: the clock, at most one accept, each live pair once in rising number, and
-- idle.
use Rattle.std.specs.Prelude.{◌≡◌, ◌⊎◌, ℕ, ◌+◌, ◌*◌, ◌<◌, ◌≤◌, ◌==◌, ◌&&◌, Bool, true, false}
use Rattle.std.specs.Prelude.{if◌then◌else◌, List, [], ◌∷◌, None, Some, is_some}
use Rattle.gate_outside.specs.declared.ports.End.{End}
use Rattle.gate_outside.specs.declared.ports.End.TheVariants.{Client, Up}
use Rattle.gate_outside.specs.declared.ports.Accepted.TheVariants as accepted
use Rattle.gate_outside.specs.declared.log.LogEntry.TheVariants.{Accept, Connect, Read, Write, Shut}
use Rattle.gate_outside.specs.declared.log.LogEntry.TheVariants.{Idle, Now}
use Rattle.gate_relay.specs.Entries.{Entry, Began, Moment, OutOfMemory}
use Rattle.gate_relay.specs.RelayWords.{RelayWords}
use Rattle.gate_runs.specs.declared.lap.Lap.TheVariants.{ToUp, ToClient, ToClientLate, ToUpAgain}
use Rattle.gate_runs.specs.declared.limits.Limits.{Limits}
use Rattle.gate_runs.specs.declared.served.Served.TheVariants.{PairsDone, TurnLimit}
use Rattle.gate_runs.specs.Marks.{Mark, History, Call, Refuse, TakeUp, RunOut, Finish}
use Rattle.gate_runs.specs.Journal.{journal}
use Rattle.gate_runs.specs.Stages.{Stage, Reading, Taking, Linking, Writing, Shutting, Past, later}
use Rattle.gate_runs.specs.Stages.{stages_from, writing_at}
use Rattle.gate_runs.specs.Next.{ask, most_writes, after_put, may_accept, finish_of}
use Rattle.gate_turn_laws.specs.Ends.{newest}
use Rattle.gate_turn_laws.specs.Pairs.{is_live}

-- ---- how far a pair's part of the turn is

-- the order of the stages
abbrev pub rank : Stage → ℕ
rank (Reading Up) = 0
rank (Reading Client) = 1
rank Taking = 2
rank Linking = 3
rank (Writing ToUp k) = 4
rank (Writing ToClient k) = 5
rank (Writing ToClientLate k) = 6
rank (Writing ToUpAgain k) = 7
rank (Shutting Up) = 8
rank (Shutting Client) = 9
rank Past = 10

-- the stage that the part of p has reached in this turn
abbrev pub reached_stage : ℕ → History → Stage
reached_stage p [] = Reading Up
reached_stage p (Call (Accept answer) ∷ m) = reached_stage p m
reached_stage p (Call (Connect q answer) ∷ m) = if q == p then later Linking else reached_stage p m
reached_stage p (Call (Read q end room answer bytes) ∷ m) =
    if q == p then later (Reading end) else reached_stage p m
reached_stage p (Call (Write q end bytes answer) ∷ m) =
    if q == p then after_put answer (writing_at end (reached_stage p m)) else reached_stage p m
reached_stage p (Call (Shut q end) ∷ m) = if q == p then later (Shutting end) else reached_stage p m
reached_stage p (Call (Idle answer) ∷ m) = reached_stage p m
reached_stage p (Call (Now ms) ∷ m) = Reading Up
reached_stage p (Refuse q ∷ m) = reached_stage p m
reached_stage p (TakeUp q ∷ m) = if q == p then later Taking else reached_stage p m
reached_stage p (RunOut q s cut ∷ m) = if q == p then s else reached_stage p m
reached_stage p (Finish how ∷ m) = reached_stage p m

-- none of these stages asks anything of p
abbrev pub AsksNone : RelayWords → ℕ → List Stage → List Entry → Type 0
AsksNone w p [] h = Unit {0}
AsksNone w p (s ∷ ss) h = (ask w p s h ≡ None) × AsksNone w p ss h

-- p had its part of this turn: from the stage that it reached on nothing more is asked of it
abbrev pub IsThrough : RelayWords → ℕ → History → Type 0
IsThrough w p m = AsksNone w p (stages_from (reached_stage p m)) (journal p m)

-- all live pairs had their part of this turn
abbrev pub AllThrough : RelayWords → History → Type 0
AllThrough w m = (p : ℕ) → is_live p m ≡ true → IsThrough w p m

-- accept is not left out: right after the clock it is called where it may be
abbrev pub IsTried : Limits → History → Type 0
IsTried c m = (ms : ℕ) → newest m ≡ Some (Call (Now ms)) → may_accept c m ≡ false

-- something is done with p at a stage: none that comes before one that p reached; the live pairs
-- below p had their part, and those above it have yet to have theirs
pub record IsInTurn (w : RelayWords) (c : Limits) (p : ℕ) (s : Stage) (m : History) : Type 0 where
  pub onward : rank (reached_stage p m) ≤ rank s
  pub below : (q : ℕ) → is_live q m ≡ true → q < p → IsThrough w q m
  pub above : (q : ℕ) → is_live q m ≡ true → p < q → reached_stage q m ≡ Reading Up
  pub tried : IsTried c m

-- an end is shut at its stage, or right after its pair was refused, or after the end of the service
pub data ShutsInTurn (w : RelayWords) (c : Limits) (p : ℕ) (end : End) (m : History) : Type 0 where
  AtStage : IsInTurn w c p (Shutting end) m → ShutsInTurn w c p end m
  OfRefused : newest m ≡ Some (Refuse p) → ShutsInTurn w c p end m
  AtTheEnd : is_some (finish_of m) ≡ true → ShutsInTurn w c p end m

-- the place of a mark in its turn
abbrev pub HasPlace : RelayWords → Limits → Mark → History → Type 0
HasPlace w c (Call (Accept answer)) m =
    ((ms : ℕ) × (newest m ≡ Some (Call (Now ms)))) × (may_accept c m ≡ true)
HasPlace w c (Call (Connect p answer)) m = IsInTurn w c p Linking m
HasPlace w c (Call (Read p end room answer bytes)) m = IsInTurn w c p (Reading end) m
HasPlace w c (Call (Write p end bytes answer)) m =
    IsInTurn w c p (writing_at end (reached_stage p m)) m
HasPlace w c (Call (Shut p end)) m = ShutsInTurn w c p end m
HasPlace w c (Call (Idle answer)) m = AllThrough w m × IsTried c m
HasPlace w c (Call (Now ms)) m = AllThrough w m × IsTried c m
HasPlace w c (Refuse p) m = newest m ≡ Some (Call (Accept (accepted.Pair p)))
HasPlace w c (TakeUp p) m = IsInTurn w c p Taking m
HasPlace w c (RunOut p s cut) m = IsInTurn w c p s m
HasPlace w c (Finish PairsDone) m = AllThrough w m × IsTried c m
HasPlace w c (Finish TurnLimit) m = AllThrough w m × IsTried c m
HasPlace w c x m = Unit {0}

-- each mark stands in its place
abbrev pub KeepsOrder : RelayWords → Limits → History → Type 0
KeepsOrder w c [] = Unit {0}
KeepsOrder w c (x ∷ m) = HasPlace w c x m × KeepsOrder w c m

-- ---- what comes once in a turn

-- how many marks of this turn pass a test
abbrev pub marks_in_turn : (Mark → Bool) → History → ℕ
marks_in_turn t [] = 0
marks_in_turn t (Call (Now ms) ∷ m) = 0
marks_in_turn t (x ∷ m) = if t x then marks_in_turn t m + 1 else marks_in_turn t m

abbrev pub is_same_end : End → End → Bool
is_same_end Client Client = true
is_same_end Client Up = false
is_same_end Up Client = false
is_same_end Up Up = true

abbrev pub is_accept : Mark → Bool
is_accept (Call (Accept answer)) = true
is_accept x = false

abbrev pub is_read_of : ℕ → End → Mark → Bool
is_read_of p end (Call (Read q other room answer bytes)) = (q == p) && is_same_end other end
is_read_of p end x = false

abbrev pub is_take_up_of : ℕ → Mark → Bool
is_take_up_of p (TakeUp q) = q == p
is_take_up_of p x = false

abbrev pub is_connect_of : ℕ → Mark → Bool
is_connect_of p (Call (Connect q answer)) = q == p
is_connect_of p x = false

abbrev pub is_write_of : ℕ → End → Mark → Bool
is_write_of p end (Call (Write q other bytes answer)) = (q == p) && is_same_end other end
is_write_of p end x = false

-- the pair ran out of memory in this turn, after its accept
abbrev pub ran_out_in_turn : List Entry → Bool
ran_out_in_turn [] = false
ran_out_in_turn (Began p ms ∷ h) = false
ran_out_in_turn (Moment ms ∷ h) = false
ran_out_in_turn (OutOfMemory cut ∷ h) = true
ran_out_in_turn (e ∷ h) = ran_out_in_turn h

-- upstream a pair is written to at most 4,096 times, and where it ran out of memory in this turn at
-- most so often once more
abbrev pub IsFewUp : ℕ → Bool → Type 0
IsFewUp count ran_out = (count ≤ most_writes) ⊎ ((ran_out ≡ true) × (count ≤ 2 * most_writes))

-- in a turn accept is called at most once, each end of a pair is read at most once, and what came
-- is taken up and the connection asked for at most once
pub record ComesOnce (m : History) : Type 0 where
  pub accepts : marks_in_turn is_accept m ≤ 1
  pub reads : (p : ℕ) (end : End) → marks_in_turn (is_read_of p end) m ≤ 1
  pub take_ups : (p : ℕ) → marks_in_turn (is_take_up_of p) m ≤ 1
  pub connects : (p : ℕ) → marks_in_turn (is_connect_of p) m ≤ 1

-- in a turn each end of a pair is written to at most so often
pub record WritesFew (m : History) : Type 0 where
  pub client : (p : ℕ) → marks_in_turn (is_write_of p Client) m ≤ most_writes
  pub up : (p : ℕ) → IsFewUp (marks_in_turn (is_write_of p Up) m) (ran_out_in_turn (journal p m))
