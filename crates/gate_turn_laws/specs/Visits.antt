-- What each live pair's part of a turn did: nothing that was due in it is left out.
use Rattle.std.specs.Prelude.{◌≡◌, ◌⊎◌, ℕ, ◌+◌, ◌≤◌, true, false, if◌then◌else◌, List, [], ◌∷◌}
use Rattle.std.specs.Prelude.{None}
use Rattle.gate_outside.specs.declared.ports.End.{End}
use Rattle.gate_outside.specs.declared.log.LogEntry.TheVariants.{Idle, Now}
use Rattle.gate_relay.specs.declared.loss.Loss.TheVariants as loss
use Rattle.gate_relay.specs.Entries.{Entry, Began, Moment, Came, Dry, Settled, Joined, Took, Stuck}
use Rattle.gate_relay.specs.Entries.{Lost}
use Rattle.gate_relay.specs.Guards.{reads, takes_up, connects, offers, shuts}
use Rattle.gate_relay.specs.RelayWords.{RelayWords}
use Rattle.gate_runs.specs.declared.served.Served.TheVariants.{PairsDone, TurnLimit}
use Rattle.gate_runs.specs.Marks.{History, Call, Finish}
use Rattle.gate_runs.specs.Journal.{journal}
use Rattle.gate_runs.specs.Next.{most_writes}
use Rattle.gate_turn_laws.specs.Pairs.{is_live}
use Rattle.gate_turn_laws.specs.Turns.{is_same_end}

-- P held of the journal at some point of this turn, since its clock was read or its pair accepted
abbrev pub AtPoint : (List Entry → Type 0) → List Entry → Type 0
AtPoint P [] = ⊥
AtPoint P (Moment ms ∷ h) = P (Moment ms ∷ h)
AtPoint P (Began p ms ∷ h) = P (Began p ms ∷ h)
AtPoint P (e ∷ h) = P (e ∷ h) ⊎ AtPoint P h

-- the newest entry is the answer of a read of an end
abbrev pub IsAnswer : End → List Entry → Type 0
IsAnswer end (Came e bytes ∷ h) = e ≡ end
IsAnswer end (Dry e ∷ h) = e ≡ end
IsAnswer end (Lost e loss.Ended ∷ h) = e ≡ end
IsAnswer end (Lost e loss.Failed ∷ h) = e ≡ end
IsAnswer end h = ⊥

abbrev pub IsTakeUp : List Entry → Type 0
IsTakeUp (Settled ∷ h) = Unit {0}
IsTakeUp h = ⊥

abbrev pub IsLink : List Entry → Type 0
IsLink (Joined answer ∷ h) = Unit {0}
IsLink h = ⊥

-- the newest entry is that of a write of which nothing was taken, or of one that failed
abbrev pub IsHeldUp : End → List Entry → Type 0
IsHeldUp end (Stuck e bytes ∷ h) = e ≡ end
IsHeldUp end (Lost e loss.Failed ∷ h) = e ≡ end
IsHeldUp end h = ⊥

abbrev pub IsShut : End → List Entry → Type 0
IsShut end (Lost e loss.Shut ∷ h) = e ≡ end
IsShut end h = ⊥

-- how many writes to an end took something in this turn
abbrev pub taken_in_turn : End → List Entry → ℕ
taken_in_turn end [] = 0
taken_in_turn end (Moment ms ∷ h) = 0
taken_in_turn end (Began p ms ∷ h) = 0
taken_in_turn end (Took e bytes n ∷ h) =
    if is_same_end e end then taken_in_turn end h + 1 else taken_in_turn end h
taken_in_turn end (e ∷ h) = taken_in_turn end h

-- each step of a pair's part of the turn: it wasn't due, or it was made
abbrev pub WasRead : RelayWords → End → List Entry → Type 0
WasRead w end = AtPoint (λ h. (reads w end h ≡ false) ⊎ IsAnswer end h)

abbrev pub WasTakenUp : RelayWords → List Entry → Type 0
WasTakenUp w = AtPoint (λ h. (takes_up w h ≡ false) ⊎ IsTakeUp h)

abbrev pub WasLinked : RelayWords → List Entry → Type 0
WasLinked w = AtPoint (λ h. (connects w h ≡ false) ⊎ IsLink h)

-- an end was written to until nothing was offered, nothing was taken, it failed, or 4,096 writes
-- took something
abbrev pub WasWritten : RelayWords → End → List Entry → Type 0
WasWritten w end =
    AtPoint (λ h. (offers w end h ≡ None) ⊎ IsHeldUp end h ⊎ (most_writes ≤ taken_in_turn end h))

abbrev pub WasShut : RelayWords → End → List Entry → Type 0
WasShut w end = AtPoint (λ h. (shuts w end h ≡ false) ⊎ IsShut end h)

-- in this turn both ends were read, what came was taken up, the connection asked for, both ends
-- written to, and both shut, where that was due
pub record IsVisited (w : RelayWords) (h : List Entry) : Type 0 where
  pub read : (end : End) → WasRead w end h
  pub taken : WasTakenUp w h
  pub linked : WasLinked w h
  pub written : (end : End) → WasWritten w end h
  pub shut : (end : End) → WasShut w end h

abbrev pub AllVisited : RelayWords → History → Type 0
AllVisited w m = (p : ℕ) → is_live p m ≡ true → IsVisited w (journal p m)

-- at each idle and at the end of each turn each live pair was visited
abbrev pub VisitsAll : RelayWords → History → Type 0
VisitsAll w [] = Unit {0}
VisitsAll w (Call (Idle answer) ∷ m) = AllVisited w m × VisitsAll w m
VisitsAll w (Call (Now ms) ∷ m) = AllVisited w m × VisitsAll w m
VisitsAll w (Finish PairsDone ∷ m) = AllVisited w m × VisitsAll w m
VisitsAll w (Finish TurnLimit ∷ m) = AllVisited w m × VisitsAll w m
VisitsAll w (x ∷ m) = VisitsAll w m
