-- The stages of a pair's part of a turn.
use Rattle.std.specs.Prelude.{ℕ, ◌+◌, Bool, true, false, List, [], ◌∷◌}
use Rattle.gate_outside.specs.declared.ports.End.{End}
use Rattle.gate_outside.specs.declared.ports.End.TheVariants.{Client, Up}
use Rattle.gate_runs.specs.declared.lap.Lap.{Lap}
use Rattle.gate_runs.specs.declared.lap.Lap.TheVariants.{ToUp, ToClient, ToClientLate, ToUpAgain}

-- which end a lap writes to
abbrev pub lap_end : Lap → End
lap_end ToUp = Up
lap_end ToClient = Client
lap_end ToClientLate = Client
lap_end ToUpAgain = Up

-- the lap after the pair ran out of memory in it, or not
abbrev pub lap_after : Bool → Lap → Lap
lap_after false lap = lap
lap_after true ToUp = ToUp
lap_after true ToClient = ToClientLate
lap_after true ToClientLate = ToClientLate
lap_after true ToUpAgain = ToUpAgain

pub data Stage : Type 0 where
  -- an end is yet to be read, upstream first
  Reading : End → Stage
  -- what came is yet to be taken up, as far as it can be
  Taking : Stage
  -- the connection upstream is yet to be asked for
  Linking : Stage
  -- so many writes of a lap were made
  Writing : Lap → ℕ → Stage
  -- an end is yet to be shut, upstream first
  Shutting : End → Stage
  -- nothing more comes
  Past : Stage

-- the stage that comes after one
abbrev pub later : Stage → Stage
later (Reading Up) = Reading Client
later (Reading Client) = Taking
later Taking = Linking
later Linking = Writing ToUp 0
later (Writing ToUp k) = Writing ToClient 0
later (Writing ToClient k) = Shutting Up
later (Writing ToClientLate k) = Writing ToUpAgain 0
later (Writing ToUpAgain k) = Shutting Up
later (Shutting Up) = Shutting Client
later (Shutting Client) = Past
later Past = Past

-- a stage and those that come after it
abbrev pub shuttings : List Stage
shuttings = Shutting Up ∷ Shutting Client ∷ []

abbrev pub stages_from : Stage → List Stage
stages_from Past = []
stages_from (Shutting Client) = Shutting Client ∷ []
stages_from (Shutting Up) = shuttings
stages_from (Writing ToUpAgain k) = Writing ToUpAgain k ∷ shuttings
stages_from (Writing ToClientLate k) = Writing ToClientLate k ∷ Writing ToUpAgain 0 ∷ shuttings
stages_from (Writing ToClient k) = Writing ToClient k ∷ shuttings
stages_from (Writing ToUp k) = Writing ToUp k ∷ Writing ToClient 0 ∷ shuttings
stages_from Linking = Linking ∷ Writing ToUp 0 ∷ Writing ToClient 0 ∷ shuttings
stages_from Taking = Taking ∷ Linking ∷ Writing ToUp 0 ∷ Writing ToClient 0 ∷ shuttings
stages_from (Reading Client) =
    Reading Client ∷ Taking ∷ Linking ∷ Writing ToUp 0 ∷ Writing ToClient 0 ∷ shuttings
stages_from (Reading Up) =
    Reading Up ∷ Reading Client ∷ Taking ∷ Linking ∷ Writing ToUp 0 ∷ Writing ToClient 0 ∷ shuttings

-- the stage of a write to an end, after a stage that was reached by a mark
abbrev pub writing_at : End → Stage → Stage
writing_at Up (Writing ToUp k) = Writing ToUp k
writing_at Up (Writing ToUpAgain k) = Writing ToUpAgain k
writing_at Up (Writing ToClientLate k) = Writing ToUpAgain 0
writing_at Up s = Writing ToUp 0
writing_at Client (Writing ToClient k) = Writing ToClient k
writing_at Client (Writing ToClientLate k) = Writing ToClientLate k
writing_at Client s = Writing ToClient 0

-- one write more
abbrev pub one_more : Stage → Stage
one_more (Writing lap k) = Writing lap (k + 1)
one_more s = s

-- the stage at which a pair that ran out of memory before a write goes on
abbrev pub at_running_out : Stage → Stage
at_running_out (Writing lap k) = Writing (lap_after true lap) k
at_running_out s = s
