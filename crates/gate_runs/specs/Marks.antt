-- Marked histories: the calls of a run, the newest first, and between them what no call shows.
use Rattle.std.specs.Prelude.{◌≡◌, ℕ, List, [], ◌∷◌, ◌++◌, Option, None, Some}
use Rattle.gate_outside.specs.declared.log.LogEntry.{LogEntry}
use Rattle.gate_runs.specs.declared.served.Served.{Served}
use Rattle.gate_runs.specs.Stages.{Stage}

pub data Mark : Type 0 where
  -- a call with its answer
  Call : LogEntry → Mark
  -- there was no memory for this pair at its accept
  Refuse : ℕ → Mark
  -- what came of this pair was taken up, as far as it could be
  TakeUp : ℕ → Mark
  -- this pair ran out of memory, and its part of the turn goes on at this stage; of what the mark
  -- before brought, the newest so many steps don't count
  RunOut : ℕ → Stage → ℕ → Mark
  -- the service ended so
  Finish : Served → Mark

-- a run, the newest mark first
abbrev pub History : Type 0
History = List Mark

-- the calls alone
abbrev pub calls : History → List LogEntry
calls [] = []
calls (Call entry ∷ m) = entry ∷ calls m
calls (Refuse p ∷ m) = calls m
calls (TakeUp p ∷ m) = calls m
calls (RunOut p s cut ∷ m) = calls m
calls (Finish how ∷ m) = calls m

-- where the calls are told, some history of those that came after base has P
abbrev pub HasHistory : List LogEntry → Option (List LogEntry) → (History → Type 0) → Type 0
HasHistory base None P = Unit {0}
HasHistory base (Some log) P = (m : History) × (log ≡ calls m ++ base) × P m

-- from told calls to told calls: each history of the first goes on to one of the second, by R
abbrev pub Extends : Option (List LogEntry) → Option (List LogEntry) → (History → History
    → Type 0) → Type 0
Extends old None R = Unit {0}
Extends None (Some new) R = ⊥
Extends (Some old) (Some new) R = (m : History) (base : List LogEntry) → old ≡ calls m ++ base →
    (n : History) × (new ≡ calls n ++ base) × R m n
