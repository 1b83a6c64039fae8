-- The points of a run.
use Rattle.std.specs.Prelude.{ℕ, zero, suc, [], ◌∷◌, drop}
use Rattle.gate_relay.specs.RelayWords.{RelayWords}
use Rattle.gate_runs.specs.declared.limits.Limits.{Limits}
use Rattle.gate_runs.specs.Marks.{Call, Finish, History, Refuse, RunOut, TakeUp}
use Rattle.gate_runs.specs.Serving.{Follows}

-- what stood at a point of a run is one up to there
pub follows_to : (w : RelayWords) (c : Limits) (m : History) (n : ℕ) → Follows w c m → Follows w c (drop n m)
follows_to w c m zero f = f
follows_to w c [] (suc n) f = f
follows_to w c (Call x ∷ m) (suc n) f = follows_to w c m n f.2
follows_to w c (Refuse q ∷ m) (suc n) f = follows_to w c m n f.1
follows_to w c (TakeUp q ∷ m) (suc n) f = follows_to w c m n f.1
follows_to w c (RunOut q s cut ∷ m) (suc n) f = follows_to w c m n f.2
follows_to w c (Finish how ∷ m) (suc n) f = follows_to w c m n f.2
