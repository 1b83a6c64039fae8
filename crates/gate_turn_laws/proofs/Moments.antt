-- Moments don't fall.
use Rattle.std.proofs.Common.{◌≡◌, ℕ, ◌≤◌, [], ◌∷◌, refl, subst}
use Rattle.gate_outside.specs.declared.log.LogEntry.TheVariants.{Accept, Connect, Read, Write, Shut}
use Rattle.gate_outside.specs.declared.log.LogEntry.TheVariants.{Idle, Now}
use Rattle.gate_relay.specs.RelayWords.{RelayWords}
use Rattle.gate_runs.specs.declared.limits.Limits.{Limits}
use Rattle.gate_runs.specs.Marks.{History, Call, Refuse, TakeUp, RunOut, Finish, calls}
use Rattle.gate_runs.specs.Journal.{moment}
use Rattle.gate_runs.specs.Serving.{Follows}
use Rattle.gate_turn_laws.specs.Moments.{last_moment, NeverFalls}

moment_is : (m : History) → moment m ≡ last_moment (calls m)
moment_is [] = refl
moment_is (Call (Accept answer) ∷ m) = moment_is m
moment_is (Call (Connect p answer) ∷ m) = moment_is m
moment_is (Call (Read p end room answer bytes) ∷ m) = moment_is m
moment_is (Call (Write p end bytes answer) ∷ m) = moment_is m
moment_is (Call (Shut p end) ∷ m) = moment_is m
moment_is (Call (Idle answer) ∷ m) = moment_is m
moment_is (Call (Now ms) ∷ m) = refl
moment_is (Refuse p ∷ m) = moment_is m
moment_is (TakeUp p ∷ m) = moment_is m
moment_is (RunOut p s cut ∷ m) = moment_is m
moment_is (Finish how ∷ m) = moment_is m

pub never_falls : (w : RelayWords) (c : Limits) (m : History) → Follows w c m → NeverFalls (calls m)
never_falls w c [] f = tt
never_falls w c (Call (Accept answer) ∷ m) f = never_falls w c m f.2
never_falls w c (Call (Connect p answer) ∷ m) f = never_falls w c m f.2
never_falls w c (Call (Read p end room answer bytes) ∷ m) f = never_falls w c m f.2
never_falls w c (Call (Write p end bytes answer) ∷ m) f = never_falls w c m f.2
never_falls w c (Call (Shut p end) ∷ m) f = never_falls w c m f.2
never_falls w c (Call (Idle answer) ∷ m) f = never_falls w c m f.2
never_falls w c (Call (Now ms) ∷ m) f = (subst (λ (k : ℕ). k ≤ ms) (moment_is m) f.1, never_falls w c m f.2)
never_falls w c (Refuse p ∷ m) f = never_falls w c m f.1
never_falls w c (TakeUp p ∷ m) f = never_falls w c m f.1
never_falls w c (RunOut p s cut ∷ m) f = never_falls w c m f.2
never_falls w c (Finish how ∷ m) f = never_falls w c m f.2
