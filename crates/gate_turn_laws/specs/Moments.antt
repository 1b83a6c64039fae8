-- The moments of a run, from its calls. All lists are newest first.
use Rattle.std.specs.Prelude.{ℕ, ◌≤◌, List, [], ◌∷◌}
use Rattle.gate_outside.specs.declared.log.LogEntry.{LogEntry}
use Rattle.gate_outside.specs.declared.log.LogEntry.TheVariants.{Now}

-- the last moment that was given
abbrev pub last_moment : List LogEntry → ℕ
last_moment [] = 0
last_moment (Now ms ∷ log) = ms
last_moment (entry ∷ log) = last_moment log

-- no moment is before the one that was given before it
abbrev pub NeverFalls : List LogEntry → Type 0
NeverFalls [] = Unit {0}
NeverFalls (Now ms ∷ log) = (last_moment log ≤ ms) × NeverFalls log
NeverFalls (entry ∷ log) = NeverFalls log
