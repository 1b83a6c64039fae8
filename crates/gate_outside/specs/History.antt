-- The calls that ports were asked, as an optional list, the newest first.
use Rattle.std.specs.Prelude.{◌≡◌, List, ◌∷◌, Option, None, Some}
use Rattle.gate_outside.specs.declared.log.LogEntry.{LogEntry}

-- where the calls are told after a call, they were told before it, and have this one more
abbrev pub Tells : Option (List LogEntry) → Option (List LogEntry) → LogEntry → Type 0
Tells old None entry = Unit {0}
Tells None (Some new) entry = ⊥
Tells (Some old) (Some new) entry = new ≡ entry ∷ old
