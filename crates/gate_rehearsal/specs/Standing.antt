-- The one pair of a rehearsal, and the calls that are told.
use Rattle.std.specs.Prelude.{ℕ, if◌then◌else◌, List, [], ◌∷◌, ◌++◌, reverse, Option, None, Some}
use Rattle.gate_outside.specs.declared.ports.End.{End}
use Rattle.gate_outside.specs.declared.ports.End.TheVariants.{Client, Up}
use Rattle.gate_outside.specs.declared.log.LogEntry.{LogEntry}
use Rattle.gate_rehearsal.specs.declared.opened.Opened.{Opened}
use Rattle.gate_rehearsal.specs.declared.opened.Opened.TheVariants.{NoPair, Pair}
use Rattle.gate_rehearsal.specs.Playing.{StoryState}

-- the open ends of the one pair
abbrev pub opened_ends : Opened → List (ℕ × End)
opened_ends NoPair = []
opened_ends (Pair client up) =
    (if client then (0, Client) ∷ [] else []) ++ (if up then (0, Up) ∷ [] else [])

-- how many pairs were accepted
abbrev pub opened_pairs : Opened → ℕ
opened_pairs NoPair = 0
opened_pairs (Pair client up) = 1

-- the calls, the newest first, while they are told
abbrev pub told_log : StoryState → Option (List LogEntry)
told_log story = if story.tells then Some (reverse story.entries) else None
