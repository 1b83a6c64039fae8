-- The units of each channel are taken up in the order in which they came, each once (AMQP 0-9-1
-- 4.2.6 and 4.7).
use Rattle.std.specs.Prelude.{◌≡◌, ℕ, ◌==◌, Bool, false, List, [], ◌∷◌, ◌++◌, filter}
use Rattle.machine_091.specs.declared.unit.Unit91.{Unit91}
use Rattle.gate_outside.specs.declared.ports.End.TheVariants.{Client}
use Rattle.gate_model.specs.Folds.{ran_out_in}
use Rattle.gate_model.specs.Queue.{channel_of}
use Rattle.gate_model.specs.State.{Step, Silent, Queued, Came, before}

-- the units that came, in their order
abbrev pub came_in : List Step → List Unit91
came_in [] = []
came_in (Queued u ∷ h) = came_in h ++ u ∷ []
came_in (s ∷ h) = came_in h

-- those that were taken up; all that wait when the client is given up are passed over there
abbrev pub taken_in : List Step → List Unit91
taken_in [] = []
taken_in (Came u ∷ h) = taken_in h ++ u ∷ []
taken_in (Silent Client ∷ h) = taken_in h ++ (before h).queue
taken_in (s ∷ h) = taken_in h

-- those of a channel
abbrev pub is_of : ℕ → Unit91 → Bool
is_of n u = channel_of u == n

abbrev pub on_channel : ℕ → List Unit91 → List Unit91
on_channel n us = filter (is_of n) us

-- of each channel those that were taken up are the first of those that came, and the others wait in
-- their order; after the pair ran out of memory none counts
abbrev pub TakesInOrder : List Step → Type 0
TakesInOrder h =
    (n : ℕ) → ran_out_in h ≡ false
    → on_channel n (came_in h) ≡ on_channel n (taken_in h) ++ on_channel n (before h).queue
