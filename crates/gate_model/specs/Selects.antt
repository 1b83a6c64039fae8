-- Which publishes wait for a confirm, and under which number: told by the events of a life, which
-- know no state (AMQP 0-9-1 class confirm, as RabbitMQ defines it).
use Rattle.std.specs.Prelude.{◌≡◌, ℕ, ◌+◌, ◌-◌, nat_lt, Bool, true, false, if◌then◌else◌, List, []}
use Rattle.std.specs.Prelude.{◌∷◌, Option, None, Some}
use Rattle.publish_path.specs.Journal.{IsTaken, fate_of}
use Rattle.session_path.specs.Events as event
use Rattle.session_path.specs.Events.{PathEvent, publishes_of}
use Rattle.gate_model.specs.Publishing.{path_events, path_life}
use Rattle.gate_model.specs.State.{Step}

-- a confirm.select was taken up
abbrev pub has_selected : List PathEvent → Bool
has_selected [] = false
has_selected (event.Selected ∷ es) = true
has_selected (x ∷ es) = has_selected es

-- how many publishes were taken up before the first
abbrev pub unconfirmed : List PathEvent → ℕ
unconfirmed [] = 0
unconfirmed (event.Published address payload back ∷ es) =
    if has_selected es then unconfirmed es else unconfirmed es + 1
unconfirmed (x ∷ es) = unconfirmed es

-- those wait for no confirm, and the ones behind them are numbered from 1
abbrev pub number_for : ℕ → ℕ → Option ℕ
number_for before k = if nat_lt before k then Some (k - before) else None

-- each publish of a life in progress has that number
abbrev pub AreNumbered : List Step → Type 0
AreNumbered h =
    (n life k : ℕ) → path_life h n ≡ Some life → IsTaken (publishes_of life (path_events h n)) k
    → (fate_of k (publishes_of life (path_events h n))).confirm
    ≡ number_for (unconfirmed (path_events h n)) k

-- after each step
abbrev pub CountsFromSelect : List Step → Type 0
CountsFromSelect [] = Unit {0}
CountsFromSelect (s ∷ h) = AreNumbered (s ∷ h) × CountsFromSelect h
