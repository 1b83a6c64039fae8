-- What a pair holds: publishes of the lives in progress, told by their fates, which know no state.
-- While it holds many, nothing of its client is taken up.
use Rattle.std.specs.Prelude.{ℕ, zero, suc, ◌+◌, ◌<◌, ◌≤◌, ◌&&◌, ◌||◌, Bool, List, [], ◌∷◌, length}
use Rattle.std.specs.Prelude.{sum_by, Option, None, Some}
use Rattle.machine_091.specs.declared.limits.TheConstants.{CHANNEL_MAX}
use Rattle.open_items.specs.Numbers.{has_any, passing}
use Rattle.publish_path.specs.Journal.{Fate, fate_of, is_to_go, is_undecided, numbers_of}
use Rattle.publish_path.specs.Publishes.{PublishEvent}
use Rattle.session_path.specs.Events.{PathEvent, publishes_of}
use Rattle.gate_model.specs.Publishing.{path_events, path_life}
use Rattle.gate_model.specs.State.{Came, Step, TakenUp}
use Rattle.gate_model.specs.declared.limits.TheConstants.{HELD_BYTES, HELD_PUBLISHES}

-- ---- one life

-- the last frame of its transfer didn't go, and its link wasn't lost (AMQP 1.0 2.6.14); or it is
-- mandatory, and has no outcome (AMQP 0-9-1 1.8.3.7)
abbrev pub is_held : Fate → Bool
is_held f = is_to_go f || (is_undecided f && has_any f.back)

-- the numbers of those that are held
abbrev pub held_by : List PublishEvent → List ℕ
held_by es = passing (λ k. is_held (fate_of k es)) (numbers_of es)

abbrev pub number_held : List PublishEvent → ℕ
number_held es = length (held_by es)

-- the bytes of their payloads
abbrev pub size_by : List PublishEvent → ℕ → ℕ
size_by es k = length (fate_of k es).payload

abbrev pub size_held : List PublishEvent → ℕ
size_held es = sum_by (size_by es) (held_by es)

-- ---- all lives in progress

abbrev pub of_life : (List PublishEvent → ℕ) → List PathEvent → Option ℕ → ℕ
of_life f es None = 0
of_life f es (Some life) = f (publishes_of life es)

abbrev pub on_channel : (List PublishEvent → ℕ) → List Step → ℕ → ℕ
on_channel f h n = of_life f (path_events h n) (path_life h n)

-- of the channels below n
abbrev pub sum_below : (ℕ → ℕ) → ℕ → ℕ
sum_below f zero = 0
sum_below f (suc n) = sum_below f n + f n

abbrev pub publishes_held : List Step → ℕ
publishes_held h = sum_below (on_channel number_held h) (suc CHANNEL_MAX)

abbrev pub bytes_held : List Step → ℕ
bytes_held h = sum_below (on_channel size_held h) (suc CHANNEL_MAX)

-- ---- taking up

-- so few publishes are held, and so few bytes of them, that something may be taken up
pub record HasRoom (h : List Step) : Type 0 where
  pub publishes : publishes_held h < HELD_PUBLISHES
  pub bytes : bytes_held h < HELD_BYTES

-- each unit of the client that was taken up, and the end of the client where it was, found such
abbrev pub TakesWithRoom : List Step → Type 0
TakesWithRoom [] = Unit {0}
TakesWithRoom (Came u ∷ h) = HasRoom h × TakesWithRoom h
TakesWithRoom (TakenUp ∷ h) = HasRoom h × TakesWithRoom h
TakesWithRoom (s ∷ h) = TakesWithRoom h

-- so at no time more are held
abbrev pub HoldsFew : List Step → Type 0
HoldsFew h = publishes_held h ≤ HELD_PUBLISHES
