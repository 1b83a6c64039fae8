-- When the gateway ends a session of its own accord: once what its channel published was sent and
-- has an outcome, or so long after the closing event (AMQP 1.0 2.5.2).
use Rattle.std.specs.Prelude.{◌≡◌, ℕ, ◌+◌, ◌≤◌, true, false, if◌then◌else◌, List, [], ◌∷◌, Option}
use Rattle.std.specs.Prelude.{None, Some}
use Rattle.machine_091.specs.State.{is_open}
use Rattle.publish_path.specs.Journal.{IsTaken, fate_of, is_to_go, is_undecided}
use Rattle.publish_path.specs.Publishes.{PublishEvent}
use Rattle.session_path.specs.Events.{publishes_of}
use Rattle.gate_model.specs.Folds.{closed_in, connection, container, moment_in, ran_out_in}
use Rattle.gate_model.specs.Lives.{is_ended, session_in}
use Rattle.gate_model.specs.Publishing.{path_events, path_life}
use Rattle.gate_model.specs.State.{Gave, Step, closes_at}
use Rattle.gate_model.specs.declared.outgoing.Outgoing.TheVariants.{ToUp}
use Rattle.gate_model.specs.declared.outgoing.UpUnit.{UpUnit}
use Rattle.gate_model.specs.declared.outgoing.UpUnit.TheVariants as up
use Rattle.gate_model.specs.declared.timers.TheConstants.{LINGER_LIMIT}

-- the moment since which channel n isn't open
abbrev pub shut_in : List Step → ℕ → Option ℕ
shut_in [] n = None
shut_in (s ∷ h) n =
    if is_open (connection (s ∷ h)) n then None
    else closes_at (shut_in h n) true (moment_in (s ∷ h))

-- a publish was sent whole, or its link was lost; and it has an outcome, or the confirm that told it
pub record IsOver (h : List PublishEvent) (k : ℕ) : Type 0 where
  pub sent : is_to_go (fate_of k h) ≡ false
  pub decided : is_undecided (fate_of k h) ≡ false

-- so is each of the life in progress on channel n
abbrev pub AreOver : List Step → ℕ → Type 0
AreOver h n =
    (life k : ℕ) → path_life h n ≡ Some life → IsTaken (publishes_of life (path_events h n)) k
    → IsOver (publishes_of life (path_events h n)) k

-- why the gateway's end of the session of channel n goes
pub data MayLeave (h : List Step) (n : ℕ) : Type 0 where
  -- the container's end came
  Ended : is_ended (session_in (container h) n) ≡ true → MayLeave h n
  -- what was published is sent, and decided
  Done : AreOver h n → MayLeave h n
  -- the closing event of the channel is so old, or that of the connection
  Late : (at : ℕ) → shut_in h n ≡ Some at → at + LINGER_LIMIT ≤ moment_in h → MayLeave h n
  Overdue : (at : ℕ) → closed_in h ≡ Some at → at + LINGER_LIMIT ≤ moment_in h → MayLeave h n
  RanOut : ran_out_in h ≡ true → MayLeave h n

abbrev pub Leaves : List Step → UpUnit → Type 0
Leaves h (up.End n why) = MayLeave h n
Leaves h u = Unit {0}

-- each that went had one of these causes
abbrev pub Lingers : List Step → Type 0
Lingers [] = Unit {0}
Lingers (Gave (ToUp u) text ∷ h) = Leaves h u × Lingers h
Lingers (s ∷ h) = Lingers h
