-- What becomes of the publishes of a container that closed, was lost or failed: told by the events
-- of the lives in progress (AMQP 1.0 2.4.3, 2.4.5, 2.6.12).
use Rattle.std.specs.Prelude.{◌≡◌, ℕ, Bool, true, false, not, ◌&&◌, ◌||◌, List, [], ◌∷◌}
use Rattle.gate_outside.specs.declared.ports.End.TheVariants.{Up}
use Rattle.gate_outside.specs.declared.ports.Linked.TheVariants as link
use Rattle.gate_relay.specs.declared.loss.Loss.TheVariants as loss
use Rattle.machine_10.specs.Transitions as ten
use Rattle.machine_10.specs.Transitions.{Meaning}
use Rattle.gate_model.specs.Folds.{Peers, closes_connection, container, peers, ran_out_in, scope_in}
use Rattle.gate_model.specs.Linger.{AreOver}
use Rattle.gate_model.specs.State.{Heard, Joined, Lost, Silent, Step}
use Rattle.gate_model.specs.Upstream.{meaning_by}

-- a unit of the container closes its connection, or is one for which the gateway closes it: a
-- close, a login that failed, a unit out of order, or an attach that is wrong
abbrev pub ends_by : Peers → Meaning → Bool
ends_by p ten.Nothing = false
ends_by p ten.Init = false
ends_by p ten.AmqpHeader = false
ends_by p ten.Opened = false
ends_by p (ten.OfSession n q payload) = closes_connection (scope_in p n q payload)
ends_by p (ten.Closed e) = true
ends_by p ten.Refused = true
ends_by p (ten.Violation why) = true

-- there was such a unit, the container couldn't be reached, its end ended or failed, or it was
-- given up
abbrev pub is_lost_up : List Step → Bool
is_lost_up [] = false
is_lost_up (Heard u ∷ h) =
    is_lost_up h || (not (ran_out_in h) && ends_by (peers h) (meaning_by (container h) u))
is_lost_up (Joined link.Failed ∷ h) = true
is_lost_up (Lost Up loss.Ended ∷ h) = true
is_lost_up (Lost Up loss.Failed ∷ h) = true
is_lost_up (Silent Up ∷ h) = true
is_lost_up (s ∷ h) = is_lost_up h

-- from then on no publish waits: each went whole or lost its link, and has an outcome or the
-- confirm that told it
abbrev pub LosesPublishes : List Step → Type 0
LosesPublishes h = is_lost_up h ≡ true → (n : ℕ) → AreOver h n
