-- When an end is given up: exactly where no byte of it came for too long. Moments are in
-- milliseconds.
use Rattle.std.specs.Prelude.{◌≡◌, ◌↔◌, ℕ, ◌+◌, ◌*◌, ◌<◌, ◌≤◌, true, false, not, ◌&&◌, List, []}
use Rattle.std.specs.Prelude.{◌∷◌}
use Rattle.std.specs.Prelude.{if◌then◌else◌}
use Rattle.gate_outside.specs.declared.ports.End.TheVariants.{Client, Up}
use Rattle.gate_relay.specs.Sides.{is_readable}
use Rattle.gate_model.specs.declared.timers.TheConstants.{SILENCE_PER_SECOND, UP_SILENCE}
use Rattle.gate_model.specs.Due.{is_awaiting, is_silent}
use Rattle.gate_model.specs.Folds.{connection, given_up_in, gone_in, moment_in, ran_out_in, side_in}
use Rattle.gate_model.specs.Folds.{silent_in, up_fed_at}
use Rattle.gate_model.specs.State.{Step, Began, Moment, Fed, Silent, Came, before, is_held}

-- the moment of the client's last byte, or the last one at which it was held: it is held from where
-- a unit is taken up on; that of the accept before
abbrev pub fed_in : List Step → ℕ
fed_in [] = 0
fed_in (Began site n ms ∷ h) = ms
fed_in (Moment ms ∷ h) = if is_held (before h) then ms else fed_in h
fed_in (Fed Client ∷ h) = moment_in h
fed_in (Came u ∷ h) =
    if not (ran_out_in h) && is_held (before (Came u ∷ h)) then moment_in h else fed_in h
fed_in (s ∷ h) = fed_in h

-- a client may be given up, once, while it is read: an interval is agreed to, in seconds, and for
-- twice of it no byte came, counted from its last byte, or from the end of the last time that it
-- was held (AMQP 0-9-1 4.2.7); its end is open, and the pair didn't run out of memory
pub record MayGiveUp (h : List Step) : Type 0 where
  pub read : is_awaiting (before h) Client ≡ true
  pub once : given_up_in h ≡ false
  pub stands : gone_in h ≡ false
  pub stays : (before h).leaving ≡ false
  pub calm : ran_out_in h ≡ false
  pub agreed : 0 < (connection h).limits.heartbeat
  pub quiet : fed_in h + SILENCE_PER_SECOND * (connection h).limits.heartbeat ≤ moment_in h

-- a container may be, once, while its end is open: no byte came for the limit, counted from its
-- last one, or from the connect (AMQP 1.0 2.4.5)
pub record MayGiveUpUp (h : List Step) : Type 0 where
  pub readable : is_readable (side_in h) ≡ true
  pub once : silent_in h ≡ false
  pub quiet : up_fed_at h + UP_SILENCE ≤ moment_in h

-- each was given up where it might be
abbrev pub SilentWhenDue : List Step → Type 0
SilentWhenDue [] = Unit {0}
SilentWhenDue (Silent Client ∷ h) = MayGiveUp h × SilentWhenDue h
SilentWhenDue (Silent Up ∷ h) = MayGiveUpUp h × SilentWhenDue h
SilentWhenDue (s ∷ h) = SilentWhenDue h

-- and it is to be exactly there
pub record SilentAtOnce (h : List Step) : Type 0 where
  pub client : (is_silent (before h) Client ≡ true) ↔ MayGiveUp h
  pub up : (is_silent (before h) Up ≡ true) ↔ MayGiveUpUp h
