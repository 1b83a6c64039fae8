-- The limits of a connection (AMQP 0-9-1 1.4.2.6): the gateway's own, and those that a tune-ok
-- agrees to.
use Rattle.std.specs.Prelude.{ℕ, Bool, ◌&&◌, ◌||◌, ◌==◌, ◌≤◌, nat_le, if◌then◌else◌}
use Rattle.machine_091.specs.declared.limits.Limits.{Limits}
use Rattle.machine_091.specs.declared.limits.TheConstants.{FRAME_MAX, FRAME_MIN_SIZE, CHANNEL_MAX}

-- the limits until the client agreed to others
abbrev pub own_limits : Limits
own_limits = record { frame_max = FRAME_MAX; channel_max = CHANNEL_MAX; heartbeat = 0 }

-- limits that are no greater than the gateway's own, with frames of 4,096 bytes at least; 0 stands
-- for the gateway's own
abbrev pub is_agreed : ℕ → ℕ → Bool
is_agreed channel_max frame_max =
    nat_le channel_max CHANNEL_MAX
    && (frame_max == 0 || (nat_le FRAME_MIN_SIZE frame_max && nat_le frame_max FRAME_MAX))

-- the limits that a tune-ok agrees to
abbrev pub agreed_limits : ℕ → ℕ → ℕ → Limits
agreed_limits channel_max frame_max heartbeat = record {
  frame_max = if frame_max == 0 then FRAME_MAX else frame_max;
  channel_max = if channel_max == 0 then CHANNEL_MAX else channel_max;
  heartbeat = heartbeat;
}

-- frames of 4,096 to 131,072 bytes, and channels from 1 to at most 255
pub record AreWithin (l : Limits) : Type 0 where
  pub frame_min : FRAME_MIN_SIZE ≤ l.frame_max
  pub frame_max : l.frame_max ≤ FRAME_MAX
  pub channel_min : 1 ≤ l.channel_max
  pub channel_max : l.channel_max ≤ CHANNEL_MAX
