-- What the client sent and what isn't taken up yet: one queue, in which a unit waits for the
-- earlier ones of its channel and of channel 0, and for requests (AMQP 0-9-1 4.2.6).
use Rattle.std.specs.Prelude.{ℕ, zero, suc, ◌+◌, ◌==◌, nat_le, Bool, true, false, not, ◌&&◌, ◌||◌}
use Rattle.std.specs.Prelude.{if◌then◌else◌, List, [], ◌∷◌, length, take, slice_get, Option, None}
use Rattle.std.specs.Prelude.{Some}
use Rattle.std.specs.List.{list_any}
use Rattle.frames_091.specs.declared.frame.Kind91.{Kind91}
use Rattle.frames_091.specs.declared.frame.Kind91.TheVariants as frame
use Rattle.machine_091.specs.declared.unit.Unit91.{Unit91}
use Rattle.machine_091.specs.declared.unit.Unit91.TheVariants as unit
use Rattle.gate_model.specs.declared.limits.TheConstants.{QUEUE_BYTES, QUEUE_UNITS}

-- ---- units

-- the channel that a unit is of: of the connection is what isn't a frame
abbrev pub channel_of : Unit91 → ℕ
channel_of unit.Protocol = 0
channel_of (unit.Frame f) = f.channel
channel_of (unit.Bad code) = 0

abbrev pub is_beat : Kind91 → Bool
is_beat frame.Method = false
is_beat frame.Header = false
is_beat frame.Body = false
is_beat frame.Heartbeat = true

-- it waits for all that came before it: it is of channel 0, or a heartbeat, or bytes with which no
-- unit begins
abbrev pub waits_for_all : Unit91 → Bool
waits_for_all unit.Protocol = true
waits_for_all (unit.Frame f) = f.channel == 0 || is_beat f.kind
waits_for_all (unit.Bad code) = true

-- one of a channel waits for those of that channel and of channel 0
abbrev pub holds : ℕ → Unit91 → Bool
holds n v = channel_of v == 0 || channel_of v == n

abbrev pub is_bad_unit : Unit91 → Bool
is_bad_unit unit.Protocol = false
is_bad_unit (unit.Frame f) = false
is_bad_unit (unit.Bad code) = true

-- bytes that units hold, but for the 8 around the payload of a frame
abbrev pub payload_of : Unit91 → ℕ
payload_of unit.Protocol = 0
payload_of (unit.Frame f) = length f.payload
payload_of (unit.Bad code) = 0

abbrev pub payloads : List Unit91 → ℕ
payloads [] = 0
payloads (u ∷ us) = payload_of u + payloads us

-- ---- which unit can be taken up

-- which requests wait for the container: connection.open; any; and one of a channel
pub record Waits : Type 0 where
  pub opening : Bool
  pub some : Bool
  pub channel : ℕ → Bool

abbrev pub is_empty : List Unit91 → Bool
is_empty [] = true
is_empty (u ∷ us) = false

-- behind these that aren't taken up
abbrev pub can_take : Waits → List Unit91 → Unit91 → Bool
can_take q earlier u =
    if waits_for_all u then is_empty earlier && not q.some
    else not q.opening && not (q.channel (channel_of u))
    && not (list_any (holds (channel_of u)) earlier)

-- the place of the first that can be taken up, of a queue from a place on
abbrev pub place_from : Waits → List Unit91 → ℕ → List Unit91 → Option ℕ
place_from q all i [] = None
place_from q all i (u ∷ us) =
    if can_take q (take i all) u then Some i else place_from q all (i + 1) us

abbrev pub place_in : Waits → List Unit91 → Option ℕ
place_in q us = place_from q us 0 us

-- what stands at a place, and the queue without it
abbrev pub unit_at : Option ℕ → List Unit91 → Option Unit91
unit_at None us = None
unit_at (Some i) us = slice_get us i

abbrev pub removed : ℕ → List Unit91 → List Unit91
removed i [] = []
removed zero (u ∷ us) = us
removed (suc i) (u ∷ us) = u ∷ removed i us

abbrev pub without_at : Option ℕ → List Unit91 → List Unit91
without_at None us = us
without_at (Some i) us = removed i us

-- ---- a full queue

-- so many units, or so many bytes of payloads, hold the client
abbrev pub is_full : List Unit91 → Bool
is_full us = nat_le QUEUE_UNITS (length us) || nat_le QUEUE_BYTES (payloads us)
