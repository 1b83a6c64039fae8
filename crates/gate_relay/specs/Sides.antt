-- How far each end of a pair is, from its journal alone.
use Rattle.std.specs.Prelude.{Bool, true, false, ◌||◌, List, [], ◌∷◌}
use Rattle.gate_outside.specs.declared.ports.End.{End}
use Rattle.gate_outside.specs.declared.ports.End.TheVariants.{Client, Up}
use Rattle.gate_outside.specs.declared.ports.Linked.{Linked}
use Rattle.gate_outside.specs.declared.ports.Linked.TheVariants as linked
use Rattle.gate_relay.specs.declared.loss.Loss.{Loss}
use Rattle.gate_relay.specs.declared.loss.Loss.TheVariants as loss
use Rattle.gate_relay.specs.declared.sides.Side.{Side}
use Rattle.gate_relay.specs.declared.sides.Side.TheVariants as side
use Rattle.gate_relay.specs.declared.sides.Sides.{Sides}
use Rattle.gate_relay.specs.Entries.{Entry, Began, Lost, Joined}

-- it may be read
abbrev pub is_readable : Side → Bool
is_readable side.Absent = false
is_readable side.Open = true
is_readable side.Ended = false
is_readable side.Failed = false
is_readable side.Gone = false

-- it may be written to
abbrev pub is_writable : Side → Bool
is_writable side.Absent = false
is_writable side.Open = true
is_writable side.Ended = true
is_writable side.Failed = false
is_writable side.Gone = false

-- it is open for the ports
abbrev pub is_open_side : Side → Bool
is_open_side side.Absent = false
is_open_side side.Open = true
is_open_side side.Ended = true
is_open_side side.Failed = true
is_open_side side.Gone = false

abbrev pub is_absent : Side → Bool
is_absent side.Absent = true
is_absent side.Open = false
is_absent side.Ended = false
is_absent side.Failed = false
is_absent side.Gone = false

abbrev pub side_lost : Loss → Side
side_lost loss.Ended = side.Ended
side_lost loss.Failed = side.Failed
side_lost loss.Shut = side.Gone

abbrev pub side_linked : Linked → Side
side_linked linked.Ok = side.Open
side_linked linked.Failed = side.Gone

abbrev pub side_of : End → Sides → Side
side_of Client s = s.client
side_of Up s = s.up

abbrev pub with_side : End → Side → Sides → Sides
with_side Client x s = record { client = x; up = s.up }
with_side Up x s = record { client = s.client; up = x }

abbrev pub has_end : Sides → Bool
has_end s = is_open_side s.client || is_open_side s.up

abbrev pub no_sides : Sides
no_sides = record { client = side.Absent; up = side.Absent }

abbrev pub new_sides : Sides
new_sides = record { client = side.Open; up = side.Absent }

-- what the entries say of both ends
abbrev pub sides : List Entry → Sides
sides [] = no_sides
sides (Began p ms ∷ h) = new_sides
sides (Lost end how ∷ h) = with_side end (side_lost how) (sides h)
sides (Joined answer ∷ h) = with_side Up (side_linked answer) (sides h)
sides (x ∷ h) = sides h
