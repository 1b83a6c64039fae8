-- What the loop does with a pair: what its words say, within what its ends allow. An end is read,
-- written to and shut only while it is open for that, the connection upstream is asked for once,
-- and after a pair ran out of memory it isn't read, takes nothing up and asks for no connection.
use Rattle.std.specs.Prelude.{ℕ, Bool, not, ◌&&◌, if◌then◌else◌, List, Option, None}
use Rattle.gate_outside.specs.declared.ports.End.{End}
use Rattle.gate_outside.specs.declared.ports.End.TheVariants.{Up}
use Rattle.gate_relay.specs.Entries.{Entry, is_out_of_memory}
use Rattle.gate_relay.specs.RelayWords.{RelayWords}
use Rattle.gate_relay.specs.Sides.{sides, side_of, is_readable, is_writable, is_open_side}
use Rattle.gate_relay.specs.Sides.{is_absent}

abbrev pub reads : RelayWords → End → List Entry → Bool
reads w end h = is_readable (side_of end (sides h)) && (not (is_out_of_memory h) && w.awaits end h)

abbrev pub takes_up : RelayWords → List Entry → Bool
takes_up w h = not (is_out_of_memory h) && w.takes_up h

abbrev pub connects : RelayWords → List Entry → Bool
connects w h = is_absent (side_of Up (sides h)) && (not (is_out_of_memory h) && w.connects h)

abbrev pub offers : RelayWords → End → List Entry → Option (List ℕ)
offers w end h = if is_writable (side_of end (sides h)) then w.offer end h else None

abbrev pub shuts : RelayWords → End → List Entry → Bool
shuts w end h = is_open_side (side_of end (sides h)) && w.shut_due end h
