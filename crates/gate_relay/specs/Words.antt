-- The words of this crate, from one place.
pub use Rattle.gate_relay.specs.Entries.{Entry, is_out_of_memory, is_over, moment_of, is_empty}
pub use Rattle.gate_relay.specs.Guards.{reads, takes_up, connects, offers, shuts}
pub use Rattle.gate_relay.specs.RelayWords.{RelayWords}
pub use Rattle.gate_relay.specs.Relayed.{read_room, is_new, RunsOut, ShutFor, MayCome}
pub use Rattle.gate_relay.specs.Relayed.{MayComeAfter, IsRelayed}
pub use Rattle.gate_relay.specs.Sides.{is_readable, is_writable, is_open_side, is_absent}
pub use Rattle.gate_relay.specs.Sides.{side_lost, side_linked, side_of, with_side, has_end}
pub use Rattle.gate_relay.specs.Sides.{no_sides, new_sides, sides}
