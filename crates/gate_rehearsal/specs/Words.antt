-- The words of this crate, from one place.
pub use Rattle.gate_rehearsal.specs.Messages.{body_length}
pub use Rattle.gate_rehearsal.specs.Playing.{GivesOne, GivesFew, IsPlayed, StoryState}
pub use Rattle.gate_rehearsal.specs.Standing.{opened_ends, opened_pairs, told_log}
