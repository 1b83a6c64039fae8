-- The words of this crate, from one place. Its types and constants can't be passed on: they are
-- taken from specs.declared.
pub use Rattle.machine_091.specs.State.{new_connection, is_running, is_opening, is_closing, is_over}
pub use Rattle.machine_091.specs.State.{is_open, awaits, channel_at, content_at}
pub use Rattle.machine_091.specs.Contents.{no_contents, begun, is_immediate}
pub use Rattle.machine_091.specs.Limits.{own_limits, AreWithin}
pub use Rattle.machine_091.specs.Calls.{after_opened, after_closing, after_closed, after_ended}
pub use Rattle.machine_091.specs.Refusals.{frame_ruling, unit_ruling, refusal_with, publish_refusal}
pub use Rattle.machine_091.specs.Refusals.{channel_refusal}
pub use Rattle.machine_091.specs.Transitions.{Step, unit_step}
pub use Rattle.machine_091.specs.Laws.{Call91, Take, Opened, Closing, Closed, Ended, after_call}
pub use Rattle.machine_091.specs.Laws.{after_calls, AreInRange, ClosesConnection, ClosesChannel}
pub use Rattle.machine_091.specs.Laws.{Closes, StaysClosed, HasNone, AreOnOpen, frames_on}
pub use Rattle.machine_091.specs.Laws.{content_frames, IsPublished}
pub use Rattle.machine_091.specs.Writable.{CanPutBack, HasShortNames}
