-- What callers need of this crate and of the log that it spells, in one import.
pub use Rattle.gate_outside.specs.declared.log.LogEntry.{LogEntry}
pub use Rattle.gate_outside.specs.LogState.{entry_of}
pub use Rattle.gate_capture.specs.Spelling.{spelling_of, HasSpelling}
pub use Rattle.gate_capture.specs.Captures.{start, capture, spelling, FieldsFit, IsInForm}
pub use Rattle.gate_capture.specs.Captures.{IsCapture}
pub use Rattle.gate_capture.specs.Reading.{capture_in, entry_in, seen}
pub use Rattle.gate_capture.specs.Replay.{ReplayState, begun, told, difference, whole}
pub use Rattle.gate_capture.specs.declared.reading.Capture.{Capture}
pub use Rattle.gate_capture.specs.declared.reading.CaptureFault.{CaptureFault}
