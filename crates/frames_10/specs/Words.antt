-- The words that a caller's clauses need: the frames and the headers of AMQP 1.0, and what scans
-- say of them.
pub use Rattle.frames_10.specs.declared.frame.Kind10.{Kind10}
pub use Rattle.frames_10.specs.declared.frame.Kind10.TheVariants.{Amqp, Sasl}
pub use Rattle.frames_10.specs.declared.frame.Frame10.{Frame10}
pub use Rattle.frames_10.specs.declared.frame.FrameFault10.{FrameFault10}
pub use Rattle.frames_10.specs.declared.frame.FrameFault10.TheVariants.{FrameSize, DataOffset}
pub use Rattle.frames_10.specs.declared.frame.FrameFault10.TheVariants.{FrameType}
pub use Rattle.frames_10.specs.declared.header.NotHeader.{NotHeader}
pub use Rattle.frames_10.specs.Frames.{kind_byte, size_behind, text_behind, frame_text, IsFrame}
pub use Rattle.frames_10.specs.FrameFaults.{IsFrameFault}
pub use Rattle.frames_10.specs.FrameScan.{is_whole, scan_of}
pub use Rattle.frames_10.specs.Headers.{header_bytes, IsHeader, IsHeaderFault, header_scan}
