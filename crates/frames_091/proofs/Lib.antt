pub mod FrameLaws
pub mod FrameParts
pub mod FrameScanning
pub mod HeaderLaws
pub mod PayloadParts
