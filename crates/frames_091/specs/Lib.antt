pub mod Frames
pub mod FrameFaults
pub mod FrameScan
pub mod Headers
pub mod Unread
