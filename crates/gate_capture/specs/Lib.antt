pub mod Kinds
pub mod Spelling
pub mod Captures
pub mod Parts
pub mod Reading
pub mod Replay
pub mod Words
