pub mod Filtered
pub mod Numbered
pub mod Tracked
pub mod Counted
pub mod Places
