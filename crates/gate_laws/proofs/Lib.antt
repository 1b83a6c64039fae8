mod Examples
pub mod Given
pub mod Idles
pub mod Points
pub mod Reached
