pub mod Depth
pub mod FaultLaws
pub mod Lists
pub mod Ranges
pub mod ReaderLaws
pub mod Written
pub mod Writable
