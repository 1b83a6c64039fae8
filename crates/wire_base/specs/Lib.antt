pub mod Bytes
pub mod Faults
pub mod Headers
pub mod Numbers
pub mod Reading
pub mod Reserved
pub mod Scans
pub mod Spelling
