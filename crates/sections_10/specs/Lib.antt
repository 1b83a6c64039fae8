pub mod Faults
pub mod Fields
pub mod Grammar
pub mod Parts
pub mod Reading
pub mod Rows
pub mod View
pub mod Writing
