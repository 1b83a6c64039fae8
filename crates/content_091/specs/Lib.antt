pub mod Assembling
pub mod Faults
pub mod Grammar
pub mod Properties
pub mod Reading
pub mod Rows
pub mod View
pub mod Writing
