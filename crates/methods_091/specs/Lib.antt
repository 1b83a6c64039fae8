pub mod Arguments
pub mod Closing
pub mod Faults
pub mod Grammar
pub mod Reading
pub mod Rows
pub mod View
pub mod Writing
