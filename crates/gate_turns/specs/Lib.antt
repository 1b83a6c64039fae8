pub mod Counting
pub mod Endings
pub mod Openings
pub mod Parts
pub mod Represents
pub mod Rounds
pub mod Words
