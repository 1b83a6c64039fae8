pub mod Entries
pub mod Guards
pub mod Relayed
pub mod RelayWords
pub mod Sides
pub mod Words
