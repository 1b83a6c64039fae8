pub mod Ferries
pub mod FerryWords
