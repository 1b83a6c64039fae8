pub mod Answers
pub mod Cutting
pub mod Lawful
pub mod Meaning
pub mod PairStates
pub mod Silence
pub mod Times
