pub mod FaultLaws
pub mod MessageLaws
pub mod Parts
pub mod Places
pub mod ReadingLaws
pub mod Runs
pub mod Standing
pub mod Written
