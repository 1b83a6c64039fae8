pub mod Answers
pub mod OpenEnds
pub mod Streams
