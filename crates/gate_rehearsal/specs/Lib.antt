pub mod Messages
pub mod Playing
pub mod Standing
pub mod Words
