pub mod Links
pub mod Path
pub mod Due
pub mod Events
pub mod Laws
pub mod Flows
pub mod Attaches
