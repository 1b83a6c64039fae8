pub mod Faults
pub mod Listing
pub mod Names
pub mod Scanning
pub mod Steps
pub mod Units
