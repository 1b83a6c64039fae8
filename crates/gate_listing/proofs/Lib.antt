pub mod Held
pub mod Payloads
pub mod Steps
pub mod Units091
pub mod Units10
pub mod Whole
