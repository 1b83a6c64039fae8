pub mod Payloads
pub mod Links
pub mod Publishes
pub mod Offers
pub mod Searches
pub mod Journal
pub mod Laws
pub mod Kept
