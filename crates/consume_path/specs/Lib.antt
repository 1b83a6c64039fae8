pub mod Items
pub mod Links
pub mod Deliveries
pub mod Offers
pub mod Journal
pub mod Laws
pub mod Kept
