pub mod Bytes
pub mod FaultLaws
pub mod Headers
pub mod Items
pub mod Laws
pub mod Outputs
pub mod Scans
