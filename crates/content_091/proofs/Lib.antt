pub mod Contents
pub mod FaultLaws
pub mod Flags
pub mod HeaderLaws
pub mod PropertyLaws
pub mod Rebuilding
pub mod Written
