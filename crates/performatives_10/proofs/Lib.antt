pub mod FieldLaws
pub mod Frames
pub mod PerfLaws
pub mod Places
pub mod Scalars
pub mod Written
