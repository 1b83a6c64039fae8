pub mod Form
pub mod Journal
pub mod Marks
pub mod Next
pub mod Report
pub mod Serving
pub mod Stages
pub mod Words
