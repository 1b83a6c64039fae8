pub mod Appending
pub mod CopyLemmas
pub mod FirstLemmas
pub mod MarkLemmas
pub mod OpenEndLemmas
