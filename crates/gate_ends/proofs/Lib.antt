pub mod InOrder
pub mod OpenEndLemmas
