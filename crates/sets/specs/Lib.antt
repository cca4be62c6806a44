pub mod Set
pub mod Preconditions
pub mod SetLaws
pub mod GridLaws
