pub mod Along
pub mod Sorted
