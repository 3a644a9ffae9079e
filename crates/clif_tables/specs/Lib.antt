pub mod Callees
pub mod Constants
pub mod Entries
pub mod Lends
pub mod Lists
pub mod Makes
pub mod Preamble
pub mod Sparse
