pub mod Pieces
pub mod Comparing
