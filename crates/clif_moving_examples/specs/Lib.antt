pub mod Scripts
pub mod Examples
pub mod Sparing
