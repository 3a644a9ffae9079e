pub mod Premise
pub mod Scripts
pub mod Examples
