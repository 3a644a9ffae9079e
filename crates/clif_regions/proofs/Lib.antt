pub mod Plain
pub mod Chains
