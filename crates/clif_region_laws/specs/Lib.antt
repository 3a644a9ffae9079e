-- The definitions of this crate.
pub mod Regions
pub mod Laws
pub mod Examples
