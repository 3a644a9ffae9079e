-- What the contracts of this crate cite.
pub mod Ranges
pub mod Cases
pub mod Search
