-- What the contracts of this crate cite.
pub mod Sizes
pub mod Slots
pub mod Lends
