-- What the contracts of this crate cite.
pub mod Shapes
pub mod Served
