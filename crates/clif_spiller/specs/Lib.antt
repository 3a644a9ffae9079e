-- What the contracts of this crate cite.
pub mod Inserting
pub mod Plans
pub mod Keeping
pub mod Spilling
pub mod Allocating
pub mod Text
pub mod Acting
pub mod Progress
pub mod Spills
pub mod Regions
