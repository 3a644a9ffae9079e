-- What the contracts of this crate cite.
pub mod Emission
pub mod Switches
pub mod Calls
