-- What the contracts of this crate cite.
pub mod Helpers
pub mod Lines
pub mod Steps
pub mod HelperLines
pub mod Calls
pub mod Sizes
